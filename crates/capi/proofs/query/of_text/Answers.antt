-- The table of a table text that is taken.
use Rattle.capi.proofs.query.of_text.Goals as goal

pub returns : goal.returns
returns c = record { labels = c.in_ok-both.both.labels; accepted = c.in_ok-both.ensures }
