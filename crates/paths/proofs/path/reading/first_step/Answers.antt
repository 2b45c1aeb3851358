-- The opening and the first word make the first step, or none can be read.
use Rattle.std.proofs.Common.{◌≡◌, take, Some, None}
use Rattle.text.specs.Labelled.{names_of}
use Rattle.text.specs.Lists.{items}
use Rattle.text.proofs.Naming.{stored_rule}
use Rattle.paths.specs.Texts.{test_of}
use Rattle.paths.proofs.Spelling.{unopened_unread, first_unnamed, first_made}
use Rattle.paths.proofs.path.reading.first_step.Goals as goal

pub returns-in_err-descend : goal.returns-in_err-descend
returns-in_err-descend c =
    let labels = c.args.labels.now in
    rw c.from_residual.ensures (unopened_unread (names_of labels) (stored_rule (items labels.names)) c.args.text.now c.in_err-descend.ensures c.requires)

pub returns-in_err-test : goal.returns-in_err-test
returns-in_err-test c =
    let labels = c.args.labels.now in
    let word : None ≡ test_of (names_of labels) (take c.word_len.result c.in_ok-descend.tail.now) = rw (← c.split_at.ensures.front) c.in_err-test.ensures in
    rw c.from_residual-in_err-test.ensures (first_unnamed (names_of labels) (stored_rule (items labels.names)) _ _ _ c.in_ok-descend.ensures _ c.word_len.ensures word)

pub returns : goal.returns
returns c =
    let labels = c.args.labels.now in
    let word : Some c.in_ok-test.test ≡ test_of (names_of labels) (take c.word_len.result c.in_ok-descend.tail.now) = rw (← c.split_at.ensures.front) c.in_ok-test.ensures in
    rw c.split_at.ensures.back (first_made (names_of labels) (stored_rule (items labels.names)) _ _ _ c.in_ok-descend.ensures _ c.word_len.ensures _ word)
