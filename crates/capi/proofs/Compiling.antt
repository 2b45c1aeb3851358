-- A path over a label line that is taken has its table, or too many sets.
use Rattle.std.proofs.Common.{ℕ, List, length, Ok, Err, Result, MatchResult}
use Rattle.text.specs.Labelled.{names_of}
use Rattle.text.specs.declared.labels.Labels.{Labels}
use Rattle.text.specs.declared.refusal.Refusal.{Refusal}
use Rattle.base.specs.declared.table.Table.{Table}
use Rattle.formats.specs.LabelLine.{Accepted}
use Rattle.paths.specs.Tables.{TableOf, Overfull}
use Rattle.paths.specs.Texts.{ReadAs}
use Rattle.paths.specs.declared.path.Step.{Step}
use Rattle.capi.specs.Queries.{OfPath, no_table}

pub compiled : (line path : List ℕ) (labels : Labels) (steps : List Step) (r : Result Table Refusal) → Accepted line labels → ReadAs (names_of labels) path steps → MatchResult r (TableOf steps (length (names_of labels))) (Overfull steps (length (names_of labels))) → OfPath line path r
compiled line path labels steps (Ok t) a s h = record { labels = labels; steps = steps; accepted = a; read = s; table = h }
compiled line path labels steps (Err why) a s h = no_table labels steps a s h
