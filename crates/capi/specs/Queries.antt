-- Which table the texts of a query give, or why they are refused.
use Rattle.std.specs.Prelude.{ℕ, List, length, Ok, Err, Result}
use Rattle.text.specs.Labelled.{names_of}
use Rattle.text.specs.declared.labels.Labels.{Labels}
use Rattle.text.specs.declared.refusal.Refusal.{Refusal}
use Rattle.base.specs.declared.table.Table.{Table}
use Rattle.formats.specs.LabelLine.{Accepted as IsLabelLine, Refused as NoLabelLine}
use Rattle.formats.specs.TableText.{Accepted as IsTableText, Refused as NoTableText}
use Rattle.paths.specs.Tables.{TableOf, Overfull}
use Rattle.paths.specs.Texts.{ReadAs, Refused as NoPath}
use Rattle.paths.specs.declared.path.Step.{Step}

-- the table of a table text
pub record Tabled (text : List ℕ) (t : Table) : Type 0 where
  pub labels : Labels
  pub accepted : IsTableText text (record { labels = labels; table = t })

abbrev pub OfText : List ℕ → Result Table Refusal → Type 0
OfText text (Ok t) = Tabled text t
OfText text (Err why) = NoTableText text why

-- the table of a path over the names of a label line
pub record Compiled (line path : List ℕ) (t : Table) : Type 0 where
  pub labels : Labels
  pub steps : List Step
  pub accepted : IsLabelLine line labels
  pub read : ReadAs (names_of labels) path steps
  pub table : TableOf steps (length (names_of labels)) t

-- the label line is refused, or else the path, or else its table
pub data Uncompiled (line path : List ℕ) (why : Refusal) : Type 0 where
  no_line : NoLabelLine line why → Uncompiled line path why
  no_path : (labels : Labels) → IsLabelLine line labels → NoPath (names_of labels) path why → Uncompiled line path why
  no_table : (labels : Labels) (steps : List Step) → IsLabelLine line labels → ReadAs (names_of labels) path steps → Overfull steps (length (names_of labels)) why → Uncompiled line path why

abbrev pub OfPath : List ℕ → List ℕ → Result Table Refusal → Type 0
OfPath line path (Ok t) = Compiled line path t
OfPath line path (Err why) = Uncompiled line path why
