-- The label of a tag.
use Rattle.std.specs.Prelude.{ℕ}
use Rattle.automata.specs.declared.tag.Tag.{Tag}
use Rattle.automata.specs.declared.tag.Tag.TheVariants.{Open, Close}

abbrev pub label : Tag ℕ → ℕ
label (Open a) = a
label (Close a) = a
