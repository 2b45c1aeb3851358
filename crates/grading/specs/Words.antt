-- The labels of a word.
use Rattle.std.specs.Prelude.{ℕ, List}
use Rattle.text.specs.Lists.{items}
use Rattle.grading.specs.declared.word.Word.{Word}

abbrev pub labels_of : Word → List ℕ
labels_of w = items w.list
