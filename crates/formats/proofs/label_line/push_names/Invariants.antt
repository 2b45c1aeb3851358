-- The names pushed are the first and those that the loop has yielded.
use Rattle.std.proofs.Common.{◌≡◌, ◌+◌, length, take}
use Rattle.text.specs.Labelled.{names_of}
use Rattle.formats.proofs.NameFields.{fields}
use Rattle.formats.proofs.label_line.push_names.Given as goal

abbrev pub invariant-loop-name : goal.invariant-loop-name
invariant-loop-name l = names_of l.labels ≡ take (length l.yielded + 1) (fields l.names)
