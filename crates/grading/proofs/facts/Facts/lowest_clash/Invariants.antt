-- No state below the counter clashes.
use Rattle.std.proofs.Common.{ℕ, ◌<◌}
use Rattle.automata.specs.Grades.{Clashing}
use Rattle.base.specs.Tables.{automaton}
use Rattle.grading.proofs.facts.Facts.lowest_clash.Given as goal

abbrev pub invariant-loop-first : goal.invariant-loop-first
invariant-loop-first l = (p : ℕ) → p < l.first → (q : ℕ) → ¬ Clashing (automaton l.self.table.now) p q
