-- To visit what is left from here is to visit all from the start.
use Rattle.std.proofs.Common.{◌≡◌}
use Rattle.grading.specs.StateSets.{In}
use Rattle.grading.specs.Worklists.{Visits}
use Rattle.grading.specs.declared.worklist.Worklist.{Worklist}
use Rattle.grading.proofs.worklist.Worklist.visit_row.Given as goal

abbrev pub invariant-loop-second : goal.invariant-loop-second
invariant-loop-second l =
    (t : Worklist) → Visits (λ p q. (p ≡ l.first) × In q l.second-iterator) l.self t → Visits (λ p q. (p ≡ l.first) × In q l.fn.seconds) l.initial.self t
