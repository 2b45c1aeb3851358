-- To visit what is left from here is to visit all from the start.
use Rattle.grading.specs.StateSets.{In}
use Rattle.grading.specs.Worklists.{Visits}
use Rattle.grading.specs.declared.worklist.Worklist.{Worklist}
use Rattle.grading.proofs.worklist.Worklist.visit_product.Given as goal

abbrev pub invariant-loop-first : goal.invariant-loop-first
invariant-loop-first l =
    (t : Worklist) → Visits (λ p q. In p l.first-iterator × In q l.product.seconds) l.self t → Visits (λ p q. In p l.product.firsts × In q l.product.seconds) l.initial.self t
