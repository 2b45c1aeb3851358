-- A pair is tried, and then the next.
use Rattle.std.proofs.Common.{◌≡◌, ℕ, ◌+◌, ◌<◌, ◌⊎◌, inl, inr, arith}
use native.Mathlib.Decide.{ℕ_discrete}
use Rattle.base.specs.Tables.{automaton}
use Rattle.grading.proofs.Agreeing.{well_formed}
use Rattle.grading.proofs.Rounds.{round_none, round_one, round_more, round_within}
use Rattle.grading.proofs.distances.Distances.measure_row.Goals as goal

next : (first second p q : ℕ) → (p ≡ first) × (q < second + 1) → Dec (q ≡ second) → ((p ≡ first) × (q < second)) ⊎ ((p ≡ first) × (q ≡ second))
next first second p q (e, l) (yes f) = inr (e, f)
next first second p q (e, l) (no f) = inl (e, omega arith)

pub loop-second-init : goal.loop-second-init
loop-second-init c = round_none (automaton c.args.table.now) c.args.steps c.requires.1 (λ p q. (p ≡ c.args.first) × (q < 0)) c.args.self.now (λ p q (_, l). omega arith)

pub loop-second-preserved : goal.loop-second-preserved
loop-second-preserved c =
    let t = c.args.table.now in
    let A = automaton t in
    let p = c.args.first in
    let q = c.loop-second.second in
    let d = c.loop-second.self in
    let e = c.measure.new.self in
    round_more A c.args.steps c.requires.1 (well_formed t) (λ r s. (r ≡ p) × (s < q)) (λ r s. (r ≡ p) × (s ≡ q)) (λ r s. (r ≡ p) × (s < q + 1)) c.args.self.now d e c.loop-second.invariant
    (round_one A c.args.steps c.requires.1 d e p q c.requires.0 (omega arith) t.sized.3 c.measure.ensures)
    (λ r s _ _ h. next p q r s h (ℕ_discrete s q))

pub returns : goal.returns
returns c = round_within (automaton c.args.table.now) c.args.steps c.requires.1 (λ p q. (p ≡ c.args.first) × (q < c.loop-second.second)) (λ p _. p ≡ c.args.first) c.args.self.now c.loop-second.self (λ p q _ l e. (e, omega arith)) c.loop-second.invariant
