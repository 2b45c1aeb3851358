-- The pairs of one first state are tried, and then those of the next.
use Rattle.std.proofs.Common.{◌≡◌, ℕ, ◌+◌, ◌<◌, ◌⊎◌, inl, inr, arith}
use native.Mathlib.Decide.{ℕ_discrete}
use Rattle.base.specs.Tables.{automaton}
use Rattle.grading.proofs.Agreeing.{well_formed}
use Rattle.grading.proofs.Rounds.{round_none, round_more, round_within}
use Rattle.grading.proofs.distances.Distances.measure_all.Goals as goal

next : (first p : ℕ) → p < first + 1 → Dec (p ≡ first) → (p < first) ⊎ (p ≡ first)
next first p l (yes e) = inr e
next first p l (no e) = inl (omega arith)

pub loop-first-init : goal.loop-first-init
loop-first-init c = round_none (automaton c.args.table.now) c.args.steps c.requires (λ p _. p < 0) c.args.self.now (λ p q l. omega arith)

pub loop-first-preserved : goal.loop-first-preserved
loop-first-preserved c =
    let t = c.args.table.now in
    let n = c.loop-first.first in
    round_more (automaton t) c.args.steps c.requires (well_formed t) (λ p _. p < n) (λ p _. p ≡ n) (λ p _. p < n + 1) c.args.self.now c.loop-first.self c.measure_row.new.self c.loop-first.invariant c.measure_row.ensures (λ p q _ _ l. next n p l (ℕ_discrete p n))

pub returns : goal.returns
returns c = round_within (automaton c.args.table.now) c.args.steps c.requires (λ p _. p < c.loop-first.first) (λ p _. p < (automaton c.args.table.now).states) c.args.self.now c.loop-first.self (λ p q _ _ l. omega arith) c.loop-first.invariant
