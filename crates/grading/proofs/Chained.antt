-- What a stackless selector is known to hold, after each of its moves.
use Rattle.std.proofs.Common.{◌≡◌, ℕ, ◌+◌, ◌-◌, ◌<◌, ◌≤◌, List, [], ◌∷◌, ◌++◌, length, get_or, sym, refl, ◌∙◌, subst, arith}
use mathlib.Core.Logic.{∥∥₁_elim, ∥∥₁_prop}
use native.Mathlib.Bridge.{le_prop}
use Rattle.std.proofs.lemmas.List.{length_push, take_all, take_more}
use Rattle.automata.specs.Automata.{Automaton}
use Rattle.automata.specs.Chains.{Later, Chain}
use Rattle.automata.specs.Components.{Components}
use Rattle.automata.specs.Lowest.{Lowest, found, none}
use Rattle.automata.specs.Noting.{Note, newest, older, Before}
use Rattle.automata.specs.States.{Together}
use Rattle.automata.proofs.Chains.{chain_along, chain_push, chain_pop, step_later}
use Rattle.automata.proofs.Representatives.{fewer_notes, count_within}
use Rattle.grading.specs.Numbered.{Numbered}

-- some notes lead to the state
abbrev pub Led : Automaton → List Note → ℕ → Type 0
Led A ns p = ∥ Chain A ns p ∥₁

-- a list with a newest note, apart
parted : (ns : List Note) → 0 < length ns → ns ≡ older ns ++ newest ns ∷ []
parted ns some =
    let last : length ns - 1 < length ns = omega arith in
    sym (take_all (length ns - 1 + 1) ns (omega arith)) ∙ take_more ns (length ns - 1) (record { depth = 0; state = 0 }) last

-- a note at a depth is one
deep_some : (d : ℕ) (ns : List Note) → d < (newest ns).depth → 0 < length ns
deep_some d [] h = absurd (omega arith)
deep_some d (n ∷ ns) h = omega arith

module _ (A : Automaton) where
  chain_below : (ns : List Note) (p : ℕ) → Chain A ns p → p < A.states
  chain_below [] p h = h
  chain_below (n ∷ ns) p h = chain_below ns p h.2

  pub led_below : (ns : List Note) (p : ℕ) → Led A ns p → p < A.states
  led_below ns p h = ∥∥₁_elim h le_prop (chain_below ns p)

  pub led_none : (ns : List Note) (p : ℕ) → ns ≡ [] → p < A.states → Led A ns p
  led_none ns p e h = subst (λ ms. Led A ms p) (sym e) ∣ h ∣₁

  -- a step inside the component
  pub led_inside : (ns ms : List Note) (p q : ℕ) → ms ≡ ns → q < A.states → ∥ Together A p q ∥₁ → Led A ns p → Led A ms q
  led_inside ns ms p q e l t h = subst (λ ks. Led A ks q) (sym e) (∥∥₁_elim h ∥∥₁_prop (λ c. ∣ chain_along A ns p q c t l ∣₁))

  -- a step out of it is noted
  pub led_across : (ns ms : List Note) (d p q a : ℕ) → ms ≡ ns ++ record { depth = d; state = p } ∷ [] → q ≡ A.step p a → q < A.states → a < A.labels → ¬ Together A p q → Led A ns p → Led A ms q
  led_across ns ms d p q a e is l la away h =
      subst (λ ks. Led A ks q) (sym e) (∥∥₁_elim h ∥∥₁_prop (λ c. ∣ chain_push A ns p q d c (subst (Later A p) (sym is) (step_later A p a la (subst (λ x. ¬ Together A p x) is away))) l ∣₁))

  -- back to the newest note
  pub led_recalled : (ns ms : List Note) (d p q : ℕ) → d < (newest ns).depth → q ≡ (newest ns).state → ms ≡ older ns → Led A ns p → Led A ms q
  led_recalled ns ms d p q deep is e h =
      let whole = parted ns (deep_some d ns deep) in
      ∥∥₁_elim h ∥∥₁_prop (λ c. subst (λ ks. Led A ks q) (sym e) (subst (Led A (older ns)) (sym is) ∣ chain_pop A (older ns) (newest ns) p (subst (λ ks. Chain A ks p) whole c) ∣₁))

  -- back inside the component
  pub led_retraced : (ns ms : List Note) (p q a : ℕ) → ms ≡ ns → ∥ Lowest (Before A p a) A.states p q ∥₁ → Led A ns p → Led A ms q
  led_retraced ns ms p q a e low h = ∥∥₁_elim low ∥∥₁_prop go
    where
      go : {x : ℕ} → Lowest (Before A p a) A.states p x → Led A ms x
      go {x} (found k b _) = led_inside ns ms p x e k ∣ b.together ∣₁ h
      go (none _) = subst (λ ks. Led A ks p) (sym e) h

  -- there are fewer notes than components
  module _ (numbers : List ℕ) (k : ℕ) (numbered : ∥ Numbered A numbers ∥₁) (counted : ∥ Components A (k + 1) ∥₁) where
    pub led_few : (ns : List Note) (p : ℕ) → Led A ns p → length ns ≤ k
    led_few ns p h = ∥∥₁_elim numbered le_prop (λ n. ∥∥₁_elim counted le_prop (λ c. ∥∥₁_elim h le_prop (λ l. let few = fewer_notes A (λ s. get_or numbers s 0) n (k + 1) c ns p l in omega (arith, few))))

    -- so with at most 32 states a step out of the component finds room for its note
    pub led_room : (ns : List Note) (d p q a : ℕ) → A.states ≤ 32 → q ≡ A.step p a → q < A.states → a < A.labels → ¬ Together A p q → Led A ns p → length ns < 31
    led_room ns d p q a most is l la away h =
        let few : length (ns ++ record { depth = d; state = p } ∷ []) ≤ k = led_few _ q (led_across ns _ d p q a refl is l la away h) in
        let within : k + 1 ≤ A.states = ∥∥₁_elim counted le_prop (λ c. count_within c) in
        omega (arith, few, within, length_push ns (record { depth = d; state = p }))

-- an automaton with a state has a component, so its components are one more than one less
module _ (A : Automaton) (numbers : List ℕ) (k p : ℕ) (numbered : Numbered A numbers) (counted : Components A k) (below : p < A.states) where
  pub some_component : 1 ≤ k
  some_component = fewer_notes A (λ s. get_or numbers s 0) numbered k counted [] p below

  pub components_again : Components A (k - 1 + 1)
  components_again = let whole : k ≡ k - 1 + 1 = omega (arith, some_component) in subst (Components A) whole counted
