-- Counted components have representatives, their lowest states, so there are more of them than notes in a chain.
use Rattle.std.proofs.Common.{◌≡◌, ℕ, suc, ◌<◌, ◌≤◌, List, length, sym, refl, ◌∙◌, subst, arith}
use native.Mathlib.Decide.{ℕ_discrete, dec_lt}
use Rattle.automata.specs.Automata.{Automaton}
use Rattle.automata.specs.Chains.{Representatives, Chain}
use Rattle.automata.specs.Components.{Count, none, has, lacks, Lowest, Components, Numbers}
use Rattle.automata.specs.Noting.{Note}
use Rattle.automata.specs.States.{Together}
use Rattle.automata.proofs.Chains.{few_notes}
use Rattle.automata.proofs.Together.{together_sym, together_trans}

-- no more numbers have the property than there are
pub count_within : {P : ℕ → Type 0} {n c : ℕ} → Count P n c → c ≤ n
count_within none = omega arith
count_within (has h k) = omega (arith, count_within k)
count_within (lacks h k) = omega (arith, count_within k)

-- the c numbers below n with the property, each once
record Lists (P : ℕ → Type 0) (n c : ℕ) : Type 0 where
  at : ℕ → ℕ
  below : (i : ℕ) → i < c → at i < n
  holds : (i : ℕ) → i < c → P (at i)
  once : (i j : ℕ) → i < c → j < c → at i ≡ at j → i ≡ j
  all : (p : ℕ) → p < n → P p → (i : ℕ) × (i < c) × (at i ≡ p)

-- the new number at the last place, and the earlier ones before it
abbrev either : {X : Type 0} → Dec X → ℕ → ℕ → ℕ
either (yes _) n m = n
either (no _) n m = m

module _ (P : ℕ → Type 0) where
  listed_more : (n c : ℕ) → P n → Lists P n c → Lists P (suc n) (suc c)
  listed_more n c h l = record {
    at = λ i. either (ℕ_discrete i c) n (l.at i);
    below = λ i k. below i k (ℕ_discrete i c);
    holds = λ i k. holds i k (ℕ_discrete i c);
    once = λ i j k m. once i j k m (ℕ_discrete i c) (ℕ_discrete j c);
    all = λ p k q. all p k q (ℕ_discrete p n);
  }
    where
      below : (i : ℕ) → i < suc c → (d : Dec (i ≡ c)) → either d n (l.at i) < suc n
      below i k (yes e) = omega arith
      below i k (no e) = omega (arith, l.below i (omega arith))

      holds : (i : ℕ) → i < suc c → (d : Dec (i ≡ c)) → P (either d n (l.at i))
      holds i k (yes e) = h
      holds i k (no e) = l.holds i (omega arith)

      once : (i j : ℕ) → i < suc c → j < suc c → (d : Dec (i ≡ c)) (e : Dec (j ≡ c)) → either d n (l.at i) ≡ either e n (l.at j) → i ≡ j
      once i j k m (yes d) (yes e) same = d ∙ sym e
      once i j k m (yes d) (no e) same = absurd (omega (arith, l.below j (omega arith)))
      once i j k m (no d) (yes e) same = absurd (omega (arith, l.below i (omega arith)))
      once i j k m (no d) (no e) same = l.once i j (omega arith) (omega arith) same

      last : (d : Dec (c ≡ c)) → either d n (l.at c) ≡ n
      last (yes e) = refl
      last (no e) = absurd (e refl)

      earlier : (i : ℕ) → i < c → (d : Dec (i ≡ c)) → either d n (l.at i) ≡ l.at i
      earlier i k (yes e) = absurd (omega arith)
      earlier i k (no e) = refl

      all : (p : ℕ) → p < suc n → P p → Dec (p ≡ n) → (i : ℕ) × (i < suc c) × (either (ℕ_discrete i c) n (l.at i) ≡ p)
      all p k q (yes e) = (c, omega arith, last (ℕ_discrete c c) ∙ sym e)
      all p k q (no e) =
          let (i, m, is) = l.all p (omega arith) q in
          (i, omega arith, earlier i m (ℕ_discrete i c) ∙ is)

  listed : {n c : ℕ} → Count P n c → Lists P n c
  listed none = record { at = λ i. i; below = λ i h. absurd (omega arith); holds = λ i h. absurd (omega arith); once = λ i j h. absurd (omega arith); all = λ p h. absurd (omega arith) }
  listed (has {n} {c} h k) = listed_more n c h (listed k)
  listed (lacks {n} {c} h k) =
      let l = listed k in
      record {
        at = l.at;
        below = λ i m. omega (arith, l.below i m);
        holds = l.holds;
        once = l.once;
        all = λ p m q. l.all p (let ne : ¬ (p ≡ n) = λ e. h (subst P e q) in omega arith) q;
      }

module _ (A : Automaton) where
  -- a component has one lowest state
  pub lowest_same : (p q : ℕ) → Together A p q → Lowest A p → Lowest A q → p ≡ q
  lowest_same p q t h k = cases (dec_lt p q) (dec_lt q p)
    where
      cases : Dec (p < q) → Dec (q < p) → p ≡ q
      cases (yes l) m = absurd (k p l (together_sym A t))
      cases (no l) (yes m) = absurd (h q m t)
      cases (no l) (no m) = omega arith

  -- two states have one number just where they share a component
  pub together_numbers : (p q m n : ℕ) → Numbers A p m → Numbers A q n → Together A p q → m ≡ n
  together_numbers p q m n h k t = lowest_same m n (together_trans A (together_sym A h.together) (together_trans A t k.together)) h.lowest k.lowest

  pub numbers_together : (p q m n : ℕ) → Numbers A p m → Numbers A q n → m ≡ n → Together A p q
  numbers_together p q m n h k e = together_trans A h.together (together_sym A (subst (Together A q) (sym e) k.together))

  module _ (number : ℕ → ℕ) (numbers : (p : ℕ) → p < A.states → Numbers A p (number p)) (k : ℕ) (count : Components A k) where
    pub representatives : Representatives A k
    representatives =
        let l = listed (Lowest A) count in
        record {
          state = l.at;
          below = l.below;
          apart = λ i j hi hj t. l.once i j hi hj (lowest_same (l.at i) (l.at j) t (l.holds i hi) (l.holds j hj));
          all = λ p h.
              let n = numbers p h in
              let (i, hi, e) = l.all (number p) n.below n.lowest in
              (i, hi, subst (Together A p) (sym e) n.together);
        }

    -- so there are fewer notes than components
    pub fewer_notes : (ns : List Note) (p : ℕ) → Chain A ns p → length ns < k
    fewer_notes ns p h = few_notes A k representatives ns p h
