-- Once a round gives no distance, each pair has the least number of labels that lead it to a wanted one.
use Rattle.std.proofs.Common.{◌≡◌, ℕ, ◌+◌, ◌-◌, ◌<◌, ◌≤◌, Bool, true, false, ◌≢◌, ◌⊎◌, Decides, List, [], ◌∷◌, length, get_or, sym, refl, subst, inl, inr, ⊎_elim, arith}
use Rattle.std.specs.Bool.{MatchBool}
use native.Mathlib.Decide.{dec_lt}
use mathlib.Core.Bool.{false≢true}
use Rattle.automata.specs.Automata.{Automaton, Word, run, WellFormed}
use Rattle.grading.specs.Measuring.{distance, distance_after, unmeasured, Marks, Near, SomeNear, Given, Round, AtLeast, Least, Measures}
use Rattle.grading.specs.Pairing.{total}
use Rattle.grading.specs.declared.distances.Distances.{Distances}
use Rattle.grading.proofs.Rounds.{total_most, total_less}

-- whether a label leads to a pair at the distance k
pub near_read : (A : Automaton) (k : ℕ) (d : Distances) (p q n : ℕ) → n ≡ A.labels → (r : Bool) → MatchBool r ((a : ℕ) × (a < n) × (distance_after A d p q a ≡ k)) ((a : ℕ) → a < n → distance_after A d p q a ≢ k) → Decides r (Near A k d p q)
near_read A k d p q n e true (a, l, is) = (λ _. record { label = a; below = omega arith; leads = is }, λ _. refl)
near_read A k d p q n e false none = (λ e. absurd (false≢true e), λ h. absurd (none h.label (omega (arith, h.below)) h.leads))

-- a pair with a distance leaves fewer than all without
some_measured : (d : Distances) (p q : ℕ) → p < 32 → q < 32 → distance d p q < 65535 → unmeasured d < 1024
unfolding unmeasured
some_measured d p q l k small =
    total_less (λ r. total (λ s. 1 - (65535 - distance d r s)) 32) 32 32 p (λ r. total_most (λ s. 1 - (65535 - distance d r s)) 1 32 (λ s. omega arith)) l
    (total_less (λ s. 1 - (65535 - distance d p s)) 1 32 q (λ s. omega arith) k (omega arith))

module _ (A : Automaton) (wanted : ℕ → ℕ → Type 0) where
  -- the distances up to k are given, and no others
  pub record Measured (k : ℕ) (d : Distances) : Type 0 where
    pub near : (p q : ℕ) → p < A.states → q < A.states → distance d p q < 65535 → Least A wanted p q (distance d p q)
    pub far : (p q : ℕ) → p < A.states → q < A.states → 65535 ≤ distance d p q → AtLeast A wanted p q (k + 1)
    pub most : (p q : ℕ) → p < A.states → q < A.states → distance d p q < 65535 → distance d p q ≤ d.most
    pub room : (p q : ℕ) → p < A.states → q < A.states → distance d p q < 65535 → d.most + unmeasured d < 1024
    pub small : d.most < 1024

  pub measured_begun : (d : Distances) → A.states ≤ 32 → d.most ≡ 0 → ((p : ℕ) → p < A.states → Marks (wanted p) (get_or d.steps p [])) → Measured 0 d
  measured_begun d fits none marks = record {
    near = λ p q l m h. ⊎_elim (λ (w, is). subst (Least A wanted p q) (sym is) (record { by = []; word = tt; brings = w; long = refl; least = λ _ _ _. omega arith })) (λ (_, is). absurd (omega arith)) (marks p l q (omega arith));
    far = λ p q l m h. ⊎_elim (λ (_, is). absurd (omega arith)) (λ (no-seed, _). unwanted p q no-seed) (marks p l q (omega arith));
    most = λ p q l m h. ⊎_elim (λ (_, is). omega arith) (λ (_, is). absurd (omega arith)) (marks p l q (omega arith));
    room = λ p q l m h. omega (arith, some_measured d p q (omega arith) (omega arith) h);
    small = omega arith;
  }
    where
      unwanted : (p q : ℕ) → ¬ wanted p q → AtLeast A wanted p q 1
      unwanted p q n [] word w = absurd (n w)
      unwanted p q n (a ∷ v) word w = omega arith

  module _ (f : WellFormed A) (k : ℕ) (d e : Distances) (h : Measured k d) (top : d.most ≡ k) (g : Round A k (λ p _. p < A.states) d e) where
    -- a label leads to a pair that has its distance
    behind : (p q : ℕ) → p < A.states → q < A.states → (n : Near A k d p q) → Least A wanted (A.step p n.label) (A.step q n.label) k
    behind p q l m n = subst (Least A wanted (A.step p n.label) (A.step q n.label)) n.leads (h.near (A.step p n.label) (A.step q n.label) (f.step p n.label l n.below) (f.step q n.label m n.below) (omega (arith, n.leads, h.small)))

    near_room : (p q : ℕ) → p < A.states → q < A.states → Near A k d p q → d.most + unmeasured d < 1024
    near_room p q l m n = h.room (A.step p n.label) (A.step q n.label) (f.step p n.label l n.below) (f.step q n.label m n.below) (omega (arith, n.leads, h.small))

    least : (p q : ℕ) → p < A.states → q < A.states → Given A k d e p q → Least A wanted p q (k + 1)
    least p q l m n =
        let b = behind p q l m n.near in
        record { by = n.near.label ∷ b.by; word = (n.near.below, b.word); brings = b.brings; long = omega (arith, b.long); least = h.far p q l m (omega (arith, n.none)) }

    was_far : (p q : ℕ) → 65535 ≤ distance e p q → (distance e p q ≡ distance d p q) ⊎ Given A k d e p q → 65535 ≤ distance d p q
    was_far p q i (inl same) = omega arith
    was_far p q i (inr n) = omega (arith, n.none)

    further : (p q : ℕ) → p < A.states → q < A.states → 65535 ≤ distance d p q → ¬ Near A k d p q → AtLeast A wanted p q (k + 1 + 1)
    further p q l m i none [] word w = absurd (omega (arith, h.far p q l m i [] word w))
    further p q l m i none (a ∷ v) (b, word) w = cases (dec_lt (distance d x y) 65535)
      where
        x : ℕ
        x = A.step p a

        y : ℕ
        y = A.step q a

        cases : Dec (distance d x y < 65535) → k + 1 + 1 ≤ length (a ∷ v)
        cases (yes s) =
            let c = h.near x y (f.step p a l b) (f.step q a m b) s in
            let ne : distance d x y ≢ k = λ is. none (record { label = a; below = b; leads = is }) in
            omega (arith, c.least v word w, c.long, h.far p q l m i (a ∷ c.by) (b, c.word) c.brings)
        cases (no s) = omega (arith, h.far x y (f.step p a l b) (f.step q a m b) (omega arith) v word w)

    rises : (e.most ≡ d.most) ⊎ ((e.most ≡ k + 1) × SomeNear A k d) → (k ≤ e.most) × (e.most < 1024)
    rises (inl same) = (omega arith, omega (arith, h.small))
    rises (inr (is, n)) = (omega arith, omega (arith, near_room n.p n.q n.p_below n.q_below n.near, g.load (omega arith)))

    pub measured_more : Measured (k + 1) e
    measured_more = record {
      near = λ p q l m i. ⊎_elim (λ same. subst (Least A wanted p q) (sym same) (h.near p q l m (omega arith))) (λ n. subst (Least A wanted p q) (sym n.next) (least p q l m n)) (g.each p q l m);
      far = λ p q l m i. further p q l m (was_far p q i (g.each p q l m)) (g.all p q l m l i);
      most = λ p q l m i. ⊎_elim (λ same. omega (arith, h.most p q l m (omega arith), (rises g.most).0)) (λ n. omega (arith, n.next, n.most)) (g.each p q l m);
      room = λ p q l m i. omega (arith, g.load (omega arith), ⊎_elim (λ same. h.room p q l m (omega arith)) (λ n. near_room p q l m n.near) (g.each p q l m));
      small = (rises g.most).1;
    }

    pub most_next : e.most ≤ k + 1
    most_next = ⊎_elim (λ same. omega arith) (λ (is, _). omega arith) g.most

  module _ (f : WellFormed A) (k : ℕ) (d : Distances) (h : Measured k d) (top : d.most < k) where
    never : (p q : ℕ) → p < A.states → q < A.states → 65535 ≤ distance d p q → (w : List ℕ) → Word A.labels w → ¬ wanted (run A p w) (run A q w)
    never p q l m i [] word w = omega (arith, h.far p q l m i [] word w)
    never p q l m i (a ∷ v) (b, word) w = cases (dec_lt (distance d (A.step p a) (A.step q a)) 65535) (λ i. never (A.step p a) (A.step q a) (f.step p a l b) (f.step q a m b) i v word w)
      where
        cases : Dec (distance d (A.step p a) (A.step q a) < 65535) → (65535 ≤ distance d (A.step p a) (A.step q a) → ⊥) → ⊥
        cases (yes s) rest =
            let c = h.near (A.step p a) (A.step q a) (f.step p a l b) (f.step q a m b) s in
            omega (arith, c.long, h.most (A.step p a) (A.step q a) (f.step p a l b) (f.step q a m b) s, h.far p q l m i (a ∷ c.by) (b, c.word) c.brings)
        cases (no s) rest = rest (omega arith)

    pub measured_ended : Measures A wanted d
    measured_ended = record {
      near = h.near;
      far = never;
      small = λ p q l m i. omega (arith, h.most p q l m i, h.room p q l m i);
    }
