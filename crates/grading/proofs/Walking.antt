-- A walk by best labels, down to the distance 0, is the shortest word, and of those the first.
use Rattle.std.proofs.Common.{◌≡◌, ℕ, ◌+◌, ◌-◌, ◌<◌, ◌≢◌, ◌⊎◌, List, [], ◌∷◌, ◌++◌, length, sym, ap, ◌∙◌, subst, inl, inr, append_assoc, arith}
use native.Mathlib.Decide.{dec_lt}
use Rattle.automata.specs.Automata.{Automaton, Word, run, WellFormed}
use Rattle.automata.specs.Shortest.{AtMost, Shortest}
use Rattle.grading.specs.Measuring.{distance, distance_after, Least, Measures}
use Rattle.grading.specs.Walks.{Brings, Brought, Best}
use Rattle.grading.specs.declared.distances.Distances.{Distances}

-- each label is the best, and the first pair at 0 ends the word
abbrev pub Walk : Automaton → Distances → ℕ → ℕ → List ℕ → Type 0
Walk A d p q [] = ⊥
Walk A d p q (a ∷ []) = Best A d p q a × (distance_after A d p q a ≡ 0)
Walk A d p q (a ∷ b ∷ w) = Best A d p q a × (distance_after A d p q a ≢ 0) × Walk A d (A.step p a) (A.step q a) (b ∷ w)

module _ (A : Automaton) (d : Distances) where
  -- a label that leads nearer
  pub record Nearer (p q k : ℕ) : Type 0 where
    pub label : ℕ
    pub below : label < A.labels
    pub nearer : distance_after A d p q label < k

  -- a walk from p, q has come to r, s by the labels of u, and has room for those that are left
  pub record Walked (p q : ℕ) (u : List ℕ) (len r s : ℕ) : Type 0 where
    pub first : r < A.states
    pub second : s < A.states
    pub room : Nearer r s (1024 - len)
    pub rest : (v : List ℕ) → Walk A d r s v → Walk A d p q (u ++ v)

  walk_more : (p q a : ℕ) (w : List ℕ) → Best A d p q a → distance_after A d p q a ≢ 0 → Walk A d (A.step p a) (A.step q a) w → Walk A d p q (a ∷ w)
  walk_more p q a [] best ne w = absurd w
  walk_more p q a (b ∷ w) best ne rest = (best, ne, rest)

  walk_best : (p q a : ℕ) (w : List ℕ) → Walk A d p q (a ∷ w) → Best A d p q a
  walk_best p q a [] (best, _) = best
  walk_best p q a (b ∷ w) (best, _, _) = best

module _ (A : Automaton) (f : WellFormed A) (wanted : ℕ → ℕ → Type 0) (d : Distances) (m : Measures A wanted d) where
  -- a pair that some word leads to a wanted one has the least distance
  least_of : (p q : ℕ) → p < A.states → q < A.states → (v : List ℕ) → Word A.labels v → wanted (run A p v) (run A q v) → Least A wanted p q (distance d p q)
  least_of p q l k v word w = cases (dec_lt (distance d p q) 65535)
    where
      cases : Dec (distance d p q < 65535) → Least A wanted p q (distance d p q)
      cases (yes s) = m.near p q l k s
      cases (no s) = absurd (m.far p q l k (omega arith) v word w)

  least_zero : (p q k : ℕ) → k ≡ 0 → (c : Least A wanted p q k) → wanted p q
  least_zero p q k z c = empty c.by (c.long ∙ z) c.brings
    where
      empty : (v : List ℕ) → length v ≡ 0 → wanted (run A p v) (run A q v) → wanted p q
      empty [] e w = w
      empty (a ∷ v) e w = absurd (omega arith)

  nearer_by : (p q : ℕ) → p < A.states → q < A.states → (v : List ℕ) → Word A.labels v → 0 < length v → wanted (run A p v) (run A q v) → Nearer A d p q (length v)
  nearer_by p q l k [] word some w = absurd (omega arith)
  nearer_by p q l k (a ∷ v) (b, word) some w =
      let c = least_of (A.step p a) (A.step q a) (f.step p a l b) (f.step q a k b) v word w in
      record { label = a; below = b; nearer = omega (arith, c.least v word w) }

  -- from a pair at a distance other than 0
  pub nearer_than : (p q : ℕ) → p < A.states → q < A.states → distance d p q < 65535 → distance d p q ≢ 0 → Nearer A d p q (distance d p q)
  nearer_than p q l k s ne =
      let c = m.near p q l k s in
      subst (Nearer A d p q) c.long (nearer_by p q l k c.by c.word (omega (arith, c.long)) c.brings)

  walk_word : (p q : ℕ) (w : List ℕ) → Walk A d p q w → Word A.labels w
  walk_word p q [] h = absurd h
  walk_word p q (a ∷ []) (best, _) = (best.below, tt)
  walk_word p q (a ∷ b ∷ w) (best, _, rest) = (best.below, walk_word (A.step p a) (A.step q a) (b ∷ w) rest)

  walk_brings : (p q : ℕ) (w : List ℕ) → p < A.states → q < A.states → Walk A d p q w → wanted (run A p w) (run A q w)
  walk_brings p q [] l k h = absurd h
  walk_brings p q (a ∷ []) l k (best, is) =
      let i = f.step p a l best.below in
      let j = f.step q a k best.below in
      least_zero (A.step p a) (A.step q a) (distance_after A d p q a) is (m.near (A.step p a) (A.step q a) i j (omega arith))
  walk_brings p q (a ∷ b ∷ w) l k (best, _, rest) = walk_brings (A.step p a) (A.step q a) (b ∷ w) (f.step p a l best.below) (f.step q a k best.below) rest

  walk_long : (p q a : ℕ) (w : List ℕ) → p < A.states → q < A.states → Walk A d p q (a ∷ w) → length w ≡ distance_after A d p q a
  walk_long p q a [] l k (best, is) = sym is
  walk_long p q a (b ∷ w) l k (best, ne, rest) =
      let x : ℕ = A.step p a in
      let y : ℕ = A.step q a in
      let i = f.step p a l best.below in
      let j = f.step q a k best.below in
      let word = walk_word x y (b ∷ w) rest in
      let c = least_of x y i j (b ∷ w) word (walk_brings x y (b ∷ w) i j rest) in
      let n = subst (Nearer A d x y) c.long (nearer_by x y i j c.by c.word (omega (arith, c.long)) c.brings) in
      omega (arith, c.least (b ∷ w) word (walk_brings x y (b ∷ w) i j rest), walk_long x y b w i j rest, (walk_best A d x y b w rest).least n.label n.below, n.nearer)

  -- no other word of the same length begins with a lower label
  not_lower : (p q a b : ℕ) (w v : List ℕ) → p < A.states → q < A.states → Walk A d p q (a ∷ w) → Word A.labels (b ∷ v) → wanted (run A p (b ∷ v)) (run A q (b ∷ v)) → length v ≡ length w → ¬ (b < a)
  not_lower p q a b w v l k h (i, word) brings same lower =
      let c = least_of (A.step p b) (A.step q b) (f.step p b l i) (f.step q b k i) v word brings in
      omega (arith, walk_long p q a w l k h, c.least v word brings, (walk_best A d p q a w h).lowest b lower)

  order : (a b : ℕ) (w v : List ℕ) → ¬ (b < a) → (b ≡ a → AtMost w v) → AtMost (a ∷ w) (b ∷ v)
  order a b w v ne rest = cases (dec_lt a b)
    where
      cases : Dec (a < b) → (a < b) ⊎ ((a ≡ b) × AtMost w v)
      cases (yes l) = inl l
      cases (no l) = inr (omega arith, rest (omega arith))

  walk_first : (p q : ℕ) (w : List ℕ) → p < A.states → q < A.states → Walk A d p q w → (v : List ℕ) → Word A.labels v → wanted (run A p v) (run A q v) → length v ≡ length w → AtMost w v
  walk_first p q [] l k h v word brings same = absurd h
  walk_first p q (a ∷ w) l k h [] word brings same = absurd (omega arith)
  walk_first p q (a ∷ []) l k h (b ∷ v) word brings same = order a b [] v (not_lower p q a b [] v l k h word brings (omega arith)) (λ _. tt)
  walk_first p q (a ∷ c ∷ w) l k h (b ∷ v) word brings same = order a b (c ∷ w) v (not_lower p q a b (c ∷ w) v l k h word brings (omega arith))
      (λ e. walk_first (A.step p a) (A.step q a) (c ∷ w) (f.step p a l h.0.below) (f.step q a k h.0.below) h.2 v word.1 (subst (λ b. wanted (run A (A.step p b) v) (run A (A.step q b) v)) e brings) (omega arith))

  pub walk_shortest : (p q : ℕ) (w : List ℕ) → p < A.states → q < A.states → Walk A d p q w → Shortest A.labels (Brings A wanted p q) w
  walk_shortest p q [] l k h = absurd h
  walk_shortest p q (a ∷ w) l k h = record {
    word = walk_word p q (a ∷ w) h;
    holds = (omega arith, walk_brings p q (a ∷ w) l k h);
    shortest = λ v word (some, brings). let n = nearer_by p q l k v word some brings in omega (arith, walk_long p q a w l k h, (walk_best A d p q a w h).least n.label n.below, n.nearer);
    first = λ v word (_, brings). walk_first p q (a ∷ w) l k h v word brings;
  }

  pub walked_none : (p q : ℕ) (u : List ℕ) (len : ℕ) → p < A.states → q < A.states → Brought A wanted p q → u ≡ [] → len ≡ 0 → Walked A d p q u len p q
  walked_none p q u len l k b e z = record {
    first = l;
    second = k;
    room = subst (λ n. Nearer A d p q (1024 - n)) (sym z) (room b.by b.word b.brings.0 b.brings.1);
    rest = λ v. subst (λ u. Walk A d p q v → Walk A d p q (u ++ v)) (sym e) (λ h. h);
  }
    where
      room : (v : List ℕ) → Word A.labels v → 0 < length v → wanted (run A p v) (run A q v) → Nearer A d p q 1024
      room [] word some w = absurd (omega arith)
      room (a ∷ v) (i, word) some w = record { label = a; below = i; nearer = near (A.step p a) (A.step q a) (f.step p a l i) (f.step q a k i) v word w }
        where
          near : (x y : ℕ) → x < A.states → y < A.states → (v : List ℕ) → Word A.labels v → wanted (run A x v) (run A y v) → distance d x y < 1024
          near x y l k v word w = cases (dec_lt (distance d x y) 65535)
            where
              cases : Dec (distance d x y < 65535) → distance d x y < 1024
              cases (yes s) = m.small x y l k s
              cases (no s) = absurd (m.far x y l k (omega arith) v word w)

  -- the best label leads on from r, s to x, y
  module _ (p q : ℕ) (u : List ℕ) (len r s a : ℕ) (h : Walked A d p q u len r s) (best : Best A d r s a)
      (x y : ℕ) (x_is : x ≡ A.step r a) (y_is : y ≡ A.step s a) (t : List ℕ) (t_is : t ≡ u ++ a ∷ []) where
    at : distance d x y ≡ distance_after A d r s a
    at = ap (λ x. distance d x y) x_is ∙ ap (distance d (A.step r a)) y_is

    pub walked_more : distance d x y ≢ 0 → (n : ℕ) → n ≡ len + 1 → Walked A d p q t n x y
    walked_more ne n n-is =
        let i : x < A.states = subst (λ x. x < A.states) (sym x_is) (f.step r a h.first best.below) in
        let j : y < A.states = subst (λ y. y < A.states) (sym y_is) (f.step s a h.second best.below) in
        let left : len + distance d x y < 1024 = omega (arith, at, best.least h.room.label h.room.below, h.room.nearer) in
        let n = nearer_than x y i j (omega arith) ne in
        record {
          first = i;
          second = j;
          room = record { label = n.label; below = n.below; nearer = omega (arith, n.nearer) };
          rest = λ v w. subst (Walk A d p q) (sym (ap (λ t. t ++ v) t_is ∙ append_assoc u (a ∷ []) v)) (h.rest (a ∷ v) (walk_more A d r s a v best (λ z. ne (at ∙ z)) (subst (λ x. Walk A d x (A.step s a) v) x_is (subst (λ y. Walk A d x y v) y_is w))));
        }

    pub walked_all : p < A.states → q < A.states → distance d x y ≡ 0 → Shortest A.labels (Brings A wanted p q) t
    walked_all l k is = walk_shortest p q t l k (subst (Walk A d p q) (sym t_is) (h.rest (a ∷ []) (best, sym at ∙ is)))
