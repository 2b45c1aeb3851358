-- Grades of automata that are written out, by tests that compute.
use Rattle.std.proofs.Common.{◌≡◌, ℕ, ◌<◌, ◌≤◌, Bool, true, false, not, ◌&&◌, ◌||◌, eqb, ltb, leb, ◌⊎◌, List, [], ◌∷◌, get_or, sym, refl, ap, ◌∙◌, inl, inr, ⊎_elim, true≢false, arith}
use Rattle.std.proofs.lemmas.Bool.{and_parts, eqb-true, eq-eqb, leb-true}
use Rattle.automata.specs.Automata.{Automaton, Word, WellFormed, run}
use Rattle.automata.specs.Grades.{Registerless, Stackless}
use Rattle.automata.specs.Numbering.{met_in_row, met, FirstMet}
use Rattle.automata.specs.States.{Internal, Equivalent, Almost, Reaches}
use Rattle.automata.proofs.Words.{internal_below}
use Rattle.std.specs.List.{list_all}
use Rattle.grading.specs.Grading.{Earns}
use Rattle.grading.specs.declared.grade.Grade.{Grade}
use Rattle.samples.proofs.Testing.{below, below_at, word_of}

-- no two states are equivalent, and the automaton has the grade
pub record Judged (A : Automaton) (grade : Grade) : Type 0 where
  pub distinct : (p q : ℕ) → p < A.states → q < A.states → Equivalent A p q → p ≡ q
  pub earned : Earns A grade

-- where the first passes, the second does
abbrev implies : Bool → Bool → Bool
implies a b = not a || b

implied : (a b : Bool) → implies a b ≡ true → a ≡ true → b ≡ true
implied true b h e = h
implied false b h e = absurd (true≢false (sym e))

either : (a b : Bool) → a || b ≡ true → (a ≡ true) ⊎ (b ≡ true)
either true b h = inl refl
either false b h = inr h

abbrev pub unlike : Bool → Bool → Bool
unlike true b = not b
unlike false b = b

unlike_differ : (a b : Bool) → unlike a b ≡ true → ¬ (a ≡ b)
unlike_differ true true h e = true≢false (sym h)
unlike_differ true false h e = true≢false e
unlike_differ false true h e = true≢false (sym e)
unlike_differ false false h e = true≢false (sym h)

module _ (A : Automaton) (f : WellFormed A) where
  -- a test of each two states
  abbrev pub pairs : (ℕ → ℕ → Bool) → Bool
  pairs test = below A.states (λ p. below A.states (test p))

  pairs_at : (test : ℕ → ℕ → Bool) → pairs test ≡ true → (p q : ℕ) → p < A.states → q < A.states → test p q ≡ true
  pairs_at test h p q i j = below_at A.states (test p) (below_at A.states (λ p. below A.states (test p)) h p i) q j

  -- the word for each state leads to it
  pub reached_by : (words : List (List ℕ)) → below A.states (λ p. list_all (λ a. ltb a A.labels) (get_or words p []) && eqb (run A A.start (get_or words p [])) p) ≡ true → (p : ℕ) → p < A.states → Reaches A A.start p
  reached_by words h p i =
      let t = and_parts _ _ (below_at A.states (λ p. list_all (λ a. ltb a A.labels) (get_or words p []) && eqb (run A A.start (get_or words p [])) p) h p i) in
      record { by = get_or words p []; word = word_of A.labels (get_or words p []) t.0; leads = eqb-true _ _ t.1 }

  pub numbered_by : A.start ≡ 0 → below A.states (λ p. below A.labels (λ a. leb (A.step p a) (met_in_row (A.step p) (met A.labels A.step p) a))) ≡ true → met A.labels A.step A.states ≡ A.states → FirstMet A
  numbered_by start next whole = record {
    start = start;
    next = λ p a i j. leb-true _ _ (below_at A.labels (λ a. leb (A.step p a) (met_in_row (A.step p) (met A.labels A.step p) a)) (below_at A.states (λ p. below A.labels (λ a. leb (A.step p a) (met_in_row (A.step p) (met A.labels A.step p) a))) next p i) a j);
    whole = whole;
  }

  -- one of the words tells p from q
  abbrev pub told : List (List ℕ) → ℕ → ℕ → Bool
  told [] p q = false
  told (w ∷ words) p q = (list_all (λ a. ltb a A.labels) w && unlike (A.yes (run A p w)) (A.yes (run A q w))) || told words p q

  told_differ : (words : List (List ℕ)) (p q : ℕ) → told words p q ≡ true → Equivalent A p q → ⊥
  told_differ [] p q h e = true≢false (sym h)
  told_differ (w ∷ words) p q h e = ⊎_elim
      (λ here. let t = and_parts _ _ here in unlike_differ _ _ t.1 (e w (word_of A.labels w t.0)))
      (λ there. told_differ words p q there e)
      (either _ _ h)

  pub distinct_by : (words : List (List ℕ)) → pairs (λ p q. eqb p q || told words p q) ≡ true → (p q : ℕ) → p < A.states → q < A.states → Equivalent A p q → p ≡ q
  distinct_by words h p q i j e = ⊎_elim
      (λ same. eqb-true p q same)
      (λ differ. absurd (told_differ words p q differ e))
      (either _ _ (pairs_at (λ p q. eqb p q || told words p q) h p q i j))

  -- every label leads both states to one
  abbrev pub level : ℕ → ℕ → Bool
  level p q = below A.labels (λ a. eqb (A.step p a) (A.step q a))

  level_almost : (p q : ℕ) → level p q ≡ true → Almost A p q
  level_almost p q h a w (l, k) = ap (λ s. A.yes (run A s w)) (eqb-true _ _ (below_at A.labels (λ a. eqb (A.step p a) (A.step q a)) h a l))

  -- a set of states that every label leads into from the start and from itself has the internal states
  abbrev pub entered : (ℕ → Bool) → Bool
  entered inner = below A.labels (λ a. inner (A.step A.start a)) && below A.states (λ p. implies (inner p) (below A.labels (λ a. inner (A.step p a))))

  module _ (inner : ℕ → Bool) (h : entered inner ≡ true) where
    inner_run : (p : ℕ) (w : List ℕ) → p < A.states → Word A.labels w → inner p ≡ true → inner (run A p w) ≡ true
    inner_run p [] i k e = e
    inner_run p (a ∷ w) i (l, k) e =
        let next = implied _ _ (below_at A.states (λ p. implies (inner p) (below A.labels (λ a. inner (A.step p a)))) (and_parts _ _ h).1 p i) e in
        inner_run (A.step p a) w (f.step p a i l) k (below_at A.labels (λ a. inner (A.step p a)) next a l)

    internal_inner : (p : ℕ) → Internal A p → inner p ≡ true
    internal_inner p i =
        let l = i.word.0 in
        let first = below_at A.labels (λ a. inner (A.step A.start a)) (and_parts _ _ h).0 i.first l in
        ap inner (sym i.leads) ∙ inner_run (A.step A.start i.first) i.rest (f.step A.start i.first f.start l) i.word.1 first

  -- pairs of different states that every label leads to such pairs
  abbrev pub parted : (ℕ → ℕ → Bool) → Bool
  parted never = pairs (λ p q. implies (never p q) (not (eqb p q) && below A.labels (λ a. never (A.step p a) (A.step q a))))

  module _ (never : ℕ → ℕ → Bool) (h : parted never ≡ true) where
    never_next : (p q : ℕ) → p < A.states → q < A.states → never p q ≡ true → (not (eqb p q) ≡ true) × (below A.labels (λ a. never (A.step p a) (A.step q a)) ≡ true)
    never_next p q i j e = and_parts _ _ (implied _ _ (pairs_at (λ p q. implies (never p q) (not (eqb p q) && below A.labels (λ a. never (A.step p a) (A.step q a)))) h p q i j) e)

    never_meets : (p q : ℕ) (w : List ℕ) → p < A.states → q < A.states → Word A.labels w → never p q ≡ true → run A p w ≡ run A q w → ⊥
    never_meets p q [] i j k e same = true≢false (sym (never_next p q i j e).0 ∙ ap not (eq-eqb p q same))
    never_meets p q (a ∷ w) i j (l, k) e same = never_meets (A.step p a) (A.step q a) w (f.step p a i l) (f.step q a j l) k (below_at A.labels (λ a. never (A.step p a) (A.step q a)) (never_next p q i j e).1 a l) same

  -- each two internal states go on alike, or never meet
  pub registerless_by : (inner : ℕ → Bool) (never : ℕ → ℕ → Bool) → entered inner ≡ true → parted never ≡ true → pairs (λ p q. implies (inner p && inner q) (level p q || never p q)) ≡ true → Registerless A
  registerless_by inner never closed parts h p q i j m =
      let hp = internal_below A f i in
      let hq = internal_below A f j in
      let both : inner p && inner q ≡ true = ap (λ b. b && inner q) (internal_inner inner closed p i) ∙ internal_inner inner closed q j in
      ⊎_elim (level_almost p q) (λ e. absurd (never_meets never parts p q m.by hp hq m.word e m.same)) (either _ _ (implied _ _ (pairs_at (λ p q. implies (inner p && inner q) (level p q || never p q)) h p q hp hq) both))

  -- a rank that no label lowers
  abbrev pub rises : (ℕ → ℕ) → Bool
  rises rank = below A.states (λ p. below A.labels (λ a. leb (rank p) (rank (A.step p a))))

  run_rises : (rank : ℕ → ℕ) → rises rank ≡ true → (p : ℕ) (w : List ℕ) → p < A.states → Word A.labels w → rank p ≤ rank (run A p w)
  run_rises rank h p [] i k = omega arith
  run_rises rank h p (a ∷ w) i (l, k) =
      let one = leb-true _ _ (below_at A.labels (λ a. leb (rank p) (rank (A.step p a))) (below_at A.states (λ p. below A.labels (λ a. leb (rank p) (rank (A.step p a)))) h p i) a l) in
      omega (arith, one, run_rises rank h (A.step p a) w (f.step p a i l) k)

  -- each two states of one rank go on alike, and a component has one rank
  pub stackless_by : (rank : ℕ → ℕ) → rises rank ≡ true → pairs (λ p q. implies (eqb (rank p) (rank q)) (level p q)) ≡ true → Stackless A
  stackless_by rank up h p q i j t m =
      let there = run_rises rank up p t.there.by i t.there.word in
      let back = run_rises rank up q t.back.by j t.back.word in
      let one : rank p ≡ rank q = omega (arith, there, back, ap rank t.there.leads, ap rank t.back.leads) in
      level_almost p q (implied _ _ (pairs_at (λ p q. implies (eqb (rank p) (rank q)) (level p q)) h p q i j) (eq-eqb (rank p) (rank q) one))
