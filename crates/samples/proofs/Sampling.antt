-- The automaton of some steps, by computing: from words that lead to its states, in the order in which these are first met.
use Rattle.std.proofs.Common.{◌≡◌, ℕ, zero, suc, ◌/◌, ◌%◌, ◌^◌, ◌<◌, ◌≤◌, Bool, true, false, cond, ◌&&◌, eqb, ltb, leb, ◌≢◌, List, [], ◌∷◌, ◌++◌, map, length, get_or, is_some, Some, None, Option, sym, refl, ap, ◌∙◌, subst, arith}
use Rattle.std.proofs.lemmas.List.{length-map}
use Rattle.std.proofs.lemmas.Bool.{and_parts, eqb-true, leb-true, ltb-true, both_ways}
use Rattle.std.proofs.lemmas.Bool.Decides.{Decides-eqb}
use Rattle.automata.specs.Automata.{Automaton, Word, WellFormed, accepts}
use Rattle.automata.specs.Meaning.{Meaning, Moves, Rules}
use Rattle.automata.specs.Minimising.{Minimised}
use Rattle.automata.specs.declared.tag.Tag.{Tag}
use Rattle.automata.proofs.Alike.{accepts_alike}
use Rattle.std.specs.List.{list_all}
use Rattle.base.specs.History.{terms}
use Rattle.text.specs.NameLists.{all_names}
use Rattle.paths.specs.declared.path.Step.{Step}
use Rattle.paths.specs.declared.path.Test.{Test}
use Rattle.paths.specs.declared.path.Test.TheVariants.{Any}
use Rattle.automata.specs.Numbering.{met_in_row, met}
use Rattle.paths.specs.Positions.{start_set, Moved, Reached, at_start, MoreThan, Named}
use Rattle.grading.specs.declared.grade.Grade.{Grade}
use Rattle.samples.specs.Runs.{PathReads}
use Rattle.samples.specs.Samples.{HasStates, HasGrade, HasNone}
use Rattle.paths.specs.Tables.{Compiled}
use Rattle.paths.specs.Texts.{slashes, test_of, Written, ReadAs}
use Rattle.paths.proofs.Counted.{set_reachable, few_sets}
use Rattle.paths.proofs.Follow.{follows_path}
use Rattle.paths.proofs.Moving.{move, moved_move, moves, reached_moves}
use Rattle.paths.proofs.Once.{alike}
use Rattle.paths.proofs.Reading.{read_as}
use Rattle.samples.proofs.Minimals.{minimal_has, minimised_alike}
use Rattle.samples.proofs.Judging.{Judged}
use Rattle.samples.proofs.Runs.{Booked, reads_by}
use Rattle.samples.proofs.Testing.{below, below_at, word_of}

-- the first place of x, or the length
abbrev index : ℕ → List ℕ → ℕ
index x [] = 0
index x (y ∷ ys) = cond (eqb y x) 0 (suc (index x ys))

index_at : (x : ℕ) (xs : List ℕ) → index x xs < length xs → get_or xs (index x xs) 0 ≡ x
index_at x [] h = absurd (omega arith)
index_at x (y ∷ ys) h = first (eqb y x) refl h (index_at x ys)
  where
    first : (b : Bool) → eqb y x ≡ b → cond b 0 (suc (index x ys)) < suc (length ys) → (index x ys < length ys → get_or ys (index x ys) 0 ≡ x) → get_or (y ∷ ys) (cond b 0 (suc (index x ys))) 0 ≡ x
    first true e h rest = eqb-true y x e
    first false e h rest = rest (omega arith)

module _ (steps : List Step) (n : ℕ) where
  abbrev sets : List (List ℕ) → List ℕ
  sets words = map (λ w. moves steps w start_set) words

  -- words over the labels, each to a set of its own
  abbrev Differ : List (List ℕ) → Type 0
  Differ words = (list_all (list_all (λ a. ltb a n)) words ≡ true) × (below (length words) (λ p. eqb (index (get_or (sets words) p 0) (sets words)) p) ≡ true)

  reached_at : (words : List (List ℕ)) → list_all (list_all (λ a. ltb a n)) words ≡ true → (p : ℕ) → p < length words → Reached steps n (get_or (sets words) p 0)
  reached_at [] h p l = absurd (omega arith)
  reached_at (w ∷ words) h zero l = reached_moves steps n w start_set (word_of n w (and_parts _ _ h).0) at_start
  reached_at (w ∷ words) h (suc p) l = reached_at words (and_parts _ _ h).1 p (omega arith)

  distinct_at : (words : List (List ℕ)) → Differ words → (p q : ℕ) → p < q → q < length words → get_or (sets words) p 0 ≢ get_or (sets words) q 0
  distinct_at words h p q l k e = omega (arith, own p (omega arith), own q k, ap (λ x. index x (sets words)) e)
    where
      own : (r : ℕ) → r < length words → index (get_or (sets words) r 0) (sets words) ≡ r
      own r i = eqb-true (index (get_or (sets words) r 0) (sets words)) r (below_at (length words) (λ p. eqb (index (get_or (sets words) p 0) (sets words)) p) h.1 r i)

  more_than : (words : List (List ℕ)) → Differ words → (k : ℕ) → k < length words → MoreThan k steps n
  more_than words h k l = record { set = λ p. get_or (sets words) p 0; distinct = λ p q i j. distinct_at words h p q i (omega arith); reached = λ p i. reached_at words h.0 p (omega arith) }

  -- a state for each word
  abbrev made : List (List ℕ) → Automaton
  made words = record {
    labels = n;
    states = length words;
    start = 0;
    step = λ p a. index (move steps a (get_or (sets words) p 0)) (sets words);
    yes = λ p. eqb (get_or (sets words) p 0 / 2 ^ length steps % 2) 1;
  }

  -- a test of each state and label
  abbrev each : List (List ℕ) → (ℕ → ℕ → Bool) → Bool
  each words test = below (length words) (λ p. below n (test p))

  -- the words lead to all sets, in the order of first meeting
  pub record Whole (words : List (List ℕ)) : Type 0 where
    pub some : ltb 0 (length words) ≡ true
    pub start : get_or (sets words) 0 0 ≡ start_set
    pub inside : each words (λ p a. ltb ((made words).step p a) (length words)) ≡ true
    pub next : each words (λ p a. leb ((made words).step p a) (met_in_row ((made words).step p) (met n (made words).step p) a)) ≡ true
    pub all : met n (made words).step (length words) ≡ length words

  module _ (words : List (List ℕ)) (d : Differ words) (w : Whole words) (few : length words ≤ 32) where
    each_at : (test : ℕ → ℕ → Bool) → each words test ≡ true → (p a : ℕ) → p < length words → a < n → test p a ≡ true
    each_at test h p a i j = below_at n (test p) (below_at (length words) (λ p. below n (test p)) h p i) a j

    inside : (p a : ℕ) → p < length words → a < n → (made words).step p a < length words
    inside p a i j = ltb-true _ _ (each_at (λ p a. ltb ((made words).step p a) (length words)) w.inside p a i j)

    formed : WellFormed (made words)
    formed = record { start = ltb-true 0 (length words) w.some; step = inside }

    in_sets : (p a : ℕ) → p < length words → a < n → (made words).step p a < length (sets words)
    in_sets p a i j = omega (arith, inside p a i j, length-map words (λ w. moves steps w start_set))

    abbrev named : Named steps (made words)
    named = record {
      set_of = λ p. get_or (sets words) p 0;
      start = w.start;
      distinct = distinct_at words d;
      step = λ p a i j. subst (Moved steps a (get_or (sets words) p 0)) (sym (index_at (move steps a (get_or (sets words) p 0)) (sets words) (in_sets p a i j))) (moved_move steps a (get_or (sets words) p 0));
      yes = λ p _. Decides-eqb (get_or (sets words) p 0 / 2 ^ length steps % 2) 1;
    }

    compiled : Compiled steps n (made words)
    compiled = record {
      labels = refl;
      formed = formed;
      named = named;
      reached = λ p i. set_reachable steps (made words) formed named p i (reached_at words d.0 p i);
      numbered = record {
        start = refl;
        next = λ p a i j. leb-true _ _ (each_at (λ p a. leb ((made words).step p a) (met_in_row ((made words).step p) (met n (made words).step p) a)) w.next p a i j);
        whole = w.all;
      };
      few = few_sets steps (made words) formed named 32 few;
      follows = follows_path steps (made words) formed named;
    }

-- steps as they are written: slashes and a word
abbrev text_of : List (Bool × List ℕ) → List ℕ
text_of [] = []
text_of (x ∷ xs) = (slashes x.0 ++ x.1) ++ text_of xs

abbrev or_any : Option Test → Test
or_any (Some t) = t
or_any None = Any

abbrev steps_in : List (List ℕ) → List (Bool × List ℕ) → List Step
steps_in names = map (λ x. record { descend = x.0; test = or_any (test_of names x.1) })

abbrev fits_in : ℕ → ℕ → ℕ → Bool
fits_in a x b = leb a x && leb x b

-- the words are names, and there is not too much of it
abbrev reads : List (List ℕ) → List (Bool × List ℕ) → Bool
reads names xs = (all_names names && list_all (λ x. is_some (test_of names x.1)) xs) && (fits_in 1 (length (text_of xs)) 200 && leb (length (steps_in names xs)) 15)

module _ (names : List (List ℕ)) where
  stands : (o : Option Test) → is_some o ≡ true → o ≡ Some (or_any o)
  stands (Some t) h = refl
  stands None h = absurd (both_ways _ refl h)

  written : (xs : List (Bool × List ℕ)) → list_all (λ x. is_some (test_of names x.1)) xs ≡ true → Written names (steps_in names xs) (text_of xs)
  written [] h = refl
  written (x ∷ xs) h = (slashes x.0 ++ x.1, text_of xs, refl, record { word = x.1; whole = refl; stands = stands (test_of names x.1) (and_parts _ _ h).0 }, written xs (and_parts _ _ h).1)

  read_in : (xs : List (Bool × List ℕ)) → reads names xs ≡ true → ReadAs names (text_of xs) (steps_in names xs)
  read_in xs h =
      let o = and_parts _ _ h in
      let names_and_words = and_parts _ _ o.0 in
      let sizes = and_parts _ _ o.1 in
      let text = and_parts _ _ sizes.0 in
      read_as names (text_of xs) names_and_words.0 (steps_in names xs) (written xs names_and_words.1) (leb-true _ _ text.0, leb-true _ _ text.1) (leb-true _ _ sizes.1)

  module _ (xs : List (Bool × List ℕ)) (words : List (List ℕ)) where
    pub has_states : reads names xs ≡ true → Differ (steps_in names xs) (length names) words → Whole (steps_in names xs) (length names) words → (k : ℕ) → length words ≡ k → k ≤ 32 → HasStates names (text_of xs) k
    has_states r d w k long few =
        let c = compiled (steps_in names xs) (length names) words d w (omega arith) in
        record { steps = steps_in names xs; read = read_in xs r; some = (made (steps_in names xs) (length names) words, c); states = λ A b. (alike (steps_in names xs) (length names) A _ b c).states ∙ long }

    -- and a grade, where the automaton with a state for each word has it and no two of its states are equivalent
    pub has_grade : reads names xs ≡ true → Differ (steps_in names xs) (length names) words → Whole (steps_in names xs) (length names) words → (k : ℕ) → length words ≡ k → k ≤ 32 → (grade : Grade) → (WellFormed (made (steps_in names xs) (length names) words) → Judged (made (steps_in names xs) (length names) words) grade) → HasGrade names (text_of xs) k grade
    unfolding has_states
    has_grade r d w k long few grade judged =
        let c = compiled (steps_in names xs) (length names) words d w (omega arith) in
        let j = judged c.formed in
        record {
          compiled = has_states r d w k long few;
          minimal = λ A b.
              let M = made (steps_in names xs) (length names) words in
              let minimised = minimised_alike A M b.formed (alike (steps_in names xs) (length names) A M b c) (record { reached = c.reached; distinct = j.distinct }) c.numbered in
              minimal_has A M k grade c.formed minimised long j.earned;
        }

    -- what every minimal automaton of it accepts is what that automaton does
    pub accepts_by : Differ (steps_in names xs) (length names) words → Whole (steps_in names xs) (length names) words → length words ≤ 32 → (A B : Automaton) → Compiled (steps_in names xs) (length names) A → Minimised A B → (v : List ℕ) → list_all (λ a. ltb a (length names)) v ≡ true → accepts B v ≡ accepts (made (steps_in names xs) (length names) words) v
    accepts_by d w few A B c m v h =
        let M = made (steps_in names xs) (length names) words in
        let same = alike (steps_in names xs) (length names) A M c (compiled (steps_in names xs) (length names) words d w few) in
        let word : Word A.labels v = subst (λ n. Word n v) (sym c.labels) (word_of (length names) v h) in
        m.accepts v word ∙ sym (accepts_alike A M c.formed same v word)

    -- and what a run of a selector comes to, by what its query wants
    pub path_reads : reads names xs ≡ true → {S : Type 0} (m : Meaning S) (v : Moves S) → Rules m v → (runs : S → Automaton) (begins : Automaton → S → Type 0) → ((A : Automaton) (s : S) → begins A s → Minimised A (runs s)) → ((s : S) → terms m s 65535 ≡ record { limit = 65535; labels = (runs s).labels; carry = 65535; wants = accepts (runs s) }) → (tags : List (Tag ℕ)) (picked : List ℕ) (opened : ℕ) (ended : Bool) → ((A B : Automaton) → Compiled (steps_in names xs) (length names) A → Minimised A B → Booked (record { limit = 65535; labels = length names; carry = 65535; wants = accepts B }) tags picked opened ended) → PathReads m v begins names (text_of xs) tags picked opened ended
    path_reads r m v rules runs begins minimised same tags picked opened ended booked = record {
      steps = steps_in names xs;
      read = read_in xs r;
      each = λ A s c b.
          let n = minimised A s b in
          let labelled = subst (λ k. Booked (record { limit = 65535; labels = k; carry = 65535; wants = accepts (runs s) }) tags picked opened ended) (sym (n.labels ∙ c.labels)) (booked A (runs s) c n) in
          reads_by m v rules s tags picked opened ended (subst (λ t. Booked t tags picked opened ended) (sym (same s)) labelled);
    }

    pub has_none : reads names xs ≡ true → Differ (steps_in names xs) (length names) words → 32 < length words → HasNone names (text_of xs)
    has_none r d long = record { steps = steps_in names xs; read = read_in xs r; many = more_than (steps_in names xs) (length names) words d 32 long }

-- all words of length k over the labels 0 and 1
abbrev pub all_words : ℕ → List (List ℕ)
all_words zero = [] ∷ []
all_words (suc k) = map (λ w. 0 ∷ w) (all_words k) ++ map (λ w. 1 ∷ w) (all_words k)

-- the empty word, and those of at most k labels that begin with 0, shorter ones first
abbrev pub first_words : ℕ → List (List ℕ)
first_words zero = [] ∷ []
first_words (suc k) = first_words k ++ map (λ w. 0 ∷ w) (all_words k)
