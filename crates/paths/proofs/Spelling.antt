-- The first step of a text, and that no other can be read.
use Rattle.std.proofs.Common.{◌≡◌, ℕ, zero, suc, ◌<◌, Bool, true, false, cond, ◌≢◌, List, [], ◌∷◌, ◌++◌, length, take, drop, Some, None, Option, sym, refl, ap, ◌∙◌, subst, append_assoc, arith, take-append-drop}
use Rattle.std.specs.List.{AllByRecursion}
use Rattle.std.specs.Str.{bytes_eq}
use Rattle.std.proofs.ByRecursion.{All-from_get_or}
use Rattle.std.proofs.lemmas.Slice.Eq.{bytes_eq-Decides}
use Rattle.std.proofs.lemmas.List.{get_or-take, length-take-le}
use Rattle.std.proofs.lemmas.Bool.{and_parts, false≢true}
use Rattle.text.specs.Names.{name_byte, all_name_bytes, is_name}
use Rattle.text.specs.NameLists.{all_names, shifted, place}
use Rattle.paths.specs.declared.path.Step.{Step}
use Rattle.paths.specs.declared.path.Test.{Test}
use Rattle.paths.specs.declared.path.Test.TheVariants.{Any}
use Rattle.paths.specs.FirstSteps.{Unopened, Opens, Front, First}
use Rattle.paths.specs.Texts.{slash, star, slashes, label_test, test_of, Written, Unread}

-- the text is at its end, or at a slash
abbrev Ends : List ℕ → Type 0
Ends [] = Unit {0}
Ends (b ∷ bs) = b ≡ slash

abbrev Clean : List ℕ → Type 0
Clean = AllByRecursion (λ b. b ≢ slash)

front_clean : (text : List ℕ) (n : ℕ) → Front text n → Clean (take n text)
front_clean text n h =
    let long = length-take-le n text h.within in
    All-from_get_or (λ b. b ≢ slash) (take n text) 0 (λ i k e. h.clean i (omega arith) (sym (get_or-take n text i 0 (omega arith)) ∙ e))

front_ends : (text : List ℕ) (n : ℕ) → Front text n → Ends (drop n text)
front_ends [] zero h = tt
front_ends [] (suc n) h = tt
front_ends (b ∷ bs) zero h = h.ends (omega arith)
front_ends (b ∷ bs) (suc n) h = front_ends bs n (record { within = omega (arith, h.within); clean = λ k l. h.clean (suc k) (omega arith); ends = λ l. h.ends (omega arith) })

-- a text is cut at its first slash in one way
split : (w v u t : List ℕ) → Clean w → Clean v → Ends u → Ends t → w ++ u ≡ v ++ t → (w ≡ v) × (u ≡ t)
split [] [] u t cw cv eu et e = (refl, e)
split [] (b ∷ v) u t cw cv eu et e = absurd (cv.0 (subst Ends e eu))
split (b ∷ w) [] u t cw cv eu et e = absurd (cw.0 (subst Ends (sym e) et))
split (b ∷ w) (c ∷ v) u t cw cv eu et e =
    let head : b ≡ c = cc in
    let tail : w ++ u ≡ v ++ t = cc in
    let o = split w v u t cw.1 cv.1 eu et tail in
    ((λ i. head i ∷ o.0 i), o.1)

unopened_word : (w t : List ℕ) → w ≢ [] → Clean w → Unopened (w ++ t)
unopened_word [] t some clean = absurd (some refl)
unopened_word (b ∷ w) t some clean = clean.0

-- and so are its slashes, and the word behind them
cut_once : (d c : Bool) (w v u t : List ℕ) → (d ≡ false → Unopened (w ++ v)) → Clean w → Ends v → u ≢ [] → Clean u → Ends t → slashes d ++ (w ++ v) ≡ slashes c ++ (u ++ t) → (d ≡ c) × (w ≡ u) × (v ≡ t)
cut_once true true w v u t alone cw ev some cu et e = let o = split w u v t cw cu ev et (let k : w ++ v ≡ u ++ t = cc in k) in (refl, o.0, o.1)
cut_once false false w v u t alone cw ev some cu et e = let o = split w u v t cw cu ev et (let k : w ++ v ≡ u ++ t = cc in k) in (refl, o.0, o.1)
cut_once true false w v u t alone cw ev some cu et e = absurd (subst Unopened (let k : u ++ t ≡ slash ∷ (w ++ v) = cc in k) (unopened_word u t some cu) refl)
cut_once false true w v u t alone cw ev some cu et e = absurd (subst Unopened (let k : w ++ v ≡ slash ∷ (u ++ t) = cc in k) (alone refl) refl)

bytes_clean : (w : List ℕ) → all_name_bytes w ≡ true → Clean w
bytes_clean [] h = tt
bytes_clean (b ∷ w) h = let o = and_parts (name_byte b) (all_name_bytes w) h in (λ e. false≢true (subst (λ x. name_byte x ≡ true) e o.0), bytes_clean w o.1)

placed_name : (names : List (List ℕ)) (w : List ℕ) (a : ℕ) → all_names names ≡ true → place names w ≡ Some a → is_name w ≡ true
placed_name [] w a rule e = let z : ◌≡◌ {A = ℕ} 0 1 = cc in absurd (omega arith)
placed_name (x ∷ xs) w a rule e = first (λ b. placed_name xs w b (and_parts (is_name x) (all_names xs) rule).1) (bytes_eq x w) refl e
  where
    later : ((b : ℕ) → place xs w ≡ Some b → is_name w ≡ true) → (r : Option ℕ) → place xs w ≡ r → shifted r ≡ Some a → is_name w ≡ true
    later rest None is e = let z : ◌≡◌ {A = ℕ} 0 1 = cc in absurd (omega arith)
    later rest (Some b) is e = rest b is

    first : ((b : ℕ) → place xs w ≡ Some b → is_name w ≡ true) → (b : Bool) → bytes_eq x w ≡ b → cond b (Some 0) (shifted (place xs w)) ≡ Some a → is_name w ≡ true
    first rest true same e = subst (λ y. is_name y ≡ true) ((bytes_eq-Decides x w).0 same) (and_parts (is_name x) (all_names xs) rule).0
    first rest false same e = later rest (place xs w) refl e

module _ (names : List (List ℕ)) (rule : all_names names ≡ true) where
  -- a word that tests for something is not empty, and has no slash
  word_rule : (w : List ℕ) (t : Test) → test_of names w ≡ Some t → (w ≢ []) × Clean w
  word_rule w t e = first (bytes_eq w star) refl e
    where
      later : (r : Option ℕ) → place names w ≡ r → label_test r ≡ Some t → (w ≢ []) × Clean w
      later None is e = let z : ◌≡◌ {A = ℕ} 0 1 = cc in absurd (omega arith)
      later (Some a) is e =
          let name = placed_name names w a rule is in
          (λ z. false≢true (subst (λ x. is_name x ≡ true) z name), bytes_clean w (and_parts _ (all_name_bytes w) name).1)

      first : (b : Bool) → bytes_eq w star ≡ b → cond b (Some Any) (label_test (place names w)) ≡ Some t → (w ≢ []) × Clean w
      first true same e = let is = sym ((bytes_eq-Decides w star).0 same) in subst (λ x. (x ≢ []) × Clean x) is ((λ z. let k : ◌≡◌ {A = ℕ} 0 1 = cc in omega arith), ((λ z. omega arith), tt))
      first false same e = later (place names w) refl e

  slashes_ends : (d : Bool) (w u : List ℕ) → Ends ((slashes d ++ w) ++ u)
  slashes_ends true w u = refl
  slashes_ends false w u = refl

  written_ends : (ss : List Step) (text : List ℕ) → Written names ss text → Ends text
  written_ends [] text e = subst Ends (sym e) tt
  written_ends (s ∷ ss) text (t, u, e, sp, rest) = subst Ends (sym (e ∙ ap (λ x. x ++ u) sp.whole)) (slashes_ends s.descend sp.word u)

  written_some : (s : Step) (ss : List Step) → Written names (s ∷ ss) [] → ⊥
  written_some s ss (t, u, e, sp, rest) = none s.descend (e ∙ ap (λ x. x ++ u) sp.whole)
    where
      none : (d : Bool) → [] ≡ (slashes d ++ sp.word) ++ u → ⊥
      none true z = let k : ◌≡◌ {A = ℕ} 0 1 = cc in omega arith
      none false z = let k : ◌≡◌ {A = ℕ} 0 1 = cc in omega arith

  -- what any reading of the text's first step agrees on
  record Same (d : Bool) (word rest : List ℕ) (s : Step) (ss : List Step) : Type 0 where
    descend : d ≡ s.descend
    stands : test_of names word ≡ Some s.test
    written : Written names ss rest

  same_first : (d : Bool) (word rest : List ℕ) → (d ≡ false → Unopened (word ++ rest)) → Clean word → Ends rest → (s : Step) (ss : List Step) → Written names (s ∷ ss) (slashes d ++ (word ++ rest)) → Same d word rest s ss
  same_first d word rest alone clean ends s ss (t, u, e, sp, w) =
      let r = word_rule sp.word s.test sp.stands in
      let o = cut_once d s.descend word rest sp.word u alone clean ends r.0 r.1 (written_ends ss u w) (e ∙ ap (λ x. x ++ u) sp.whole ∙ append_assoc (slashes s.descend) sp.word u) in
      record { descend = o.0; stands = ap (test_of names) o.1 ∙ sp.stands; written = subst (Written names ss) (sym o.2) w }

  -- a text is written for one list of steps at most
  pub written_once : (ss us : List Step) (text : List ℕ) → Written names ss text → Written names us text → ss ≡ us
  written_once [] [] text h k = refl
  written_once [] (u ∷ us) text h k = absurd (written_some u us (subst (Written names (u ∷ us)) h k))
  written_once (s ∷ ss) [] text h k = absurd (written_some s ss (subst (Written names (s ∷ ss)) k h))
  written_once (s ∷ ss) (u ∷ us) text (t, v, e, sp, w) k =
      let r = word_rule sp.word s.test sp.stands in
      let whole : text ≡ slashes s.descend ++ (sp.word ++ v) = e ∙ ap (λ x. x ++ v) sp.whole ∙ append_assoc (slashes s.descend) sp.word v in
      let same = same_first s.descend sp.word v (λ _. unopened_word sp.word v r.0 r.1) r.1 (written_ends ss v w) u us (subst (Written names (u ∷ us)) whole k) in
      let test : s.test ≡ u.test = cc (sp.stands, same.stands) in
      let rest = written_once ss us v w same.written in
      λ i. record { descend = same.descend i; test = test i } ∷ rest i

  -- a text whose opening and first word are found
  module _ (text : List ℕ) (d : Bool) (tail : List ℕ) (o : Opens text d tail) (n : ℕ) (front : Front tail n) where
    whole : text ≡ slashes d ++ (take n tail ++ drop n tail)
    whole = o.whole ∙ ap (λ x. slashes d ++ x) (sym (take-append-drop n tail))

    agree : (s : Step) (ss : List Step) → Written names (s ∷ ss) text → Same d (take n tail) (drop n tail) s ss
    agree s ss h =
        same_first d (take n tail) (drop n tail) (λ e. subst Unopened (sym (take-append-drop n tail)) (o.alone e)) (front_clean tail n front) (front_ends tail n front) s ss (subst (Written names (s ∷ ss)) whole h)

    opened : text ≢ []
    opened e = none d (sym o.whole ∙ e)
      where
        none : (c : Bool) → slashes c ++ tail ≢ []
        none true z = let k : ◌≡◌ {A = ℕ} 0 1 = cc in omega arith
        none false z = let k : ◌≡◌ {A = ℕ} 0 1 = cc in omega arith

    pub first_unnamed : None ≡ test_of names (take n tail) → Unread names text
    first_unnamed z [] h = opened h
    first_unnamed z (s ∷ ss) h = let two : None ≡ Some s.test = z ∙ (agree s ss h).stands in let k : ◌≡◌ {A = ℕ} 0 1 = cc in omega arith

    pub first_made : (t : Test) → Some t ≡ test_of names (take n tail) → First names text (record { descend = d; test = t }) (drop n tail)
    first_made t stands = record {
      own = slashes d ++ take n tail;
      whole = whole ∙ sym (append_assoc (slashes d) (take n tail) (drop n tail));
      spells = record { word = take n tail; whole = refl; stands = sym stands };
      only = only;
    }
      where
        only : (ss : List Step) → Written names ss text → (us : List Step) × (ss ≡ record { descend = d; test = t } ∷ us) × Written names us (drop n tail)
        only [] h = absurd (opened h)
        only (s ∷ ss) h =
            let same = agree s ss h in
            let test : s.test ≡ t = cc (same.stands, stands) in
            (ss, (λ i. record { descend = sym same.descend i; test = test i } ∷ ss), same.written)

  pub unopened_unread : (text : List ℕ) → Unopened text → 0 < length text → Unread names text
  unopened_unread [] h k ss w = omega arith
  unopened_unread (b ∷ bs) h k [] w = let z : ◌≡◌ {A = ℕ} 0 1 = cc in omega arith
  unopened_unread (b ∷ bs) h k (s ∷ ss) w = h (written_ends (s ∷ ss) (b ∷ bs) w)
