-- The names of a label line, one field on, and the rules for them.
use Rattle.std.proofs.Common.{◌≡◌, ℕ, zero, suc, ◌+◌, ◌<◌, ◌≤◌, Bool, true, false, cond, ◌&&◌, eqb, List, [], ◌∷◌, ◌++◌, length, get_or, take, drop, Some, None, Ok, Err, Option, Result, Bor, sym, refl, ap, ◌∙◌, subst, ⊎_elim, add-one, arith}
use Rattle.std.specs.Fn.{CalledAt}
use Rattle.std.specs.Iterator.{Yields}
use Rattle.std.specs.declared.slice.Split.{Split}
use Rattle.std.specs.Slice.Iter.{split_rest, split_done, split_callee, split_steps}
use denote.Param.Members.{Mut}
use Rattle.std.specs.List.{slice_split, onto_first, list_all}
use Rattle.std.specs.Str.{bytes_eq}
use Rattle.std.proofs.lemmas.Slice.Eq.{bytes_eq-Decides}
use Rattle.std.proofs.lemmas.List.{length-append, take_more}
use Rattle.std.proofs.Math.Seq.{split_at}
use Rattle.std.proofs.lemmas.Iterator.{YieldsList}
use Rattle.std.proofs.lemmas.Iterator.Consumers.{YieldsList-turn, YieldsList-end}
use Rattle.std.proofs.lemmas.Iterator.Splits.{YieldsList-from_slice_split}
use Rattle.std.proofs.lemmas.Bool.{cond-true, and_parts, or_cases, or_left, or_right, lt-ltb}
use Rattle.std.proofs.lemmas.Bool.Decides.{nat_tests}
use Rattle.text.specs.declared.refusal.Refusal.{Refusal}
use Rattle.text.specs.declared.refusal.Refusal.TheVariants.{NameTwice}
use Rattle.text.specs.Labelled.{single, admitted}
use Rattle.text.specs.NameLists.{all_names, among, twice}
use Rattle.text.specs.Names.{is_name}
use Rattle.text.specs.Pieces.{Pieces, last, next, begin, split, listed}

abbrev pub fields : List ℕ → List (List ℕ)
fields s = listed (split 9 s)

-- the fields as the library cuts them
pub fields_split : (s : List ℕ) → slice_split (λ b. eqb b 9) s ≡ fields s
fields_split [] = refl
fields_split (b ∷ s) =
    ap (λ parts. cond (eqb b 9) ([] ∷ parts) (onto_first b parts)) (fields_split s) ∙ cut (eqb b 9) (split 9 s)
  where
    begun : (ps : Pieces) → onto_first b (listed ps) ≡ listed (begin b ps)
    begun (last x) = refl
    begun (next x ps) = refl

    cut : (t : Bool) (ps : Pieces) → cond t ([] ∷ listed ps) (onto_first b (listed ps)) ≡ listed (cond t (next [] ps) (begin b ps))
    cut true ps = refl
    cut false ps = begun ps

-- what the calls of the library's iterator give
module _ {F : Type 0} (g : Mut F (Bor ℕ × Unit {0}) Bool) (s : List ℕ) (all : Split ℕ F) (whole : split_rest all ≡ s) (fresh : split_done all ≡ false) (tests : (x : ℕ) (b : Bool) (q : F) → CalledAt g (split_callee all) x b q → (q ≡ split_callee all) × (b ≡ eqb x 9)) where
  cut : YieldsList (split_steps g) (λ x. x.now) all (slice_split (λ b. eqb b 9) s)
  cut = YieldsList-from_slice_split g (λ b. eqb b 9) s whole fresh refl tests

  field_next : (xs : List (Bor (List ℕ))) (left : Split ℕ F) → Yields (split_steps g) all xs left → (r : Option (Bor (List ℕ))) (after : Split ℕ F) (x : Bor (List ℕ)) → r ≡ Some x → split_steps g left r after → (length xs < length (fields s)) × (x.now ≡ get_or (fields s) (length xs) x.now)
  field_next xs left yields r after x is step =
      subst (λ all. (length xs < length all) × (x.now ≡ get_or all (length xs) x.now)) (fields_split s) (YieldsList-turn cut xs left yields r after x is step)

  module _ (r : Option (Bor (List ℕ))) (one : Split ℕ F) (x : Bor (List ℕ)) (is : r ≡ Some x) (step : split_steps g all r one) where
    -- the first field
    pub field_first : (0 < length (fields s)) × (x.now ≡ get_or (fields s) 0 x.now)
    field_first = field_next [] all refl r one x is step

    -- and the loop over the fields after it
    module _ (rest : Split ℕ F) (same : rest ≡ one) (xs : List (Bor (List ℕ))) (left : Split ℕ F) (yields : Yields (split_steps g) rest xs left) (o : Option (Bor (List ℕ))) (after : Split ℕ F) (more : split_steps g left o after) where
      so_far : Yields (split_steps g) all (x ∷ xs) left
      so_far = (one, subst (λ o. split_steps g all o one) is step, subst (λ t. Yields (split_steps g) t xs left) same yields)

      pub field_later : (y : Bor (List ℕ)) → o ≡ Some y → (suc (length xs) < length (fields s)) × (y.now ≡ get_or (fields s) (suc (length xs)) y.now)
      field_later y some = field_next (x ∷ xs) left so_far o after y some more

      pub field_last : o ≡ None → suc (length xs) ≡ length (fields s)
      field_last none = (YieldsList-end cut (x ∷ xs) left so_far o after none more).1 ∙ ap length (fields_split s)

pub all_are : (xs : List (List ℕ)) → list_all is_name xs ≡ all_names xs
all_are [] = refl
all_are (x ∷ xs) = ap (λ t. is_name x && t) (all_are xs)

all_later : (names xs : List (List ℕ)) → all_names (names ++ xs) ≡ true → all_names xs ≡ true
all_later [] xs h = h
all_later (y ∷ names) xs h = all_later names xs (and_parts _ _ h).1

among_there : (y x : List ℕ) (names xs : List (List ℕ)) → bytes_eq x y ≡ true → among y (names ++ x ∷ xs) ≡ true
among_there y x [] xs h = or_left _ _ h
among_there y x (z ∷ names) xs h = or_right _ _ (among_there y x names xs h)

-- a name that is among those before it stands twice
twice_among : (names : List (List ℕ)) (x : List ℕ) (xs : List (List ℕ)) → among x names ≡ true → twice (names ++ x ∷ xs) ≡ true
twice_among [] x xs h = let no : ◌≡◌ {A = ℕ} 0 1 = cc in absurd (omega arith)
twice_among (y ∷ names) x xs h =
    ⊎_elim
    (λ e. or_left _ _ (among_there y x names xs ((bytes_eq-Decides x y).1 (sym ((bytes_eq-Decides y x).0 e)))))
    (λ e. or_right _ _ (twice_among names x xs e))
    (or_cases _ _ h)

pub name_at : (xs : List (List ℕ)) (i : ℕ) (d : List ℕ) → all_names xs ≡ true → i < length xs → is_name (get_or xs i d) ≡ true
name_at [] i d h k = absurd (omega arith)
name_at (x ∷ xs) zero d h k = (and_parts _ _ h).0
name_at (x ∷ xs) (suc i) d h k = name_at xs i d (and_parts _ _ h).1 (omega arith)

-- the first name by the rule is taken
pub first_taken : (all : List (List ℕ)) (x : List ℕ) (r : Result (List (List ℕ)) Refusal) → all_names all ≡ true → (0 < length all) × (x ≡ get_or all 0 x) → r ≡ single x → r ≡ Ok (take 1 all)
first_taken [] x r rule first e = absurd (omega (arith, first.0))
first_taken (y ∷ all) x r rule first e = e ∙ cond-true _ _ _ (ap is_name first.1 ∙ name_at (y ∷ all) 0 x rule first.0) ∙ ap (λ z. Ok (z ∷ [])) first.1

-- where all are names, and few enough, one is refused only if it stands twice
pub push_refused : (names all : List (List ℕ)) (x : List ℕ) (xs : List (List ℕ)) (why : Refusal) → names ++ x ∷ xs ≡ all → all_names all ≡ true → length all ≤ 16 → Err why ≡ admitted names x → (why ≡ NameTwice) × (twice all ≡ true)
push_refused names all x xs why e rule few h =
    let name : is_name x ≡ true = (and_parts _ _ (all_later names (x ∷ xs) (ap all_names e ∙ rule))).0 in
    let room = lt-ltb (length names) 16 (omega (arith, length-append names (x ∷ xs), ap length e)) in
    let there = twice_among names x xs in
    let same = ap twice e in
    grind (arith, nat_tests)

-- the first n + 1 names are pushed, and the next is x
module _ (all before : List (List ℕ)) (n : ℕ) (x : List ℕ) (pushed : before ≡ take (n + 1) all) (next : (suc n < length all) × (x ≡ get_or all (suc n) x)) where
  pub names_split : before ++ x ∷ drop (suc (suc n)) all ≡ all
  names_split = (λ i. (pushed ∙ ap (λ k. take k all) (add-one n)) i ++ next.1 i ∷ drop (suc (suc n)) all) ∙ sym (split_at all (suc n) x next.0)

  pub names_more : (after : List (List ℕ)) (m : ℕ) → m ≡ n + 1 → after ≡ before ++ x ∷ [] → after ≡ take (m + 1) all
  names_more after m e grown = grown ∙ (λ i. (pushed ∙ ap (λ k. take k all) (add-one n)) i ++ next.1 i ∷ []) ∙ sym (take_more all (suc n) x next.0) ∙ ap (λ k. take (k + 1) all) (sym (e ∙ add-one n))
