-- Lemmas on names and on lists of names.
use Rattle.std.proofs.Common.{◌≡◌, ℕ, zero, suc, ◌+◌, ◌<◌, ◌≤◌, Bool, true, false, cond, ◌||◌, List, [], ◌∷◌, ◌++◌, map, length, get_or, position, is_some, Some, None, Decides, Option, sym, refl, ap, ◌∙◌, subst, arith}
use Rattle.std.specs.List.{ContainsAt as Has, position_from}
use Rattle.std.specs.Option.{option_map}
use Rattle.std.specs.Str.{bytes_eq}
use Rattle.std.proofs.ByRecursion.{has_get_or}
use Rattle.std.proofs.lemmas.Slice.Eq.{bytes_eq-Decides}
use Rattle.std.proofs.lemmas.Iterator.Adapters.{position_from-zero}
use Rattle.std.proofs.lemmas.List.{length-map, length-take, map_push}
use Rattle.std.proofs.lemmas.Bool.{and_from, or_parts, or_from}
use Rattle.std.proofs.lemmas.Bool.Decides.{not_from_Decides, same_from_decides, Decides-like, Decides-by_or}
use Rattle.text.specs.declared.labels.name.Name.{Name}
use Rattle.text.specs.declared.list.ArrayList.{ArrayList}
use Rattle.text.specs.Lists.{items}
use Rattle.text.specs.NameLists.{all_names, among, twice, shifted, place, Lowest}
use Rattle.text.specs.Stored.{name_bytes, stored}

pub among_decides : (name : List ℕ) (xs : List (List ℕ)) → Decides (among name xs) (Has xs name)
among_decides name xs = Decides-by_or (λ x. bytes_eq x name) (λ x. x ≡ name) (among name) (λ x. bytes_eq-Decides x name) refl (λ _ _. refl) xs

-- no two places have one name
pub apart_at : (xs : List (List ℕ)) → twice xs ≡ false → (k i : ℕ) → k < i → i < length xs → get_or xs k [] ≡ get_or xs i [] → ⊥
apart_at [] t k i h l e = omega arith
apart_at (x ∷ xs) t k zero h l e = omega arith
apart_at (x ∷ xs) t zero (suc i) h l e =
    not_from_Decides _ (among_decides x xs) (or_parts _ _ t).0 (subst (Has xs) (sym e) (has_get_or xs i [] (omega arith)))
apart_at (x ∷ xs) t (suc k) (suc i) h l e = apart_at xs (or_parts _ _ t).1 k i (omega arith) (omega arith) e

same_sym : (x y : List ℕ) → bytes_eq x y ≡ bytes_eq y x
same_sym x y = same_from_decides _ _ (bytes_eq-Decides x y) (Decides-like _ sym sym (bytes_eq-Decides y x))

among_push : (y x : List ℕ) (xs : List (List ℕ)) → among y xs ≡ false → bytes_eq x y ≡ false → among y (xs ++ x ∷ []) ≡ false
among_push y x [] h e = or_from _ _ e refl
among_push y x (z ∷ xs) h e = or_from _ _ (or_parts _ _ h).0 (among_push y x xs (or_parts _ _ h).1 e)

pub twice_push : (xs : List (List ℕ)) (x : List ℕ) → twice xs ≡ false → among x xs ≡ false → twice (xs ++ x ∷ []) ≡ false
twice_push [] x t h = refl
twice_push (y ∷ xs) x t h =
    or_from _ _ (among_push y x xs (or_parts _ _ t).0 (same_sym x y ∙ (or_parts _ _ h).0)) (twice_push xs x (or_parts _ _ t).1 (or_parts _ _ h).1)

module _ (x name : List ℕ) (xs : List (List ℕ)) (later : (r : Option ℕ) → Lowest xs name r → r ≡ place xs name) where
  place_head : (b : Bool) (r : Option ℕ) → bytes_eq x name ≡ b → Lowest (x ∷ xs) name r → r ≡ cond b (Some 0) (shifted (place xs name))
  place_head true None e low = absurd (low 0 (omega arith) ((bytes_eq-Decides x name).0 e))
  place_head true (Some zero) e low = refl
  place_head true (Some (suc i)) e low = absurd (low.2 0 (omega arith) ((bytes_eq-Decides x name).0 e))
  place_head false None e low = ap shifted (later None (λ k h. low (suc k) (omega arith)))
  place_head false (Some zero) e low = absurd (not_from_Decides _ (bytes_eq-Decides x name) e low.1)
  place_head false (Some (suc i)) e low = ap shifted (later (Some i) (omega (arith, low.0), low.1, λ k h. low.2 (suc k) (omega arith)))

-- there is one lowest place, and `place` gives it
pub place_lowest : (xs : List (List ℕ)) (name : List ℕ) (r : Option ℕ) → Lowest xs name r → r ≡ place xs name
place_lowest [] name None low = refl
place_lowest [] name (Some i) low = absurd (omega (arith, low.0))
place_lowest (x ∷ xs) name r low = place_head x name xs (place_lowest xs name) (bytes_eq x name) r refl low

-- where no name stands twice, each is found at its own place
pub place_own : (xs : List (List ℕ)) (i : ℕ) → twice xs ≡ false → i < length xs → place xs (get_or xs i []) ≡ Some i
place_own xs i t h = sym (place_lowest xs (get_or xs i []) (Some i) (h, refl, λ k l e. apart_at xs t k i l h e))

some_shifted : (r : Option ℕ) → is_some (shifted r) ≡ is_some r
some_shifted None = refl
some_shifted (Some n) = refl

pub place_among : (xs : List (List ℕ)) (name : List ℕ) → is_some (place xs name) ≡ among name xs
place_among [] name = refl
place_among (x ∷ xs) name =
    let P : Bool → Type 0 = λ b. is_some (cond b (Some 0) (shifted (place xs name))) ≡ (b || among name xs) in
    elim (bytes_eq x name) as P [ true ↦ refl | false ↦ some_shifted (place xs name) ∙ place_among xs name ]

pub lowest_place : (xs : List (List ℕ)) (name : List ℕ) → Lowest xs name (place xs name)
lowest_place [] name = λ k h. absurd (omega (arith, h))
lowest_place (x ∷ xs) name = lowest_head (bytes_eq x name) (place xs name) refl (lowest_place xs name)
  where
    lowest_head : (b : Bool) (r : Option ℕ) → bytes_eq x name ≡ b → Lowest xs name r → Lowest (x ∷ xs) name (cond b (Some 0) (shifted r))
    lowest_head true r e low = (omega arith, (bytes_eq-Decides x name).0 e, λ k h. absurd (omega (arith, h)))
    lowest_head false (Some i) e low = (omega (arith, low.0), low.1, λ k. later k)
      where
        later : (k : ℕ) → k < suc i → get_or (x ∷ xs) k [] ≡ name → ⊥
        later zero h = not_from_Decides _ (bytes_eq-Decides x name) e
        later (suc k) h = low.2 k (omega (arith, h))
    lowest_head false None e low = later
      where
        later : (k : ℕ) → k < length (x ∷ xs) → get_or (x ∷ xs) k [] ≡ name → ⊥
        later zero h = not_from_Decides _ (bytes_eq-Decides x name) e
        later (suc k) h = low k (omega (arith, h))

pub lowest_at : (xs : List (List ℕ)) (name : List ℕ) (r : Option ℕ) → r ≡ place xs name → Lowest xs name r
lowest_at xs name r e = rw e (lowest_place xs name)

module _ (name : List ℕ) where
  abbrev bears : Name → Bool
  bears n = bytes_eq (name_bytes n) name

  position_place : (i : ℕ) (ns : List Name) → position_from bears i ns ≡ option_map (λ k. i + k) (place (map name_bytes ns) name)
  position_place i [] = refl
  position_place i (n ∷ ns) = head (bears n) (place (map name_bytes ns) name) (position_place (i + 1) ns)
    where
      head : (b : Bool) (r : Option ℕ) → position_from bears (i + 1) ns ≡ option_map (λ k. i + 1 + k) r → cond b (Some i) (position_from bears (i + 1) ns) ≡ option_map (λ k. i + k) (cond b (Some 0) (shifted r))
      head true r e = ap Some (omega arith)
      head false None e = e
      head false (Some k) e = e ∙ ap Some (omega arith)

  -- the first stored name that is this one has its place
  pub place_by_position : (ns : List Name) → position (λ n. bytes_eq (name_bytes n) name) ns ≡ place (map name_bytes ns) name
  place_by_position ns = position_from-zero bears ns ∙ position_place 0 ns ∙ zero_more (place (map name_bytes ns) name)
    where
      zero_more : (r : Option ℕ) → option_map (λ k. 0 + k) r ≡ r
      zero_more None = refl
      zero_more (Some k) = ap Some (omega arith)

pub few_names : (names : ArrayList Name 16) → length (stored names) ≤ 16
few_names names =
    omega (arith, names.fits, length-map (items names) name_bytes, length-take names.len names.places)

pub stored_push : (before : ArrayList Name 16) (n : Name) (after : ArrayList Name 16) → items after ≡ items before ++ n ∷ [] → stored after ≡ stored before ++ name_bytes n ∷ []
stored_push before n after e = ap (map name_bytes) e ∙ map_push name_bytes (items before) n

-- stored names keep the rule, each by its own invariant
pub stored_rule : (ns : List Name) → all_names (map name_bytes ns) ≡ true
stored_rule [] = refl
stored_rule (n ∷ ns) = and_from _ _ n.rule (stored_rule ns)
