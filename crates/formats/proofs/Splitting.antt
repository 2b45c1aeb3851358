-- Pieces put together again, and what stands before a separator.
use Rattle.std.proofs.Common.{◌≡◌, ℕ, suc, ◌<◌, Bool, true, false, cond, eqb, List, [], ◌∷◌, ◌++◌, length, decimal, sym, refl, ap, ◌∙◌, arith}
use Rattle.std.proofs.lemmas.Fmt.{decimal_injective}
use Rattle.std.proofs.lemmas.Bool.{eq-eqb, ne_eqb, eqb-true, cond-true, cond-false}
use Rattle.text.specs.Pieces.{Pieces, last, next, begin, split}
use Rattle.text.proofs.Decimal.{written}
use Rattle.text.proofs.Splitting.{Clear}
use Rattle.formats.specs.Forms.{number_form}
use Rattle.formats.specs.Reading.{Found, Missing}

module _ (sep : ℕ) where
  -- the pieces with the separators between them
  abbrev pub rejoined : Pieces → List ℕ
  rejoined (last x) = x
  rejoined (next x ps) = x ++ sep ∷ rejoined ps

  rejoined_begin : (b : ℕ) (ps : Pieces) → rejoined (begin b ps) ≡ b ∷ rejoined ps
  rejoined_begin b (last x) = refl
  rejoined_begin b (next x ps) = refl

  pub rejoined_split : (s : List ℕ) → rejoined (split sep s) ≡ s
  rejoined_split [] = refl
  rejoined_split (b ∷ s) =
      let P : Bool → Type 0 = λ t. eqb b sep ≡ t → rejoined (cond t (next [] (split sep s)) (begin b (split sep s))) ≡ b ∷ s in
      (elim (eqb b sep) as P [
        | true ↦ λ e. let same = eqb-true b sep e in cc (rejoined_split s)
        | false ↦ λ e. rejoined_begin b (split sep s) ∙ ap (λ t. b ∷ t) (rejoined_split s)
      ]) refl

  pub front_is : (s x rest : List ℕ) → split sep s ≡ next x (split sep rest) → s ≡ x ++ sep ∷ rest
  front_is s x rest e = sym (rejoined_split s) ∙ ap rejoined e ∙ ap (λ t. x ++ sep ∷ t) (rejoined_split rest)

  split_front : (x rest : List ℕ) → Clear sep x (length x) → split sep (x ++ sep ∷ rest) ≡ next x (split sep rest)
  split_front [] rest h = cond-true _ _ _ (eq-eqb sep sep refl)
  split_front (b ∷ x) rest h =
      cond-false _ _ _ (ne_eqb b sep (h 0 (omega arith))) ∙ ap (begin b) (split_front x rest (λ k l. h (suc k) (omega arith)))

  -- there is one way to cut before the first separator
  pub front_only : (s x y rest tail : List ℕ) → split sep s ≡ next y (split sep rest) → Clear sep x (length x) → s ≡ x ++ sep ∷ tail → (x ≡ y) × (tail ≡ rest)
  front_only s x y rest tail e h at =
      let same : next x (split sep tail) ≡ next y (split sep rest) = sym (split_front x tail h) ∙ ap (split sep) (sym at) ∙ e in
      let pieces : split sep tail ≡ split sep rest = cc in
      (cc, sym (rejoined_split tail) ∙ ap rejoined pieces ∙ rejoined_split rest)

  begin_last : (b : ℕ) (ps : Pieces) (z : List ℕ) → begin b ps ≡ last z → (y : List ℕ) × (ps ≡ last y)
  begin_last b (last x) z e = (x, refl)
  begin_last b (next x ps) z e = absurd (let no : ◌≡◌ {A = ℕ} 0 1 = cc in omega arith)

  -- a text with a separator has more than one piece
  pub not_last : (x tail z : List ℕ) → split sep (x ++ sep ∷ tail) ≡ last z → ⊥
  not_last [] tail z e =
      let first : split sep (sep ∷ tail) ≡ next [] (split sep tail) = cond-true _ _ _ (eq-eqb sep sep refl) in
      let no : ◌≡◌ {A = ℕ} 0 1 = cc in omega arith
  not_last (b ∷ x) tail z e =
      (elim (eqb b sep) as (λ t. cond t (next [] (split sep (x ++ sep ∷ tail))) (begin b (split sep (x ++ sep ∷ tail))) ≡ last z → ⊥) [
        | true ↦ λ e. let no : ◌≡◌ {A = ℕ} 0 1 = cc in omega arith
        | false ↦ λ e. let rest = begin_last b (split sep (x ++ sep ∷ tail)) z e in not_last x tail rest.0 rest.1
      ]) e

-- a decimal text has no byte below the digits
clear_decimal : (end n : ℕ) → end < 48 → n < 256 → Clear end (decimal n) (length (decimal n))
clear_decimal end n low small k l e = omega (arith, ((written (decimal n) n small refl).digit k l).0)

module _ (end : ℕ) (low : end < 48) (s field rest : List ℕ) (cut : split end s ≡ next field (split end rest)) where
  pub number_found : (n : ℕ) → n < 256 → field ≡ decimal n → Found (number_form end) s (λ m. m ≡ n) rest
  number_found n small e = record {
    written = λ m same. front_is end s field rest cut ∙ ap (λ x. x ++ end ∷ rest) (e ∙ ap decimal (sym same));
    only = λ m tail h at.
        let parts = front_only end s (decimal m) field rest tail cut (clear_decimal end m low h) at in
        (decimal_injective m n (omega arith) (omega arith) (parts.0 ∙ e), parts.1);
  }

  pub number_missing : ((n : ℕ) → n < 256 → field ≡ decimal n → ⊥) → Missing (number_form end) s
  number_missing none m tail h at =
      none m h (sym (front_only end s (decimal m) field rest tail cut (clear_decimal end m low h) at).0)
