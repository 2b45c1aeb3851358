-- What the decimal text of a number below 256 looks like.
use Rattle.std.proofs.Common.{◌≡◌, ℕ, ◌+◌, ◌-◌, ◌*◌, ◌^◌, ◌<◌, ◌≤◌, List, length, get_or, take, decimal, Ok, Err, Result, sym, ap, ◌∙◌, subst, ⊎_elim, arith}
use Rattle.std.specs.Result.{OkIff, result_ok}
use Rattle.std.specs.Str.Parse.{AllDigits, digits_value}
use Rattle.std.specs.Int.{IsInRange}
use Rattle.std.specs.Char.{digit_value}
use Rattle.std.proofs.lemmas.Fmt.{decimal_is_IsNumeral, decimal_digit, decimal_nonempty, first_decimal, length-decimal-le, decimal-digits_value}
use Rattle.std.proofs.lemmas.Int.Digits.{digits_more, digits_value_more}
use Rattle.std.proofs.lemmas.List.{length-take-le, take_all}
use Rattle.std.proofs.lemmas.Str.Parse.{IsNumeralModel, numerals_by_value, tells_digits, digit_at, digits_value_short}
use Rattle.text.specs.Numbers.{Number}
use Rattle.std.proofs.lemmas.Bool.{cond-true, cond-false, lt-ltb, le-ltb, cases_lt}

own : IsNumeralModel (AllDigits 10) (digits_value 10)
own = numerals_by_value (AllDigits 10) tells_digits

digit_is : (c : ℕ) → 48 ≤ c → c ≤ 57 → digit_value c ≡ c - 48
digit_is c low high = cond-false _ _ _ (le-ltb _ _ low) ∙ cond-true _ _ _ (lt-ltb c 58 (omega arith))

-- the field is the decimal text of n
pub record Written (field : List ℕ) (n : ℕ) : Type 0 where
  pub some : 0 < length field
  pub few : length field ≤ 3
  pub digit : (i : ℕ) → i < length field → IsInRange 48 57 (get_or field i 0)
  pub total : digits_value 10 field ≡ n
  pub lead : get_or field 0 0 ≡ 48 → length field ≤ 1

written_decimal : (n : ℕ) → n < 256 → Written (decimal n) n
written_decimal n small = record {
  some = decimal_nonempty n (omega arith);
  few = length-decimal-le 3 n (omega arith) (omega arith) (omega arith);
  digit = λ i h. digit_at (decimal n) i (decimal_is_IsNumeral n (omega arith)).0.1 h;
  total = (decimal_is_IsNumeral n (omega arith)).1;
  lead = λ zero.
      ⊎_elim
      (λ (h : 0 < n). absurd (omega (arith, zero, first_decimal n h (omega arith))))
      (λ (h : n ≤ 0). omega (arith, ap length (decimal_digit n (omega arith))))
      (cases_lt 0 n);
}

pub written : (field : List ℕ) (n : ℕ) → n < 256 → field ≡ decimal n → Written field n
written field n small e = subst (λ s. Written s n) (sym e) (written_decimal n small)

-- the digits up to i write n
abbrev pub Read : List ℕ → ℕ → ℕ → Type 0
Read field i n = AllDigits 10 (take i field) × (n ≡ digits_value 10 (take i field))

pub read_small : (field : List ℕ) (i n : ℕ) → length field ≤ 3 → i < length field → Read field i n → n < 100
read_small field i n short h r =
    omega (arith, r.1, digits_value_short own (take i field) 2 r.0 (omega (arith, length-take-le i field (omega arith))))

pub read_more : (field : List ℕ) (i n : ℕ) → i < length field → 48 ≤ get_or field i 0 → get_or field i 0 ≤ 57 → Read field i n → Read field (i + 1) (n * 10 + (get_or field i 0 - 48))
read_more field i n h low high r =
    let d = digit_is (get_or field i 0) low high in
    (digits_more 10 field i h r.0 (omega arith), omega (arith, r.1, digits_value_more 10 field i h))

pub read_all : (field : List ℕ) (i n : ℕ) → length field ≤ i → Read field i n → AllDigits 10 field × (n ≡ digits_value 10 field)
read_all field i n h r = rw take_all at r

pub read_decimal : (field : List ℕ) (i n : ℕ) → length field ≤ i → Read field i n → 0 < length field → (get_or field 0 0 ≡ 48 → length field ≡ 1) → n ≤ 255 → field ≡ decimal n
read_decimal field i n h r some zero small =
    let whole = read_all field i n h r in
    let below : digits_value 10 field < 2 ^ 64 = omega (arith, whole.1) in
    sym (decimal-digits_value own field whole.0 some zero below) ∙ ap decimal (sym whole.1)

-- the number that was read, where it fits a byte
pub number_by : {E : Type 0} (field : List ℕ) (n : ℕ) (r : Result ℕ E) → OkIff r (n < 256) n → (n ≤ 255 → field ≡ decimal n) → ((m : ℕ) → m < 256 → field ≡ decimal m → n ≡ m) → Number field (result_ok r)
number_by field n (Ok x) fits writes one = rw fits.1 (writes (omega (arith, fits.0)))
number_by field n (Err e) large writes one = λ m small e'. large (omega (arith, one m small e', small))
