-- One more set under a number, and one more target in a row.
use Rattle.std.proofs.Common.{◌≡◌, ℕ, suc, ◌+◌, ◌<◌, ◌≤◌, Bool, max, List, [], ◌∷◌, ◌++◌, length, get_or, set, Decides, sym, refl, ap, ◌∙◌, subst, ⊎_elim, add-one, arith, below_more}
use Rattle.std.proofs.lemmas.List.{get_or-set_same, get_or-set_other, get_or_append_left, get_or_push, length_push}
use Rattle.std.proofs.lemmas.Bool.{cases_lt}
use Rattle.paths.specs.declared.path.Step.{Step}
use Rattle.automata.specs.Numbering.{met_in_row}
use Rattle.paths.specs.Positions.{Holds, Moved}
use Rattle.paths.specs.Sets.{Numbered, known, added, Full}
use Rattle.paths.specs.Scans.{Row, Stuck}
use Rattle.automata.proofs.Meeting.{row_grows, row_meets, row_same}

-- below n, a list with x written at n is as it was
written_below : {X : Type 0} (xs : List X) (n k : ℕ) (x d : X) → k < n → get_or (set xs n x) k d ≡ get_or xs k d
written_below xs n k x d h = get_or-set_other xs n k x d (λ e. omega arith)

-- a set that is given its number: what was met stays, and the number is at most the next
record Kept (old : List ℕ) (set : ℕ) (new : List ℕ) (q : ℕ) : Type 0 where
  kept : (p : ℕ) → p < length old → get_or new p 0 ≡ get_or old p 0
  named : get_or new q 0 ≡ set
  next : q ≤ length old
  counts : length new ≡ max (length old) (suc q)

kept_by : (old : List ℕ) (set : ℕ) (new : List ℕ) (q : ℕ) → Numbered old set new q → Kept old set new q
kept_by old set new q (known within is same) = record { kept = λ p h. ap (λ xs. get_or xs p 0) same; named = ap (λ xs. get_or xs q 0) same ∙ is; next = omega arith; counts = omega (arith, ap length same) }
kept_by old set new q (added e grown) = record {
  kept = λ p h. ap (λ xs. get_or xs p 0) grown ∙ get_or_append_left old (set ∷ []) 0 p h;
  named = ap (λ xs. get_or xs q 0) grown ∙ ap (λ k. get_or (old ++ set ∷ []) k 0) e ∙ get_or_push old set 0 (length old) refl;
  next = omega arith;
  counts = omega (arith, ap length grown, length_push old set);
}

module _ (steps : List Step) (from : ℕ) (old : List ℕ) where
  pub row_more : (a : ℕ) (row met : List ℕ) (x : ℕ) (new : List ℕ) (q : ℕ) → a < length row → Row steps from old a row met → Moved steps a from x → Numbered met x new q → Row steps from old (a + 1) (set row a q) new
  row_more a row met x new q room h moved numbered = record {
    kept = λ p k. num.kept p (omega (arith, grows)) ∙ h.kept p k;
    moves = below_more (λ b. Moved steps b from (get_or new (get_or (set row a q) b 0) 0)) a
        (λ b k. subst (Moved steps b from) (sym (num.kept (get_or row b 0) (within b k)) ∙ ap (λ t. get_or new t 0) (sym (other b k))) (h.moves b k))
        (subst (Moved steps a from) (sym num.named ∙ ap (λ t. get_or new t 0) (sym here)) moved);
    next = below_more (λ b. get_or (set row a q) b 0 ≤ met_in_row (λ c. get_or (set row a q) c 0) (length old) b) a
        (λ b k. omega (arith, other b k, h.next b k, same b (omega arith)))
        (omega (arith, here, same a (omega arith), h.counts, num.next));
    counts = num.counts ∙ (λ i. max ((h.counts ∙ sym (same a (omega arith))) i) (suc (sym here i))) ∙ ap (met_in_row (λ c. get_or (set row a q) c 0) (length old)) (sym (add-one a));
    led = λ r k j. ⊎_elim
        (λ (less : r < length met). let o = h.led r k less in (o.0, omega (arith, o.1), subst (Moved steps o.0 from) (sym (num.kept r less)) o.2))
        (λ (past : length met ≤ r). let e : q ≡ r = omega (arith, num.next, num.counts) in (a, omega arith, subst (Moved steps a from) (sym num.named ∙ ap (λ t. get_or new t 0) e) moved))
        (cases_lt r (length met));
  }
    where
      num : Kept met x new q
      num = kept_by met x new q numbered

      other : (b : ℕ) → b < a → get_or (set row a q) b 0 ≡ get_or row b 0
      other b k = written_below row a b q 0 k

      here : get_or (set row a q) a 0 ≡ q
      here = get_or-set_same row a q 0 room

      same : (b : ℕ) → b ≤ a → met_in_row (λ c. get_or (set row a q) c 0) (length old) b ≡ met_in_row (λ c. get_or row c 0) (length old) b
      same b k = row_same (λ c. get_or (set row a q) c 0) (λ c. get_or row c 0) (length old) (length old) b refl (λ c j. other c (omega arith))

      grows : length old ≤ length met
      grows = omega (arith, row_grows (λ c. get_or row c 0) (length old) a, h.counts)

      within : (b : ℕ) → b < a → get_or row b 0 < length met
      within b k = omega (arith, row_meets (λ c. get_or row c 0) (length old) a b k, h.counts)

  -- only the first a targets count
  pub row_as : (a : ℕ) (row other met : List ℕ) → ((b : ℕ) → b < a → get_or other b 0 ≡ get_or row b 0) → Row steps from old a row met → Row steps from old a other met
  row_as a row other met is h = record {
    kept = h.kept;
    moves = λ b k. subst (λ t. Moved steps b from (get_or met t 0)) (sym (is b k)) (h.moves b k);
    next = λ b k. omega (arith, is b k, h.next b k, same b (omega arith));
    counts = h.counts ∙ sym (same a (omega arith));
    led = h.led;
  }
    where
      same : (b : ℕ) → b ≤ a → met_in_row (λ c. get_or other c 0) (length old) b ≡ met_in_row (λ c. get_or row c 0) (length old) b
      same b k = row_same (λ c. get_or other c 0) (λ c. get_or row c 0) (length old) (length old) b refl (λ c j. is c (omega arith))

-- a row that leads to one set too many leaves the sets as they are
pub stuck_at : (steps : List Step) (labels from : ℕ) (old : List ℕ) (label : ℕ) (row met after : List ℕ) (over : ℕ) → label < labels → Row steps from old label row met → Moved steps label from over → Full met over → after ≡ met → Stuck steps labels from old after
stuck_at steps labels from old label row met after over before scanned leads full same =
    subst (Stuck steps labels from old) (sym same) (record { label = label; row = row; over = over; before = before; scanned = scanned; leads = leads; full = full })

-- where a label leads, and what is said, by equal steps from an equal set
pub led_by : (steps others : List Step) (a from set x : ℕ) → others ≡ steps → from ≡ set → Moved others a from x → Moved steps a set x
led_by steps others a from set x e is h = subst (λ ss. Moved ss a set x) e (subst (λ m. Moved others a m x) is h)

pub says_by : (steps others : List Step) (from set : ℕ) (b : Bool) → others ≡ steps → from ≡ set → Decides b (Holds from (length others)) → Decides b (Holds set (length steps))
says_by steps others from set b e is h = subst (λ ss. Decides b (Holds set (length ss))) e (subst (λ m. Decides b (Holds m (length others))) is h)
