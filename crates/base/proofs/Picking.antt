-- A book picks exactly the elements whose path is wanted.
use Rattle.std.proofs.Common.{◌≡◌, ℕ, ◌+◌, ◌<◌, ◌≤◌, Bool, true, false, cond, ◌⊎◌, List, [], ◌∷◌, ◌++◌, length, get_or, Some, None, Option, sym, refl, ap, ◌∙◌, subst, inl, inr, ⊎_elim, append_assoc, append-nil, arith}
use Rattle.std.specs.List.{ContainsAt as Has}
use Rattle.std.proofs.lemmas.List.{get_or_append_left, get_or_push, length_push}
use Rattle.std.proofs.ByRecursion.{has_append_left, has_append_right, has_push, has_push_cases}
use Rattle.std.proofs.lemmas.Bool.{cases_lt, both_ways}
use Rattle.automata.specs.declared.tag.Tag.{Tag}
use Rattle.automata.specs.declared.tag.Tag.TheVariants.{Open, Close}
use Rattle.text.specs.declared.refusal.Refusal.{Refusal}
use Rattle.base.specs.Refusals.{refusal}
use Rattle.base.specs.Book.{Terms, Book, blank, judged, takes, drains}
use Rattle.base.specs.Picks.{opens, paths, Rises, PickedExactly}
use Rattle.base.specs.History.{Call, tags, last_book, all_paths}

rises_push : (n : ℕ) (xs : List ℕ) (y : ℕ) → Rises n xs → n ≤ y → ((e : ℕ) → Has xs e → e < y) → Rises n (xs ++ (y ∷ []))
rises_push n [] y r l below = (l, tt)
rises_push n (x ∷ xs) y r l below =
    let here : x < y = below x (0, omega arith, λ d. refl) in
    (r.0, rises_push (x + 1) xs y r.1 (omega arith) (λ e h. below e (has_append_right (x ∷ []) xs e h)))

module _ (t : Terms) where
  -- an element more, with the path w
  opened : (b : Book) (ws : List (List ℕ)) (a : ℕ) → PickedExactly t.wants ws b → PickedExactly t.wants (ws ++ (b.path ++ (a ∷ [])) ∷ []) (takes t b (Open a))
  opened b ws a h = go (t.wants w) refl
    where
      w : List ℕ
      w = b.path ++ (a ∷ [])

      more : length (ws ++ w ∷ []) ≡ length ws + 1
      more = length_push ws w

      old : (e : ℕ) → e < length ws → get_or (ws ++ w ∷ []) e [] ≡ get_or ws e []
      old e l = get_or_append_left ws (w ∷ []) [] e l

      new : (e : ℕ) → e ≡ length ws → get_or (ws ++ w ∷ []) e [] ≡ w
      new e l = get_or_push ws w [] e (sym l)

      Wanted : ℕ → Type 0
      Wanted e = (e < length (ws ++ w ∷ [])) × (t.wants (get_or (ws ++ w ∷ []) e []) ≡ true)

      was : (e : ℕ) → Has b.picked e → Wanted e
      was e k = let x = (h.exactly e).0 k in (omega (arith, x.0, more), ap t.wants (old e x.0) ∙ x.1)

      is : (e : ℕ) → Wanted e → Has b.picked e ⊎ ((e ≡ length ws) × (t.wants w ≡ true))
      is e k = ⊎_elim
          (λ l. inl ((h.exactly e).1 (l, ap t.wants (sym (old e l)) ∙ k.1)))
          (λ l. let last : e ≡ length ws = omega (arith, more, k.0) in inr (last, ap t.wants (sym (new e last)) ∙ k.1))
          (cases_lt e (length ws))

      go : (p : Bool) → t.wants w ≡ p → PickedExactly t.wants (ws ++ w ∷ []) (record { path = w; openings = b.openings + 1; picked = b.picked ++ cond p (b.openings ∷ []) []; closed = b.closed })
      go true e = record {
        openings = omega (arith, h.openings, more);
        once = rises_push 0 b.picked b.openings h.once (omega arith) (λ k l. omega (arith, h.openings, ((h.exactly k).0 l).0));
        exactly = λ k. (
          λ l. ⊎_elim (was k) (λ n. let last : k ≡ length ws = sym n ∙ h.openings in (omega (arith, more), ap t.wants (new k last) ∙ e)) (has_push_cases b.picked b.openings k l),
          λ l. ⊎_elim (has_append_left b.picked (b.openings ∷ []) k) (λ n. subst (Has (b.picked ++ b.openings ∷ [])) (h.openings ∙ sym n.0) (has_push b.picked b.openings)) (is k l),
        );
      }
      go false e = rw append-nil (record {
        openings = omega (arith, h.openings, more);
        once = h.once;
        exactly = λ k. (was k, λ l. ⊎_elim (λ o. o) (λ n. absurd (both_ways _ e n.1)) (is k l));
      })

  took : (b : Book) (ws : List (List ℕ)) (x : Tag ℕ) → PickedExactly t.wants ws b → PickedExactly t.wants (ws ++ opens b x) (takes t b x)
  took b ws (Open a) h = opened b ws a h
  took b ws (Close a) h = rw append-nil (record { openings = h.openings; once = h.once; exactly = h.exactly })

  drained : (b : Book) (ws : List (List ℕ)) (xs : List (Tag ℕ)) → PickedExactly t.wants ws b → PickedExactly t.wants (ws ++ paths t b xs) (drains t b xs)
  drained b ws [] h = rw append-nil h
  drained b ws (x ∷ xs) h = go (refusal (judged t b) x) (drained (takes t b x) (ws ++ opens b x) xs (took b ws x h))
    where
      go : (o : Option Refusal) → PickedExactly t.wants ((ws ++ opens b x) ++ paths t (takes t b x) xs) (drains t (takes t b x) xs) → PickedExactly t.wants (ws ++ elim o [ Some why ↦ [] | None ↦ opens b x ++ paths t (takes t b x) xs ]) (elim o [ Some why ↦ b | None ↦ drains t (takes t b x) xs ])
      go (Some why) on = rw append-nil h
      go None on = rw append_assoc at on

  called : (b : Book) (ws : List (List ℕ)) (calls : List Call) → PickedExactly t.wants ws b → PickedExactly t.wants (ws ++ all_paths t b calls) (last_book t b calls)
  called b ws [] h = rw append-nil h
  called b ws (call ∷ calls) h = rw (← append_assoc) (called (drains t b (tags call)) (ws ++ paths t b (tags call)) calls (drained b ws (tags call) h))

  none : PickedExactly t.wants [] blank
  none = record { openings = refl; once = tt; exactly = λ e. (λ k. absurd (omega (arith, k.1)), λ k. absurd (omega (arith, k.0))) }

pub picked_exactly : (t : Terms) (calls : List Call) → PickedExactly t.wants (all_paths t blank calls) (last_book t blank calls)
picked_exactly t calls = called t blank [] calls (none t)
