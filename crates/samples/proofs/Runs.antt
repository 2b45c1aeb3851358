-- What a run that is written out comes to, by its book.
use Rattle.std.proofs.Common.{◌≡◌, ℕ, Bool, true, false, List, [], ◌∷◌, length, Some, None, Ok, Err, refl, ap, ◌∙◌}
use Rattle.automata.specs.Meaning.{Meaning, Moves, Rules}
use Rattle.automata.specs.declared.tag.Tag.{Tag}
use Rattle.base.specs.Book.{Terms, blank, course, drains, Nested}
use Rattle.base.specs.Courses.{Course, end_of, laid}
use Rattle.base.specs.History.{terms, draining, drained, begun}
use Rattle.base.specs.declared.run.Cause.TheVariants.{Refused}
use Rattle.base.proofs.Keeping.{keeps_its_book}
use Rattle.samples.specs.Runs.{Reads}
use Rattle.samples.specs.Samples.{going_back, between}

-- what the book says of all the tags
pub record Booked (t : Terms) (tags : List (Tag ℕ)) (picked : List ℕ) (opened : ℕ) (ended : Bool) : Type 0 where
  pub nested : Nested t blank tags
  pub picks : (course t blank tags).picks ≡ picked
  pub stop : (course t blank tags).stop ≡ None
  pub all_picks : (drains t blank tags).picked ≡ picked
  pub openings : (drains t blank tags).openings ≡ opened
  pub closed : (drains t blank tags).closed ≡ ended

-- and so of every run
pub reads_by : {S : Type 0} (m : Meaning S) (v : Moves S) → Rules m v → (s : S) (tags : List (Tag ℕ)) (picked : List ℕ) (openings : ℕ) (whole : Bool) → Booked (terms m s 65535) tags picked openings whole → Reads m v s tags picked openings whole
reads_by m v rules s tags picked openings whole b first last list list' after answer totals s' begins drain ends =
    let kept = (keeps_its_book m v rules s 65535 first begins (draining (record { waiting = tags; ending = None }) list after list' answer ∷ []) last totals s' (drained drain begun) ends (b.nested, tt)).0 in
    let report = kept.0 in
    let totalled = kept.1 in
    record {
      written = report.written ∙ ap (λ p. laid p list) b.picks;
      end = report.end ∙ stopped (course (terms m s 65535) blank tags) b.stop;
      picks = totalled.picks ∙ ap length b.all_picks;
      openings = totalled.openings ∙ b.openings;
      whole = totalled.whole ∙ b.closed;
    }
  where
    stopped : (c : Course) → c.stop ≡ None → end_of c None ≡ Ok tt
    stopped c e = ap (λ o. elim o [ None ↦ Ok tt | Some why ↦ Err (Refused why c.offered) ]) e

-- the terms of a run over three labels
abbrev pub of_three : (List ℕ → Bool) → Terms
of_three wants = record { limit = 65535; labels = 3; carry = 65535; wants = wants }

-- a closing between, and then a path that is wanted
pub back_booked : (wants : List ℕ → Bool) → wants (0 ∷ []) ≡ false → wants (0 ∷ 0 ∷ []) ≡ false → wants (0 ∷ 1 ∷ []) ≡ true → Booked (of_three wants) going_back (2 ∷ []) 3 false
back_booked wants root again below = record {
  nested = (tt, (tt, ((0 ∷ [], refl), (tt, tt))));
  picks = simp (root, again, below);
  stop = refl;
  all_picks = simp (root, again, below);
  openings = refl;
  closed = refl;
}

-- two children of the root that are wanted, with others before and in them
pub between_booked : (wants : List ℕ → Bool) → wants (0 ∷ []) ≡ false → wants (0 ∷ 2 ∷ []) ≡ false → wants (0 ∷ 1 ∷ []) ≡ true → wants (0 ∷ 1 ∷ 2 ∷ []) ≡ false → Booked (of_three wants) between (2 ∷ 4 ∷ []) 5 true
between_booked wants root other child below = record {
  nested = (tt, (tt, ((0 ∷ [], refl), (tt, (tt, ((0 ∷ 1 ∷ [], refl), ((0 ∷ [], refl), (tt, ((0 ∷ [], refl), (([], refl), tt))))))))));
  picks = simp (root, other, child, below);
  stop = refl;
  all_picks = simp (root, other, child, below);
  openings = refl;
  closed = refl;
}
