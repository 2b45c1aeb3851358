-- A run of one drain is the book's, and so with any terms that agree.
use Rattle.std.proofs.Common.{◌≡◌, ℕ, ◌-◌, ◌<◌, List, [], ◌∷◌, ◌++◌, length, take, drop, Some, None, Option, sym, refl, ap, ◌∙◌, subst, ap₂, append-nil, arith, take-append-drop}
use Rattle.std.proofs.lemmas.Bool.Decides.{nat_tests}
use Rattle.automata.specs.Automata.{Word}
use Rattle.automata.specs.Meaning.{Meaning, Moves}
use Rattle.automata.specs.declared.tag.Tag.{Tag}
use Rattle.automata.specs.declared.tag.Tag.TheVariants.{Open, Close}
use Rattle.automata.proofs.Words.{word_append, word_parts}
use Rattle.text.specs.declared.refusal.Refusal.{Refusal}
use Rattle.base.specs.Book.{Terms, Book, blank, judged, taking, takes, course, drains, Nested}
use Rattle.base.specs.Courses.{picked, onward, end_of, laid}
use Rattle.base.specs.History.{Totalled, KeepsItsBook, draining, drained, begun, terms}
use Rattle.base.specs.Picks.{PickedExactly, paths}
use Rattle.base.specs.Promises.{DrainPromise, EndPromise}
use Rattle.base.specs.Refusals.{Standing, refusal}
use Rattle.base.specs.Sources.{Source}
use Rattle.base.specs.declared.run.Drained.{Drained}
use Rattle.base.specs.declared.run.Run.{Run}
use Rattle.base.specs.declared.run.Taken.TheVariants.{Opened as TakenOpened}
use Rattle.base.proofs.Picking.{picked_exactly}
use Rattle.choosing.specs.Readings.{Booked}
use Rattle.choosing.specs.declared.reading.Reading.{Reading}

-- the elements that the book picks of one drain
one_drain : (t : Terms) (source : Source) (list : List ℕ) (answer : Drained) → PickedExactly t.wants (paths t blank source.waiting) (drains t blank source.waiting)
one_drain t source list answer = subst (λ ps. PickedExactly t.wants ps (drains t blank source.waiting)) (append-nil (paths t blank source.waiting)) (picked_exactly t (draining source list source list answer ∷ []))

pub booked : {S : Type 0} (m : Meaning S) (v : Moves S) (s : S) (limit : ℕ) (first last : Run S) (source after : Source) (list list' : List ℕ) (r : Reading) (s' : S) → KeepsItsBook m v s limit first → DrainPromise m v first source list last after list' r.drained → EndPromise last r.totals s' → Nested (terms m s limit) blank source.waiting → Booked (terms m s limit) source list list' r
booked m v s limit first last source after list list' r s' keeps drain ends nested =
    let kept = keeps (draining source list after list' r.drained ∷ []) last r.totals s' (drained drain begun) ends (nested, tt) in
    let report = kept.0.0 in
    record {
      offered = report.offered;
      picks = report.picks;
      end = report.end;
      written = report.written;
      totalled = kept.0.1;
      exactly = one_drain (terms m s limit) source list r.drained;
    }

-- the same bounds, and the same wants of lists of labels
pub record Agree (t u : Terms) : Type 0 where
  pub limit : t.limit ≡ u.limit
  pub labels : t.labels ≡ u.labels
  pub carry : t.carry ≡ u.carry
  pub wants : (w : List ℕ) → Word u.labels w → t.wants w ≡ u.wants w

labelled : (s : Standing) (a : ℕ) → refusal s (Open a) ≡ None → a < s.labels
labelled s a e = grind (arith, nat_tests)

-- the books with both terms fare alike
record Alike (t u : Terms) (b : Book) (xs : List (Tag ℕ)) : Type 0 where
  pub fares : course t b xs ≡ course u b xs
  pub ends : drains t b xs ≡ drains u b xs
  pub nested : Nested u b xs → Nested t b xs

module _ (t u : Terms) (agree : Agree t u) where
  judged_same : (b : Book) → judged t b ≡ judged u b
  judged_same b = λ i. record {
    limit = agree.limit i;
    labels = agree.labels i;
    carry = agree.carry i;
    depth = length b.path;
    openings = b.openings;
    closed = b.closed;
  }

  taking_same : (b : Book) (x : Tag ℕ) → Word u.labels b.path → refusal (judged u b) x ≡ None → taking t b x ≡ taking u b x
  taking_same b (Open a) w e = ap (λ p. TakenOpened (record { element = b.openings; picked = p })) (agree.wants _ (word_append u.labels b.path (a ∷ []) w (labelled (judged u b) a e, tt)))
  taking_same b (Close a) w e = refl

  takes_same : (b : Book) (x : Tag ℕ) → Word u.labels b.path → refusal (judged u b) x ≡ None → takes t b x ≡ takes u b x
  takes_same b (Open a) w e = ap (λ d. record { path = b.path ++ (a ∷ []); openings = (takes t b (Open a)).openings; picked = b.picked ++ picked d; closed = b.closed }) (taking_same b (Open a) w e)
  takes_same b (Close a) w e = refl

  takes_word : (b : Book) (x : Tag ℕ) → Word u.labels b.path → refusal (judged u b) x ≡ None → Word u.labels (takes u b x).path
  takes_word b (Open a) w e = word_append u.labels b.path (a ∷ []) w (labelled (judged u b) a e, tt)
  takes_word b (Close a) w e =
      let n = length b.path - 1 in
      (word_parts u.labels (take n b.path) (drop n b.path) (subst (Word u.labels) (sym (take-append-drop n b.path)) w)).0

  alike : (b : Book) (xs : List (Tag ℕ)) → Word u.labels b.path → Alike t u b xs
  alike b [] w = record { fares = refl; ends = refl; nested = λ n. n }
  alike b (x ∷ xs) w = go (refusal (judged u b) x) refl (λ e. alike (takes u b x) xs (takes_word b x w e))
    where
      go : (o : Option Refusal) → refusal (judged u b) x ≡ o → (refusal (judged u b) x ≡ None → Alike t u (takes u b x) xs) → Alike t u b (x ∷ xs)
      go (Some why) e rest =
          let e' : refusal (judged t b) x ≡ Some why = ap (λ s. refusal s x) (judged_same b) ∙ e in
          record { fares = rw (e, e', course); ends = rw (e, e', drains); nested = rw (e, e', Nested) (λ n. n) }
      go None e rest =
          let e' : refusal (judged t b) x ≡ None = ap (λ s. refusal s x) (judged_same b) ∙ e in
          let same = takes_same b x w e in
          let on = rest e in
          record {
            fares = rw (e, e', course) (ap₂ (λ d c. onward (picked d) c) (taking_same b x w e) (ap (λ k. course t k xs) same ∙ on.fares));
            ends = rw (e, e', drains) (ap (λ k. drains t k xs) same ∙ on.ends);
            nested = rw (e, e', Nested) (λ n. (n.0, subst (λ k. Nested t k xs) (sym same) (on.nested n.1)));
          }

-- so what is the book's with the one is the book's with the other
pub agreed_so : (t u : Terms) → Agree t u → (source : Source) (list list' : List ℕ) (r : Reading) → (Nested t blank source.waiting → Booked t source list list' r) → Nested u blank source.waiting → Booked u source list list' r
agreed_so t u agree source list list' r law nested =
    let same = alike t u agree blank source.waiting tt in
    let by = law (same.nested nested) in
    record {
      offered = by.offered ∙ ap (λ c. c.offered) same.fares;
      picks = by.picks ∙ ap (λ c. length c.picks) same.fares;
      end = by.end ∙ ap (λ c. end_of c source.ending) same.fares;
      written = by.written ∙ ap (λ c. laid c.picks list) same.fares;
      totalled = subst (λ b. Totalled b r.totals) same.ends by.totalled;
      exactly = one_drain u source list r.drained;
    }
