-- What a drain keeps true from tag to tag.
use Rattle.std.proofs.Common.{◌≡◌, ℕ, ◌+◌, ◌*◌, ◌<◌, ◌≤◌, Bool, true, false, cond, ltb, List, [], ◌∷◌, ◌++◌, length, set, Some, None, Ok, Err, Option, sym, refl, ap, ◌∙◌, subst, ap₂, append_assoc, append-nil, add-zero, add_assoc, arith, length-append}
use Rattle.std.proofs.lemmas.Bool.Decides.{nat_tests}
use Rattle.automata.specs.Meaning.{Meaning, Moves}
use Rattle.base.specs.Sources.{Source, end_of, first_of, rest_of}
use Rattle.base.specs.Refusals.{Standing, refusal}
use Rattle.base.specs.Courses.{Course, picked, still, stopped, onward, ended, laid}
use Rattle.base.specs.Promises.{standing, OfferPromise, Drains, DrainPromise}
use Rattle.base.specs.Promises.Drains.{none, refused, taken}
use Rattle.automata.specs.declared.tag.Tag.{Tag}
use Rattle.automata.specs.declared.tag.Tag.TheVariants.{Open, Close}
use Rattle.text.specs.declared.refusal.Refusal.{Refusal}
use Rattle.base.specs.declared.source.Fault.{Fault}
use Rattle.base.specs.declared.run.Cause.TheVariants.{Refused}
use Rattle.base.specs.declared.run.Taken.{Taken}
use Rattle.base.specs.declared.run.Taken.TheVariants.{Opened as TakenOpened, Closed as TakenClosed}
use Rattle.base.specs.declared.run.Run.{Run}

-- n taken tags, with their picks, before the course c
abbrev pub behind : ℕ → List ℕ → Course → Course
behind n p c = record { offered = n + c.offered; picks = p ++ c.picks; rest = c.rest; stop = c.stop }

-- after some turns: what drains the rest from here has drained it all
pub record Sofar {S : Type 0} (m : Meaning S) (v : Moves S) (first : Run S) (source : Source) (list : List ℕ) (r : Run S) (left : Source) (list_now : List ℕ) (offered picks : ℕ) : Type 0 where
  pub picked : List ℕ
  pub count : picks ≡ length picked
  pub written : list_now ≡ laid picked list
  pub ending : left.ending ≡ source.ending
  pub onto : (last : Run S) (c : Course) → Drains m v r left.waiting last c → Drains m v first source.waiting last (behind offered picked c)
  -- each element opens once and closes once
  pub turns : offered + r.depth + 2 * first.openings ≡ first.depth + 2 * r.openings
  pub within : picks + first.openings ≤ r.openings

-- one number more over the list
pub laid_more : (xs ys : List ℕ) (x : ℕ) → laid (xs ++ (x ∷ [])) ys ≡ cond (ltb (length xs) (length (laid xs ys))) (set (laid xs ys) (length xs) x) (laid xs ys)
laid_more [] [] x = refl
laid_more [] (y ∷ ys) x = grind (arith, nat_tests)
laid_more (z ∷ xs) [] x = grind (arith, nat_tests)
laid_more (z ∷ xs) (y ∷ ys) x = let more = laid_more xs ys x in grind (arith, nat_tests)

gave_tag : (s : Source) (x : Tag ℕ) → Ok (Some x) ≡ first_of s → s.waiting ≡ x ∷ (rest_of s).waiting
gave_tag s x e = go s.waiting s.ending e
  where
    go : (w : List (Tag ℕ)) (n : Option Fault) → Ok (Some x) ≡ first_of (record { waiting = w; ending = n }) → w ≡ x ∷ (rest_of (record { waiting = w; ending = n })).waiting
    go [] None e = cc
    go [] (Some fault) e = cc
    go (y ∷ w) n e = cc

-- how a drain ends with the source
pub gave_end : (s : Source) (e : Option Fault) → end_of e ≡ first_of s → (s.waiting ≡ []) × (e ≡ s.ending)
gave_end s e gave = go s.waiting s.ending e gave
  where
    go : (w : List (Tag ℕ)) (m e : Option Fault) → end_of e ≡ first_of (record { waiting = w; ending = m }) → (w ≡ []) × (e ≡ m)
    go [] None None h = (refl, refl)
    go [] None (Some fault) h = cc
    go [] (Some fault) None h = cc
    go [] (Some fault) (Some other) h = (refl, cc)
    go (y ∷ w) m None h = cc
    go (y ∷ w) m (Some other) h = cc

few : (did : Taken) → length (picked did) ≤ 1
few (TakenOpened o) = go o.picked
  where
    go : (b : Bool) → length (cond b (o.element ∷ []) []) ≤ 1
    go true = omega arith
    go false = omega arith
few (TakenClosed n) = omega arith

not_shallow : (s : Standing) (a : ℕ) → refusal s (Close a) ≡ None → 0 < s.depth
not_shallow s a e = grind (arith, nat_tests)

module _ {S : Type 0} (m : Meaning S) (v : Moves S) where
  -- a taken tag opens an element or closes one
  counts : (r r' : Run S) (x : Tag ℕ) (did : Taken) → OfferPromise m v r x r' (Ok did) → (1 + r'.depth + 2 * r.openings ≡ r.depth + 2 * r'.openings) × (length (picked did) + r.openings ≤ r'.openings)
  counts r r' (Open a) (TakenOpened o) h =
      let opens = h.1 in
      let short = few (TakenOpened o) in
      (omega arith, omega arith)
  counts r r' (Open a) (TakenClosed n) h = absurd h
  counts r r' (Close a) (TakenOpened o) h = absurd h
  counts r r' (Close a) (TakenClosed n) h =
      let closes = h.1 in
      let deep : 0 < r.depth = not_shallow (standing m r) a h.0 in
      (omega arith, omega arith)

  more : {first : Run S} {source : Source} {list : List ℕ} {r : Run S} {left : Source} {list_now : List ℕ} {n k : ℕ}
      (r' : Run S) (x : Tag ℕ) (did : Taken) (left' : Source) (list' : List ℕ) →
      Sofar m v first source list r left list_now n k →
      Ok (Some x) ≡ first_of left → left' ≡ rest_of left → OfferPromise m v r x r' (Ok did) →
      ((q : List ℕ) → k ≡ length q → list_now ≡ laid q list → list' ≡ laid (q ++ picked did) list) →
      Sofar m v first source list r' left' list' (n + 1) (k + length (picked did))
  more {first} {source} {list} {r} {left} {list_now} {n} {k} r' x did left' list' so gave rest h writes =
      let count = counts r r' x did h in
      record {
        picked = so.picked ++ picked did;
        count = ap (λ d. d + length (picked did)) so.count ∙ sym (length-append so.picked (picked did));
        written = writes so.picked so.count so.written;
        ending = ap (λ s. s.ending) rest ∙ so.ending;
        onto = λ last c d. subst (Drains m v first source.waiting last) (regroup so.picked (picked did) c)
            (so.onto last (onward (picked did) c)
            (subst (λ w. Drains m v r w last (onward (picked did) c)) (ap (λ w. x ∷ w.waiting) rest ∙ sym (gave_tag left x gave)) (taken did h d)));
        turns = omega arith;
        within = omega arith;
      }
    where
      regroup : (q p : List ℕ) (c : Course) → behind n q (onward p c) ≡ behind (n + 1) (q ++ p) c
      regroup q p c = λ i. record {
        offered = sym (add_assoc n 1 c.offered) i;
        picks = sym (append_assoc q p c.picks) i;
        rest = c.rest;
        stop = c.stop;
      }

  pub more_picked : {first : Run S} {source : Source} {list : List ℕ} {r : Run S} {left : Source} {list_now : List ℕ} {n k : ℕ}
      (r' : Run S) (x : Tag ℕ) (did : Taken) (e : ℕ) (left' : Source) (list' : List ℕ) →
      Sofar m v first source list r left list_now n k →
      Ok (Some x) ≡ first_of left → left' ≡ rest_of left → OfferPromise m v r x r' (Ok did) → picked did ≡ e ∷ [] →
      list' ≡ cond (ltb k (length list_now)) (set list_now k e) list_now →
      Sofar m v first source list r' left' list' (n + 1) (k + 1)
  more_picked {first} {source} {list} {r} {n = n} {k = k} r' x did e left' list' so gave rest h is put =
      subst (λ p. Sofar m v first source list r' left' list' (n + 1) (k + length p)) is
      (more r' x did left' list' so gave rest h
      (λ q count written. put ∙ ap₂ (λ k ys. cond (ltb k (length ys)) (set ys k e) ys) count written ∙ sym (laid_more q list e) ∙ ap (λ p. laid (q ++ p) list) (sym is)))

  pub more_passed : {first : Run S} {source : Source} {list : List ℕ} {r : Run S} {left : Source} {list_now : List ℕ} {n k : ℕ}
      (r' : Run S) (x : Tag ℕ) (did : Taken) (left' : Source) →
      Sofar m v first source list r left list_now n k →
      Ok (Some x) ≡ first_of left → left' ≡ rest_of left → OfferPromise m v r x r' (Ok did) → picked did ≡ [] →
      Sofar m v first source list r' left' list_now (n + 1) k
  more_passed {first} {source} {list} {r} {left} {list_now} {n} {k} r' x did left' so gave rest h is =
      subst (Sofar m v first source list r' left' list_now (n + 1)) (ap (λ p. k + length p) is ∙ add-zero k)
      (more r' x did left' list_now so gave rest h
      (λ q count written. written ∙ ap (λ q. laid q list) (sym (ap (λ p. q ++ p) is ∙ append-nil q))))

  pub ended_so : {first : Run S} {source : Source} {list : List ℕ} {r : Run S} {left : Source} {list_now : List ℕ} {n k : ℕ}
      (left' : Source) (e : Option Fault) →
      Sofar m v first source list r left list_now n k →
      end_of e ≡ first_of left → left' ≡ rest_of left →
      DrainPromise m v first source list r left' list_now (record { offered = n; picks = k; end = ended e })
  ended_so {first} {source} {list} {r} {left} {list_now} {n} {k} left' e so gave rest =
      let last = gave_end left e gave in
      record {
        course = behind n so.picked still;
        steps = so.onto r still (subst (λ w. Drains m v r w r still) (sym last.0) none);
        report = record {
          offered = omega arith;
          picks = so.count ∙ ap length (sym (append-nil so.picked));
          end = ap ended (last.1 ∙ so.ending);
          waiting = ap (λ s. s.waiting) rest ∙ ap (λ w. (rest_of (record { waiting = w; ending = left.ending })).waiting) last.0;
          ending = ap (λ s. s.ending) rest ∙ so.ending;
          written = so.written ∙ ap (λ q. laid q list) (sym (append-nil so.picked));
        };
      }

  pub refused_so : {first : Run S} {source : Source} {list : List ℕ} {r : Run S} {left : Source} {list_now : List ℕ} {n k : ℕ}
      (r' : Run S) (x : Tag ℕ) (why : Refusal) (left' : Source) →
      Sofar m v first source list r left list_now n k →
      Ok (Some x) ≡ first_of left → left' ≡ rest_of left → refusal (standing m r) x ≡ Some why → r' ≡ r →
      DrainPromise m v first source list r' left' list_now (record { offered = n + 1; picks = k; end = Err (Refused why (n + 1)) })
  refused_so {first} {source} {list} {r} {left} {list_now} {n} {k} r' x why left' so gave rest e same =
      record {
        course = behind n so.picked (stopped why (rest_of left).waiting);
        steps = subst (λ u. Drains m v first source.waiting u (behind n so.picked (stopped why (rest_of left).waiting))) (sym same)
            (so.onto r (stopped why (rest_of left).waiting)
            (subst (λ w. Drains m v r w r (stopped why (rest_of left).waiting)) (sym (gave_tag left x gave)) (refused e)));
        report = record {
          offered = refl;
          picks = so.count ∙ ap length (sym (append-nil so.picked));
          end = refl;
          waiting = ap (λ s. s.waiting) rest;
          ending = ap (λ s. s.ending) rest ∙ so.ending;
          written = so.written ∙ ap (λ q. laid q list) (sym (append-nil so.picked));
        };
      }
