-- A run whose closings are nested keeps its book.
use Rattle.std.proofs.Common.{◌≡◌, ℕ, ◌+◌, ◌-◌, ◌<◌, ◌≤◌, Bool, true, false, cond, eqb, ◌≢◌, List, [], ◌∷◌, ◌++◌, length, take, Some, None, Ok, Err, Option, Result, sym, refl, ap, ◌∙◌, subst, ap₂, arith, length-append}
use Rattle.std.proofs.lemmas.List.{take_at}
use Rattle.std.proofs.lemmas.Bool.{lt-ltb, eqb-false}
use Rattle.std.proofs.lemmas.Bool.Decides.{nat_tests}
use Rattle.automata.specs.Meaning.{Meaning, Moves, Rules}
use Rattle.automata.specs.declared.tag.Tag.{Tag}
use Rattle.automata.specs.declared.tag.Tag.TheVariants.{Open, Close}
use Rattle.text.specs.declared.refusal.Refusal.{Refusal}
use Rattle.base.specs.Phases.{is_after, is_inside}
use Rattle.base.specs.Refusals.{Standing, refusal, first}
use Rattle.base.specs.Courses.{Course, picked, onward, Reports}
use Rattle.base.specs.Book.{Terms, Book, blank, judged, taking, takes, answers, drains, course, Fits, Nested}
use Rattle.base.specs.Promises.{standing, BeginPromise, Opens, Closes, OfferPromise, as_opened, as_closed, Drains, EndPromise}
use Rattle.base.specs.Promises.Drains.{none, refused, taken}
use Rattle.base.specs.History.{Call, AllNested, AllRight, History, begun, opened, closed, drained, terms, KeepsItsBook}
use Rattle.base.specs.declared.run.Phase.{Phase}
use Rattle.base.specs.declared.run.Phase.TheVariants.{Before, Inside, After}
use Rattle.base.specs.declared.run.Run.{Run}
use Rattle.base.specs.declared.run.Taken.{Taken}
use Rattle.base.specs.declared.run.Taken.TheVariants.{Opened as TakenOpened, Closed as TakenClosed}
use Rattle.base.specs.declared.run.Opened.{Opened}
use Rattle.base.specs.declared.run.Totals.{Totals}
use Rattle.base.proofs.Picking.{picked_exactly}

-- what a taken opening says of where the run stood
record MayOpen (s : Standing) (a : ℕ) : Type 0 where
  pub carried : s.limit ≤ s.carry
  pub labelled : a < s.labels
  pub unclosed : s.closed ≡ false
  pub shallow : s.depth ≡ s.limit → ⊥

may_open : (s : Standing) (a : ℕ) → refusal s (Open a) ≡ None → MayOpen s a
may_open s a e = record {
  carried = grind (arith, nat_tests);
  labelled = grind (arith, nat_tests);
  unclosed = grind (arith, nat_tests);
  shallow = grind (arith, nat_tests);
}

-- the run agrees with the book
record Keeps {S : Type 0} (m : Meaning S) (t : Terms) (r : Run S) (b : Book) : Type 0 where
  pub limit : r.limit ≡ t.limit
  pub labels : m.labels r.selector ≡ t.labels
  pub carry : m.carry r.selector ≡ t.carry
  pub wants : (w : List ℕ) → m.wants r.selector w ≡ t.wants w
  pub depth : r.depth ≡ length b.path
  pub openings : r.openings ≡ b.openings
  pub picks : r.picks ≡ length b.picked
  pub closed : is_after r.phase ≡ b.closed
  -- an open root's path is one that the selector stands for
  pub stands : b.closed ≡ false → m.stands r.selector b.path

length_picked : (w : Bool) (xs : List ℕ) (n : ℕ) → length (xs ++ cond w (n ∷ []) []) ≡ length xs + cond w 1 0
length_picked true xs n = length-append xs (n ∷ [])
length_picked false xs n = length-append xs []

not_after : (p : Phase) → is_inside p ≡ true → is_after p ≡ false
not_after Before e = refl
not_after Inside e = refl
not_after After e = sym e

after_cond : (b : Bool) → is_after (cond b After Inside) ≡ b
after_cond true = refl
after_cond false = refl

module _ {S : Type 0} (m : Meaning S) (v : Moves S) (rules : Rules m v) (t : Terms) where
  same_standing : {r : Run S} {b : Book} → Keeps m t r b → standing m r ≡ judged t b
  same_standing k = λ i. record {
    limit = k.limit i;
    labels = k.labels i;
    carry = k.carry i;
    depth = k.depth i;
    openings = k.openings i;
    closed = k.closed i;
  }

  judged_so : {r : Run S} {b : Book} (x : Tag ℕ) (o : Option Refusal) → Keeps m t r b → refusal (standing m r) x ≡ o → refusal (judged t b) x ≡ o
  judged_so x o k e = ap (λ s. refusal s x) (sym (same_standing k)) ∙ e

  open_keeps : {r r' : Run S} {b : Book} (a : ℕ) (o : Opened) → Keeps m t r b → refusal (standing m r) (Open a) ≡ None → Opens v r a r' o → Keeps m t r' (takes t b (Open a)) × (TakenOpened o ≡ taking t b (Open a))
  open_keeps {r} {r'} {b} a o k e p =
      let may = may_open (standing m r) a e in
      let unclosed : b.closed ≡ false = sym k.closed ∙ may.unclosed in
      let room : length b.path < m.carry r.selector = omega (arith, r.bounded.0) in
      let same = rules.open_same _ _ _ _ p.opened in
      let moved = rules.open_stands _ _ _ _ p.opened may.labelled b.path (k.stands unclosed) room in
      let wanted = moved.1 ∙ k.wants _ in (
        record {
          limit = p.limit ∙ k.limit;
          labels = same.labels ∙ k.labels;
          carry = same.carry ∙ k.carry;
          wants = λ w. same.wants w ∙ k.wants w;
          depth = omega (arith, length-append b.path (a ∷ []));
          openings = p.openings ∙ ap (λ n. n + 1) k.openings;
          picks = p.picks ∙ ap₂ (λ n w. n + cond w 1 0) k.picks wanted ∙ sym (length_picked (t.wants (b.path ++ (a ∷ []))) b.picked b.openings);
          closed = ap is_after p.phase ∙ sym unclosed;
          stands = λ _. moved.0;
        },
        λ i. TakenOpened (record { element = (p.element ∙ k.openings) i; picked = wanted i }),
      )

  close_keeps : {r r' : Run S} {b : Book} (a n : ℕ) → Keeps m t r b → Fits b (Close a) → Closes v r a r' n → Keeps m t r' (takes t b (Close a)) × (TakenClosed n ≡ taking t b (Close a))
  close_keeps {r} {r'} {b} a n k f p =
      let u = f.0 in
      let deep : length b.path ≡ length u + 1 = ap length f.1 ∙ length-append u (a ∷ []) in
      let left : take (length b.path - 1) b.path ≡ u = ap (take (length b.path - 1)) f.1 ∙ take_at u (a ∷ []) (length b.path - 1) (let d : length u ≡ length b.path - 1 = omega arith in d) in
      let open_still : 0 < r.depth = omega arith in
      let unclosed : b.closed ≡ false = sym k.closed ∙ not_after r.phase (r.phased ∙ lt-ltb _ _ open_still) in
      let stood : m.stands r.selector (u ++ (a ∷ [])) = subst (m.stands r.selector) f.1 (k.stands unclosed) in
      let same = rules.close_same _ _ _ p.closed in (
        record {
          limit = p.limit ∙ k.limit;
          labels = same.labels ∙ k.labels;
          carry = same.carry ∙ k.carry;
          wants = λ w. same.wants w ∙ k.wants w;
          depth = p.depth ∙ (let e : r.depth - 1 ≡ length u = omega arith in e) ∙ ap length (sym left);
          openings = p.openings ∙ k.openings;
          picks = p.picks ∙ k.picks;
          closed = ap is_after p.phase ∙ after_cond (eqb r.depth 1) ∙ ap (λ d. eqb d 1) k.depth;
          stands = λ e. subst (m.stands r'.selector) (sym left) (close_stands u p.closed stood (λ z. eqb-false (length b.path) 1 e (let one : length b.path ≡ 1 = omega arith in one)));
        },
        ap TakenClosed (p.left ∙ ap (λ d. d - 1) k.depth),
      )
    where
      close_stands : (u : List ℕ) → v.closed r.selector a r'.selector → m.stands r.selector (u ++ (a ∷ [])) → length u ≢ 0 → m.stands r'.selector u
      close_stands [] c h ne = absurd (ne refl)
      close_stands (x ∷ u) c h ne = rules.close_stands _ _ _ c x u h

  was_taken : (r mid : Run S) (x : Tag ℕ) (did : Taken) → OfferPromise m v r x mid (Ok did) → refusal (standing m r) x ≡ None
  was_taken r mid (Open a) (TakenOpened o) h = h.0
  was_taken r mid (Open a) (TakenClosed n) h = absurd h
  was_taken r mid (Close a) (TakenOpened o) h = absurd h
  was_taken r mid (Close a) (TakenClosed n) h = h.0

  take_keeps : {r mid : Run S} {b : Book} (x : Tag ℕ) (did : Taken) → Keeps m t r b → Fits b x → OfferPromise m v r x mid (Ok did) → Keeps m t mid (takes t b x) × (did ≡ taking t b x)
  take_keeps (Open a) (TakenOpened o) k f h = open_keeps a o k h.0 h.1
  take_keeps (Open a) (TakenClosed n) k f h = absurd h
  take_keeps (Close a) (TakenOpened o) k f h = absurd h
  take_keeps (Close a) (TakenClosed n) k f h = close_keeps a n k f h.1

  drain_keeps : {r last : Run S} {xs : List (Tag ℕ)} {c : Course} (b : Book) → Keeps m t r b → Nested t b xs → Drains m v r xs last c → Keeps m t last (drains t b xs) × (c ≡ course t b xs)
  drain_keeps b k n none = (k, refl)
  drain_keeps b k n (refused {x} {xs} {why} e) =
      let e' : refusal (judged t b) x ≡ Some why = judged_so x (Some why) k e in
      rw (e', drains, course) (k, refl)
  drain_keeps b k n (taken {r} {mid} {x = x} {xs = xs} did h rest) =
      let e : refusal (judged t b) x ≡ None = judged_so x None k (was_taken r mid x did h) in
      let n' : Fits b x × Nested t (takes t b x) xs = rw (e, Nested) at n in
      let kept = take_keeps x did k n'.0 h in
      let on = drain_keeps (takes t b x) kept.0 n'.1 rest in
      rw (e, drains, course) (on.0, ap₂ (λ d c. onward (picked d) c) kept.1 on.1)

  offer_right : {r : Run S} {b : Book} (mid : Run S) (x : Tag ℕ) (answer : Result Taken Refusal) → Keeps m t r b → Nested t b (x ∷ []) → OfferPromise m v r x mid answer → (answer ≡ answers t b x) × Keeps m t mid (drains t b (x ∷ []))
  offer_right {r} {b} mid x (Ok did) k n h =
      let e : refusal (judged t b) x ≡ None = judged_so x None k (was_taken r mid x did h) in
      let fits : Fits b x × Unit {0} = rw (e, Nested) at n in
      let kept = take_keeps x did k fits.0 h in
      rw (e, drains, answers) (ap Ok kept.1, kept.0)
  offer_right {r} {b} mid x (Err why) k n h =
      let no = was_refused x h in
      let e : refusal (judged t b) x ≡ Some why = judged_so x (Some why) k no.0 in
      rw (e, drains, answers, no.1) (refl, k)
    where
      was_refused : (x : Tag ℕ) → OfferPromise m v r x mid (Err why) → (refusal (standing m r) x ≡ Some why) × (mid ≡ r)
      was_refused (Open a) h = h
      was_refused (Close a) h = h

  history_right : {r last : Run S} {calls : List Call} (b : Book) (totals : Totals) (s : S) → Keeps m t r b → AllNested t b calls → EndPromise last totals s → History m v r calls last → AllRight t b calls totals
  history_right b totals s k n p begun = record { openings = p.openings ∙ k.openings; picks = p.picks ∙ k.picks; whole = p.whole ∙ k.closed }
  history_right b totals s k n p (opened {mid = mid} {a = a} {answer = answer} h rest) =
      let kept = offer_right mid (Open a) (as_opened answer) k n.0 h in
      (kept.0, history_right _ totals s kept.1 n.1 p rest)
  history_right b totals s k n p (closed {mid = mid} {a = a} {answer = answer} h rest) =
      let kept = offer_right mid (Close a) (as_closed answer) k n.0 h in
      (kept.0, history_right _ totals s kept.1 n.1 p rest)
  history_right b totals s k n p (drained {s = src} {s' = src'} {l = l} {l' = l'} {answer = answer} h rest) =
      let kept = drain_keeps b k n.0 h.steps in
      (subst (λ c. Reports c src l src' l' answer) kept.1 h.report, history_right _ totals s kept.0 n.1 p rest)

pub keeps_its_book : {S : Type 0} (m : Meaning S) (v : Moves S) → Rules m v → (s : S) (limit : ℕ) (first : Run S) → BeginPromise v s limit first → KeepsItsBook m v s limit first
keeps_its_book m v rules s limit first begins calls last totals s' history ends nested =
    let same = rules.renew_same _ _ begins.renewed in (
      history_right m v rules (terms m s limit) blank totals s'
          (record {
            limit = begins.limit;
            labels = same.labels;
            carry = same.carry;
            wants = same.wants;
            depth = begins.depth;
            openings = begins.openings;
            picks = begins.picks;
            closed = ap is_after begins.phase;
            stands = λ _. rules.renew_stands _ _ begins.renewed;
          })
          nested ends history,
      picked_exactly (terms m s limit) calls,
    )
