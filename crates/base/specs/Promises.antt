-- What each call of a run promises.
use Rattle.std.specs.Prelude.{◌≡◌, ℕ, ◌+◌, ◌-◌, cond, List, [], ◌∷◌, Some, None, Ok, Err, Result, ◌==◌}
use Rattle.automata.specs.Meaning.{Meaning, Moves}
use Rattle.base.specs.Phases.{is_after}
use Rattle.base.specs.Refusals.{Standing, refusal}
use Rattle.base.specs.Sources.{Source}
use Rattle.base.specs.Courses.{Course, picked, still, stopped, onward, Reports}
use Rattle.automata.specs.declared.tag.Tag.{Tag}
use Rattle.automata.specs.declared.tag.Tag.TheVariants.{Open, Close}
use Rattle.text.specs.declared.refusal.Refusal.{Refusal}
use Rattle.base.specs.declared.run.Phase.TheVariants.{Before, Inside, After}
use Rattle.base.specs.declared.run.Run.{Run}
use Rattle.base.specs.declared.run.Opened.{Opened}
use Rattle.base.specs.declared.run.Taken.{Taken}
use Rattle.base.specs.declared.run.Taken.TheVariants.{Opened as TakenOpened, Closed as TakenClosed}
use Rattle.base.specs.declared.run.Drained.{Drained}
use Rattle.base.specs.declared.run.Totals.{Totals}

-- a run as its refusals see it
abbrev pub standing : {S : Type 0} → Meaning S → Run S → Standing
standing m r = record {
  limit = r.limit;
  labels = m.labels r.selector;
  carry = m.carry r.selector;
  depth = r.depth;
  openings = r.openings;
  closed = is_after r.phase;
}

pub record BeginPromise {S : Type 0} (v : Moves S) (chosen : S) (most : ℕ) (after : Run S) : Type 0 where
  pub renewed : v.renewed chosen after.selector
  pub limit : after.limit ≡ most
  pub phase : after.phase ≡ Before
  pub depth : after.depth ≡ 0
  pub openings : after.openings ≡ 0
  pub picks : after.picks ≡ 0

-- a taken opening
pub record Opens {S : Type 0} (v : Moves S) (before : Run S) (label : ℕ) (after : Run S) (answer : Opened) : Type 0 where
  pub element : answer.element ≡ before.openings
  pub opened : v.opened before.selector label after.selector answer.picked
  pub limit : after.limit ≡ before.limit
  pub phase : after.phase ≡ Inside
  pub depth : after.depth ≡ before.depth + 1
  pub openings : after.openings ≡ before.openings + 1
  pub picks : after.picks ≡ before.picks + cond answer.picked 1 0

-- a taken closing
pub record Closes {S : Type 0} (v : Moves S) (before : Run S) (label : ℕ) (after : Run S) (answer : ℕ) : Type 0 where
  pub left : answer ≡ before.depth - 1
  pub closed : v.closed before.selector label after.selector
  pub limit : after.limit ≡ before.limit
  pub phase : after.phase ≡ cond (before.depth == 1) After Inside
  pub depth : after.depth ≡ before.depth - 1
  pub openings : after.openings ≡ before.openings
  pub picks : after.picks ≡ before.picks

-- what a tag does to the run, and what comes of it
abbrev pub OfferPromise : {S : Type 0} → Meaning S → Moves S → Run S → Tag ℕ → Run S → Result Taken Refusal → Type 0
OfferPromise m v before (Open a) after (Ok (TakenOpened answer)) = (refusal (standing m before) (Open a) ≡ None) × Opens v before a after answer
OfferPromise m v before (Open a) after (Ok (TakenClosed left)) = ⊥
OfferPromise m v before (Close a) after (Ok (TakenOpened answer)) = ⊥
OfferPromise m v before (Close a) after (Ok (TakenClosed left)) = (refusal (standing m before) (Close a) ≡ None) × Closes v before a after left
OfferPromise m v before tag after (Err why) = (refusal (standing m before) tag ≡ Some why) × (after ≡ before)

-- an answer of `open` and of `close`, as what became of the tag
abbrev pub as_opened : Result Opened Refusal → Result Taken Refusal
as_opened (Ok answer) = Ok (TakenOpened answer)
as_opened (Err why) = Err why

abbrev pub as_closed : Result ℕ Refusal → Result Taken Refusal
as_closed (Ok left) = Ok (TakenClosed left)
as_closed (Err why) = Err why

abbrev pub OpenPromise : {S : Type 0} → Meaning S → Moves S → Run S → ℕ → Run S → Result Opened Refusal → Type 0
OpenPromise m v before label after answer = OfferPromise m v before (Open label) after (as_opened answer)

abbrev pub ClosePromise : {S : Type 0} → Meaning S → Moves S → Run S → ℕ → Run S → Result ℕ Refusal → Type 0
ClosePromise m v before label after answer = OfferPromise m v before (Close label) after (as_closed answer)

-- the run is offered the tags one by one, until it refuses one
pub data Drains {S : Type 0} (m : Meaning S) (v : Moves S) : Run S → List (Tag ℕ) → Run S → Course → Type 0 where
  none : {r : Run S} → Drains m v r [] r still
  refused : {r : Run S} {x : Tag ℕ} {xs : List (Tag ℕ)} {why : Refusal} → refusal (standing m r) x ≡ Some why → Drains m v r (x ∷ xs) r (stopped why xs)
  taken : {r mid last : Run S} {x : Tag ℕ} {xs : List (Tag ℕ)} {c : Course} (did : Taken) → OfferPromise m v r x mid (Ok did) → Drains m v mid xs last c → Drains m v r (x ∷ xs) last (onward (picked did) c)

pub record DrainPromise {S : Type 0} (m : Meaning S) (v : Moves S) (before : Run S) (source : Source) (list : List ℕ) (after : Run S) (source_after : Source) (list_after : List ℕ) (answer : Drained) : Type 0 where
  pub course : Course
  pub steps : Drains m v before source.waiting after course
  pub report : Reports course source list source_after list_after answer

pub record EndPromise {S : Type 0} (before : Run S) (totals : Totals) (given_back : S) : Type 0 where
  pub openings : totals.openings ≡ before.openings
  pub picks : totals.picks ≡ before.picks
  pub whole : totals.whole ≡ is_after before.phase
  pub selector : given_back ≡ before.selector
