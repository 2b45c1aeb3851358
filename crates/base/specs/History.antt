-- What befalls a run from its beginning on, and what its book says of that.
use Rattle.std.specs.Prelude.{◌≡◌, ℕ, List, [], ◌∷◌, ◌++◌, length, Result}
use Rattle.automata.specs.Meaning.{Meaning, Moves}
use Rattle.base.specs.Sources.{Source}
use Rattle.base.specs.Courses.{Reports}
use Rattle.base.specs.Book.{Terms, Book, blank, answers, drains, course, Nested}
use Rattle.base.specs.Picks.{paths, PickedExactly}
use Rattle.base.specs.Promises.{as_opened, as_closed, OpenPromise, ClosePromise, DrainPromise, EndPromise}
use Rattle.automata.specs.declared.tag.Tag.{Tag}
use Rattle.automata.specs.declared.tag.Tag.TheVariants.{Open, Close}
use Rattle.text.specs.declared.refusal.Refusal.{Refusal}
use Rattle.base.specs.declared.run.Run.{Run}
use Rattle.base.specs.declared.run.Opened.{Opened}
use Rattle.base.specs.declared.run.Drained.{Drained}
use Rattle.base.specs.declared.run.Totals.{Totals}

-- a call with its answer
pub data Call : Type 0 where
  opening : ℕ → Result Opened Refusal → Call
  closing : ℕ → Result ℕ Refusal → Call
  -- the source and the list before, and both after
  draining : Source → List ℕ → Source → List ℕ → Drained → Call

-- calls of a run, one after another
pub data History {S : Type 0} (m : Meaning S) (v : Moves S) : Run S → List Call → Run S → Type 0 where
  begun : {r : Run S} → History m v r [] r
  opened : {r mid last : Run S} {a : ℕ} {answer : Result Opened Refusal} {calls : List Call} → OpenPromise m v r a mid answer → History m v mid calls last → History m v r (opening a answer ∷ calls) last
  closed : {r mid last : Run S} {a : ℕ} {answer : Result ℕ Refusal} {calls : List Call} → ClosePromise m v r a mid answer → History m v mid calls last → History m v r (closing a answer ∷ calls) last
  drained : {r mid last : Run S} {s s' : Source} {l l' : List ℕ} {answer : Drained} {calls : List Call} → DrainPromise m v r s l mid s' l' answer → History m v mid calls last → History m v r (draining s l s' l' answer ∷ calls) last

-- the tags that a call has to offer
abbrev pub tags : Call → List (Tag ℕ)
tags (opening a answer) = Open a ∷ []
tags (closing a answer) = Close a ∷ []
tags (draining s l s' l' answer) = s.waiting

-- the call did as the book says
abbrev pub Right : Terms → Book → Call → Type 0
Right t b (opening a answer) = as_opened answer ≡ answers t b (Open a)
Right t b (closing a answer) = as_closed answer ≡ answers t b (Close a)
Right t b (draining s l s' l' answer) = Reports (course t b s.waiting) s l s' l' answer

pub record Totalled (b : Book) (totals : Totals) : Type 0 where
  pub openings : totals.openings ≡ b.openings
  pub picks : totals.picks ≡ length b.picked
  pub whole : totals.whole ≡ b.closed

-- each closing that the calls have taken bears the label of the element that it closes
abbrev pub AllNested : Terms → Book → List Call → Type 0
AllNested t b [] = Unit {0}
AllNested t b (call ∷ calls) = Nested t b (tags call) × AllNested t (drains t b (tags call)) calls

-- all that the calls and the end answered is the book's
abbrev pub AllRight : Terms → Book → List Call → Totals → Type 0
AllRight t b [] totals = Totalled b totals
AllRight t b (call ∷ calls) totals = Right t b call × AllRight t (drains t b (tags call)) calls totals

-- the book after the calls
abbrev pub last_book : Terms → Book → List Call → Book
last_book t b [] = b
last_book t b (call ∷ calls) = last_book t (drains t b (tags call)) calls

-- the paths of the elements that the calls have opened, in opening order
abbrev pub all_paths : Terms → Book → List Call → List (List ℕ)
all_paths t b [] = []
all_paths t b (call ∷ calls) = paths t b (tags call) ++ all_paths t (drains t b (tags call)) calls

abbrev pub terms : {S : Type 0} → Meaning S → S → ℕ → Terms
terms m s limit = record { limit = limit; labels = m.labels s; carry = m.carry s; wants = m.wants s }

-- whatever befalls the run, each answer is the book's
abbrev pub KeepsItsBook : {S : Type 0} → Meaning S → Moves S → S → ℕ → Run S → Type 0
KeepsItsBook {S} m v s limit first =
    (calls : List Call) (last : Run S) (totals : Totals) (s' : S) →
    History m v first calls last → EndPromise last totals s' →
    AllNested (terms m s limit) blank calls →
    AllRight (terms m s limit) blank calls totals × PickedExactly (m.wants s) (all_paths (terms m s limit) blank calls) (last_book (terms m s limit) blank calls)
