-- The book of a run: what it should have read and picked.
use Rattle.std.specs.Prelude.{◌≡◌, ℕ, ◌+◌, ◌-◌, Bool, false, List, [], ◌∷◌, ◌++◌, length, take, Some, None, Ok, Err, Result, ◌==◌}
use Rattle.text.specs.declared.refusal.Refusal.{Refusal}
use Rattle.base.specs.Refusals.{Standing, refusal}
use Rattle.base.specs.Courses.{Course, picked, still, stopped, onward}
use Rattle.automata.specs.declared.tag.Tag.{Tag}
use Rattle.automata.specs.declared.tag.Tag.TheVariants.{Open, Close}
use Rattle.base.specs.declared.run.Taken.{Taken}
use Rattle.base.specs.declared.run.Taken.TheVariants.{Opened as TakenOpened, Closed as TakenClosed}

-- what a run agrees on before it begins
pub record Terms : Type 0 where
  pub limit : ℕ
  pub labels : ℕ
  pub carry : ℕ
  -- the paths whose elements are picked
  pub wants : List ℕ → Bool

pub record Book : Type 0 where
  -- the labels of the open elements, root first
  pub path : List ℕ
  pub openings : ℕ
  -- the numbers of the picked elements, in order
  pub picked : List ℕ
  -- whether the root was closed
  pub closed : Bool

abbrev pub blank : Book
blank = record { path = []; openings = 0; picked = []; closed = false }

-- a book as refusals see it
abbrev pub judged : Terms → Book → Standing
judged t b = record {
  limit = t.limit;
  labels = t.labels;
  carry = t.carry;
  depth = length b.path;
  openings = b.openings;
  closed = b.closed;
}

-- what a taken tag answers: the element that it opens, or the depth that it leaves
abbrev pub taking : Terms → Book → Tag ℕ → Taken
taking t b (Open a) = TakenOpened (record { element = b.openings; picked = t.wants (b.path ++ (a ∷ [])) })
taking t b (Close a) = TakenClosed (length b.path - 1)

-- the book after a tag that is taken
abbrev pub takes : Terms → Book → Tag ℕ → Book
takes t b (Open a) = record {
  path = b.path ++ (a ∷ []);
  openings = b.openings + 1;
  picked = b.picked ++ picked (taking t b (Open a));
  closed = b.closed;
}
takes t b (Close a) = record {
  path = take (length b.path - 1) b.path;
  openings = b.openings;
  picked = b.picked;
  closed = (length b.path == 1);
}

-- what a tag answers: the first refusal that fits, else what taking it does
abbrev pub answers : Terms → Book → Tag ℕ → Result Taken Refusal
answers t b x = elim (refusal (judged t b) x) [ Some why ↦ Err why | None ↦ Ok (taking t b x) ]

-- the book after tags are offered, until one is refused
abbrev pub drains : Terms → Book → List (Tag ℕ) → Book
drains t b [] = b
drains t b (x ∷ xs) = elim (refusal (judged t b) x) [ Some why ↦ b | None ↦ drains t (takes t b x) xs ]

-- and how they fare, one by one
abbrev pub course : Terms → Book → List (Tag ℕ) → Course
course t b [] = still
course t b (x ∷ xs) = elim (refusal (judged t b) x) [ Some why ↦ stopped why xs | None ↦ onward (picked (taking t b x)) (course t (takes t b x) xs) ]

-- a closing bears the label of the element that it closes
abbrev pub Fits : Book → Tag ℕ → Type 0
Fits b (Open a) = Unit {0}
Fits b (Close a) = (u : List ℕ) × (b.path ≡ u ++ (a ∷ []))

-- each closing that is taken does
abbrev pub Nested : Terms → Book → List (Tag ℕ) → Type 0
Nested t b [] = Unit {0}
Nested t b (x ∷ xs) = elim (refusal (judged t b) x) [ Some why ↦ Unit {0} | None ↦ Fits b x × Nested t (takes t b x) xs ]
