-- Whole runs: what they promise, and what the book says of them.
use Rattle.std.specs.Prelude.{◌≡◌, ℕ, List, length}
use Rattle.automata.specs.Automata.{Automaton, accepts}
use Rattle.automata.specs.Holding.{meaning as held_meaning, moves as held_moves}
use Rattle.automata.specs.Meaning.{Meaning, Moves}
use Rattle.automata.specs.Noted.{meaning as noted_meaning, moves as noted_moves}
use Rattle.automata.specs.Storing.{meaning as stored_meaning, moves as stored_moves}
use Rattle.base.specs.Book.{Terms, blank, course, drains, Nested}
use Rattle.base.specs.Courses.{end_of, laid}
use Rattle.base.specs.History.{Totalled, terms}
use Rattle.base.specs.Picks.{paths, PickedExactly}
use Rattle.base.specs.Promises.{BeginPromise, DrainPromise, EndPromise}
use Rattle.base.specs.Sources.{Source}
use Rattle.base.specs.Storing.{storing}
use Rattle.base.specs.Tables.{automaton}
use Rattle.base.specs.declared.run.Run.{Run}
use Rattle.base.specs.declared.stack_selector.StackSelector.{StackSelector}
use Rattle.grading.specs.Holding.{holding}
use Rattle.grading.specs.Noting.{noting}
use Rattle.choosing.specs.Choices.{carry_of}
use Rattle.choosing.specs.declared.chosen.Made.{Made}
use Rattle.choosing.specs.declared.chosen.Made.TheVariants.{Registerless, Stackless, Stack}
use Rattle.choosing.specs.declared.reading.Reading.{Reading}

-- a reading and its list are those of the book with these terms
pub record Booked (t : Terms) (source : Source) (list list' : List ℕ) (r : Reading) : Type 0 where
  pub offered : r.drained.offered ≡ (course t blank source.waiting).offered
  pub picks : r.drained.picks ≡ length (course t blank source.waiting).picks
  pub end : r.drained.end ≡ end_of (course t blank source.waiting) source.ending
  pub written : list' ≡ laid (course t blank source.waiting).picks list
  pub totalled : Totalled (drains t blank source.waiting) r.totals
  -- and the picked elements are those whose path is wanted, each once, in opening order
  pub exactly : PickedExactly t.wants (paths t blank source.waiting) (drains t blank source.waiting)

-- a run of the selector s: begun, drained of the source, and ended
pub record Runs {S : Type 0} (m : Meaning S) (v : Moves S) (s : S) (limit : ℕ) (source : Source) (list list' : List ℕ) (r : Reading) : Type 0 where
  pub first : Run S
  pub last : Run S
  pub after : Source
  pub given_back : S
  pub begins : BeginPromise v s limit first
  pub drains : DrainPromise m v first source list last after list' r.drained
  pub ends : EndPromise last r.totals given_back
  -- if each closing that was taken bears its element's label
  pub law : Nested (terms m s limit) blank source.waiting → Booked (terms m s limit) source list list' r

-- such a run of a stack selector over A and the lent bytes
pub record StackRuns (A : Automaton) (bytes : List ℕ) (limit : ℕ) (source : Source) (list list' : List ℕ) (r : Reading) : Type 0 where
  pub selector : StackSelector
  pub table : automaton selector.table.now ≡ A
  pub lent : selector.store.places.now ≡ bytes
  pub runs : Runs (stored_meaning storing) (stored_moves storing) selector limit source list list' r

-- a run of the chosen selector; only the stack selector writes to the stack
abbrev pub ChosenRuns : Automaton → Made → ℕ → Source → List ℕ → List ℕ → List ℕ → List ℕ → Reading → Type 0
ChosenRuns A (Registerless s) limit source stack stack' list list' r = Runs (held_meaning holding) (held_moves holding) s limit source list list' r × (stack' ≡ stack)
ChosenRuns A (Stackless s) limit source stack stack' list list' r = Runs (noted_meaning noting) (noted_moves noting) s limit source list list' r × (stack' ≡ stack)
ChosenRuns A Stack limit source stack stack' list list' r = StackRuns A stack limit source list list' r × (length stack' ≡ length stack)

-- what a run over A agrees on
abbrev pub agreed : Automaton → ℕ → ℕ → Terms
agreed A limit carry = record { limit = limit; labels = A.labels; carry = carry; wants = accepts A }

-- a reading of the source by the chosen selector
pub record Reads (A : Automaton) (c : Made) (limit : ℕ) (source : Source) (stack stack' list list' : List ℕ) (r : Reading) : Type 0 where
  pub runs : ChosenRuns A c limit source stack stack' list list' r
  pub law : Nested (agreed A limit (carry_of c stack)) blank source.waiting → Booked (agreed A limit (carry_of c stack)) source list list' r
