-- Runs that are written out: what they pick and count.
use Rattle.std.specs.Prelude.{◌≡◌, ℕ, Bool, List, length, None, Ok}
use Rattle.automata.specs.Automata.{Automaton}
use Rattle.automata.specs.Meaning.{Meaning, Moves}
use Rattle.automata.specs.declared.tag.Tag.{Tag}
use Rattle.base.specs.Courses.{laid}
use Rattle.base.specs.Promises.{BeginPromise, DrainPromise, EndPromise}
use Rattle.base.specs.Sources.{Source}
use Rattle.base.specs.declared.run.Drained.{Drained}
use Rattle.base.specs.declared.run.Run.{Run}
use Rattle.base.specs.declared.run.Totals.{Totals}
use Rattle.paths.specs.Tables.{Compiled}
use Rattle.paths.specs.Texts.{ReadAs}
use Rattle.paths.specs.declared.path.Step.{Step}

-- the picked elements stand in the list, the end is clean, and the totals are these
pub record Counted (picked : List ℕ) (opened : ℕ) (ended : Bool) (list list' : List ℕ) (answer : Drained) (totals : Totals) : Type 0 where
  pub written : list' ≡ laid picked list
  pub end : answer.end ≡ Ok tt
  pub picks : totals.picks ≡ length picked
  pub openings : totals.openings ≡ opened
  pub whole : totals.whole ≡ ended

-- a run of the selector s, with the limit 65,535, a drain of these tags and an end come to that
abbrev pub Reads : {S : Type 0} → Meaning S → Moves S → S → List (Tag ℕ) → List ℕ → ℕ → Bool → Type 0
Reads {S} m v s tags picked openings whole =
    (first last : Run S) (list list' : List ℕ) (after : Source) (answer : Drained) (totals : Totals) (s' : S) →
    BeginPromise v s 65535 first →
    DrainPromise m v first (record { waiting = tags; ending = None }) list last after list' answer →
    EndPromise last totals s' →
    Counted picked openings whole list list' answer totals

-- so it is for every selector that begins with a table of the path
pub record PathReads {S : Type 0} (m : Meaning S) (v : Moves S) (begins : Automaton → S → Type 0) (names : List (List ℕ)) (text : List ℕ) (tags : List (Tag ℕ)) (picked : List ℕ) (openings : ℕ) (whole : Bool) : Type 0 where
  pub steps : List Step
  pub read : ReadAs names text steps
  pub each : (A : Automaton) (s : S) → Compiled steps (length names) A → begins A s → Reads m v s tags picked openings whole
