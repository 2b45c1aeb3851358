-- How tags fare that are offered one by one, until one is refused.
use Rattle.std.specs.Prelude.{◌≡◌, ℕ, ◌+◌, cond, List, [], ◌∷◌, ◌++◌, length, Some, None, Ok, Err, Option, Result}
use Rattle.base.specs.Sources.{Source}
use Rattle.automata.specs.declared.tag.Tag.{Tag}
use Rattle.text.specs.declared.refusal.Refusal.{Refusal}
use Rattle.base.specs.declared.source.Fault.{Fault}
use Rattle.base.specs.declared.run.Cause.{Cause}
use Rattle.base.specs.declared.run.Cause.TheVariants.{Fault as AtFault, Refused}
use Rattle.base.specs.declared.run.Taken.{Taken}
use Rattle.base.specs.declared.run.Taken.TheVariants.{Opened as TakenOpened, Closed as TakenClosed}
use Rattle.base.specs.declared.run.Drained.{Drained}

pub record Course : Type 0 where
  -- how many tags were offered, a refused one counted
  pub offered : ℕ
  -- the numbers of the picked elements, in order
  pub picks : List ℕ
  -- the tags that were not offered
  pub rest : List (Tag ℕ)
  pub stop : Option Refusal

-- the number of the element that a taken tag picks, if it picks one
abbrev pub picked : Taken → List ℕ
picked (TakenOpened o) = cond o.picked (o.element ∷ []) []
picked (TakenClosed left) = []

-- no tag
abbrev pub still : Course
still = record { offered = 0; picks = []; rest = []; stop = None }

-- a tag that is refused
abbrev pub stopped : Refusal → List (Tag ℕ) → Course
stopped why xs = record { offered = 1; picks = []; rest = xs; stop = Some why }

-- a tag that is taken, with its picks, before the course c
abbrev pub onward : List ℕ → Course → Course
onward p c = record { offered = 1 + c.offered; picks = p ++ c.picks; rest = c.rest; stop = c.stop }

-- a clean end, or the fault that the source has for its end
abbrev pub ended : Option Fault → Result (Unit {0}) Cause
ended None = Ok tt
ended (Some fault) = Err (AtFault fault)

-- how a drain ends: where its source does, or at the tag that was refused
abbrev pub end_of : Course → Option Fault → Result (Unit {0}) Cause
end_of c e = elim c.stop [ None ↦ ended e | Some why ↦ Err (Refused why c.offered) ]

-- the numbers xs over the list from its first place, as many as fit
abbrev pub laid : List ℕ → List ℕ → List ℕ
laid [] ys = ys
laid (x ∷ xs) [] = []
laid (x ∷ xs) (y ∷ ys) = x ∷ laid xs ys

-- a drain's answer, list and source after the course c
pub record Reports (c : Course) (before : Source) (list : List ℕ) (after : Source) (list_after : List ℕ) (answer : Drained) : Type 0 where
  pub offered : answer.offered ≡ c.offered
  pub picks : answer.picks ≡ length c.picks
  pub end : answer.end ≡ end_of c before.ending
  pub waiting : after.waiting ≡ c.rest
  pub ending : after.ending ≡ before.ending
  pub written : list_after ≡ laid c.picks list
