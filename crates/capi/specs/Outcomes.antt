-- What a call that picks returns, and leaves in its buffers.
use Rattle.std.specs.Prelude.{◌≡◌, ℕ, ◌<◌, ◌≤◌, cond, List, [], ◌∷◌, length, Some, None, Ok, Err, Option, Result}
use Rattle.text.specs.Refusals.{number}
use Rattle.text.specs.declared.refusal.Refusal.{Refusal}
use Rattle.text.specs.declared.refusal.Refusal.TheVariants.{TooLong}
use Rattle.base.specs.Courses.{laid}
use Rattle.base.specs.Packed.{packed_source}
use Rattle.base.specs.Tables.{automaton}
use Rattle.base.specs.declared.table.Table.{Table}
use Rattle.choosing.specs.Choices.{kind_of}
use Rattle.choosing.specs.Chosens.{Chooses}
use Rattle.choosing.specs.Kinds.{number_of_kind}
use Rattle.choosing.specs.Readings.{Reads}
use Rattle.choosing.specs.declared.chosen.Chosen.{Chosen}
use Rattle.choosing.specs.declared.kind.SelectorKind.{SelectorKind}
use Rattle.choosing.specs.declared.reading.Reading.{Reading}
use Rattle.capi.specs.Asking.{wanted_of}
use Rattle.capi.specs.Failures.{number_of_end}

-- the lent memory
pub record Buffers : Type 0 where
  pub stack : List ℕ
  pub picks : List ℕ
  pub totals : List ℕ

abbrev pub lent : List ℕ → List ℕ → List ℕ → Buffers
lent stack picks totals = record { stack = stack; picks = picks; totals = totals }

-- the first places of the totals
abbrev pub places : ℕ → Reading → List ℕ
places selector r =
    selector ∷ r.drained.offered ∷ r.drained.picks ∷ r.totals.openings ∷ r.totals.picks ∷ cond r.totals.whole 1 0 ∷ []

module _ (query : Result Table Refusal → Type 0) (wanted : Option SelectorKind) (tags : List ℕ) where
  -- no run begins: the query is refused, or else the selector, or else the bytes are too many
  pub data Unbegun (why : Refusal) : Type 0 where
    no_table : query (Err why) → Unbegun why
    no_selector : (t : Table) → query (Ok t) → Chooses t wanted (Err why) → Unbegun why
    no_source : (t : Table) (c : Chosen) → query (Ok t) → Chooses t wanted (Ok c) → 65536 < length tags → why ≡ TooLong → Unbegun why

  -- a run of a selector as wanted reads the bytes
  pub record Picked (limit : ℕ) (stack stack' picks picks' : List ℕ) (selector : ℕ) (r : Reading) : Type 0 where
    pub table : Table
    pub chosen : Chosen
    pub queried : query (Ok table)
    pub chooses : Chooses table wanted (Ok chosen)
    pub few : length tags ≤ 65536
    pub selected : selector ≡ number_of_kind (kind_of chosen.made)
    pub reads : Reads (automaton table) chosen.made limit (packed_source tags) stack stack' picks picks' r

-- the totals have too few places, no selector has the number, no run begins, or one is read and counted
pub data Picks (query : Result Table Refusal → Type 0) (asked limit : ℕ) (tags : List ℕ) (before after : Buffers) (r : ℕ) : Type 0 where
  short : length before.totals < 6 → r ≡ 255 → after ≡ before → Picks query asked limit tags before after r
  unknown : 6 ≤ length before.totals → wanted_of asked ≡ None → r ≡ 254 → after ≡ before → Picks query asked limit tags before after r
  refused : (w : Option SelectorKind) (why : Refusal) → 6 ≤ length before.totals → wanted_of asked ≡ Some w → Unbegun query w tags why → r ≡ number why → after ≡ before → Picks query asked limit tags before after r
  read : (w : Option SelectorKind) (selector : ℕ) (reading : Reading) → 6 ≤ length before.totals → wanted_of asked ≡ Some w → Picked query w tags limit before.stack after.stack before.picks after.picks selector reading → r ≡ number_of_end reading.drained.end → after.totals ≡ laid (places selector reading) before.totals → Picks query asked limit tags before after r
