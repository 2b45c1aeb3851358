-- The notes that are held, and how the newest is taken back.
use Rattle.std.specs.Prelude.{◌≡◌, ℕ, ◌<◌, ◌≤◌, List, [], map, take, Some, None, Option, ◌≢◌}
use Rattle.automata.specs.Noting.{Note, newest, older}
use Rattle.grading.specs.declared.notes.Note.{Note as Written}
use Rattle.grading.specs.declared.notes.Notes.{Notes}

-- a note that was written, as a note
abbrev pub plain : Written → Note
plain n = record { depth = n.depth; state = n.state }

-- the notes held, the oldest first
abbrev pub held : Notes → List Note
held s = map plain (take s.count s.places)

-- the newest of the notes, if there is one
abbrev pub Newest : List Note → Option Written → Type 0
Newest ns None = ns ≡ []
Newest ns (Some n) = (ns ≢ []) × (plain n ≡ newest ns)

-- the newest note is given and goes where it is deeper than d, and else all stay
abbrev pub Recalls : List Note → ℕ → List Note → Option Written → Type 0
Recalls ns d ms None = ((newest ns).depth ≤ d) × (ms ≡ ns)
Recalls ns d ms (Some n) = (d < (newest ns).depth) × (plain n ≡ newest ns) × (ms ≡ older ns)
