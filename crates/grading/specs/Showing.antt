-- What the words of a clash show.
use Rattle.std.specs.Prelude.{◌≡◌, ℕ, ◌<◌, ◌≢◌, List, length}
use Rattle.automata.specs.Automata.{Automaton, run}
use Rattle.automata.specs.Grades.{LowestClash}
use Rattle.automata.specs.Shortest.{Shortest}
use Rattle.grading.specs.Words.{labels_of}
use Rattle.grading.specs.declared.clash.Clash.{Clash}

-- the word w has a label, and leads from the start to p
abbrev pub LeadsTo : Automaton → ℕ → List ℕ → Type 0
LeadsTo A p w = (0 < length w) × (run A A.start w ≡ p)

-- the word w has a label, and p and q meet by it
abbrev pub MeetBy : Automaton → ℕ → ℕ → List ℕ → Type 0
MeetBy A p q w = (0 < length w) × (run A p w ≡ run A q w)

-- the word w has a label, and after it one of p and q is yes and the other no
abbrev pub ApartBy : Automaton → ℕ → ℕ → List ℕ → Type 0
ApartBy A p q w = (0 < length w) × (A.yes (run A p w) ≢ A.yes (run A q w))

-- the lowest states that clash, and the shortest words that lead to them, by which they meet and that tell them apart
pub record Shows (A : Automaton) (c : Clash) : Type 0 where
  pub p : ℕ
  pub q : ℕ
  pub lowest : LowestClash A p q
  pub first : Shortest A.labels (LeadsTo A p) (labels_of c.first)
  pub second : Shortest A.labels (LeadsTo A q) (labels_of c.second)
  pub meet : Shortest A.labels (MeetBy A p q) (labels_of c.meet)
  pub apart : Shortest A.labels (ApartBy A p q) (labels_of c.apart)
