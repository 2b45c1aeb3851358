-- Runs on words, and on repeated words.
use Rattle.std.proofs.Common.{◌≡◌, ℕ, zero, suc, ◌+◌, ◌<◌, List, [], ◌∷◌, ◌++◌, sym, refl, ap, ◌∙◌, subst, append_assoc, suc-add, zero-add}
use Rattle.std.proofs.ByRecursion.{All-append}
use Rattle.automata.specs.Automata.{Word, Automaton, run, WellFormed}
use Rattle.automata.specs.States.{Internal}

pub word_append : (n : ℕ) (u v : List ℕ) → Word n u → Word n v → Word n (u ++ v)
word_append n = All-append (λ a. a < n)

-- u, k times
abbrev pub repeated : List ℕ → ℕ → List ℕ
repeated u zero = []
repeated u (suc k) = u ++ repeated u k

pub repeated_add : (u : List ℕ) (j k : ℕ) → repeated u (j + k) ≡ repeated u j ++ repeated u k
repeated_add u zero k = ap (repeated u) (zero-add k)
repeated_add u (suc j) k = ap (repeated u) (suc-add j k) ∙ ap (λ v. u ++ v) (repeated_add u j k) ∙ sym (append_assoc u (repeated u j) (repeated u k))

pub word_repeated : (n : ℕ) (u : List ℕ) (k : ℕ) → Word n u → Word n (repeated u k)
word_repeated n u zero h = tt
word_repeated n u (suc k) h = word_append n u (repeated u k) h (word_repeated n u k h)

module _ (A : Automaton) where
  pub run_append : (p : ℕ) (u v : List ℕ) → run A p (u ++ v) ≡ run A (run A p u) v
  run_append p [] v = refl
  run_append p (a ∷ u) v = run_append (A.step p a) u v

  pub run_below : WellFormed A → (p : ℕ) (w : List ℕ) → p < A.states → Word A.labels w → run A p w < A.states
  run_below f p [] h k = h
  run_below f p (a ∷ w) h (l, k) = run_below f (A.step p a) w (f.step p a h l) k

  pub internal_below : WellFormed A → {p : ℕ} → Internal A p → p < A.states
  internal_below f i = subst (λ p. p < A.states) i.leads (run_below f A.start (i.first ∷ i.rest) f.start i.word)

-- a nonempty word, by its last letter
pub record Last (n : ℕ) (w : List ℕ) : Type 0 where
  pub front : List ℕ
  pub last : ℕ
  pub front_word : Word n front
  pub last_word : last < n
  pub splits : w ≡ front ++ last ∷ []

pub last_of : (n a : ℕ) (w : List ℕ) → Word n (a ∷ w) → Last n (a ∷ w)
last_of n a [] (h, word) = record { front = []; last = a; front_word = tt; last_word = h; splits = refl }
last_of n a (b ∷ w) (h, word) =
    let l = last_of n b w word in
    record { front = a ∷ l.front; last = l.last; front_word = (h, l.front_word); last_word = l.last_word; splits = ap (λ v. a ∷ v) l.splits }

-- the parts of a word are words
pub word_parts : (n : ℕ) (u v : List ℕ) → Word n (u ++ v) → Word n u × Word n v
word_parts n [] v h = (tt, h)
word_parts n (a ∷ u) v (h, k) = let p = word_parts n u v k in ((h, p.0), p.1)
