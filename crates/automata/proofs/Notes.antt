-- The notes of a path one label longer.
use Rattle.std.proofs.Common.{◌≡◌, ℕ, zero, suc, ◌+◌, ◌-◌, ◌≤◌, List, [], ◌∷◌, ◌++◌, length, get_or, refl, ap, subst, arith}
use Rattle.std.proofs.lemmas.List.{get_or_at, take_at, length_push}
use Rattle.automata.specs.Automata.{Automaton, run}
use Rattle.automata.specs.States.{Together}
use Rattle.automata.specs.Noting.{Note, newest, older}
use Rattle.automata.specs.Noted.{StandsIn, Notes, Notes.none, Notes.inside, Notes.across}

pub newest_push : (ns : List Note) (n : Note) → newest (ns ++ (n ∷ [])) ≡ n
newest_push ns n = get_or_at ns n [] _ (length (ns ++ (n ∷ [])) - 1) (omega (arith, length_push ns n))

pub older_push : (ns : List Note) (n : Note) → older (ns ++ (n ∷ [])) ≡ ns
older_push ns n = take_at ns (n ∷ []) (length (ns ++ (n ∷ [])) - 1) (omega (arith, length_push ns n))

module _ (A : Automaton) where
  pub push_inside : {d p : ℕ} {w : List ℕ} {ns : List Note} (a : ℕ) → Together A (run A p w) (A.step (run A p w) a) → Notes A d p w ns → Notes A d p (w ++ (a ∷ [])) ns
  push_inside a h none = inside h none
  push_inside a h (inside g n) = inside g (push_inside a h n)
  push_inside a h (across g s n) = across g s (push_inside a h n)

  pub push_across : {d p : ℕ} {w : List ℕ} {ns : List Note} (a e x : ℕ) → e ≡ d + length w + 1 → ¬ Together A (run A p w) (A.step (run A p w) a) → StandsIn A x (run A p w) → Notes A d p w ns → Notes A d p (w ++ (a ∷ [])) (ns ++ (record { depth = e; state = x } ∷ []))
  push_across {d} {p} a e x k h s none = subst (λ c. Notes A d p (a ∷ []) (record { depth = c; state = x } ∷ [])) (omega arith) (across h s none)
  push_across a e x k h s (inside g n) = inside g (push_across a e x (omega arith) h s n)
  push_across a e x k h s (across g r n) = across g r (push_across a e x (omega arith) h s n)

  -- the last step of a path: it stays inside a component, or the last note is of it
  pub data Last (d p : ℕ) (w : List ℕ) (a : ℕ) (ns : List Note) : Type 0 where
    stays : Together A (run A p w) (A.step (run A p w) a) → Notes A d p w ns → Last d p w a ns
    leaves : (ms : List Note) (m : Note) → ns ≡ ms ++ (m ∷ []) → m.depth ≡ d + length w + 1 → StandsIn A m.state (run A p w) → Notes A d p w ms → Last d p w a ns

  pub last_step : (d p a : ℕ) (w : List ℕ) (ns : List Note) → Notes A d p (w ++ (a ∷ [])) ns → Last d p w a ns
  last_step d p a [] ns (inside h none) = stays h none
  last_step d p a [] ns (across {x} h s none) = leaves [] (record { depth = d + 1; state = x }) refl (omega arith) s none
  last_step d p a (b ∷ w) ns (inside h n) =
      elim (last_step (d + 1) (A.step p b) a w ns n) [
        | stays g l ↦ stays g (inside h l)
        | leaves ms m e k r l ↦ leaves ms m e (omega arith) r (inside h l)
      ]
  last_step d p a (b ∷ w) ns (across {x} {ns = rest} h s n) =
      elim (last_step (d + 1) (A.step p b) a w rest n) [
        | stays g l ↦ stays g (across h s l)
        | leaves ms m e k r l ↦ leaves (record { depth = d + 1; state = x } ∷ ms) m (ap (λ l'. record { depth = d + 1; state = x } ∷ l') e) (omega arith) r (across h s l)
      ]

  -- no note is deeper than the path
  depth_at : {d p : ℕ} {w : List ℕ} {ns : List Note} (i k : ℕ) → Notes A d p w ns → d + length w ≤ k → (get_or ns i (record { depth = 0; state = 0 })).depth ≤ k
  depth_at i k none h = omega arith
  depth_at i k (inside g n) h = depth_at i k n (omega arith)
  depth_at zero k (across g s n) h = omega arith
  depth_at (suc i) k (across g s n) h = depth_at i k n (omega arith)

  pub newest_depth : {p : ℕ} {w : List ℕ} {ns : List Note} → Notes A 0 p w ns → (newest ns).depth ≤ length w
  newest_depth {w} {ns} n = depth_at (length ns - 1) (length w) n (omega arith)
