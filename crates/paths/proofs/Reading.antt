-- The steps read so far, and that no others can be.
use Rattle.std.proofs.Common.{◌≡◌, ℕ, ◌<◌, ◌≤◌, true, List, [], ◌∷◌, ◌++◌, length, Ok, Err, Result, sym, ap, ◌∙◌, subst, append_assoc, append-nil, arith}
use Rattle.std.proofs.lemmas.List.{length_push, length-take}
use Rattle.text.specs.declared.list.ArrayList.{ArrayList}
use Rattle.text.specs.Lists.{items, Pushes}
use Rattle.std.specs.Result.{result_or}
use Rattle.text.specs.declared.refusal.Refusal.{Refusal}
use Rattle.text.specs.declared.refusal.Refusal.TheVariants.{NotSteps, TooManySteps}
use Rattle.text.specs.NameLists.{all_names}
use Rattle.paths.specs.declared.path.Step.{Step}
use Rattle.paths.specs.FirstSteps.{First}
use Rattle.paths.specs.Texts.{Written, Sized, ReadAs, Unread, Refused, not_steps, many_steps}
use Rattle.paths.proofs.Spelling.{written_once}

module _ (names : List (List ℕ)) (text : List ℕ) where
  pub read_as : all_names names ≡ true → (steps : List Step) → Written names steps text → Sized text → length steps ≤ 15 → ReadAs names text steps
  read_as rule steps written sized few = record { sized = sized; written = written; only = λ ss w. written_once names rule ss steps text w written; few = few }

  -- the list has the steps that are read, or it is full and there were more
  abbrev pub Held : List Step → ArrayList Step 15 → Result (Unit {0}) Step → Type 0
  Held read steps (Ok done) = items steps ≡ read
  Held read steps (Err last) = (length (items steps) ≡ 15) × (15 < length read)

  -- `read` are the steps before the rest
  pub record Sofar (rest : List ℕ) (steps : ArrayList Step 15) (stored : Result (Unit {0}) Step) : Type 0 where
    pub read : List Step
    pub held : Held read steps stored
    pub joins : (us : List Step) → Written names us rest → Written names (read ++ us) text
    pub only : (ss : List Step) → Written names ss text → (us : List Step) × (ss ≡ read ++ us) × Written names us rest

  -- one step more is held, or it is one too many
  held_more : (read : List Step) (steps : ArrayList Step 15) (stored : Result (Unit {0}) Step) (s : Step) (after : ArrayList Step 15) (now : Result (Unit {0}) Step) → Held read steps stored → Pushes 15 steps s after now → Held (read ++ s ∷ []) after now
  held_more read steps (Ok _) s after (Ok _) h pushed = pushed ∙ ap (λ xs. xs ++ s ∷ []) h
  held_more read steps (Ok _) s after (Err back) h (full, same, _) = (ap (λ l. length (items l)) same ∙ full, omega (arith, length_push read s, full, ap length h))
  held_more read steps (Err was) s after (Ok _) h pushed = absurd (omega (arith, h.0, ap length pushed, length_push (items steps) s, length-take after.len after.places, after.fits))
  held_more read steps (Err was) s after (Err back) h (full, same, _) = (ap (λ l. length (items l)) same ∙ full, omega (arith, length_push read s, h.1))

  pub one_read : (rest : List ℕ) (steps : ArrayList Step 15) (stored : Result (Unit {0}) Step) (s : Step) (left : List ℕ) (after : ArrayList Step 15) (now : Result (Unit {0}) Step) → Sofar rest steps stored → First names rest s left → Pushes 15 steps s after now → Sofar left after now
  one_read rest steps stored s left after now h f pushed = record {
    read = h.read ++ s ∷ [];
    held = held_more h.read steps stored s after now h.held pushed;
    joins = λ us w. subst (λ x. Written names x text) (sym (append_assoc h.read (s ∷ []) us)) (h.joins (s ∷ us) (f.own, left, f.whole, f.spells, w));
    only = λ ss w.
        let o = h.only ss w in
        let p = f.only o.0 o.2 in
        (p.0, o.1 ∙ ap (λ x. h.read ++ x) p.1 ∙ sym (append_assoc h.read (s ∷ []) p.0), p.2);
  }

  pub not_read : (rest : List ℕ) (steps : ArrayList Step 15) (stored : Result (Unit {0}) Step) → Sofar rest steps stored → Sized text → Unread names rest → Refused names text NotSteps
  not_read rest steps stored h sized u = not_steps sized (λ ss w. let o = h.only ss w in u o.0 o.2)

  module _ (rest : List ℕ) (steps : ArrayList Step 15) (end : rest ≡ []) (sized : Sized text) where
    written_all : (stored : Result (Unit {0}) Step) (h : Sofar rest steps stored) → Written names h.read text
    written_all stored h = subst (λ x. Written names x text) (append-nil h.read) (h.joins [] end)

    pub many_read : (stored : Result (Unit {0}) Step) (why : Refusal) → Sofar rest steps stored → Err why ≡ result_or stored (Err TooManySteps) → Refused names text why
    many_read (Ok _) why h e = let no : ◌≡◌ {A = ℕ} 0 1 = cc in absurd (omega arith)
    many_read (Err last) why h e = let is : why ≡ TooManySteps = cc in rw is (many_steps h.read sized (written_all (Err last) h) h.held.1)

    pub all_read : (stored : Result (Unit {0}) Step) (done : Unit {0}) → all_names names ≡ true → Sofar rest steps stored → Ok done ≡ result_or stored (Err TooManySteps) → (1 ≤ length (items steps)) × ReadAs names text (items steps)
    all_read (Ok was) done rule h e = (
      omega (arith, ap length h.held, some h.read (written_all (Ok was) h)),
      subst (ReadAs names text) (sym h.held) (read_as rule h.read (written_all (Ok was) h) sized (omega (arith, ap length h.held, length-take steps.len steps.places, steps.fits))),
    )
      where
        some : (ss : List Step) → Written names ss text → 1 ≤ length ss
        some [] w = absurd (omega (arith, ap length w, sized.0))
        some (s ∷ ss) w = omega arith
    all_read (Err last) done rule h e = let no : ◌≡◌ {A = ℕ} 0 1 = cc in absurd (omega arith)
