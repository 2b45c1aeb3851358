-- Where two internal states that meet are apart, every machine errs on some document.
use Rattle.std.proofs.Common.{◌≡◌, ℕ, ◌+◌, ◌-◌, Bool, ◌≢◌, List, [], ◌∷◌, ◌++◌, map, sym, refl, ap, ◌∙◌, append_assoc, arith}
use mathlib.Core.Bool.{Bool-discrete}
use Rattle.automata.specs.Automata.{Automaton, Word, run, accepts}
use Rattle.automata.specs.States.{Internal, Apart}
use Rattle.automata.specs.declared.tag.Tag.TheVariants.{Open}
use Rattle.automata.specs.Streams.{Machine, Finite, reads}
use Rattle.automata.specs.Theorems.{RegisterlessIff, DeniedErrs}
use Rattle.automata.proofs.Pigeonhole.{pigeonhole}
use Rattle.automata.proofs.Words.{word_append, repeated, repeated_add, word_repeated, run_append, internal_below, last_of}
use Rattle.automata.proofs.Loops.{Loop, loop, meet_later, kept}
use Rattle.automata.proofs.Tags.{opens_below}
use Rattle.automata.proofs.Bends.{Fails, confused}

-- p is internal, and w leads it to r, which w keeps, and from which it is apart: a machine confuses two powers of w
pub loop_fails : (A : Automaton) (M : Machine) → Finite A.labels M → (p r : ℕ) (w : List ℕ) → Internal A p → Word A.labels w → run A p w ≡ r → run A r w ≡ r → Apart A p r → Fails A M
loop_fails A M f p r w i word there kept_there apart =
    let n : ℕ = A.labels in
    let s : List ℕ = i.first ∷ i.rest in
    let twice = pigeonhole M.count (λ k. reads M M.start (map Open (s ++ repeated w k))) (λ k _. opens_below M n f M.start (s ++ repeated w k) f.start (word_append n s (repeated w k) i.word (word_repeated n w k word))) in
    let y : List ℕ = repeated w twice.early in
    let x : List ℕ = repeated w (twice.late - twice.early) in
    let t = last_of n apart.first apart.rest apart.word in
    let whole : twice.late ≡ twice.late - twice.early + twice.early = omega (arith, twice.order) in
    let late : s ++ repeated w twice.late ≡ (s ++ x) ++ y = ap (λ k. s ++ repeated w k) whole ∙ ap (λ v. s ++ v) (repeated_add w (twice.late - twice.early) twice.early) ∙ sym (append_assoc s x y) in
    let far : run A A.start (s ++ x) ≡ r = run_append A A.start s x ∙ ap (λ q. run A q x) i.leads ∙ kept A p r w there kept_there (twice.late - twice.early) (omega (arith, twice.order)) in
    let on : (q : ℕ) (c : List ℕ) → run A A.start c ≡ q → accepts A (c ++ (t.front ++ t.last ∷ [])) ≡ A.yes (run A q (apart.first ∷ apart.rest)) = λ q c e. ap A.yes (run_append A A.start c (t.front ++ t.last ∷ []) ∙ ap (λ m. run A m (t.front ++ t.last ∷ [])) e ∙ ap (run A q) (sym t.splits)) in
    confused A M i.first i.rest (i.rest ++ x) y t.front t.last i.word (word_append n s x i.word (word_repeated n w (twice.late - twice.early) word)) (word_repeated n w twice.early word) t.front_word t.last_word
    (twice.same ∙ ap (λ v. reads M M.start (map Open v)) late)
    (λ e. apart.differ (sym (on p s i.leads) ∙ e ∙ on r (s ++ x) far))

pub denied_errs : DeniedErrs
denied_errs A well clash M f = cases (Bool-discrete (A.yes (run A clash.p t)) (A.yes (run A r t)))
  where
    u : List ℕ
    u = clash.meet.by

    t : List ℕ
    t = clash.apart.first ∷ clash.apart.rest

    around : Loop A clash.p u
    around = loop A clash.p u well (internal_below A well clash.p_internal) clash.meet.word

    w : List ℕ
    w = repeated u around.power

    r : ℕ
    r = run A clash.p w

    word : Word A.labels w
    word = word_repeated A.labels u around.power clash.meet.word

    cases : Dec (A.yes (run A clash.p t) ≡ A.yes (run A r t)) → Fails A M
    cases (no h) = loop_fails A M f clash.p r w clash.p_internal word refl around.keeps (record { first = clash.apart.first; rest = clash.apart.rest; word = clash.apart.word; differ = h })
    cases (yes h) = loop_fails A M f clash.q r w clash.q_internal word (sym (meet_later A clash.p clash.q u clash.meet.same around.power around.some)) around.keeps (record { first = clash.apart.first; rest = clash.apart.rest; word = clash.apart.word; differ = λ k. clash.apart.differ (h ∙ sym k) })

pub registerless_iff : RegisterlessIff
registerless_iff A = (λ r clash. clash.apart.differ (r clash.p clash.q clash.p_internal clash.q_internal clash.meet clash.apart.first clash.apart.rest clash.apart.word), λ none p q i j meet a w word. same (Bool-discrete (A.yes (run A p (a ∷ w))) (A.yes (run A q (a ∷ w)))) (λ h. none (record { p = p; q = q; p_internal = i; q_internal = j; meet = meet; apart = record { first = a; rest = w; word = word; differ = h } })))
  where
    same : {x y : Bool} → Dec (x ≡ y) → ¬ (x ≢ y) → x ≡ y
    same (yes e) h = e
    same (no e) h = absurd (h e)
