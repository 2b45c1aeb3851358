-- Automata that are alike relate their states alike, and have the same grades.
use Rattle.std.proofs.Common.{◌≡◌, ℕ, ◌<◌, List, [], ◌∷◌, sym, refl, ap, ◌∙◌, subst, arith}
use Rattle.automata.specs.Automata.{Automaton, Word, WellFormed, run, accepts}
use Rattle.automata.specs.States.{Reaches, Internal, Almost, Apart, Meet, Together, MeetInside}
use Rattle.automata.specs.Grades.{Registerless, Clash, Stackless, Knot}
use Rattle.automata.specs.Numbering.{Alike}
use Rattle.automata.proofs.Words.{run_below, internal_below}

-- what holds in A holds in B
module _ (A B : Automaton) (f : WellFormed A) (same : Alike A B) where
  word_there : (w : List ℕ) → Word A.labels w → Word B.labels w
  word_there w = subst (λ n. Word n w) same.labels

  word_back : (w : List ℕ) → Word B.labels w → Word A.labels w
  word_back w = subst (λ n. Word n w) (sym same.labels)

  pub formed_alike : WellFormed B
  formed_alike = record {
    start = omega (arith, f.start, same.start, same.states);
    step = λ p a h l.
        let i : p < A.states = omega (arith, same.states) in
        let j : a < A.labels = omega (arith, same.labels) in
        omega (arith, f.step p a i j, same.step p a i j, same.states);
  }

  pub alike_back : Alike B A
  alike_back = record {
    labels = sym same.labels;
    states = sym same.states;
    start = sym same.start;
    step = λ p a h l. sym (same.step p a (omega (arith, same.states)) (omega (arith, same.labels)));
    yes = λ p h. sym (same.yes p (omega (arith, same.states)));
  }

  run_there : (p : ℕ) (w : List ℕ) → p < A.states → Word A.labels w → run B p w ≡ run A p w
  run_there p [] h k = refl
  run_there p (a ∷ w) h (l, k) = ap (λ q. run B q w) (sym (same.step p a h l)) ∙ run_there (A.step p a) w (f.step p a h l) k

  yes_there : (p : ℕ) (w : List ℕ) → p < A.states → Word A.labels w → B.yes (run B p w) ≡ A.yes (run A p w)
  yes_there p w h k = ap B.yes (run_there p w h k) ∙ sym (same.yes (run A p w) (run_below A f p w h k))

  pub accepts_alike : (w : List ℕ) → Word A.labels w → accepts B w ≡ accepts A w
  accepts_alike w k = ap (λ s. B.yes (run B s w)) (sym same.start) ∙ yes_there A.start w f.start k

  reaches_there : {p q : ℕ} → p < A.states → Reaches A p q → Reaches B p q
  reaches_there {p} h r = record { by = r.by; word = word_there r.by r.word; leads = run_there p r.by h r.word ∙ r.leads }

  pub internal_there : {p : ℕ} → Internal A p → Internal B p
  internal_there i = record {
    first = i.first;
    rest = i.rest;
    word = word_there (i.first ∷ i.rest) i.word;
    leads = ap (λ s. run B s (i.first ∷ i.rest)) (sym same.start) ∙ run_there A.start (i.first ∷ i.rest) f.start i.word ∙ i.leads;
  }

  -- two states of A
  module _ {p q : ℕ} (h : p < A.states) (k : q < A.states) where
    both_there : (w : List ℕ) → Word A.labels w → run A p w ≡ run A q w → run B p w ≡ run B q w
    both_there w l e = run_there p w h l ∙ e ∙ sym (run_there q w k l)

    pub meet_there : Meet A p q → Meet B p q
    meet_there m = record { by = m.by; word = word_there m.by m.word; same = both_there m.by m.word m.same }

    pub together_there : Together A p q → Together B p q
    together_there t = record { there = reaches_there h t.there; back = reaches_there k t.back }

    pub almost_there : Almost A p q → Almost B p q
    almost_there e a w l = let v = word_back (a ∷ w) l in yes_there p (a ∷ w) h v ∙ e a w v ∙ sym (yes_there q (a ∷ w) k v)

    pub apart_there : Apart A p q → Apart B p q
    apart_there d = record {
      first = d.first;
      rest = d.rest;
      word = word_there (d.first ∷ d.rest) d.word;
      differ = λ e. d.differ (sym (yes_there p (d.first ∷ d.rest) h d.word) ∙ e ∙ yes_there q (d.first ∷ d.rest) k d.word);
    }

  pub inside_there : {p q : ℕ} → p < A.states → q < A.states → MeetInside A p q → MeetInside B p q
  inside_there {p} {q} h k m = record {
    by = m.by;
    word = word_there m.by m.word;
    same = both_there h k m.by m.word m.same;
    inside = subst (Together B p) (sym (run_there p m.by h m.word)) (together_there h (run_below A f p m.by h m.word) m.inside);
  }

module _ (A B : Automaton) (f : WellFormed A) (same : Alike A B) where
  g : WellFormed B
  g = formed_alike A B f same

  back : Alike B A
  back = alike_back A B f same

  there : {p : ℕ} → p < A.states → p < B.states
  there h = omega (arith, same.states)

  here : {p : ℕ} → p < B.states → p < A.states
  here h = omega (arith, same.states)

  pub registerless_alike : Registerless A → Registerless B
  registerless_alike r p q i j m =
      let h = internal_below B g i in
      let k = internal_below B g j in
      almost_there A B f same (here h) (here k) (r p q (internal_there B A g back i) (internal_there B A g back j) (meet_there B A g back h k m))

  pub clash_alike : Clash A → Clash B
  clash_alike c =
      let h = internal_below A f c.p_internal in
      let k = internal_below A f c.q_internal in
      record {
        p = c.p;
        q = c.q;
        p_internal = internal_there A B f same c.p_internal;
        q_internal = internal_there A B f same c.q_internal;
        meet = meet_there A B f same h k c.meet;
        apart = apart_there A B f same h k c.apart;
      }

  pub stackless_alike : Stackless A → Stackless B
  stackless_alike r p q h k t m = almost_there A B f same (here h) (here k) (r p q (here h) (here k) (together_there B A g back h k t) (inside_there B A g back h k m))

  pub knot_alike : Knot A → Knot B
  knot_alike c = record {
    p = c.p;
    q = c.q;
    p_below = there c.p_below;
    q_below = there c.q_below;
    together = together_there A B f same c.p_below c.q_below c.together;
    meet = inside_there A B f same c.p_below c.q_below c.meet;
    apart = apart_there A B f same c.p_below c.q_below c.apart;
  }
