-- Readers one after the other: what is left of a text decides what its front says.
use Rattle.std.proofs.Common.{◌≡◌, ℕ, List, sym, ap, ◌∙◌}
use Rattle.formats.specs.Reading.{Form, Found, Missing}

module _ {V : Type 0} (form : Form V) (s : List ℕ) where
  -- the same values, in other words
  pub found_as : {same same' : V → Type 0} (left : List ℕ) → Found form s same left → ((v : V) → same' v → same v) → ((v : V) → same v → same' v) → Found form s same' left
  found_as left found from to = record {
    written = λ v h. found.written v (from v h);
    only = λ v tail r e. let o = found.only v tail r e in (to v o.0, o.1);
  }

  -- a value is written at the front of s, if it is the same as what was read and the left is what remains of it
  pub record Leads (same : V → Type 0) (left : List ℕ) (remains : V → List ℕ → List ℕ) : Type 0 where
    pub back : (v : V) (tail : List ℕ) → same v → left ≡ remains v tail → s ≡ form.write v tail
    pub on : (v : V) (tail : List ℕ) → form.range v → s ≡ form.write v tail → same v × (left ≡ remains v tail)

  pub leads_all : (same : V → Type 0) (left : List ℕ) (remains : V → List ℕ → List ℕ) → ((v : V) (tail : List ℕ) → remains v tail ≡ tail) → Leads same left remains → Found form s same left
  leads_all same left remains none lead = record {
    written = λ v h. lead.back v left h (sym (none v left));
    only = λ v tail r e. let o = lead.on v tail r e in (o.0, sym (o.1 ∙ none v tail));
  }

  -- a part is read: `pick` has it out of the whole
  module _ {X : Type 0} (part : Form X) (pick : V → X) (ok : (v : V) → form.range v → part.range (pick v)) (same : V → Type 0) (left : List ℕ) (before after : V → List ℕ → List ℕ) (begins : (v : V) (tail : List ℕ) → before v tail ≡ part.write (pick v) (after v tail)) (lead : Leads same left before) where
    pub leads_none : Missing part left → Missing form s
    leads_none none v tail r e =
        let o = lead.on v tail r e in none (pick v) (after v tail) (ok v r) (o.1 ∙ begins v tail)

    pub leads_more : (here : X → Type 0) (rest : List ℕ) (same' : V → Type 0) → ((v : V) → same v → here (pick v) → same' v) → ((v : V) → same' v → same v × here (pick v)) → Found part left here rest → Leads same' rest after
    leads_more here rest same' to from found = record {
      back = λ v tail h e. lead.back v tail (from v h).0 (found.written (pick v) (from v h).1 ∙ ap (part.write (pick v)) e ∙ sym (begins v tail));
      on = λ v tail r e.
          let o = lead.on v tail r e in
          let p = found.only (pick v) (after v tail) (ok v r) (o.1 ∙ begins v tail) in
          (to v o.0 p.0, sym p.1);
    }
