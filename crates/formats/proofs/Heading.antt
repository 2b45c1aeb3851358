-- The first line of a text, put together again from its fields.
use Rattle.std.proofs.Common.{◌≡◌, ℕ, Bool, true, false, cond, List, ◌∷◌, ◌++◌, Ok, Err, codes, Result, sym, refl, ap, ◌∙◌, arith}
use Rattle.std.specs.Str.{bytes_eq}
use Rattle.std.proofs.lemmas.Slice.Eq.{bytes_eq-Decides}
use Rattle.std.proofs.lemmas.List.{append_assoc}
use Rattle.std.proofs.lemmas.Bool.Decides.{nat_tests}
use Rattle.text.specs.declared.refusal.Refusal.{Refusal}
use Rattle.text.specs.declared.refusal.Refusal.TheVariants.{NotLabels}
use Rattle.text.specs.Pieces.{Pieces, last, next, split, listed, first, others}
use Rattle.formats.specs.LabelLine.{by_rules, names_in, label_line, Headed, Unheaded, labels}
use Rattle.formats.specs.Reading.{FirstLine}
use Rattle.formats.specs.Lines.{ending, line}
use Rattle.formats.proofs.Splitting.{rejoined, rejoined_split, front_is}

ending_listed : (ps : Pieces) → ending (listed ps) ≡ 9
ending_listed (last x) = refl
ending_listed (next x ps) = refl

line_listed : (ps : Pieces) (rest : List ℕ) → line (listed ps) rest ≡ rejoined 9 ps ++ 10 ∷ rest
line_listed (last x) rest = refl
line_listed (next x ps) rest =
    ap (λ e. x ++ e ∷ line (listed ps) rest) (ending_listed ps) ∙ ap (λ t. x ++ 9 ∷ t) (line_listed ps rest) ∙ sym (append_assoc x (9 ∷ rejoined 9 ps) (10 ∷ rest))

rules_keep : (xs names : List (List ℕ)) → Ok names ≡ by_rules xs → xs ≡ names
rules_keep xs names h = grind (arith, nat_tests)

listed_is : (ps : Pieces) → listed ps ≡ first ps ∷ others ps
listed_is (last x) = refl
listed_is (next x ps) = refl

fields_of : (ps : Pieces) (names : List (List ℕ)) → Ok names ≡ names_in ps → listed ps ≡ codes "labels" ∷ names
fields_of ps names h =
    let P : Bool → Type 0 = λ t. bytes_eq (first ps) (codes "labels") ≡ t → Ok names ≡ cond t (by_rules (others ps)) (Err NotLabels) → (first ps ≡ codes "labels") × (others ps ≡ names) in
    let parts : (first ps ≡ codes "labels") × (others ps ≡ names) =
    (elim (bytes_eq (first ps) (codes "labels")) as P [
      | true ↦ λ e g. ((bytes_eq-Decides (first ps) (codes "labels")).0 e, rules_keep (others ps) names g)
      | false ↦ λ e g. let no : ◌≡◌ {A = ℕ} 0 1 = cc in absurd (omega arith)
    ]) refl h in
    listed_is ps ∙ cc

module _ (text before rest : List ℕ) (cut : FirstLine text before rest) where
  first_named : (r : Result (List (List ℕ)) Refusal) → r ≡ names_in (split 9 before) → label_line text ≡ r
  first_named r h = ap (λ ps. names_in (split 9 (first ps))) cut.cut ∙ sym h

  pub headed : (names : List (List ℕ)) → Ok names ≡ names_in (split 9 before) → Headed text names rest
  headed names h = record {
    fits = cut.fits;
    ended = cut.ended;
    named = first_named (Ok names) h;
    written = front_is 10 text before rest cut.cut ∙ ap (λ t. t ++ 10 ∷ rest) (sym (rejoined_split 9 before)) ∙ sym (line_listed (split 9 before) rest) ∙ ap (λ xs. line xs rest) (fields_of (split 9 before) names h);
  }

  pub badly_named : (why : Refusal) → Err why ≡ names_in (split 9 before) → Unheaded text why
  badly_named why h = labels why cut.fits cut.ended (first_named (Err why) h)
