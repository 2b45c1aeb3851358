-- A text that is too long, one that does not end with a newline, and the first line of any other.
use Rattle.std.proofs.Common.{◌≡◌, ◌<◌, ◌≤◌, ℕ, List, [], ◌∷◌, length, Some, None, Option, Result, MatchOption, MatchResult, Bor, sym, ap, ◌∙◌}
use Rattle.std.specs.Option.{ok_or}
use Rattle.std.proofs.lemmas.Slice.Eq.{ends_is}
use Rattle.std.proofs.lemmas.Bool.{both_ways}
use Rattle.std.proofs.lemmas.Bool.Decides.{Decides-eqb}
use Rattle.text.specs.declared.refusal.Refusal.{Refusal}
use Rattle.text.specs.declared.refusal.Refusal.TheVariants.{NoNewline}
use Rattle.text.specs.Pieces.{last, next, split}
use Rattle.formats.specs.LabelLine.{Ended, Unheaded, too_long, unended}
use Rattle.formats.specs.Reading.{FirstLine}
use Rattle.formats.proofs.Splitting.{not_last}
use Rattle.formats.proofs.label_line.first_line.Goals as goal

cut_line : (text : List ℕ) (o : Option (Bor (List ℕ) × Bor (List ℕ))) (r : Result (Bor (List ℕ) × Bor (List ℕ)) Refusal) → length text ≤ 65536 → Ended text → MatchOption o (split 10 text ≡ last text) (λ p. (split 10 text ≡ next p.0.now (split 10 p.1.now)) × (length p.1.now < length text)) → r ≡ ok_or o NoNewline → MatchResult r (λ p. FirstLine text p.0.now p.1.now) (Unheaded text)
cut_line text None r fits ended one e = absurd (not_last 10 ended.0 [] _ (ap (split 10) (sym ended.1) ∙ one))
cut_line text (Some p) r fits ended cut e = rw e (record { fits = fits; ended = ended; cut = cut.0 })

pub returns-then-text-gt-MAX_BYTES : goal.returns-then-text-gt-MAX_BYTES
returns-then-text-gt-MAX_BYTES c = too_long c.if-text-gt-MAX_BYTES.true

pub returns-then-not-ends_with : goal.returns-then-not-ends_with
returns-then-not-ends_with c =
    let ends = ends_is Decides-eqb c.args.text.now (10 ∷ []) _ c.ends_with.ensures.value in
    unended c.if-text-gt-MAX_BYTES.false (λ e. both_ways _ c.if-not-ends_with.true (ends.1 e.0 e.1))

pub returns : goal.returns
returns c =
    let ends = ends_is Decides-eqb c.args.text.now (10 ∷ []) _ c.ends_with.ensures.value in
    cut_line c.args.text.now _ _ c.if-text-gt-MAX_BYTES.false (_, ends.0 c.if-not-ends_with.false) c.split_once.ensures c.ok_or.ensures.value
