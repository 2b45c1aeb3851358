-- The library's parts are the fields, and there is one at a place exactly where there are more than so many.
use Rattle.std.proofs.Common.{◌≡◌, ◌<◌, ◌≤◌, ℕ, Bool, Decides, eqb, List, length, Some, None, Option, sym, subst, arith, rules, tests}
use Rattle.std.specs.Option.{is_some, option_map}
use Rattle.std.specs.List.{slice_get}
use Rattle.std.proofs.lemmas.Option.{slice_get_cases, slice_get_within}
use Rattle.std.proofs.lemmas.Iterator.Consumers.{nth_from_yields_List}
use Rattle.std.proofs.lemmas.Iterator.Splits.{YieldsList-from_slice_split}
use Rattle.formats.proofs.NameFields.{fields_split}
use Rattle.formats.proofs.label_line.has_more_fields.Goals as goal

more : {A B : Type 0} (v : A → B) (all : List B) (n : ℕ) (r : Option A) (b : Bool) → option_map v r ≡ slice_get all n → b ≡ is_some r → Decides b (n < length all)
more v all n (Some x) b e h = (λ _. slice_get_within all n (v x) (sym e), λ _. h)
more v all n None b e h = (λ yes. absurd (grind arith), λ inside. let there = slice_get_cases all n in absurd (grind arith))

pub returns : goal.returns
returns c =
    let s = c.args.fields.now in
    let n = c.args.count in
    let at = nth_from_yields_List c.nth.result _ n c.nth.ensures.ran (YieldsList-from_slice_split _ (λ b. eqb b 9) s c.split.ensures.rest c.split.ensures.done c.split.ensures.closure (λ x b q k. search (rules, tests))) in
    subst (λ all. Decides c.is_some.result (n < length all)) (fields_split s) (more _ _ n c.nth.result c.is_some.result at c.is_some.ensures)
