-- The library's parts are the fields, and `is_name` tests each.
use Rattle.std.proofs.Common.{eqb, ap, ◌∙◌, rules, tests}
use Rattle.std.specs.List.{list_all}
use Rattle.std.proofs.lemmas.Iterator.Search.{all_from_yields_List}
use Rattle.std.proofs.lemmas.Iterator.Splits.{YieldsList-from_slice_split}
use Rattle.text.specs.Names.{is_name}
use Rattle.formats.proofs.NameFields.{fields, fields_split, all_are}
use Rattle.formats.proofs.label_line.all_names.Goals as goal

pub returns : goal.returns
returns c =
    let s = c.args.fields.now in
    all_from_yields_List is_name _ _ c.all.result c.all.ensures.ran
    (YieldsList-from_slice_split _ (λ b. eqb b 9) s c.split.ensures.rest c.split.ensures.done c.split.ensures.closure (λ x b q k. search (rules, tests)))
    (λ x b q k. search (rules, tests)) ∙ ap (list_all is_name) (fields_split s) ∙ all_are (fields s)
