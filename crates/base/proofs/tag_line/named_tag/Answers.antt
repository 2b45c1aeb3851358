-- A line that begins with a mark and a tab has the rest for name.
use Rattle.std.proofs.Common.{◌≡◌, ◌≤◌, length, get_or, sym, rules}
use Rattle.std.proofs.lemmas.List.{take_rest}
use Rattle.base.proofs.Giving.{marked_open, marked_close}
use Rattle.base.proofs.tag_line.named_tag.Goals as goal

pub returns-in-43 : goal.returns-in-43
returns-in-43 c =
    let s = c.args.line.now in
    let long : 2 ≤ length s = search rules in
    let mark : get_or s 0 0 ≡ 43 = search rules in
    let tab : get_or s 1 0 ≡ 9 = search rules in
    rw take_rest (sym (marked_open s long mark tab))

pub returns-in-45 : goal.returns-in-45
returns-in-45 c =
    let s = c.args.line.now in
    let long : 2 ≤ length s = search rules in
    let mark : get_or s 0 0 ≡ 45 = search rules in
    let tab : get_or s 1 0 ≡ 9 = search rules in
    rw take_rest (sym (marked_close s long mark tab))
