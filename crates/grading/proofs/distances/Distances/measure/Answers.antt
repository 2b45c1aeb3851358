-- One cell is written.
use Rattle.std.proofs.Common.{◌+◌, ◌<◌, [], length, get_or, sym, refl, ◌∙◌, inl, rules}
use borrow.Author.Rules.{Below-row}
use Rattle.grading.proofs.Cells.{cell_others, cell_here}
use Rattle.grading.proofs.distances.Distances.measure.Goals as goal

pub returns-then-is_near : goal.returns-then-is_near
returns-then-is_near c =
    let rows = c.args.self.now.steps in
    let p = c.args.pair.first in
    let q = c.args.pair.second in
    let tall : p < length rows = search rules in
    let wide : q < length (get_or rows p []) = search (rules, Below-row) in
    inl (record {
      given = record { none = sym c.get.ensures ∙ c.if-get.true; near = c.is_near.ensures.0 c.if-is_near.true; next = cell_here 0 rows p q (c.args.steps + 1) tall wide; most = refl };
      others = cell_others 0 rows p q (c.args.steps + 1) tall wide;
    })
