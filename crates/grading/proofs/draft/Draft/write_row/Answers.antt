-- Each target is written in the row of its number, and a new number has room.
use Rattle.std.proofs.Common.{◌≡◌, ◌<◌, length, sym, ap, ◌∙◌, subst, arith, rules, length-set}
use Rattle.std.proofs.lemmas.List.{get_or_append_left}
use Rattle.base.specs.Tables.{automaton}
use Rattle.grading.specs.Drafts.{olds}
use Rattle.grading.proofs.Drafting.{count_fits, drafted_blank, drafted_free, drafted_more, drafted_row, named_targets}
use Rattle.grading.proofs.Searching.{agrees_of}
use Rattle.grading.proofs.draft.Draft.write_row.Goals as goal

pub loop-label-init : goal.loop-label-init
loop-label-init c =
    let t = c.args.differ.now.table.now in
    record {
      tall = search rules;
      long = search (rules, t.sized);
      drafted = drafted_blank t c.args.self.now c.args.number _ c.requires.1;
      row = c.requires.0;
      state = c.state-state.ensures;
    }

pub name-requires : goal.name-requires
name-requires c =
    let t = c.args.differ.now.table.now in
    let d = c.loop-label.self in
    let h = c.loop-label.invariant.drafted in
    let is : c.step.result ≡ (automaton t).step (olds d c.args.number) c.loop-label.label = c.step.ensures ∙ ap (λ s. (automaton t).step s c.loop-label.label) c.loop-label.invariant.state in
    let below : c.step.result < t.states = subst (λ y. y < t.states) (sym is) (t.closed (olds d c.args.number) c.loop-label.label (h.below c.args.number c.loop-label.invariant.row) (omega (arith, c.loop-label.invariant.long))) in
    (omega (arith, t.sized.3), drafted_free t c.args.differ.now.pairs (agrees_of c.args.differ.now) d c.args.number c.loop-label.target-items _ c.step.result h below)

pub loop-label-preserved : goal.loop-label-preserved
loop-label-preserved c =
    let t = c.args.differ.now.table.now in
    let d = c.loop-label.self in
    let e = c.name.new.self in
    let all : length e.targets ≡ 32 = ap length (named_targets c.args.differ.now.pairs d e _ _ c.name.ensures) ∙ c.loop-label.invariant.tall in
    let is = c.step.ensures ∙ ap (λ s. (automaton t).step s c.loop-label.label) c.loop-label.invariant.state in
    let more = drafted_more t c.args.differ.now.pairs (agrees_of c.args.differ.now) d e c.args.number c.loop-label.label c.step.result c.name.result c.loop-label.target-items c.loop-label.invariant.drafted c.loop-label.invariant.row (omega (arith, c.loop-label.invariant.long)) is (omega (arith, all, c.loop-label.invariant.row, count_fits d)) (omega arith) c.name.ensures in
    record {
      tall = all;
      long = simp length-set c.loop-label.invariant.long;
      drafted = more.0;
      row = more.1;
      state = c.loop-label.invariant.state ∙ sym more.2;
    }

pub returns : goal.returns
returns c =
    let t = c.args.differ.now.table.now in
    let d = c.loop-label.self in
    drafted_row t d c.args.number c.loop-label.target-items (omega (arith, c.loop-label.invariant.tall, c.loop-label.invariant.row, count_fits d)) _ c.loop-label.label (omega (arith, c.loop-label.invariant.long)) c.loop-label.invariant.row
    (λ b l. get_or_append_left c.loop-label.target-items _ 0 b (omega (arith, c.loop-label.invariant.long))) c.loop-label.invariant.drafted
