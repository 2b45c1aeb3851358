-- One target more, and then the row, or one set too many.
use Rattle.std.proofs.Common.{◌≡◌, ap, ◌∙◌, arith, length-set}
use Rattle.std.proofs.lemmas.List.{get_or_append_left}
use Rattle.paths.specs.Scans.{steps_in, labels_in, sets_in}
use Rattle.paths.specs.Sets.{sets_of}
use Rattle.paths.specs.Texts.{steps_of}
use Rattle.paths.proofs.Rows.{row_more, row_as, stuck_at, led_by, says_by}
use Rattle.paths.proofs.path.compile.Scan.row.Goals as goal

pub returns-in_err-target-clause-row : goal.returns-in_err-target-clause-row
returns-in_err-target-clause-row c =
    let self = c.args.self.now in
    let leads = led_by (steps_in self) _ _ _ _ _ (ap steps_of c.loop-label.invariant.kept.path) c.set-set.ensures c.moved.ensures in
    rw c.from_residual.ensures (stuck_at (steps_in self) (labels_in self) _ (sets_in self) _ _ _ _ _ (omega arith) c.loop-label.invariant.row leads c.in_err-target.ensures.0 (ap sets_of c.in_err-target.ensures.1))

pub loop-label-preserved : goal.loop-label-preserved
loop-label-preserved c =
    let self = c.args.self.now in
    let leads = led_by (steps_in self) _ _ _ _ _ (ap steps_of c.loop-label.invariant.kept.path) c.set-set.ensures c.moved.ensures in
    record {
      long = simp length-set c.loop-label.invariant.long;
      kept = record { path = c.loop-label.invariant.kept.path; labels = c.loop-label.invariant.kept.labels };
      row = row_more (steps_in self) _ (sets_in self) _ _ _ _ _ _ (omega arith) c.loop-label.invariant.row leads c.in_ok-target.ensures;
    }

pub returns-clause-row : goal.returns-clause-row
returns-clause-row c =
    let self = c.args.self.now in
    let all : c.loop-label.label ≡ labels_in self = omega (arith, c.loop-label.invariant.long) in (
      row_as (steps_in self) _ (sets_in self) _ _ _ _ (λ b h. get_or_append_left c.loop-label.target-items _ 0 b (omega (arith, c.loop-label.invariant.long))) (rw (← all) c.loop-label.invariant.row),
      says_by (steps_in self) _ _ _ _ (c.steps.ensures ∙ ap steps_of c.loop-label.invariant.kept.path) c.set-set.ensures c.holds-accepts.ensures,
    )
