-- One row more, and then all, or one set too many.
use Rattle.std.proofs.Common.{◌≡◌, length, refl, ◌∙◌, subst, arith, length-set}
use Rattle.paths.specs.Scans.{steps_in, labels_in, sets_in, Scanned}
use Rattle.paths.proofs.Scanning.{sets_fit, scan_none, scan_more, scan_stuck}
use Rattle.paths.proofs.path.compile.Scan.rows.Goals as goal

pub loop-state-init : goal.loop-state-init
loop-state-init c = record { long = refl; kept = record { path = refl; labels = refl }; scanned = scan_none (steps_in c.args.self.now) (labels_in c.args.self.now) _ _ c.requires }

pub returns-in_err-rows-clause-rows : goal.returns-in_err-rows-clause-rows
returns-in_err-rows-clause-rows c =
    let self = c.args.self.now in
    let kept = c.loop-state.invariant.kept in
    let stuck = rw (kept.path, kept.labels) at c.in_err-rows.ensures.row in
    rw c.from_residual.ensures (scan_stuck (steps_in self) (labels_in self) _ _ _ _ (omega arith) c.row.new.self.sets.distinct c.loop-state.invariant.scanned stuck)

pub loop-state-preserved : goal.loop-state-preserved
loop-state-preserved c =
    let self = c.args.self.now in
    let kept = c.loop-state.invariant.kept in
    let row = rw (kept.path, kept.labels) at c.in_ok-rows.ensures.row in
    record {
      long = simp length-set c.loop-state.invariant.long;
      kept = record { path = c.in_ok-rows.ensures.kept.path ∙ kept.path; labels = c.in_ok-rows.ensures.kept.labels ∙ kept.labels };
      scanned = scan_more (steps_in self) (labels_in self) _ _ _ _ _ (omega (arith, sets_fit c.loop-state.self.sets)) (omega arith) c.loop-state.invariant.scanned row.0 row.1;
    }

pub returns-clause-rows : goal.returns-clause-rows
returns-clause-rows c =
    let self = c.args.self.now in
    let all : c.loop-state.state ≡ length (sets_in c.loop-state.self) = omega (arith, c.loop-state.invariant.scanned.below) in
    subst (λ p. Scanned (steps_in self) (labels_in self) c.loop-state.rows p (sets_in c.loop-state.self)) all c.loop-state.invariant.scanned
