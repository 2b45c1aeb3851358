-- One more target, or none.
use Rattle.std.proofs.Common.{◌≡◌, ◌+◌, ◌<◌, ◌≤◌, ◌∙◌, length, arith, length-set, rules}
use Rattle.std.proofs.lemmas.List.{length-take-le}
use Rattle.text.specs.Labelled.{names_of}
use Rattle.text.proofs.Naming.{few_names}
use Rattle.formats.proofs.Storing.{no_targets, target_missing, target_more, targets_found}
use Rattle.formats.proofs.rows.take_targets.Goals as goal

pub loop-label-init : goal.loop-label-init
loop-label-init c = record {
  long = length-take-le c.count-count.result _ (omega (arith, few_names c.args.labels.now.names)) ∙ c.count-count.ensures;
  read = no_targets _ _ _;
}

pub returns-in_err-target : goal.returns-in_err-target
returns-in_err-target c =
    let labels = length (names_of c.args.labels.now) in
    let tab : c.loop-label.label + 1 < labels → c.if-label-count.end ≡ 9 = λ h. search rules in
    let newline : labels ≤ c.loop-label.label + 1 → c.if-label-count.end ≡ 10 = λ h. search rules in
    rw c.from_residual.ensures (target_missing _ _ _ _ _ _ (omega (arith, c.loop-label.invariant.long)) tab newline c.loop-label.invariant.read c.in_err-target.ensures)

pub loop-label-preserved : goal.loop-label-preserved
loop-label-preserved c =
    let labels = length (names_of c.args.labels.now) in
    let tab : c.loop-label.label + 1 < labels → c.if-label-count.end ≡ 9 = λ h. search rules in
    let newline : labels ≤ c.loop-label.label + 1 → c.if-label-count.end ≡ 10 = λ h. search rules in
    record {
      long = simp length-set c.loop-label.invariant.long;
      read = target_more _ _ _ _ _ _ (omega (arith, c.loop-label.invariant.long)) tab newline c.loop-label.invariant.read _ _ (omega arith) c.in_ok-target.ensures;
    }

pub returns : goal.returns
returns c = targets_found _ _ _ _ _ _ (omega (arith, c.loop-label.invariant.long)) c.loop-label.invariant.long c.loop-label.invariant.read
