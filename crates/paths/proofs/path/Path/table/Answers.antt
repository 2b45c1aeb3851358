-- What the scan found makes the table.
use Rattle.std.proofs.Common.{◌≡◌, ℕ, ◌≤◌, length, subst, arith, MatchResult}
use Rattle.std.proofs.lemmas.Option.{MatchOption-at_some, MatchOption-at_none}
use Rattle.std.proofs.lemmas.Result.{err_from_is_err_and}
use Rattle.text.specs.declared.labels.Labels.{Labels}
use Rattle.text.specs.declared.refusal.Refusal.TheVariants.{TooManySets}
use Rattle.text.specs.Labelled.{names_of}
use Rattle.text.proofs.Naming.{few_names}
use Rattle.paths.specs.declared.path.compile.Scan.{Scan}
use Rattle.paths.specs.Positions.{MoreThan}
use Rattle.paths.specs.Scans.{sets_in, AllScanned}
use Rattle.paths.specs.Tables.{TableOf, Overfull, many_sets}
use Rattle.paths.specs.Texts.{steps_of}
use Rattle.paths.proofs.Compiles.{tabled}
use Rattle.paths.proofs.Scanning.{sets_fit}
use Rattle.paths.proofs.path.Path.table.Goals as goal

few_labels : (l : Labels) (n : ℕ) → n ≡ length (names_of l) → (1 ≤ n) × (n ≤ 16)
few_labels l n e = (omega (arith, l.some), omega (arith, few_names l.names))

pub returns-in_err-rows : goal.returns-in_err-rows
returns-in_err-rows c =
    let steps = steps_of c.args.self.now in
    let n = length (names_of c.args.labels.now) in
    let begun : Scan = record { path = c.args.self; labels = c.args.labels; sets = c.new.result } in
    let many = MatchOption-at_none (MoreThan 32 steps n) (AllScanned begun c.rows.new.self) c.in_err-rows.ensures.ok_part c.rows.ensures.rows in
    let p = err_from_is_err_and c.from_residual.result c.from_residual.ensures.1 in
    let why : c.in_err-rows.field-0.0 ≡ TooManySets = grind arith in
    rw (p.1, p.2, why) (many_sets many)

pub returns : goal.returns
returns c =
    let steps = steps_of c.args.self.now in
    let n = length (names_of c.args.labels.now) in
    let begun : Scan = record { path = c.args.self; labels = c.args.labels; sets = c.new.result } in
    let scan = c.rows.new.self in
    let sets = scan.sets in
    let scanned = MatchOption-at_some (MoreThan 32 steps n) (AllScanned begun scan) _ c.in_ok-rows.ensures.ok_part c.rows.ensures.rows in
    subst (λ m. MatchResult c.new-2.result (TableOf steps m) (Overfull steps m)) c.count.ensures
    (tabled steps c.count.result (sets_in scan) c.count-2.result c.in_ok-rows.rows (few_labels c.args.labels.now _ c.count.ensures) (omega (arith, sets.some), omega (arith, sets_fit sets)) c.count-2.ensures
    (rw (c.count.ensures, c.count-2.ensures) scanned)
    (λ p q h k. sets.distinct p q h (omega arith))
    c.new-2.result c.new-2.ensures)
