-- A line gives its tag, or is the fault at which the source stays.
use Rattle.std.proofs.Common.{◌≤◌, length, rules}
use Rattle.text.specs.Labelled.{names_of}
use Rattle.base.proofs.Giving.{lines_end, lines_tag, lines_fault}
use Rattle.base.proofs.lines.LineSourceTagSource.next.Goals as goal

pub returns-then-is_empty : goal.returns-then-is_empty
returns-then-is_empty c =
    let s = c.args.self.now in
    let none : length s.text.now ≤ 0 = search rules in
    lines_end (names_of s.labels.now) s.line s.text.now none

pub returns-in-Ok : goal.returns-in-Ok
returns-in-Ok c =
    let s = c.args.self.now in
    lines_tag (names_of s.labels.now) s.line s.text.now c.in-Some.n c.in-Ok.tag c.in-Some.ensures.1 c.in-Ok.ensures

pub returns-in-Err : goal.returns-in-Err
returns-in-Err c =
    let s = c.args.self.now in
    lines_fault (names_of s.labels.now) s.line s.text.now c.in-Some.n c.in-Err.refusal c.in-Some.ensures.1 c.in-Err.ensures
