use Rattle.std.proofs.Common.{arith, rules}
use Rattle.text.proofs.Decimal.{written, read_small, read_more, read_all, read_decimal, number_by}
use Rattle.text.proofs.numbers.read_number.Goals as goal

pub returns-then-is_empty : goal.returns-then-is_empty
returns-then-is_empty c n small e = let w = written _ n small e in search rules

pub returns-then-field-gt1 : goal.returns-then-field-gt1
returns-then-field-gt1 c n small e = let w = written _ n small e in search rules

pub returns-then-not-is_ascii_digit : goal.returns-then-not-is_ascii_digit
returns-then-not-is_ascii_digit c n small e = let w = written _ n small e in search rules

pub overflow_mul-n : goal.overflow_mul-n
overflow_mul-n c =
    omega (arith, read_small c.args.field.now _ _ c.if-field-gt3.false c.loop-b-test.true c.loop-b.invariant)

pub overflow_add-n : goal.overflow_add-n
overflow_add-n c =
    omega (arith, read_small c.args.field.now _ _ c.if-field-gt3.false c.loop-b-test.true c.loop-b.invariant)

pub loop-b-preserved : goal.loop-b-preserved
loop-b-preserved c = search (rules, read_more)

pub returns : goal.returns
returns c =
    let read = read_all c.args.field.now _ _ c.loop-b-test.false c.loop-b.invariant in
    rw c.ok.ensures.value (number_by c.args.field.now c.loop-b.n c.try_from.result c.try_from.ensures (search (rules, read_decimal)) (λ m small e. let w = written _ m small e in search rules))
