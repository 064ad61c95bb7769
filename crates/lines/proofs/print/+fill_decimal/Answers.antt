-- The digits of a tenth, then the last one.
use Rattle.std.proofs.Common.{ap, length, arith}
use Rattle.lines.proofs.AppendLaws.{appends-length, appends-one, then}
use Rattle.lines.proofs.DecimalLaws.{decimal-small, decimal_more, decimal_tenth}
use Rattle.lines.proofs.print.+fill_decimal.Goals as goal

pub bounds-out-0 : goal.bounds-out-0
bounds-out-0 t c = omega (arith, ap length (decimal-small _ c.if-x-lt10.true))

pub returns-then-x-lt10 : goal.returns-then-x-lt10
returns-then-x-lt10 t c =
    let one = decimal-small _ c.if-x-lt10.true in
    rw one (appends-one _ 0 _ (omega (arith, ap length one)))

pub fill_decimal-more-requires : goal.fill_decimal-more-requires
fill_decimal-more-requires t c = let more = decimal_tenth _ c.if-x-lt10.false in (omega arith, omega arith)

pub bounds-out-more : goal.bounds-out-more
bounds-out-more t c =
    omega (
      arith,
      c.fill_decimal-more.ensures.ends,
      appends-length c.fill_decimal-more.ensures,
      decimal_tenth _ c.if-x-lt10.false,
    )

pub returns : goal.returns
returns t c =
    let A = c.fill_decimal-more.ensures in
    rw (decimal_more _ c.if-x-lt10.false)
    (then A (appends-one _ _ _ (omega (arith, A.ends, appends-length A, decimal_tenth _ c.if-x-lt10.false))))
