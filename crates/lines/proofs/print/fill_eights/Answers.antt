-- The first p digits are put.
use Rattle.std.proofs.Common.{◌≡◌, ◌+◌, ◌-◌, take, length, refl, arith, rules}
use Rattle.lines.specs.Line.{digits_of}
use Rattle.lines.proofs.DigitLaws.{eights_step, eights_end, eights_fewer}
use Rattle.lines.proofs.print.fill_eights.Goals as goal
use Rattle.lines.proofs.print.fill_eights.Goals.{else-loop-p-test, then-loop-p-test+else-last-p-gt8}

pub loop-p-init : goal.loop-p-init
unfolding digits_of
loop-p-init c = refl

pub loop-p-preserved : goal.loop-p-preserved
loop-p-preserved c = eights_step _ _ _ _ _ c.loop-p.invariant (omega arith) (search rules)

-- the digits before the last eight stand
first : (c : goal.After-slice_known-2-1) → let last = length c.args.digits.now - 8 in take last c.loop-p-test.digits ≡ digits_of last c.args.w
first c =
    let last = length c.args.digits.now - 8 in
    elim c.loop-p-test.branch [
      | else-loop-p-test w ↦ rw w.digits-is (eights_fewer last c.loop-p.p c.args.w _ (omega arith) c.loop-p.invariant)
      | then-loop-p-test+else-last-p-gt8 w ↦
          rw w.digits-is (eights_fewer last (c.loop-p.p + 8) c.args.w _ (omega arith) (eights_step _ _ _ _ _ c.loop-p.invariant (omega arith) (search rules)))
    ]

pub returns : goal.returns
returns c =
    let l : length c.loop-p-test.digits ≡ length c.args.digits.now = omega arith in
    rw (← l) (eights_end _ c.args.w c.loop-p-test.digits _ (rw l (first c)) (omega arith) (rw l (search rules)))
