-- The lines so far are put.
use Rattle.std.proofs.Common.{length, arith}
use Rattle.std.proofs.lemmas.Slice.Zip.{zip_turn}
use Rattle.std.proofs.lemmas.List.{length_push}
use Rattle.lines.specs.Batch.{slot_lines}
use Rattle.lines.proofs.WroteLaws.{then, wrote_as, wrote_none}
use Rattle.lines.proofs.LineLaws.{slot_lines_more}
use Rattle.lines.proofs.print.Writer.put_lines.Goals as goal
use Rattle.lines.proofs.print.Writer.put_lines.Goals.{In-Some}

pub loop-c-init : goal.loop-c-init
unfolding slot_lines
loop-c-init c = record { wrote = wrote_none _ (omega arith); within = omega arith }

pub loop-c-preserved : goal.loop-c-preserved
loop-c-preserved c =
    let i = length c.loop-c.yielded in
    let (l, m, is, this) = zip_turn c.args.codewords.now c.args.counts.now c.loop-c.yielded _ _ c.next.new.self _ (cc) (cc) c.loop-c.yielded_by _ c.in-Some.is c.next.ensures.steps in
    rw (length_push c.loop-c.yielded (c.in-Some.field-0-0, c.in-Some.field-0-1)) (record {
      wrote = wrote_as (then c.loop-c.invariant.wrote c.put_line.ensures.wrote) _
          (rw (is 0, this 0) (slot_lines_more c.args.n i c.args.codewords.now c.args.counts.now l m));
      within = omega (arith, c.loop-c.invariant.within, c.put_line.ensures.upper_bound);
    })
