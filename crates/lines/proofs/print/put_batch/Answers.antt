-- The first line, those of the words, then the closing line, where the batch can be printed.
use Rattle.std.proofs.Common.{arith, refl, sym, rules, ap, ◌∙◌}
use Rattle.std.proofs.Math.Seq.{take_all}
use Rattle.words.specs.Limits.{max_words}
use Rattle.tally.specs.Slots.{slot_tally}
use Rattle.lines.specs.Closing.{closing_line}
use Rattle.lines.specs.Batch.{Printable}
use Rattle.lines.proofs.WroteLaws.{then, wrote_as, put_lent}
use Rattle.lines.proofs.print.put_batch.Goals as goal

pub returns : goal.returns
returns c =
    let P : Printable c.args.n c.args.codewords.now c.args.counts.now c.args.out.now = record {
      places = omega arith;
      each = search rules;
      few = omega arith;
      room = omega arith;
    } in
    let closing = wrote_as c.put_closing.ensures _
    (ap closing_line (c.tally_of.ensures ∙ ap slot_tally (take_all max_words c.args.counts.now (omega (arith, P.each, P.few))))) in
    let lines = then (then c.put_code.ensures.wrote c.put_lines.ensures.wrote) closing in
    put_lent P lines refl (search (rules, sym lines.lent))
