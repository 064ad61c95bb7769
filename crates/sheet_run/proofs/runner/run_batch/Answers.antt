-- The refusal, or the lines by the slots that Decode leaves.
use Rattle.std.proofs.Common.{arith, sym, ap, ap₂, ◌∙◌}
use Rattle.answers.specs.Refusal.{answer_of}
use Rattle.lines.specs.Line.{refused_line}
use Rattle.lines.proofs.AppendLaws.{put_as, put-when}
use Rattle.sheet_run.proofs.BatchLaws.{refused_output, done_output, few_words, few_places, codewords_length, counts-length}
use Rattle.sheet_run.proofs.runner.run_batch.Goals as goal

pub returns-in-Ok : goal.returns-in-Ok
returns-in-Ok c =
    let D = c.decode_measured.ensures.decoded in
    let d = ap answer_of c.in-Ok.is in
    put_as
    (put-when c.put_batch.ensures (λ room. record {
      places = few_places D d;
      each = counts-length D d ∙ sym (codewords_length D d);
      few = omega (arith, codewords_length D d, few_words D d);
      room = room;
    }) (λ P. P.room)) _ (done_output D d _ c.in-Ok.ensures.dmin_value)

pub returns-in-Err : goal.returns-in-Err
returns-in-Err c =
    put_as c.put_refusal.ensures _
    (ap₂ refused_line c.number.ensures c.value.ensures ∙ refused_output c.decode_measured.ensures.decoded _ (ap answer_of c.in-Err.is))
