-- The causes in turn, then the words.
use Rattle.std.proofs.Common.{sym, ◌∙◌, length, arith}
use Rattle.answers.proofs.AnswerLaws.{handed_on, stays, goes}
use Rattle.words.specs.Accepted.{matrix_answer}
use Rattle.words.proofs.AcceptedLaws.{accepted_in}
use Rattle.words.proofs.WordListLaws.{room_in}
use Rattle.interleaving.specs.Causes.{bits_answer}
use Rattle.interleaving.proofs.BitLaws.{bits_in}
use Rattle.interleaving.proofs.InterleavePromiseLaws.{deinterleave_refused, deinterleave_done}
use Rattle.interleaving.proofs.sorting.deinterleave.Goals as goal

pub returns-in_err-bits_cause : goal.returns-in_err-bits_cause
returns-in_err-bits_cause c =
    let e = sym c.bits_cause.ensures ∙ c.in_err-bits_cause.was in
    deinterleave_refused _ _ _ _ _ _ _ c.accept.ensures _ _ (handed_on _ _ c.from_residual-in_err-bits_cause.ensures)
    (sym (stays (bits_answer _ _ _) _ _ e ∙ goes (matrix_answer _ _ _) _ (sym c.accept.ensures.answer ∙ c.in_ok-accept.was)) ∙ e)

pub sort_words-requires : goal.sort_words-requires
sort_words-requires c =
    let m = c.args.matrix.now in
    let (F, f) = bits_in m.n c.args.depth c.args.bits.now (sym c.bits_cause.ensures ∙ c.in_ok-bits_cause.was) in
    let A = accepted_in m.n m.k m.rows.now (sym c.accept.ensures.answer ∙ c.in_ok-accept.was) in
    (F.long, f, omega (arith, A.range.places), room_in c.args.depth (length c.args.out.now) (sym c.room_cause.ensures ∙ c.in_ok-room_cause.was), F.small)

pub returns : goal.returns
returns c =
    deinterleave_done _ _ _ _ _ _ _ c.accept.ensures (sym c.accept.ensures.answer ∙ c.in_ok-accept.was)
    (sym c.bits_cause.ensures ∙ c.in_ok-bits_cause.was) (sym c.room_cause.ensures ∙ c.in_ok-room_cause.was) _ c.sort_words.ensures
