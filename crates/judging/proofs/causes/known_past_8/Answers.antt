-- At 32 places neither 3 nor 7: before the words are looked at, and past them.
use Rattle.std.proofs.Common.{sym, ◌∙◌}
use Rattle.answers.proofs.AnswerLaws.{answered_err}
use Rattle.judging.proofs.CauseLaws.{word_refused, word_listed}
use Rattle.judging.proofs.causes.known_past_8.Goals as goal

pub returns-in_err-known-clause-every_word : goal.returns-in_err-known-clause-every_word
returns-in_err-known-clause-every_word c =
    let b = c.args.batch.now in
    let e = answered_err _ _ _ (sym c.in_err-known.was ∙ c.known_past_5.ensures.known) in
    word_refused b.matrix.n b.matrix.k b.matrix.rows.now b.reading c.known_past_5.ensures.every_row _ _ e

pub returns-in_err-list_cause-clause-every_word : goal.returns-in_err-list_cause-clause-every_word
returns-in_err-list_cause-clause-every_word c =
    let b = c.args.batch.now in
    word_listed b.matrix.n b.matrix.k b.matrix.rows.now b.reading c.known_past_5.ensures.every_row b.words.now _ c.list_cause.ensures.words
