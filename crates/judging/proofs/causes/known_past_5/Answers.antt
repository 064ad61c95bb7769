-- The causes of the matrix, then cause 5 by its minimum distance.
use Rattle.std.proofs.Common.{sym, ap, ◌∙◌, ℕ, List}
use Rattle.std.specs.Prelude.{Result}
use Rattle.answers.specs.Refusal.{answer_of}
use Rattle.answers.specs.declared.answer.Refusal.{Refusal}
use Rattle.answers.proofs.AnswerLaws.{handed_on, answer_of-answered, err_answered, answered_err, answered_ok}
use Rattle.words.specs.Accepted.{matrix_answer}
use Rattle.words.specs.Widest.{EveryRow}
use Rattle.words.proofs.ShapeLaws.{every_row_of}
use Rattle.distance.specs.Distance.{DistanceOf}
use Rattle.distance.specs.declared.distance.Distance.{Distance}
use Rattle.judging.proofs.CauseLaws.{at_matrix, at_within, known_nearest, known_within, code_every_row}
use Rattle.judging.proofs.causes.known_past_5.Goals as goal

every_row : (n k : ℕ) (rows : List ℕ) (r : Result Distance Refusal) → DistanceOf n k rows r → EveryRow n (matrix_answer n k rows)
every_row n k rows r D = every_row_of _ _ (ap answer_of D.checks.is ∙ answer_of-answered (matrix_answer n k rows) _) D.checks.every_row

pub returns-in_default : goal.returns-in_default
returns-in_default c =
    let m = c.args.matrix.now in
    record {
      known = known_nearest m.n m.k m.rows.now c.args.reading c.args.measure _ c.in_default.is c.known_past_4.ensures.known;
      every_row = code_every_row m.n m.k m.rows.now c.args.reading c.known_past_4.ensures.every_row;
    }

pub returns-in_err-checks : goal.returns-in_err-checks
returns-in_err-checks c =
    let m = c.args.matrix.now in
    let f = answered_err _ _ _ (sym c.in_err-checks.was ∙ c.distance_of.ensures.is) in
    record {
      known = handed_on _ _ c.from_residual.ensures ∙ err_answered _ _ _ (sym (at_matrix m.n m.k m.rows.now c.args.reading _ f) ∙ f);
      every_row = code_every_row m.n m.k m.rows.now c.args.reading (every_row m.n m.k m.rows.now _ c.distance_of.ensures);
    }

pub returns-in_err-radius_cause : goal.returns-in_err-radius_cause
returns-in_err-radius_cause c =
    let m = c.args.matrix.now in
    let (d, e) = answered_ok _ _ _ (sym c.in_ok-checks.was ∙ c.distance_of.ensures.is) in
    let q = at_within m.n m.k m.rows.now c.args.reading _ _ c.in-Within.is (ap (λ (x : Distance). x.dmin) e) d in
    record {
      known = handed_on _ _ c.from_residual-in_err-radius_cause.ensures ∙ err_answered _ _ _ (sym q ∙ sym c.radius_cause.ensures ∙ c.in_err-radius_cause.was);
      every_row = code_every_row m.n m.k m.rows.now c.args.reading (every_row m.n m.k m.rows.now _ c.distance_of.ensures);
    }

pub returns : goal.returns
returns c =
    let m = c.args.matrix.now in
    let (d, e) = answered_ok _ _ _ (sym c.in_ok-checks.was ∙ c.distance_of.ensures.is) in
    let same = ap (λ (x : Distance). x.dmin) e in
    let q = at_within m.n m.k m.rows.now c.args.reading _ _ c.in-Within.is same d in
    record {
      known = known_within m.n m.k m.rows.now c.args.reading c.args.measure _ c.in-Within.is (sym q ∙ sym c.radius_cause.ensures ∙ c.in_ok-radius_cause.was) _ _
          (ap (λ (x : Distance). x.checks) e) same;
      every_row = code_every_row m.n m.k m.rows.now c.args.reading (every_row m.n m.k m.rows.now _ c.distance_of.ensures);
    }
