-- The answer of the reduction, in the words of part 1.
use Rattle.std.proofs.Common.{sym, ap, ◌∙◌, ◌≡◌, List, ℕ}
use Rattle.std.specs.Prelude.{Result}
use Rattle.answers.specs.Refusal.{Answer, answer_of}
use Rattle.answers.specs.declared.answer.Refusal.{Refusal}
use Rattle.answers.proofs.AnswerLaws.{handed_on, answer_of-answered}
use Rattle.words.specs.Accepted.{matrix_answer}
use Rattle.words.proofs.ShapeLaws.{every_row_answered}
use Rattle.words.proofs.AcceptedLaws.{accepted_in, in_accepted, found_in}
use Rattle.linear.specs.Judged.{Judged}
use Rattle.linear.specs.Reduction.{ReductionOf}
use Rattle.linear.specs.declared.reduction.Reduction.{Reduction}
use Rattle.linear.proofs.acceptance.accept.Goals as goal

judged : (n k : ℕ) (rows : List ℕ) (r : Result Reduction Refusal) → ReductionOf n k rows r → (a : Answer) → a ≡ answer_of r → Judged n k rows a
judged n k rows r R a e =
    let w : a ≡ matrix_answer n k rows = e ∙ ap answer_of R.is ∙ answer_of-answered (matrix_answer n k rows) _ in
    record {
      answer = w;
      accepted = λ d. accepted_in n k rows (sym w ∙ d);
      accepts = λ h. w ∙ in_accepted n k rows h;
      every_row = rw w (every_row_answered _ _ _ R.reduced.is R.reduced.every_row);
      found = λ i d. found_in n k rows i (sym w ∙ d);
    }

pub returns-in_err-reduce : goal.returns-in_err-reduce
returns-in_err-reduce c = judged _ _ _ _ c.reduce.ensures _ (handed_on _ _ c.from_residual.ensures ∙ sym (ap answer_of c.in_err-reduce.was))

pub returns : goal.returns
returns c = judged _ _ _ _ c.reduce.ensures _ (sym (ap answer_of c.in_ok-reduce.was))
