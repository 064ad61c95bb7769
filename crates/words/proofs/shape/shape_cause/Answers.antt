-- The causes in turn.
use Rattle.std.proofs.Common.{◌≡◌, refl, sym, ◌∙◌, ℕ, List, length, true, eq-eqb, ne_eqb}
use Rattle.words.specs.Limits.{in_range}
use Rattle.answers.specs.Refusal.{refuse_first, done}
use Rattle.words.specs.Shape.{outside, shape_answer}
use Rattle.answers.specs.declared.answer.Refusal.TheVariants.{RowOutside}
use Rattle.answers.proofs.AnswerLaws.{first_refused, first_passes}
use Rattle.words.proofs.ShapeLaws.{outside-some, outside-nothing}
use Rattle.words.proofs.shape.shape_cause.Goals as goal

-- past causes 1 and 2 the rows decide
rows_decide : (n k : ℕ) (rows : List ℕ) → in_range n k ≡ true → length rows ≡ k
    → refuse_first (outside n rows) (length rows) RowOutside done ≡ shape_answer n k rows
unfolding shape_answer
rows_decide n k rows r e = simp (r, eq-eqb _ _ e)

pub returns-then-not-in_range-clause-answer : goal.returns-then-not-in_range-clause-answer
unfolding shape_answer
returns-then-not-in_range-clause-answer c = simp (sym c.in_range.ensures ∙ c.if-not-in_range.true)

pub returns-then-rows-k-clause-answer : goal.returns-then-rows-k-clause-answer
unfolding shape_answer
returns-then-rows-k-clause-answer c =
    simp (sym c.in_range.ensures ∙ c.if-not-in_range.false, ne_eqb _ _ c.if-rows-k.true)

pub returns-in-Some-clause-answer : goal.returns-in-Some-clause-answer
returns-in-Some-clause-answer c =
    let (first, inside) = outside-some c.args.n c.args.rows.now _ (sym c.in-Some.is ∙ c.first_outside.ensures) in
    first_refused (outside c.args.n c.args.rows.now) (length c.args.rows.now) RowOutside done _ first inside
    ∙ rows_decide _ _ _ (sym c.in_range.ensures ∙ c.if-not-in_range.false) c.if-rows-k.false

pub returns-in-None-clause-answer : goal.returns-in-None-clause-answer
returns-in-None-clause-answer c =
    let none = outside-nothing c.args.n c.args.rows.now (sym c.in-None.is ∙ c.first_outside.ensures) in
    first_passes (outside c.args.n c.args.rows.now) (length c.args.rows.now) RowOutside done _ (sym none) refl
    ∙ rows_decide _ _ _ (sym c.in_range.ensures ∙ c.if-not-in_range.false) c.if-rows-k.false
