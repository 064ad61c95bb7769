-- The rows are those of P.
use Rattle.std.proofs.Common.{sym, ap, ◌∙◌, ℕ, List}
use Rattle.coding.specs.Matrix.{encode}
use Rattle.golay_code.proofs.GolayLaws.{check_words, checks_are}
use Rattle.golay.proofs.rows.check_sum.Goals as goal

pub returns : goal.returns
unfolding check_words
returns c = c.row_sum.ensures ∙ ap (λ (l : List ℕ). encode l c.args.message) (sym checks_are)
