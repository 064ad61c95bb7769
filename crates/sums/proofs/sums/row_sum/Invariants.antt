-- The sum so far, and the rows that are left with what is left of the message, make the codeword.
use Rattle.std.proofs.Common.{◌≡◌, drop}
use Rattle.coding.specs.Matrix.{encode}
use Rattle.coding.specs.Word.{◌⊕◌}
use Rattle.sums.proofs.sums.row_sum.Given as goal

abbrev pub invariant-loop-row : goal.invariant-loop-row
invariant-loop-row l = l.sum ⊕ encode (drop l.row-index l.rows) l.m ≡ encode l.rows l.message
