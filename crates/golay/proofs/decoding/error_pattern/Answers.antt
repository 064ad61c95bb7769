-- A pattern of s times P is one of s with its halves exchanged; where neither has one there is none.
use Rattle.golay.proofs.PatternLaws.{sum_lt, error_none, exchanged-pattern}
use Rattle.golay.proofs.decoding.error_pattern.Goals as goal

pub few_in_message-requires-2 : goal.few_in_message-requires-2
few_in_message-requires-2 c = rw c.check_sum.ensures (sum_lt c.args.s)

pub returns-in_err-e : goal.returns-in_err-e
returns-in_err-e c = rw c.from_residual.ensures (error_none c.args.s c.in_default.ensures (rw c.check_sum.ensures at c.in_err-e.ensures))

pub returns : goal.returns
returns c = exchanged-pattern c.args.s _ c.requires (rw c.check_sum.ensures at c.in_ok-e.ensures)
