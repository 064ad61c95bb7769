-- To the first v sums an entry is added.
use Rattle.std.proofs.Common.{List, ℕ, length, ◌/◌, ◌%◌, ◌^◌, get_or}
use Rattle.coding.specs.Lists.{tabulate}
use Rattle.coding.specs.Word.{◌⊕◌}
use Rattle.coding.proofs.LoopLaws.{Over}
use Rattle.sums.proofs.tables.add_from.Given as goal

-- sum v with its entry added
abbrev pub added : List ℕ → ℕ → List ℕ → List ℕ → ℕ → ℕ
added table place words sums v = get_or sums v 0 ⊕ get_or table (get_or words v 0 / 2 ^ place % 256) 0

abbrev pub invariant-loop-v : goal.invariant-loop-v
invariant-loop-v l = Over (tabulate (added l.table l.place l.words l.initial.sums) (length l.initial.sums)) l.initial.sums l.v l.sums
