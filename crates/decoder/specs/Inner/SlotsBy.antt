-- The slots of a word by lists: what the loops over the batch write.
use Rattle.std.specs.Prelude.{List, ℕ, length, get_or}
use Rattle.coding.specs.Lists.{tabulate}
use Rattle.coding.specs.Check.{syndrome}
use Rattle.outcomes.specs.Outcome.{outcome_of, word_in, count_in}
use Rattle.outcomes.specs.declared.ending.Reading.{Reading}

-- the slots of each word with the leader beside it
abbrev pub words_with : Reading → List ℕ → List ℕ → List ℕ
words_with reading words leaders = tabulate (λ i. word_in (outcome_of reading (get_or words i 0) (get_or leaders i 0)) (get_or words i 0)) (length words)

abbrev pub counts_with : Reading → List ℕ → List ℕ → List ℕ
counts_with reading words leaders = tabulate (λ i. count_in (outcome_of reading (get_or words i 0) (get_or leaders i 0))) (length words)

-- the slots of a word, by a list of leaders and the check rows that give its syndrome
abbrev pub word_by : Reading → List ℕ → List ℕ → ℕ → ℕ
word_by reading leaders checks w = word_in (outcome_of reading w (get_or leaders (syndrome checks w) 0)) w

abbrev pub count_by : Reading → List ℕ → List ℕ → ℕ → ℕ
count_by reading leaders checks w = count_in (outcome_of reading w (get_or leaders (syndrome checks w) 0))
