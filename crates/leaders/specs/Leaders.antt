-- 01, part 4: the coset leaders of all syndromes in a lent list, cause 9, and what the call for them answers; 02, No. 4: the number of
-- words tried.
use Rattle.std.specs.Prelude.{◌≡◌, List, ℕ, suc, ◌-◌, ◌^◌, ◌≤◌, ◌<◌, leb, length, get_or, Result, IsOk, IfOk}
use Rattle.coding.specs.Lists.{padded, tabulate}
use Rattle.coding.specs.Word.{weight}
use Rattle.coding.specs.Check.{checks}
use Rattle.coding.specs.Leader.{syndrome_of, IsLeader, EveryLeader, leader_of}
use Rattle.coding.specs.Order.{order, blanks}
use Rattle.coding.specs.Tries.{tried, LastLeader}
use Rattle.words.specs.Limits.{max_checks}
use Rattle.answers.specs.Refusal.{Answer, done, unless, and_then, on_done, answered, answer_of, part}
use Rattle.words.specs.Widest.{EveryRow}
use Rattle.answers.specs.declared.answer.Refusal.{Refusal}
use Rattle.answers.specs.declared.answer.Refusal.TheVariants.{ShortWork}
use Rattle.words.specs.Accepted.{matrix_answer, Accepted}
use Rattle.parity.specs.ParityChecks.{ParityChecksOf}
use Rattle.leaders.specs.declared.leaders.Leaders.{Leaders}

-- cause 9: a working list shorter than 2 ^ (n - k)
abbrev pub work_answer : ℕ → ℕ → Answer
work_answer room size = unless (leb size room) ShortWork done

-- causes 1 to 4 and 9
abbrev pub leaders_answer : ℕ → ℕ → List ℕ → ℕ → Answer
leaders_answer n k rows room = and_then (matrix_answer n k rows) (work_answer room (2 ^ (n - k)))

-- the leaders of all syndromes in order
abbrev pub leaders_list : ℕ → ℕ → List ℕ → List ℕ
leaders_list n k rows = tabulate (leader_of n rows) (2 ^ (n - k))

-- how many words are tried, by rising weight and of equal weight by rising number, until each syndrome has its leader
abbrev pub leaders_tried : ℕ → ℕ → List ℕ → ℕ
leaders_tried n k rows = tried (syndrome_of n rows) (blanks (2 ^ (n - k))) (order n (suc (n - k)))

-- causes 1 to 4 and 9, at 32 places never 3. Every syndrome of an accepted matrix has a leader, the lightest word of the coset, of several
-- the smallest, no heavier than n - k, whatever room there is. On success the list holds it there, and the parity-check rows are answered with
-- the number of words tried, which is the place of the leader that comes last, by weight and then by number; every later slot, and on a refusal
-- every slot, is as it was
pub record LeadersOf (n k : ℕ) (rows before : List ℕ) (r : Result Leaders Refusal) (after : List ℕ) : Type 0 where
  pub is : r ≡ answered (leaders_answer n k rows (length before))
      (record { checks = padded max_checks (checks n rows); tried = leaders_tried n k rows })
  pub every_row : EveryRow n (answer_of r)
  pub every_leader : Accepted n k rows → EveryLeader n rows (n - k)
  pub checks : IsOk r → ParityChecksOf n k rows (part (λ x. x.checks) r)
  pub list : after ≡ on_done (answer_of r) (leaders_list n k rows) before
  pub leader : IsOk r → (s : ℕ) → s < 2 ^ (n - k) → IsLeader n rows s (get_or after s 0)
  pub light : IsOk r → (s : ℕ) → s < 2 ^ (n - k) → weight (get_or after s 0) ≤ n - k
  pub place : IfOk r (λ x. (last : ℕ) × LastLeader n rows (n - k) last x.tried)
