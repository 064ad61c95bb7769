-- 01, "Causes and numbers", and 02, No. 3 and No. 5: the number of each cause, the value beside it, and what a refusal leaves in a lent list.
use Rattle.std.specs.Prelude.{◌≡◌, ◌≢◌, List, ◌++◌, Bool, true, false, ℕ, ◌≤◌, eqb, length, drop, Result, Ok, Err}
use Rattle.coding.specs.Lists.{first}
use Rattle.answers.specs.declared.answer.Refusal.{Refusal}
use Rattle.answers.specs.declared.answer.Refusal.TheVariants.{OutOfRange, RowCount, RowOutside, Dependent, RadiusTooLarge, TooManyWords, WordOutside, ShortOutput, ShortWork, NoCodeword, NoWidth, BeyondWidth, NoDepth, NoBits}

-- the answer of an operation that gives no value beside its lists: done, or refused under a cause
abbrev pub Answer : Type 0
Answer = Result (Unit {0}) Refusal

pattern abbrev pub done : Answer
done = Ok tt

-- 11 stays unused, 12 and 13 are those of a sheet
abbrev pub number_of : Refusal → ℕ
number_of OutOfRange = 1
number_of RowCount = 2
number_of (RowOutside i) = 3
number_of (Dependent i) = 4
number_of RadiusTooLarge = 5
number_of TooManyWords = 6
number_of (WordOutside i) = 7
number_of ShortOutput = 8
number_of ShortWork = 9
number_of (NoCodeword i) = 10
number_of NoWidth = 14
number_of BeyondWidth = 15
number_of NoDepth = 16
number_of NoBits = 17

abbrev pub value_of : Refusal → ℕ
value_of OutOfRange = 0
value_of RowCount = 0
value_of (RowOutside i) = i
value_of (Dependent i) = i
value_of RadiusTooLarge = 0
value_of TooManyWords = 0
value_of (WordOutside i) = i
value_of ShortOutput = 0
value_of ShortWork = 0
value_of (NoCodeword i) = i
value_of NoWidth = 0
value_of BeyondWidth = 0
value_of NoDepth = 0
value_of NoBits = 0

-- the cause refuses where its test fails; otherwise the later causes decide
abbrev pub unless : Bool → Refusal → Answer → Answer
unless true c later = later
unless false c later = Err c

-- the first index below m that fails is refused with it as the value beside the number; where none fails the later causes decide
abbrev pub refuse_first : (ℕ → Bool) → ℕ → (ℕ → Refusal) → Answer → Answer
refuse_first fails m c later = unless (eqb (first fails m) m) (c (first fails m)) later

-- the causes of one group, then those of the next
abbrev pub and_then : Answer → Answer → Answer
and_then (Ok u) later = later
and_then (Err c) later = Err c

-- a number from a to b
abbrev pub Between : ℕ → ℕ → ℕ → Type 0
Between a b m = (a ≤ m) × (m ≤ b)

-- the answer is no refusal under this number
abbrev pub Never : ℕ → Answer → Type 0
Never m r = (c : Refusal) → r ≡ Err c → number_of c ≢ m

-- a lent list at the end: the new entries and every later slot as it was, or all as it was
abbrev pub on_done : Answer → List ℕ → List ℕ → List ℕ
on_done (Ok u) new old = new ++ drop (length new) old
on_done (Err c) new old = old

-- an operation that gives a value: the value where it is done, or the same refusal
abbrev pub answered : {A : Type 0} → Answer → A → Result A Refusal
answered (Ok u) x = Ok x
answered (Err c) x = Err c

-- and without its value
abbrev pub answer_of : {A : Type 0} → Result A Refusal → Answer
answer_of (Ok x) = done
answer_of (Err c) = Err c

-- and with a part of its value alone
abbrev pub part : {A B : Type 0} → (A → B) → Result A Refusal → Result B Refusal
part f (Ok x) = Ok (f x)
part f (Err c) = Err c
