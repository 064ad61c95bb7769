-- What the calls for the leaders promise, from the room in the list and the list that was built.
use mathlib.Core.Path.{◌≡◌, refl, sym, ap, ap₂, ◌∙◌}
use mathlib.Core.List.{List, ◌++◌}
use mathlib.Core.Bool.{Bool, true, false, cond, false≢true}
use Prim.Native.Nat.{ℕ, ◌-◌, ◌^◌, ◌<◌}
use native.Mathlib.Omega.{arith}
use lib.Dec.{leb}
use lib.ListN.{length, get_or, take, drop, get_or-append}
use borrow.Author.Tests.{le-leb}
use Rattle.std.specs.Prelude.{Option, Some, None, is_some, Result, Ok, Err}
use Rattle.std.specs.Option.{ok_or}
use Rattle.coding.specs.Lists.{padded}
use Rattle.coding.specs.Check.{checks}
use Rattle.coding.specs.Leader.{leader_of}
use Rattle.coding.proofs.ListLaws.{get_d_tabulate}
use Rattle.words.specs.Limits.{max_checks, width}
use Rattle.answers.specs.Refusal.{Between, Never, done}
use Rattle.words.specs.Widest.{EveryRow}
use Rattle.words.specs.Accepted.{matrix_answer, Accepted}
use Rattle.answers.specs.declared.answer.Refusal.{Refusal}
use Rattle.answers.specs.declared.answer.Refusal.TheVariants.{ShortWork}
use Rattle.answers.proofs.AnswerLaws.{never_done, unless-numbered, never_of, filled, ok_answered, err_answered}
use Rattle.words.proofs.ShapeLaws.{rows_first}
use Rattle.words.proofs.AcceptedLaws.{in_accepted}
use Rattle.words.proofs.CodeLaws.{leader_at, light, every_leader}
use Rattle.parity.specs.ParityChecks.{ParityChecksOf}
use Rattle.leaders.specs.Leaders.{work_answer, leaders_answer, leaders_list, leaders_tried, LeadersOf}
use Rattle.leaders.specs.LeadersBy.{filled_by, tried_by, leaders_fit, LeadersBy}
use Rattle.leaders.specs.declared.leaders.Leaders.{Leaders}
use Rattle.leaders.proofs.BuiltLaws.{tried_some, leaders_long, leaders_are, tries_are, place_is}

-- ---- by check rows

module _ (hs : List ℕ) (n c : ℕ) (before : List ℕ) where
  pub filled_by_lem : leaders_fit n c (length before) ≡ true → (list : List ℕ) (r : ℕ) → list ≡ filled_by (take c hs) n c → r ≡ tried_by (take c hs) n c
      → LeadersBy hs n c before (Some r) (list ++ drop (2 ^ c) before)
  filled_by_lem e list r f g = record {
    tries = rw e (ap Some g);
    room = sym e;
    zero_word = rw g (tried_some (take c hs) n c);
    list = rw e (ap (λ (l : List ℕ). l ++ drop (2 ^ c) before) f);
    of_matrix = λ k rows A d q t.
        (rw (f, d, q) (ap (λ (l : List ℕ). l ++ drop (2 ^ (n - k)) before) (leaders_are n k rows A)), rw (g, d, q) (ap Some (tries_are n k rows A)));
  }

-- where there is no room the list is as it was
pub list_kept : {hs : List ℕ} {n c : ℕ} {before : List ℕ} {r : Option ℕ} {after : List ℕ} → LeadersBy hs n c before r after → r ≡ None → after ≡ before
list_kept L e = rw (sym L.room ∙ ap is_some e) at L.list

-- where that is a refusal, it tells whether there was room
pub no_tries : (r : Option ℕ) (e c : Refusal) → Err c ≡ ok_or r e → (r ≡ None) × (c ≡ e)
no_tries None e c q = (refl, cc)
no_tries (Some x) e c q = absurd cc

pub some_tries : (r : Option ℕ) (e : Refusal) (x : ℕ) → Ok x ≡ ok_or r e → r ≡ Some x
some_tries None e x q = absurd cc
some_tries (Some y) e x q = cc

-- ---- of an accepted matrix

module _ (n k : ℕ) (rows : List ℕ) (A : Accepted n k rows) where
  -- the list alone decides whether there is room
  fit_is : (room : ℕ) → leaders_fit n (n - k) room ≡ leb (2 ^ (n - k)) room
  fit_is room = simp (le-leb n width (omega (arith, A.range.places)), le-leb (n - k) max_checks (omega (arith, A.range.checks)))

  module _ {hs before after : List ℕ} {r : Option ℕ} (L : LeadersBy hs n (n - k) before r after) where
    work_told : (b : Bool) → is_some r ≡ b → work_answer (length before) (2 ^ (n - k)) ≡ cond b done (Err ShortWork)
    work_told true e = simp (sym (fit_is (length before)) ∙ sym L.room ∙ e)
    work_told false e = simp (sym (fit_is (length before)) ∙ sym L.room ∙ e)

    -- cause 9 is told by the build: no word was tried
    pub work_short : r ≡ None → work_answer (length before) (2 ^ (n - k)) ≡ Err ShortWork
    work_short e = work_told false (ap is_some e)

    module _ {tries : ℕ} (e : r ≡ Some tries) where
      pub work_done : work_answer (length before) (2 ^ (n - k)) ≡ done
      work_done = work_told true (ap is_some e)

      -- else the leaders stand in the list
      pub leaders_stand : hs ≡ padded max_checks (checks n rows)
          → (after ≡ leaders_list n k rows ++ drop (2 ^ (n - k)) before) × (tries ≡ leaders_tried n k rows)
      leaders_stand d = let (f, t) = L.of_matrix k rows A refl d (sym L.room ∙ ap is_some e) in (f, cc)

  -- where the list begins with the leaders, entry s is that of s
  pub leader_slot : (rest : List ℕ) (s : ℕ) → s < 2 ^ (n - k) → get_or (leaders_list n k rows ++ rest) s 0 ≡ leader_of n rows s
  leader_slot rest s l =
      get_or-append (leaders_list n k rows) rest 0 s (rw (leaders_long n k rows A) l) ∙ get_d_tabulate (leader_of n rows) (2 ^ (n - k)) s l

  -- a success writes the leaders
  pub leaders_written : (before : List ℕ) → work_answer (length before) (2 ^ (n - k)) ≡ done → {cs : List ℕ} → ParityChecksOf n k rows (Ok cs)
      → cs ≡ padded max_checks (checks n rows) → (after : List ℕ) {tries : ℕ}
      → (after ≡ leaders_list n k rows ++ drop (2 ^ (n - k)) before) × (tries ≡ leaders_tried n k rows)
      → LeadersOf n k rows before (Ok (record { checks = cs; tried = tries })) after
  leaders_written before w {cs} P d after {tries} (e, t) = record {
    is = ap₂ (λ (x : List ℕ) (y : ℕ). Ok (record { checks = x; tried = y })) d t
        ∙ ok_answered (leaders_answer n k rows (length before)) _ (rw (in_accepted n k rows A, w) refl);
    every_row = λ _. never_done 3;
    every_leader = every_leader n k rows;
    checks = λ _. P;
    list = filled (leaders_list n k rows) before after (2 ^ (n - k)) (leaders_long n k rows A) e;
    leader = λ _ s l. rw (e, leader_slot (drop (2 ^ (n - k)) before) s l) (leader_at n k rows A s l);
    light = λ _ s l. rw (e, leader_slot (drop (2 ^ (n - k)) before) s l) (light n k rows A s l);
    place = rw t (place_is n k rows A);
  }

-- ---- a refusal

-- 9 is not 3
work_never : (room size : ℕ) → Never 3 (work_answer room size)
work_never room size =
    never_of (Between 9 9) 3 (λ h. omega (arith, h)) (work_answer room size) (unless-numbered (Between 9 9) (leb size room) ShortWork done (omega arith, omega arith) tt)

module _ (n k : ℕ) (rows : List ℕ) where
  pub matrix_refuses : (room : ℕ) (c : Refusal) → matrix_answer n k rows ≡ Err c → leaders_answer n k rows room ≡ Err c
  matrix_refuses room c e = rw e refl

  pub work_refuses : (room : ℕ) → Accepted n k rows → work_answer room (2 ^ (n - k)) ≡ Err ShortWork → leaders_answer n k rows room ≡ Err ShortWork
  work_refuses room A e = rw (in_accepted n k rows A, e) refl

  -- it writes nothing
  pub leaders_refused : EveryRow n (matrix_answer n k rows) → (before after : List ℕ) → after ≡ before → (c : Refusal)
      → leaders_answer n k rows (length before) ≡ Err c → (r : Result Leaders Refusal) → r ≡ Err c → LeadersOf n k rows before r after
  leaders_refused w before after s c e r q = rw q (record {
    is = err_answered (leaders_answer n k rows (length before)) _ c e;
    every_row = rows_first n (matrix_answer n k rows) (work_answer (length before) (2 ^ (n - k))) (Err c) (sym e) w (work_never (length before) (2 ^ (n - k)));
    every_leader = every_leader n k rows;
    checks = λ h. absurd (false≢true h);
    list = s;
    leader = λ h. absurd (false≢true h);
    light = λ h. absurd (false≢true h);
    place = tt;
  })
