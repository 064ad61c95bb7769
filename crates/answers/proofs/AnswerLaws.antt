-- Laws of answers: causes in order, and what an answer leaves in a lent list.
use mathlib.Core.Path.{◌≡◌, refl, ap, sym, ◌∙◌}
use mathlib.Core.Logic.{◌≢◌}
use mathlib.Core.List.{List, ◌++◌, map}
use mathlib.Core.Bool.{Bool, true, false}
use Prim.Native.Nat.{ℕ}
use native.Mathlib.Omega.{arith}
use lib.Dec.{eqb}
use lib.ListN.{length, drop, length-map}
use borrow.Author.Tests.{eqb-true, eqb-false, eq-eqb, ne_eqb}
use Rattle.coding.specs.Lists.{first}
use Rattle.coding.proofs.SearchLaws.{true_false}
use Rattle.answers.specs.Refusal.{Answer, done, number_of, unless, refuse_first, and_then, Never, on_done, answered, answer_of, part}
use Rattle.std.specs.Prelude.{Result, Ok, Err, IfOk, IsOk, IsErr, IsErrAnd, is_ok}
use Rattle.answers.specs.declared.answer.Refusal.{Refusal}

-- ---- causes in order

-- a refusal is no success
pub refused_done : {c : Refusal} {A : Type 0} → Err c ≡ done → A
refused_done e = let z : ◌≡◌ {A = ℕ} 0 1 = cc in absurd (omega arith)

-- a cause that passes: its test holds, and the later causes decide
pub unless_done : (b : Bool) (c : Refusal) (later : Answer) → unless b c later ≡ done → (b ≡ true) × (later ≡ done)
unless_done true c later e = (refl, e)
unless_done false c later e = refused_done e

-- the first that fails is refused, or none fails and the later causes decide
module _ (fails : ℕ → Bool) (m : ℕ) (c : ℕ → Refusal) (later : Answer) where
  pub first_refused : (i : ℕ) → i ≡ first fails m → i ≢ m → Err (c i) ≡ refuse_first fails m c later
  first_refused i e ne = simp (← e, ne_eqb i m ne)

  pub first_passes : (i : ℕ) → i ≡ first fails m → i ≡ m → later ≡ refuse_first fails m c later
  first_passes i e h = simp (← e, eq-eqb i m h)

  pub first_done : refuse_first fails m c later ≡ done → (first fails m ≡ m) × (later ≡ done)
  first_done e =
      let (a, b) = unless_done (eqb (first fails m) m) (c (first fails m)) later e in
      (eqb-true (first fails m) m a, b)

pub and_then_done : (a later : Answer) → and_then a later ≡ done → (a ≡ done) × (later ≡ done)
and_then_done (Ok u) later e = (refl, e)
and_then_done (Err c) later e = refused_done e

-- groups may be taken together
pub and_then_assoc : (a b c : Answer) → and_then (and_then a b) c ≡ and_then a (and_then b c)
and_then_assoc (Ok u) b c = refl
and_then_assoc (Err r) b c = refl

-- the first group refuses, or passes and the next decides
pub stays : (a later : Answer) (c : Refusal) → a ≡ Err c → a ≡ and_then a later
stays a later c e = rw e refl

pub goes : (a later : Answer) → a ≡ done → later ≡ and_then a later
goes a later e = rw e refl

-- ---- the number of every refusal has a property

abbrev pub Numbered : (ℕ → Type 0) → Answer → Type 0
Numbered P done = Unit {0}
Numbered P (Err c) = P (number_of c)

module _ (P : ℕ → Type 0) where
  pub unless-numbered : (b : Bool) (c : Refusal) (later : Answer) → P (number_of c) → Numbered P later → Numbered P (unless b c later)
  unless-numbered true c later h f = f
  unless-numbered false c later h f = h

  pub and_then-numbered : (a later : Answer) → Numbered P a → Numbered P later → Numbered P (and_then a later)
  and_then-numbered done later f g = g
  and_then-numbered (Err c) later f g = f

  -- a weaker property has it too
  pub numbered_as : (Q : ℕ → Type 0) → ((m : ℕ) → Q m → P m) → (a : Answer) → Numbered Q a → Numbered P a
  numbered_as Q f done h = tt
  numbered_as Q f (Err c) h = f (number_of c) h

-- or to be neither of two
abbrev pub Neither : ℕ → ℕ → ℕ → Type 0
Neither a b m = (m ≢ a) × (m ≢ b)

pub neither : (a b m : ℕ) → eqb m a ≡ false → eqb m b ≡ false → Neither a b m
neither a b m p q = (eqb-false m a p, eqb-false m b q)

-- then the answer is no refusal under one of them
pub never : (a b : ℕ) (answer r : Answer) → r ≡ answer → Numbered (Neither a b) answer → Never a r × Never b r
never a b answer r e h = (λ c d. (rw (sym e ∙ d) at h).0, λ c d. (rw (sym e ∙ d) at h).1)

pub never_done : (m : ℕ) → Never m done
never_done m c e = refused_done (sym e)

-- or under one that lacks the property
pub never_of : (P : ℕ → Type 0) (m : ℕ) → (P m → ⊥) → (a : Answer) → Numbered P a → Never m a
never_of P m f a h c e z = f (rw z at (rw e at h))

-- the first group never gives the number, nor does the next
pub then_never : (m : ℕ) (a later : Answer) → Never m a → Never m later → Never m (and_then a later)
then_never m done later f g = g
then_never m (Err c) later f g = f

-- ---- what an answer leaves in a lent list

-- a refusal keeps the list
pub kept : (r : Answer) (c : Refusal) → r ≡ Err c → (new old : List ℕ) → old ≡ on_done r new old
kept r c e new old = rw e refl

-- a success writes the new entries and keeps the later slots
pub filled : (new old after : List ℕ) (m : ℕ) → length new ≡ m → after ≡ new ++ drop m old → after ≡ on_done done new old
filled new old after m l e = e ∙ ap (λ (k : ℕ). new ++ drop k old) (sym l)

pub written : (f : ℕ → ℕ) (ws old after : List ℕ) → after ≡ map f ws ++ drop (length ws) old → after ≡ on_done done (map f ws) old
written f ws old after e = filled (map f ws) old after (length ws) (length-map ws f) e

-- ---- a value beside the answer

module _ {A : Type 0} where
  pub answer_of-answered : (a : Answer) (x : A) → answer_of (answered a x) ≡ a
  answer_of-answered (Ok u) x = refl
  answer_of-answered (Err c) x = refl

  -- a success gives the value, a refusal is the answer's
  pub ok_answered : (a : Answer) (x : A) → a ≡ done → Ok x ≡ answered a x
  ok_answered a x e = rw e refl

  pub err_answered : (a : Answer) (x : A) (c : Refusal) → a ≡ Err c → Err c ≡ answered a x
  err_answered a x c e = rw e refl

  pub answered_ok : (a : Answer) (x y : A) → Ok x ≡ answered a y → (a ≡ done) × (x ≡ y)
  answered_ok (Ok u) x y e = (refl, cc)
  answered_ok (Err c) x y e = absurd cc

  pub answered_err : (a : Answer) (y : A) (c : Refusal) → Err c ≡ answered a y → a ≡ Err c
  answered_err (Ok u) y c e = absurd cc
  answered_err (Err d) y c e = cc

  -- what holds of the value where it is done holds of what is answered
  pub if_answered : (a : Answer) (x : A) (P : A → Type 0) (r : Result A Refusal) → r ≡ answered a x → (a ≡ done → P x) → IfOk r P
  if_answered (Ok u) x P r e f = rw e (f refl)
  if_answered (Err c) x P r e f = rw e tt

  -- the refusal at the exit of a `?` is the one that it met
  pub handed_on : (r : Result A Refusal) (c : Refusal) → IsErr r × IsErrAnd r (λ x. x ≡ c) → r ≡ Err c
  handed_on (Ok x) c e = absurd e.1
  handed_on (Err d) c e = ap Err e.1

  -- of the value, where it is known what is answered
  pub done_answered : (a : Answer) (x : A) (r : Result A Refusal) → r ≡ answered a x → IsOk r → a ≡ done
  done_answered (Ok u) x r e h = refl
  done_answered (Err c) x r e h = let z : is_ok r ≡ false = rw e refl in absurd (true_false h z)

  pub part-answered : {B : Type 0} (f : A → B) (a : Answer) (x : A) (r : Result A Refusal) → r ≡ answered a x → part f r ≡ answered a (f x)
  part-answered f (Ok u) x r e = rw e refl
  part-answered f (Err c) x r e = rw e refl
