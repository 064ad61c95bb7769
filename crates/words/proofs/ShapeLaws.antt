-- Laws of the causes 1 to 3.
use mathlib.Core.Path.{◌≡◌, refl, sym, ap, ◌∙◌}
use mathlib.Core.Logic.{◌≢◌}
use mathlib.Core.List.{List, [], ◌∷◌}
use mathlib.Core.Bool.{Bool, true, false, not, ◌&&◌}
use Prim.Native.Nat.{ℕ, zero, suc, ◌+◌, ◌^◌, ◌<◌}
use native.Mathlib.Nat.{le_refl, le_of_suc-le-suc}
use native.Mathlib.Omega.{arith}
use lib.Dec.{eqb, leb, ltb}
use lib.ListN.{length, get_or}
use borrow.Author.Tests.{leb-true, le-leb, eqb-true, eq-eqb, lt-ltb, ltb-true, ltb-false, le-ltb, not-false}
use Rattle.coding.specs.Matrix.{Inside}
use Rattle.coding.proofs.SearchLaws.{first_is, first-before, first-le, first_hit}
use Rattle.words.specs.Limits.{max_places, max_rows, max_checks, width, InRange, in_range}
use Rattle.answers.specs.Refusal.{refuse_first, and_then, Never, Answer, done, answered, answer_of}
use Rattle.words.specs.Shape.{outside, first_outside, some_outside, shape_answer}
use Rattle.std.specs.Prelude.{Result, Option, Some, None, fold, bit_or, cond, nat_lt}
use Rattle.std.proofs.lemmas.Nat.{le_or_l, le_or_r}
use Rattle.std.specs.List.{position_or_len}
use Rattle.std.proofs.lemmas.List.Sums.{position_or_len_is}
use Rattle.words.specs.Widest.{EveryRow}
use Rattle.answers.proofs.AnswerLaws.{answer_of-answered, unless_done, first_passes, first_done, Numbered, Neither, neither, unless-numbered, then_never}
use Rattle.answers.specs.declared.answer.Refusal.{Refusal}
use Rattle.answers.specs.declared.answer.Refusal.TheVariants.{OutOfRange, RowCount, RowOutside}

-- ---- cause 1

and_true : (a b : Bool) → a && b ≡ true → (a ≡ true) × (b ≡ true)
and_true true b e = (refl, e)
and_true false b e = let z : ◌≡◌ {A = ℕ} 0 1 = cc in absurd (omega arith)

pub range_in : (n k : ℕ) → in_range n k ≡ true → InRange n k
range_in n k e =
    let e5 = and_true _ (leb n (k + max_checks)) e in
    let e4 = and_true _ (leb (k + 1) n) e5.0 in
    let e3 = and_true _ (leb k max_rows) e4.0 in
    let e2 = and_true _ (leb 1 k) e3.0 in
    let e1 = and_true (leb 2 n) (leb n max_places) e2.0 in
    record {
      places = (leb-true 2 n e1.0, leb-true n max_places e1.1);
      rows = (leb-true 1 k e2.1, leb-true k max_rows e3.1);
      checks = (leb-true (k + 1) n e4.1, leb-true n (k + max_checks) e5.1);
    }

pub in_range_lem : (n k : ℕ) → InRange n k → in_range n k ≡ true
in_range_lem n k r =
    simp (
      le-leb 2 n r.places.0,
      le-leb n max_places r.places.1,
      le-leb 1 k r.rows.0,
      le-leb k max_rows r.rows.1,
      le-leb (k + 1) n r.checks.0,
      le-leb n (k + max_checks) r.checks.1,
    )

-- ---- cause 3, and 7: words of n places

pub outside_none : (n : ℕ) (words : List ℕ) → first_outside n words ≡ length words → Inside n words
outside_none n words e i h =
    ltb-true (get_or words i 0) (2 ^ n)
    (not-false _ (first-before (outside n words) (length words) i (rw e h)))

pub inside_none : (n : ℕ) (words : List ℕ) → Inside n words → first_outside n words ≡ length words
inside_none n words f =
    first_is (outside n words) (length words) (length words) (le_refl (length words))
    (λ j h. ap not (lt-ltb (get_or words j 0) (2 ^ n) (f j h))) (λ h. absurd (omega (arith, h)))

-- words that are joined have n places where their join has
pub joined_inside : (n all : ℕ) (words : List ℕ) → fold bit_or all words < 2 ^ n → (all < 2 ^ n) × Inside n words
joined_inside n all [] h = (h, λ i k. absurd (omega (arith, k)))
joined_inside n all (w ∷ words) h =
    let (a, f) = joined_inside n (bit_or all w) words h in
    (omega (arith, a, le_or_l all w), each a f)
  where
    each : bit_or all w < 2 ^ n → Inside n words → Inside n (w ∷ words)
    each a f zero k = omega (arith, a, le_or_r all w)
    each a f (suc i) k = f i (le_of_suc-le-suc k)

-- the first word with a one outside is the one that the search by position finds
position-first : (n : ℕ) (words : List ℕ) → position_or_len (λ w. not (ltb w (2 ^ n))) words ≡ first_outside n words
position-first n words =
    position_or_len_is _ words (first_outside n words) 0 (first-le (outside n words) (length words))
    (first-before (outside n words) (length words)) (first_hit (outside n words) (length words))

some_outside_is : (n : ℕ) (words : List ℕ) (o : Option ℕ) → o ≡ some_outside n words
    → o ≡ cond (nat_lt (first_outside n words) (length words)) (Some (first_outside n words)) None
some_outside_is n words o e = e ∙ ap (λ (i : ℕ). cond (nat_lt i (length words)) (Some i) None) (position-first n words)

pub outside-some : (n : ℕ) (words : List ℕ) (i : ℕ) → Some i ≡ some_outside n words → (i ≡ first_outside n words) × (i ≢ length words)
outside-some n words i e = go (nat_lt (first_outside n words) (length words)) refl (some_outside_is n words (Some i) e)
  where
    go : (b : Bool) → nat_lt (first_outside n words) (length words) ≡ b → Some i ≡ cond b (Some (first_outside n words)) None
        → (i ≡ first_outside n words) × (i ≢ length words)
    go true l z =
        let same : i ≡ first_outside n words = cc in
        (same, λ y. absurd (omega (arith, ltb-true (first_outside n words) (length words) l, same, y)))
    go false l z = absurd cc

pub outside-nothing : (n : ℕ) (words : List ℕ) → None ≡ some_outside n words → first_outside n words ≡ length words
outside-nothing n words e = go (nat_lt (first_outside n words) (length words)) refl (some_outside_is n words None e)
  where
    go : (b : Bool) → nat_lt (first_outside n words) (length words) ≡ b → None ≡ cond b (Some (first_outside n words)) None
        → first_outside n words ≡ length words
    go true l z = absurd cc
    go false l z = omega (arith, ltb-false (first_outside n words) (length words) l, first-le (outside n words) (length words))

pub inside-nothing : (n : ℕ) (words : List ℕ) → Inside n words → None ≡ some_outside n words
inside-nothing n words f =
    let e = inside_none n words f in
    sym (some_outside_is n words (some_outside n words) refl ∙ rw e (ap (λ (b : Bool). cond b (Some (length words)) None) (le-ltb (length words) (length words) (le_refl (length words)))))

-- ---- causes 1 to 3

pub record Shaped (n k : ℕ) (rows : List ℕ) : Type 0 where
  pub range : InRange n k
  pub count : length rows ≡ k
  pub inside : Inside n rows

pub shape_in : (n k : ℕ) (rows : List ℕ) → shape_answer n k rows ≡ done → Shaped n k rows
unfolding shape_answer
shape_in n k rows e =
    let e1 = unless_done (in_range n k) OutOfRange _ e in
    let e2 = unless_done (eqb (length rows) k) RowCount _ e1.1 in
    let e3 = first_done (outside n rows) (length rows) RowOutside done e2.1 in
    record {
      range = range_in n k e1.0;
      count = eqb-true (length rows) k e2.0;
      inside = outside_none n rows e3.0;
    }

pub in_shape : (n k : ℕ) (rows : List ℕ) → Shaped n k rows → shape_answer n k rows ≡ done
unfolding shape_answer
in_shape n k rows s =
    simp (
      in_range_lem n k s.range,
      eq-eqb (length rows) k s.count,
      eq-eqb (first_outside n rows) (length rows) (inside_none n rows s.inside),
    )

-- ---- 02, No. 7: at 32 places every number of 32 bits is a word

-- none of a list of such numbers has a one outside
pub every_word : (words : List ℕ) → Inside width words → first_outside width words ≡ length words
every_word words f = inside_none width words f

-- so whatever cause refuses a word outside passes them
pub every_passes : (c : ℕ → Refusal) (words : List ℕ) → Inside width words → refuse_first (outside width words) (length words) c done ≡ done
every_passes c words f = sym (first_passes (outside width words) (length words) c done (first_outside width words) refl (every_word words f))

-- as cause 3 does: it never arises, and 7 is none of these causes
pub shape_passes : (k : ℕ) (rows : List ℕ) → Inside width rows → Numbered (Neither 3 7) (shape_answer width k rows)
unfolding shape_answer
shape_passes k rows f =
    unless-numbered (Neither 3 7) (in_range width k) OutOfRange _ (neither 3 7 1 refl refl)
    (unless-numbered (Neither 3 7) (eqb (length rows) k) RowCount _ (neither 3 7 2 refl refl) (rw (every_passes RowOutside rows f) tt))

-- ---- words of 32 places

-- 02, No. 7: an answer that is named in another way
pub every_row_of : {n : ℕ} (r answer : Answer) → r ≡ answer → EveryRow n r → EveryRow n answer
every_row_of r answer e f w = rw e at (f w)

pub every_row_answered : {n : ℕ} {A : Type 0} (x : A) (r : Result A Refusal) (answer : Answer) → r ≡ answered answer x → EveryRow n (answer_of r)
    → EveryRow n answer
every_row_answered x r answer e f = every_row_of (answer_of r) answer (ap answer_of e ∙ answer_of-answered answer x) f

-- and 3 is a cause of the first group alone
pub rows_first : (n : ℕ) (a later r : Answer) → r ≡ and_then a later → EveryRow n a → Never 3 later → EveryRow n r
rows_first n a later r e f g w = rw e (then_never 3 a later (f w) g)
