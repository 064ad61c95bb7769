-- What the Golay calls promise: the steps end a word as Decode ends it with the Golay matrix within radius 3, so demand 3 is that of any
-- accepted matrix, with dmin 8; and the message is read back.
use Rattle.std.proofs.Common.{None, Result, Ok, Err}
use mathlib.Core.Path.{◌≡◌, refl, sym, ap, subst, ◌∙◌}
use mathlib.Core.Logic.{◌≢◌, ◌↔◌}
use Prim.Native.Nat.{ℕ, ◌*◌, ◌/◌, ◌^◌, ◌<◌}
use native.Mathlib.Omega.{arith}
use mathlib.Core.Bool.{Bool, true, false}
use lib.Dec.{ltb, lit<, lit≤}
use borrow.Author.Tests.{ltb-true, lt-ltb, ne_eqb, le-leb}
use lib.Bits.{xor_lt, xor_self, xor_zero_r, xor_shifted}
use lib.Count.{ones, ones_in}
use Rattle.coding.specs.Word.{◌⊕◌, weight, distance}
use Rattle.coding.specs.Matrix.{encode, Codeword, IsMessage, message_of, is_codeword}
use Rattle.coding.specs.Radius.{RadiusRules}
use Rattle.coding.specs.Inner.SystematicSyndrome.{systematic_syndrome}
use Rattle.coding.proofs.WeightLaws.{weight-zero, weight_none}
use Rattle.coding.proofs.MatrixLaws.{codeword-lt}
use Rattle.coding.proofs.SystematicLaws.{systematic-syndrome, systematic-syndrome-xor, systematic_message, systematic-codeword}
use Rattle.coding.proofs.SearchLaws.{codeword-test, codeword_fails}
use Rattle.answers.specs.declared.answer.Refusal.TheVariants.{WordOutside, NoCodeword}
use Rattle.answers.specs.declared.answer.Refusal.{Refusal}
use Rattle.answers.specs.Refusal.{done, unless, answered}
use Rattle.answers.proofs.AnswerLaws.{unless_done, if_answered}
use Rattle.outcomes.specs.declared.ending.Correction.{Correction}
use Rattle.words.proofs.CodeLaws.{one_is, back_is}
use Rattle.outcomes.specs.Outcome.{outcome_of, word_in, count_in, corrected}
use Rattle.outcomes.specs.declared.ending.Reading.TheVariants.{Within}
use Rattle.outcomes.specs.declared.ending.Outcome.TheVariants.{Clean, Mended, Far}
use Rattle.outcomes.proofs.DemandLaws.{outcome_found, outcome_none, radius_rule, clean_rule}
use Rattle.golay_code.specs.Golay.{golay_checks, golay_rows}
use Rattle.golay_code.proofs.GolayLaws.{golay_size, golay_inside, golay_accepted, golay_dmin, golay_distance}
use Rattle.golay.specs.Inner.Steps.{Pattern, ErrorPattern}
use Rattle.golay.specs.Encoded.{encode_answer, Encoded}
use Rattle.golay.specs.Decoded.{golay_outcome, decode_answer, Decoded}
use Rattle.golay.specs.MessageRead.{message_answer, MessageRead}
use Rattle.golay.proofs.PatternLaws.{sum_lt, check-pattern}

four_places : weight 15 ≡ 4
unfolding ones ones_in
four_places = refl

zero_pattern : Pattern 0 0
zero_pattern = check-pattern 0 (lit< tt) (rw weight-zero (lit≤ tt))

-- a word of 24 places is a codeword exactly when its syndrome is 0
pub golay_test : (w : ℕ) → w < 2 ^ 24 → Codeword golay_rows w ↔ (systematic_syndrome 12 golay_checks w ≡ 0)
golay_test w h = systematic-syndrome 12 golay_checks golay_inside w (rw golay_size h)

module _ (w : ℕ) (h : w < 2 ^ 24) where
  -- a pattern with the word's syndrome leads to a codeword
  pattern-codeword : (e : ℕ) → Pattern (systematic_syndrome 12 golay_checks w) e → Codeword golay_rows (w ⊕ e)
  pattern-codeword e F =
      (golay_test (w ⊕ e) (xor_lt 24 w e h F.below)).1
      (systematic-syndrome-xor 12 golay_checks w e ∙ ap (λ (x : ℕ). systematic_syndrome 12 golay_checks w ⊕ x) F.has
      ∙ xor_self (systematic_syndrome 12 golay_checks w))

  -- the sum with a codeword has the word's syndrome
  codeword-pattern : (c : ℕ) → Codeword golay_rows c
      → (w ⊕ c < 2 ^ 24) × (systematic_syndrome 12 golay_checks (w ⊕ c) ≡ systematic_syndrome 12 golay_checks w)
  codeword-pattern c k =
      let l : c < 2 ^ 24 = codeword-lt 24 golay_rows golay_accepted.inside c k in (
        xor_lt 24 w c h l,
        systematic-syndrome-xor 12 golay_checks w c ∙ ap (λ (x : ℕ). systematic_syndrome 12 golay_checks w ⊕ x) ((golay_test c l).0 k)
            ∙ xor_zero_r (systematic_syndrome 12 golay_checks w),
      )

  outcome_is : (e : ℕ) → Pattern (systematic_syndrome 12 golay_checks w) e → outcome_of (Within 3) w e ≡ golay_outcome w
  unfolding golay_outcome
  outcome_is e F = outcome_found 24 12 golay_rows golay_accepted w h 3 (rw golay_dmin (lit≤ tt)) e (pattern-codeword e F) F.light

  -- a word with the syndrome 0 is clean
  pub clean_is : systematic_syndrome 12 golay_checks w ≡ 0 → Clean w ≡ golay_outcome w
  clean_is z = clean_zero ∙ outcome_is 0 (rw z zero_pattern)
    where
      clean_zero : Clean w ≡ outcome_of (Within 3) w 0
      clean_zero = sym (simp (weight-zero) refl)

  -- where no pattern is found the word is far, as with any heavier one
  pub far_is : ErrorPattern (systematic_syndrome 12 golay_checks w) None → Far ≡ golay_outcome w
  unfolding golay_outcome
  far_is none =
      sym (simp (four_places) refl)
      ∙ outcome_none 24 12 golay_rows golay_accepted w h 3 15 (omega (arith, four_places))
      (λ c k. none (w ⊕ c) (codeword-pattern c k).0 (codeword-pattern c k).1)

  -- a pattern mends a word whose syndrome s is not 0; its weight is not 0, for the zero word has the syndrome 0
  pub mended_is : (s e : ℕ) → s ≡ systematic_syndrome 12 golay_checks w → Pattern s e → s ≢ 0 → Mended (w ⊕ e) (weight e) ≡ golay_outcome w
  mended_is s e q F ne =
      sym (simp (ne_eqb (weight e) 0 heavy, le-leb (weight e) 3 F.light) refl) ∙ outcome_is e (rw q at F)
    where
      heavy : weight e ≡ 0 → ⊥
      heavy z = ne (sym F.has ∙ ap (systematic_syndrome 12 golay_checks) (weight_none e z) ∙ zero_pattern.has)

  pub golay_rules : RadiusRules ℕ (Codeword golay_rows) distance 8 3 w (word_in (golay_outcome w) w) (count_in (golay_outcome w))
      (count_in (golay_outcome w) ≡ 255)
  unfolding golay_outcome
  golay_rules =
      subst (λ (d : ℕ). RadiusRules ℕ (Codeword golay_rows) distance d 3 w (word_in (golay_outcome w) w) (count_in (golay_outcome w))
      (count_in (golay_outcome w) ≡ 255))
      golay_dmin (radius_rule 24 12 golay_rows golay_accepted w h 3 (rw golay_dmin (lit≤ tt)))

pub golay_clean : (w : ℕ) → (count_in (golay_outcome w) ≡ 0) ↔ (golay_outcome w ≡ Clean w)
unfolding golay_outcome
golay_clean w = clean_rule 24 12 golay_rows golay_accepted (Within 3) w

-- ---- messages

pub golay_message : (w : ℕ) → Codeword golay_rows w → IsMessage golay_rows w (message_of golay_rows w)
golay_message w c = one_is 24 12 golay_rows golay_accepted w c

pub golay_places : (w : ℕ) → Codeword golay_rows w → message_of golay_rows w ≡ w / 2 ^ 12
golay_places w c =
    let M = systematic_message 12 golay_checks golay_inside w c in
    let N = golay_message w c in
    M.only (message_of golay_rows w) N.below N.codeword

pub golay_back : (v : ℕ) → v < 2 ^ 12 → message_of golay_rows (encode golay_rows v) ≡ v
golay_back v h = back_is 24 12 golay_rows golay_accepted v h

pub golay_encoded : (u : ℕ) → u < 2 ^ 12 → u * 2 ^ 12 ⊕ encode golay_checks u ≡ encode golay_rows u
golay_encoded u h =
    xor_shifted u 12 (encode golay_checks u) (sum_lt u) ∙ sym (systematic-codeword 12 golay_checks golay_inside u (rw golay_size h))

-- ---- the answers

pub encode_is : (u : ℕ) (r : Result ℕ Refusal) → r ≡ answered (encode_answer u) (encode golay_rows u) → Encoded u r
encode_is u r e = record { is = e; back = golay_back }

-- a word of so many places, by cause 7
pub inside_lt : (w n : ℕ) → unless (ltb w (2 ^ n)) (WordOutside 0) done ≡ done → w < 2 ^ n
inside_lt w n d = ltb-true w (2 ^ n) (unless_done _ _ _ d).0

pub decode_is : (w : ℕ) (r : Result (Correction ℕ) Refusal) → r ≡ answered (decode_answer w) (corrected (golay_outcome w) w) → Decoded w r
decode_is w r e = record {
  is = e;
  apart = golay_distance;
  within = if_answered (decode_answer w) _ (λ c. RadiusRules ℕ (Codeword golay_rows) distance 8 3 w c.word c.count (c.count ≡ 255)) r e
      (λ d. golay_rules w (inside_lt w 24 d));
  clean = if_answered (decode_answer w) _ (λ c. (c.count ≡ 0) ↔ (golay_outcome w ≡ Clean w)) r e (λ _. golay_clean w);
}

pub read_is : (w : ℕ) (r : Result ℕ Refusal) → r ≡ answered (message_answer w) (message_of golay_rows w) → MessageRead w r
read_is w r e = record { is = e; one = golay_message w; places = golay_places w }

module _ (w : ℕ) where
  pub read_outside : (c : Refusal) → Err c ≡ unless (ltb w (2 ^ 24)) (WordOutside 0) done → Err c ≡ message_answer w
  read_outside c e = go (ltb w (2 ^ 24)) e
    where
      go : (b : Bool) → Err c ≡ unless b (WordOutside 0) done → Err c ≡ unless b (WordOutside 0) (unless (is_codeword golay_rows w) (NoCodeword 0) done)
      go true f = absurd cc
      go false f = f

  module _ (d : done ≡ unless (ltb w (2 ^ 24)) (WordOutside 0) done) where
    below : w < 2 ^ 24
    below = inside_lt w 24 (sym d)

    pub read_refused : systematic_syndrome 12 golay_checks w ≢ 0 → Err (NoCodeword 0) ≡ answered (message_answer w) (message_of golay_rows w)
    read_refused ne = sym (simp (lt-ltb w (2 ^ 24) below, codeword_fails golay_rows w (λ c. ne ((golay_test w below).0 c))) refl)

    pub read_done : systematic_syndrome 12 golay_checks w ≡ 0 → Ok (w / 2 ^ 12) ≡ answered (message_answer w) (message_of golay_rows w)
    read_done z =
        let c : Codeword golay_rows w = (golay_test w below).1 z in
        ap Ok (sym (golay_places w c)) ∙ sym (simp (lt-ltb w (2 ^ 24) below, (codeword-test golay_rows w).1 c) refl)
