-- What the calls with a width answer, by causes 14 and 15.
use mathlib.Core.Path.{◌≡◌, refl, sym, ap, ◌∙◌}
use mathlib.Core.Logic.{◌↔◌}
use mathlib.Core.Bool.{Bool, true, false, ◌&&◌}
use Prim.Native.Nat.{ℕ, ◌^◌}
use lib.Dec.{eqb, ltb}
use lib.ListN.{take}
use lib.Pow.{pow_pos}
use borrow.Author.Tests.{eqb-true, eq-eqb, ltb-true, lt-ltb}
use Rattle.std.specs.Prelude.{Result, Err}
use Rattle.coding.specs.Matrix.{encode}
use Rattle.coding.specs.Columns.{split_syndrome, SplitCodeword}
use Rattle.coding.proofs.MatrixLaws.{encode-take}
use Rattle.answers.specs.Refusal.{Answer, done, unless, answered}
use Rattle.answers.specs.declared.answer.Refusal.{Refusal}
use Rattle.answers.specs.declared.answer.Refusal.TheVariants.{NoWidth, BeyondWidth, NoCodeword}
use Rattle.answers.proofs.AnswerLaws.{unless_done, if_answered, done_answered, ok_answered}
use Rattle.outcomes.specs.Outcome.{corrected}
use Rattle.outcomes.specs.declared.ending.Correction.{Correction}
use Rattle.hsiao.specs.Table.{columns, split, syndrome_of}
use Rattle.hsiao.specs.Outcome.{outcome_at}
use Rattle.hsiao.specs.Encoded.{EncodedBy}
use Rattle.hsiao.specs.Decoded.{DecodedBy}
use Rattle.hsiao.specs.MessageRead.{message_by, message_answer}
use Rattle.hsiao.specs.Widths.Code.{is_width, checks_of, columns_of}
use Rattle.hsiao.specs.Widths.Causes.{has_places, width_answer, data_answer, word_answer}
use Rattle.hsiao.specs.Widths.Encoded.{Encoded}
use Rattle.hsiao.specs.Widths.Decoded.{width_outcome, Decoded}
use Rattle.hsiao.specs.Widths.MessageRead as widths
use Rattle.hsiao.specs.declared.word.Word.{Word}
use Rattle.hsiao.proofs.HsiaoDecodeLaws.{encoded_by, decoded_by}
use Rattle.hsiao.proofs.WidthCodeLaws.{WidthCode, width_code, places_of, has_places_lem, syndrome_is, outcome_is}

-- within its width
passed : (m : ℕ) (b : Bool) → width_answer m b done ≡ done → (is_width m ≡ true) × (b ≡ true)
passed m b e =
    let (t, e₁) = unless_done (is_width m) NoWidth _ e in
    (t, (unless_done b BeyondWidth done e₁).0)

-- ---- data and words of a width

-- data are a word with no check bits
pub data_is : (m bits : ℕ) → word_answer m (record { check = 0; «data» = bits }) done ≡ data_answer m bits
data_is m bits = ap (λ (b : Bool). width_answer m (b && ltb bits (2 ^ m)) done) (lt-ltb 0 (2 ^ checks_of m) (pow_pos (checks_of m)))

module _ (m bits : ℕ) (d : data_answer m bits ≡ done) where
  data_code : WidthCode m
  data_code = width_code m (passed m _ d).0

  -- the sum of the table's columns is that of the width's
  pub sum_is : encode columns bits ≡ encode (columns_of m) bits
  sum_is =
      sym (encode-take columns m bits (ltb-true bits (2 ^ m) (passed m _ d).1))
      ∙ ap (λ cols. encode cols bits) (sym data_code.front)

  data_encoded : EncodedBy (checks_of m) (columns_of m) bits (encode (columns_of m) bits)
  data_encoded =
      encoded_by (checks_of m) (columns_of m) data_code.table.odd.inside
      (rw data_code.table.size (ltb-true bits (2 ^ m) (passed m _ d).1)) refl

pub encode_is : (m bits : ℕ) (r : Result ℕ Refusal) → r ≡ answered (data_answer m bits) (encode (columns_of m) bits) → Encoded m bits r
encode_is m bits r e = record {
  is = e;
  encoded = if_answered (data_answer m bits) _ (EncodedBy (checks_of m) (columns_of m) bits) r e (data_encoded m bits);
  table = λ k. (data_code m bits (done_answered (data_answer m bits) _ r e k)).table;
}

module _ (m : ℕ) (w : Word) (d : word_answer m w done ≡ done) where
  word_code : WidthCode m
  word_code = width_code m (passed m _ d).0

  -- by the first columns of the table
  pub outcome_within : (s : ℕ) → s ≡ syndrome_of w → outcome_at 8 (take m columns) w s ≡ width_outcome m w
  outcome_within = outcome_is m word_code w (places_of m word_code w (passed m _ d).1)

  -- then the later causes decide
  later_is : (later : Answer) → word_answer m w later ≡ later
  later_is later = let (t, u) = passed m _ d in rw (t, u) refl

  -- which are those of the (72,64) code
  pub message_is : message_answer w ≡ widths.message_answer m w
  message_is =
      ap (λ (s : ℕ). unless (eqb s 0) (NoCodeword 0) done) (syndrome_is m word_code w (places_of m word_code w (passed m _ d).1))
      ∙ sym (later_is (message_by (checks_of m) (columns_of m) w))

  word-decoded : DecodedBy (checks_of m) (columns_of m) w (corrected (width_outcome m w) w)
  word-decoded =
      decoded_by (checks_of m) (columns_of m) word_code.table.odd word_code.minimum w (places_of m word_code w (passed m _ d).1)

pub decode_is : (m : ℕ) (w : Word) (r : Result (Correction Word) Refusal) → r ≡ answered (word_answer m w done) (corrected (width_outcome m w) w)
    → Decoded m w r
decode_is m w r e = record {
  is = e;
  decoded = if_answered (word_answer m w done) _ (DecodedBy (checks_of m) (columns_of m) w) r e (word-decoded m w);
}

-- ---- reading back

-- a refusal under causes 14 and 15 stands before the later causes
pub refused_before : (m : ℕ) (w : Word) (later : Answer) (c : Refusal) → word_answer m w done ≡ Err c → word_answer m w later ≡ Err c
refused_before m w later c e = go (is_width m) (has_places (checks_of m) m w) e
  where
    go : (b d : Bool) → unless b NoWidth (unless d BeyondWidth done) ≡ Err c → unless b NoWidth (unless d BeyondWidth later) ≡ Err c
    go false d f = f
    go true false f = f
    go true true f = absurd cc

-- a word is read exactly when it is a codeword of the width's code
read_exactly : (m : ℕ) (w : Word) → (widths.message_answer m w ≡ done) ↔ ((is_width m ≡ true) × SplitCodeword (checks_of m) (columns_of m) (split w))
read_exactly m w = (there, back)
  where
    s : ℕ
    s = split_syndrome (checks_of m) (columns_of m) (split w)

    there : widths.message_answer m w ≡ done → (is_width m ≡ true) × SplitCodeword (checks_of m) (columns_of m) (split w)
    there e =
        let (t, e₁) = unless_done (is_width m) NoWidth _ e in
        let (u, e₂) = unless_done (has_places (checks_of m) m w) BeyondWidth _ e₁ in
        let (z, _) = unless_done (eqb s 0) (NoCodeword 0) done e₂ in
        (t, record { places = places_of m (width_code m t) w u; zero_syndrome = eqb-true s 0 z })

    back : (is_width m ≡ true) × SplitCodeword (checks_of m) (columns_of m) (split w) → widths.message_answer m w ≡ done
    back (t, C) = rw (t, has_places_lem m (width_code m t) w C.places, eq-eqb s 0 C.zero_syndrome) refl

pub message_is_read : (m : ℕ) (w : Word) (r : Result ℕ Refusal) → r ≡ answered (widths.message_answer m w) w.«data» → widths.MessageRead m w r
message_is_read m w r e = record {
  is = e;
  read = (
    λ k. (read_exactly m w).0 (done_answered (widths.message_answer m w) _ r e k),
    λ C. rw (e ∙ sym (ok_answered (widths.message_answer m w) w.«data» ((read_exactly m w).1 C))) refl,
  );
}
