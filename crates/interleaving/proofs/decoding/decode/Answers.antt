-- Causes 16 and 17 after the first five, else Decode of the words sorted back.
use Rattle.std.proofs.Common.{◌≡◌, refl, sym, ap, ◌∙◌, ℕ, ◌≤◌, List, ◌++◌, length, take, length-append, arith}
use lib.Seq.{take_at, length-take-le}
use Rattle.coding.specs.Interleaving.{sorted_words}
use Rattle.coding.proofs.InterleavingLaws.{sorted_long}
use Rattle.answers.specs.Refusal.{done}
use Rattle.answers.proofs.AnswerLaws.{handed_on}
use Rattle.words.proofs.ShapeLaws.{every_row_of}
use Rattle.interleaving.specs.Causes.{bits_answer}
use Rattle.interleaving.proofs.BitLaws.{bits_in}
use Rattle.interleaving.proofs.BurstDecodeLaws.{too_long, code_refuses, bits_refuse, decoded_of, decode_refused, decode_ends}
use Rattle.interleaving.proofs.decoding.decode.Goals as goal

-- the slots that hold the words sorted back are at least as many as these
enough : (n L : ℕ) (bits out later : List ℕ) → out ≡ sorted_words n L bits ++ later → L ≤ length out
enough n L bits out later e =
    omega (arith, ap length e ∙ length-append (sorted_words n L bits) later, sorted_long n L bits)

pub returns-then-matrix-gt-MAX_PLACES-clause-decoded : goal.returns-then-matrix-gt-MAX_PLACES-clause-decoded
returns-then-matrix-gt-MAX_PLACES-clause-decoded c =
    let h = c.if-matrix-gt-MAX_PLACES.true in
    decode_refused _ _ (λ e. absurd (omega (arith, e, h))) _ _ refl (too_long _ _ _ _ _ _ _ _ _ h)

pub returns-in_err-code_cause-clause-decoded : goal.returns-in_err-code_cause-clause-decoded
returns-in_err-code_cause-clause-decoded c =
    let J = c.code_cause.ensures in
    decode_refused _ _ (every_row_of _ _ J.answer J.every_row) _ _ (handed_on _ _ c.from_residual.ensures)
    (code_refuses _ _ _ _ _ _ _ _ _ _ (sym J.answer ∙ c.in_err-code_cause.was))

pub returns-in-Err-clause-decoded : goal.returns-in-Err-clause-decoded
returns-in-Err-clause-decoded c =
    let J = c.code_cause.ensures in
    decode_refused _ _ (every_row_of _ _ J.answer J.every_row) _ _ refl
    (bits_refuse _ _ _ _ _ _ _ _ _ _ (sym J.answer ∙ c.in_ok-code_cause.was) (sym c.bits_cause.ensures ∙ c.in-Err.is))

pub sort_words-requires : goal.sort_words-requires
sort_words-requires c =
    let (F, f) = bits_in c.args.matrix.now.n c.args.depth c.args.bits.now (sym c.bits_cause.ensures ∙ c.in_default.is) in
    (F.long, f, omega arith, omega (arith, F.small), F.small)

pub slice_bounds-words-end : goal.slice_bounds-words-end
slice_bounds-words-end c =
    omega (arith, enough c.args.matrix.now.n c.args.depth c.args.bits.now _ _ c.sort_words.ensures)

pub slice_bounds-batch-end : goal.slice_bounds-batch-end
slice_bounds-batch-end c =
    sym (length-take-le _ _ (omega (arith, enough c.args.matrix.now.n c.args.depth c.args.bits.now _ _ c.sort_words.ensures)))

pub returns-clause-decoded : goal.returns-clause-decoded
returns-clause-decoded c =
    let n = c.args.matrix.now.n in
    let L = c.args.depth in
    let bits = c.args.bits.now in
    let right : bits_answer n L bits ≡ done = sym c.bits_cause.ensures ∙ c.in_default.is in
    let words_are : take L c.sort_words.new.out ≡ sorted_words n L bits =
    ap (take L) c.sort_words.ensures ∙ take_at (sorted_words n L bits) _ L (sorted_long n L bits) in
    decode_ends _ _ right _ _ (decoded_of words_are c.decode.ensures.decoded)
