-- The value of the table of bursts: each part by computation.
use mathlib.Core.Path.{◌≡◌, refl, sym, ap, ◌∙◌}
use mathlib.Core.Logic.{inl, inr}
use mathlib.Core.List.{List}
use Prim.Native.Nat.{ℕ, zero, suc, ◌+◌, ◌-◌, ◌<◌}
use native.Mathlib.Omega.{arith}
use lib.Dec.{lit<}
use lib.ListN.{get_or, take, drop}
use lib.Seq.{get_or-take, get_or-drop}
use lib.Count.{ones, count_trailing_zeros}
use Rattle.coding.specs.Word.{parity, distance}
use Rattle.coding.specs.Matrix.{Codeword, message_of}
use Rattle.coding.specs.Weight.{dmin}
use Rattle.coding.specs.Interleaving.{interleaved, sorted_word, Burst, SentWithBurst}
use Rattle.coding.proofs.ListLaws.{tabulate_same}
use Rattle.words.specs.Shape.{shape_answer}
use Rattle.words.specs.Accepted.{matrix_answer}
use Rattle.words.specs.Lists.{list_answer}
use Rattle.decoder.specs.Causes.{lists_answer}
use Rattle.judging.specs.Causes.{code_answer}
use Rattle.interleaving.specs.Causes.{length_answer, bits_answer, interleaved_answer}
use Rattle.starred.specs.Matrices.{seven}
use Rattle.starred.specs.Bursts.{bit_list, three, Bursts}

-- bits 10, 11 and 12 changed
abbrev received : List ℕ
received = bit_list 21 0b111001111110001001011

-- the words sent are the codewords of the messages 1100, 0001 and 1111
three_codewords : (i : ℕ) → i < 3 → Codeword seven (get_or three i 0)
three_codewords zero h = (3, lit< tt, refl)
three_codewords (suc zero) h = (8, lit< tt, refl)
three_codewords (suc (suc zero)) h = (15, lit< tt, refl)
three_codewords (suc (suc (suc i))) h = absurd (omega arith)

-- lists that are alike before the place a and from a + s on differ in a burst
burst_from : (a s : ℕ) (sent received : List ℕ) → take a received ≡ take a sent → drop (a + s) received ≡ drop (a + s) sent → Burst a s sent received
burst_from a s sent received e f b h (inl l) =
    sym (get_or-take a received b 0 l) ∙ ap (λ (x : List ℕ). get_or x b 0) e ∙ get_or-take a sent b 0 l
burst_from a s sent received e f b h (inr l) =
    let p : b ≡ a + s + (b - (a + s)) = omega arith in
    rw p (sym (get_or-drop (a + s) received (b - (a + s)) 0) ∙ ap (λ (x : List ℕ). get_or x (b - (a + s)) 0) f ∙ get_or-drop (a + s) sent (b - (a + s)) 0)

three-sent : SentWithBurst (Codeword seven) 7 3 3 10 three received
unfolding ones count_trailing_zeros
three-sent = record { long = refl; codewords = three_codewords; burst = burst_from 10 3 (interleaved 7 three) received refl refl }

-- each of the words was changed in one place
one_changed : (counts : List ℕ) (i : ℕ) → i < 3 → get_or counts i 0 ≡ distance (sorted_word 7 3 received i) (get_or three i 0) → get_or counts i 0 ≡ 1
unfolding ones
one_changed counts zero h e = e
one_changed counts (suc zero) h e = e
one_changed counts (suc (suc zero)) h e = e
one_changed counts (suc (suc (suc i))) h e = absurd (omega arith)

pub bursts : Bursts
unfolding ones count_trailing_zeros parity message_of dmin shape_answer matrix_answer list_answer code_answer lists_answer length_answer bits_answer interleaved_answer
bursts = record {
  sent = refl;
  sorted = refl;
  burst = (refl, refl);
  sent_with_burst = three-sent;
  by_rule = λ codewords counts B. (B.mended three 10 three-sent, tabulate_same (λ i. get_or counts i 0) (λ i. 1) 3 (λ i h. one_changed counts i h (B.counted three 10 three-sent i h).0));
  too_wide = (refl, refl);
  no_radius = refl;
  sending = (refl, refl, refl, refl);
  sorting = (refl, refl, refl);
  decoding = (refl, refl, refl, refl, refl);
  deepest = (refl, refl, refl);
  too_deep = (refl, refl, refl);
}
