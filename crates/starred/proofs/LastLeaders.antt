-- The value of the table of last leaders: the number of words tried is computed, and the word stands at its place.
use mathlib.Core.Path.{◌≡◌, refl, sym, ◌∙◌}
use mathlib.Core.List.{List, [], ◌∷◌}
use Prim.Native.Nat.{ℕ, suc, ◌-◌}
use lib.Count.{ones, count_trailing_zeros}
use lib.ListN.{get_or}
use Rattle.coding.specs.Word.{parity}
use Rattle.coding.specs.Matrix.{message_of}
use Rattle.coding.specs.Order.{order}
use Rattle.coding.specs.Tries.{LastLeader}
use Rattle.words.specs.Shape.{shape_answer}
use Rattle.words.specs.Accepted.{matrix_answer}
use Rattle.words.proofs.AcceptedLaws.{accepted_in}
use Rattle.leaders.specs.Leaders.{leaders_tried}
use Rattle.leaders.proofs.BuiltLaws.{place_is}
use Rattle.starred.specs.Matrices.{digits, seven, five, six}
use Rattle.starred.specs.LastLeaders.{LastLeaders}
use Rattle.answers.specs.Refusal.{done}

shown : (n k : ℕ) (rows : List ℕ) (last place : ℕ) → matrix_answer n k rows ≡ done
    → leaders_tried n k rows ≡ place → get_or (order n (suc (n - k))) (place - 1) 0 ≡ last → LastLeader n rows (n - k) last place
shown n k rows last place a t e =
    let (l, L) = place_is n k rows (accepted_in n k rows a) in
    let M : LastLeader n rows (n - k) l place = rw t at L in
    rw (sym M.there ∙ e) at M

pub last_leaders : LastLeaders
unfolding ones count_trailing_zeros parity message_of shape_answer matrix_answer
last_leaders = record {
  of_seven = shown 7 4 seven 0x40 8 refl refl refl;
  of_five = shown 5 2 five 0x0C 12 refl refl refl;
  of_six = shown 6 3 six 0x09 11 refl refl refl;
  of_two = shown 2 1 (digits 2 0b11 ∷ []) 0x01 2 refl refl refl;
  of_other_two = shown 2 1 (digits 2 0b10 ∷ []) 0x02 3 refl refl refl;
}
