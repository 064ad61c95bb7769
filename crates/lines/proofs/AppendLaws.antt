-- Laws of bytes put into a list: more of them behind, no byte, and printing them or nothing.
use mathlib.Core.Path.{◌≡◌, refl, sym, ap, ap₂, ◌∙◌}
use mathlib.Core.List.{List, [], ◌∷◌, ◌++◌, append_assoc, append-nil}
use Rattle.std.specs.Prelude.{Option, Some}
use Prim.Native.Nat.{ℕ, ◌+◌, ◌-◌, ◌≤◌}
use native.Mathlib.Nat.{add-zero, zero-add}
use native.Mathlib.Omega.{arith}
use lib.ListN.{length, take, drop, set, length-append, length-drop, take-append-drop}
use borrow.Rule.Slice.PartMut.{put_mid}
use Rattle.std.proofs.lemmas.List.{drop_all}
use lib.Seq.{take_all, take_at, sets-eq, length-take-le, drop-drop, drop_at}
use Rattle.lines.specs.Appended.{Appends}
use Rattle.lines.specs.Put.{Put}

module _ {before : List ℕ} {at : ℕ} {bytes after : List ℕ} {next : ℕ} (A : Appends before at bytes after next) where
  front : length (take at before ++ bytes) ≡ next
  front = length-append (take at before) bytes ∙ omega (arith, length-take-le at before (omega (arith, A.fits)), A.ends)

  split : after ≡ take at before ++ bytes ++ drop next before
  split = A.list ∙ ap (λ (m : ℕ). take at before ++ bytes ++ drop m before) (sym A.ends)

  -- the list is as long as it was
  pub appends-length : length after ≡ length before
  appends-length =
      ap length split ∙ length-append (take at before ++ bytes) (drop next before)
      ∙ omega (arith, front, length-drop next before, A.fits, A.ends)

  -- so is what is behind the bytes
  behind : (m : ℕ) → next ≤ m → drop m after ≡ drop m before
  behind m h =
      let e : next + (m - next) ≡ m = omega arith in
      ap (λ (k : ℕ). drop k after) (sym e)
      ∙ sym (drop-drop (m - next) next after)
      ∙ ap (drop (m - next)) (ap (drop next) split ∙ drop_at (take at before ++ bytes) (drop next before) next front)
      ∙ drop-drop (m - next) next before ∙ ap (λ (k : ℕ). drop k before) e

  -- more bytes come after
  pub then : {more last : List ℕ} {end : ℕ} → Appends after next more last end → Appends before at (bytes ++ more) last end
  then {more} {last} {end} B =
      let n : next + length more ≡ at + length (bytes ++ more) = omega (arith, length-append bytes more, A.ends) in
      let t : take next after ≡ take at before ++ bytes = ap (take next) split ∙ take_at (take at before ++ bytes) (drop next before) next front in
      let d : drop (next + length more) after ≡ drop (at + length (bytes ++ more)) before
      = behind (next + length more) (omega arith) ∙ ap (λ (m : ℕ). drop m before) n in
      record {
        fits = omega (arith, n, B.fits, appends-length);
        list =
            B.list
            ∙ ap₂ (λ (x y : List ℕ). x ++ more ++ y) t d
            ∙ ap (λ (x : List ℕ). x ++ drop (at + length (bytes ++ more)) before) (append_assoc (take at before) bytes more);
        ends = omega (arith, n, B.ends);
      }

-- the bytes by another name
pub appends_as : {before : List ℕ} {at : ℕ} {bytes after : List ℕ} {next : ℕ} → Appends before at bytes after next
    → (named : List ℕ) → bytes ≡ named → Appends before at named after next
appends_as A named e = rw e at A

-- one byte
pub appends-one : (before : List ℕ) (at b : ℕ) → at + 1 ≤ length before → Appends before at (b ∷ []) (set before at b) (at + 1)
appends-one before at b h = record { fits = h; list = sets-eq (b ∷ []) before at h; ends = refl }

-- bytes at the front of what is behind a position
pub appends_behind : {before : List ℕ} {at : ℕ} {bytes part : List ℕ} {m : ℕ} → at ≤ length before
    → Appends (take (length before - at) (drop at before)) 0 bytes part m
    → Appends before at bytes (put_mid at (length before - at) before part) (at + m)
appends_behind {before} {at} {bytes} {part} {m} h A =
    let all : take (length before - at) (drop at before) ≡ drop at before
    = take_all (length before - at) (drop at before) (omega (arith, length-drop at before)) in
    let rest : part ≡ bytes ++ drop (at + length bytes) before
    = (rw (all, zero-add) at A.list) ∙ ap (λ (l : List ℕ). bytes ++ l) (drop-drop (length bytes) at before) in
    let none : drop (length before - at) (drop at before) ≡ [] = drop_all (length before - at) (drop at before) (omega (arith, length-drop at before)) in
    record {
      fits = let f : 0 + length bytes ≤ length (drop at before) = rw all at A.fits in omega (arith, f, length-drop at before);
      list = rw (none, append-nil, rest) (sym (append_assoc (take at before) bytes (drop (at + length bytes) before)));
      ends = omega (arith, A.ends);
    }

-- no byte
pub appends_none : (before : List ℕ) (at : ℕ) → at ≤ length before → Appends before at [] before at
appends_none before at h = record {
  fits = omega arith;
  list = sym (take-append-drop at before)
      ∙ ap₂ (λ (x : List ℕ) (m : ℕ). x ++ drop m before) (sym (append-nil (take at before))) (sym (add-zero at));
  ends = omega arith;
}

-- ---- printing: the bytes, or nothing

pub put_all : {can : Type 0} {before bytes after : List ℕ} {m : ℕ} → can → Appends before 0 bytes after m → Put can before bytes after (Some m)
put_all c A = record { puts = λ _. (_, refl, A); keeps = λ n. absurd (n c) }

module _ {can : Type 0} {before bytes after : List ℕ} {r : Option ℕ} (P : Put can before bytes after r) where
  -- the bytes by another name
  pub put_as : (named : List ℕ) → bytes ≡ named → Put can before named after r
  put_as named e = rw e at P

  -- under a condition that holds when the other does
  pub put-when : {other : Type 0} → (other → can) → (can → other) → Put other before bytes after r
  put-when f g = record { puts = λ c. P.puts (f c); keeps = λ n. P.keeps (λ c. n (g c)) }
