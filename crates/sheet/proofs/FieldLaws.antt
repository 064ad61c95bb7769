-- Laws of the reading: what a field that was read leaves known, one step of the recursion over fields, and a loop over them.
use mathlib.Core.Path.{◌≡◌, refl, ap, ◌∙◌}
use mathlib.Core.Bool.{Bool, true, false, cond}
use mathlib.Core.List.{List}
use Rattle.std.specs.Prelude.{Option, Some, None, Result, Ok, Err}
use Prim.Native.Nat.{ℕ, zero, suc, ◌+◌, ◌-◌, ◌≤◌, ◌<◌}
use native.Mathlib.Omega.{arith}
use borrow.Author.Tests.{ltb-false, leb-false, lt-ltb, le-ltb}
use lib.Dec.{ltb, leb}
use lib.ListN.{length, get_or, set, replicate, length-set}
use Rattle.sheet.specs.Field.{max_tag, content_of, size_at, gotten, field_at}
use Rattle.sheet.specs.Sheet.{max_sheet, sheet_in, sheet_from, sheet_of}
use Rattle.sheet.specs.declared.answer.Fault.{Fault}
use Rattle.sheet.specs.declared.answer.Fault.TheVariants.{Layout, Tag}
use Rattle.sheet.specs.declared.field.Content.{Content}
use Rattle.sheet.specs.declared.field.Field.{Field}

-- ---- a field that was read

past : (b : Bool) (c : Fault) (rest : Result Field Fault) (f : Field) → cond b (Err c) rest ≡ Ok f → (b ≡ false) × (rest ≡ Ok f)
past true c rest f e = let w : ◌≡◌ {A = ℕ} 0 1 = cc in absurd (omega arith)
past false c rest f e = (refl, e)

gotten_is : (x : Option Content) (at tag next : ℕ) (f : Field) → gotten x at tag next ≡ Ok f → (tag ≡ f.tag) × (x ≡ Some f.content) × (next ≡ f.next)
gotten_is None at tag next f e = let w : ◌≡◌ {A = ℕ} 0 1 = cc in absurd (omega arith)
gotten_is (Some content) at tag next f e =
    let q : record { tag = tag; content = content; next = next } ≡ f = cc in
    (ap (λ (g : Field). g.tag) q, ap (λ (g : Field). Some g.content) q, ap (λ (g : Field). g.next) q)

-- its tag is new and known, it ends within the sheet, and its content is that of its bytes
pub record Good (s : List ℕ) (at last : ℕ) (f : Field) : Type 0 where
  pub known : f.tag ≤ max_tag
  pub new : last < f.tag
  pub longer : at + 3 ≤ f.next
  pub within : f.next ≤ length s
  pub content_is : content_of s f.tag (at + 3) (f.next - (at + 3)) ≡ Some f.content

pub good : (s : List ℕ) (at last : ℕ) (f : Field) → at ≤ length s → field_at s at last ≡ Ok f → Good s at last f
unfolding field_at
good s at last f h e =
    let e1 = past (ltb (length s - at) 3) (Layout at) _ f e in
    let e2 = past (ltb max_tag (get_or s at 0)) (Tag at) _ f e1.1 in
    let e3 = past (leb (get_or s at 0) last) (Tag at) _ f e2.1 in
    let e4 = past (ltb (length s - at - 3) (size_at s at)) (Layout at) _ f e3.1 in
    let e5 = gotten_is (content_of s (get_or s at 0) (at + 3) (size_at s at)) at (get_or s at 0) (at + 3 + size_at s at) f e4.1 in
    let n1 = ltb-false (length s - at) 3 e1.0 in
    let n2 = ltb-false max_tag (get_or s at 0) e2.0 in
    let n3 = leb-false (get_or s at 0) last e3.0 in
    let n4 = ltb-false (length s - at - 3) (size_at s at) e4.0 in
    let long : f.next - (at + 3) ≡ size_at s at = omega (arith, e5.2) in
    record {
      known = omega (arith, n2, e5.0);
      new = omega (arith, n3, e5.0);
      longer = omega (arith, e5.2);
      within = omega (arith, n1, n4, e5.2);
      content_is = rw (long, ← e5.0) e5.1;
    }

-- ---- one step

pub stops_at : (d : ℕ) (s : List ℕ) (at last : ℕ) (contents : List (Option Content)) (c : Fault) → 0 < d → at < length s → field_at s at last ≡ Err c
    → sheet_from d s at last contents ≡ Err c
unfolding sheet_from
stops_at zero s at last contents c p h e = absurd (omega arith)
stops_at (suc d) s at last contents c p h e = rw (lt-ltb at (length s) h, e)

pub at_end : (d : ℕ) (s : List ℕ) (at last : ℕ) (contents : List (Option Content)) → length s ≤ at
    → sheet_from d s at last contents ≡ sheet_in contents (length s)
unfolding sheet_from
at_end zero s at last contents h = refl
at_end (suc d) s at last contents h = rw (le-ltb at (length s) h)

-- ---- a loop over the fields: the answer is that of the fields left, after the last tag and with the contents so far

pub record Reads (s : List ℕ) (contents : List (Option Content)) (at last : ℕ) : Type 0 where
  pub within : at ≤ length s
  pub known : last ≤ max_tag
  pub tags : length contents ≡ suc max_tag
  pub steps : ℕ
  pub enough : length s ≤ steps + at
  pub same : sheet_of s ≡ sheet_from steps s at last contents

pub reads_start : (s : List ℕ) → length s ≤ max_sheet → Reads s (replicate (suc max_tag) None) 0 0
unfolding sheet_of
reads_start s h = record {
  within = omega arith;
  known = omega arith;
  tags = refl;
  steps = length s;
  enough = omega arith;
  same = simp (le-ltb _ _ h);
}

module _ {s : List ℕ} {contents : List (Option Content)} {at last : ℕ} (R : Reads s contents at last) where
  pub reads_stop : (c : Fault) → at < length s → field_at s at last ≡ Err c → sheet_of s ≡ Err c
  reads_stop c h e = R.same ∙ stops_at R.steps s at last contents c (omega arith) h e

  pub reads_end : length s ≤ at → sheet_of s ≡ sheet_in contents (length s)
  reads_end h = R.same ∙ at_end R.steps s at last contents h

  module _ (f : Field) (h : at < length s) (e : field_at s at last ≡ Ok f) where
    reads_on : (d : ℕ) → 0 < d → sheet_from d s at last contents ≡ sheet_from (d - 1) s f.next f.tag (set contents f.tag (Some f.content))
    unfolding sheet_from
    reads_on zero p = absurd (omega arith)
    reads_on (suc d) p = let q : suc d - 1 ≡ d = omega arith in rw (lt-ltb at (length s) h, e, q)

    pub reads_step : Reads s (set contents f.tag (Some f.content)) f.next f.tag
    reads_step =
        let G = good s at last f R.within e in
        record {
          within = G.within;
          known = G.known;
          tags = length-set contents f.tag (Some f.content) ∙ R.tags;
          steps = R.steps - 1;
          enough = omega arith;
          same = R.same ∙ reads_on R.steps (omega arith);
        }
