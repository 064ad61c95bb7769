-- 000's decoding steps: the error pattern of a syndrome, where one of at most three places has it.
use Rattle.std.specs.Prelude.{◌≡◌, ℕ, Option, Some, None, ◌+◌, ◌^◌, ◌≤◌, ◌<◌}
use Rattle.coding.specs.Word.{◌⊕◌, weight}
use Rattle.coding.specs.Matrix.{encode}
use Rattle.coding.specs.Inner.SystematicSyndrome.{systematic_syndrome}
use Rattle.golay_code.specs.Golay.{golay_checks}

-- e is an error pattern of at most three places with the syndrome s
pub record Pattern (s e : ℕ) : Type 0 where
  pub below : e < 2 ^ 24
  pub has : systematic_syndrome 12 golay_checks e ≡ s
  pub light : weight e ≤ 3

-- such a pattern, or there is none, of check places x and message places y, with at most one place in y
abbrev pub FewInMessage : ℕ → Option ℕ → Type 0
FewInMessage s (Some e) = Pattern s e
FewInMessage s None = (x y : ℕ) → y < 2 ^ 12 → x ⊕ encode golay_checks y ≡ s → weight y ≤ 1 → 3 < weight x + weight y

-- such a pattern, or there is none
abbrev pub ErrorPattern : ℕ → Option ℕ → Type 0
ErrorPattern s (Some e) = Pattern s e
ErrorPattern s None = (d : ℕ) → d < 2 ^ 24 → systematic_syndrome 12 golay_checks d ≡ s → 3 < weight d
