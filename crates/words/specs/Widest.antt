-- The widest words: at 32 places no number of 32 bits is refused as a row or a word.
use Rattle.std.specs.Prelude.{◌≡◌, ℕ}
use Rattle.words.specs.Limits.{width}
use Rattle.answers.specs.Refusal.{Never, Answer}

-- 02, No. 7: at 32 places every number of 32 bits is a word, so that no row is refused under 3
abbrev pub EveryRow : ℕ → Answer → Type 0
EveryRow n r = n ≡ width → Never 3 r

-- and where words of n places are taken, none under 7
abbrev pub EveryWord : ℕ → Answer → Type 0
EveryWord n r = n ≡ width → Never 3 r × Never 7 r
