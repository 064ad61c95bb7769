-- 02, No. 1: how the words of a batch ended, added up.
use Rattle.std.specs.Prelude.{List, map, ℕ}
use Rattle.coding.specs.Lists.{total}
use Rattle.outcomes.specs.declared.ending.Outcome.{Outcome}
use Rattle.outcomes.specs.declared.ending.Outcome.TheVariants.{Clean, Mended, Far}
use Rattle.tally.specs.declared.tally.Tally.{Tally}

-- what one word adds to the four numbers: 1 to that of its outcome, and its count to the places if it is mended
abbrev pub adds : Outcome ℕ → Tally
adds (Clean c) = record { clean = 1; mended = 0; far = 0; places = 0 }
adds (Mended c count) = record { clean = 0; mended = 1; far = 0; places = count }
adds Far = record { clean = 0; mended = 0; far = 1; places = 0 }

-- how many words ended as clean, mended and far, and the sum of the counts of the mended ones
unfoldable pub tally_of : List (Outcome ℕ) → Tally
tally_of outcomes = record {
  clean = total (map (λ o. (adds o).clean) outcomes);
  mended = total (map (λ o. (adds o).mended) outcomes);
  far = total (map (λ o. (adds o).far) outcomes);
  places = total (map (λ o. (adds o).places) outcomes);
}
