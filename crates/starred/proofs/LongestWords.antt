-- The value of the table of the longest words: by computation.
use mathlib.Core.Path.{refl}
use Rattle.words.specs.Shape.{shape_answer}
use Rattle.words.specs.Lists.{list_answer}
use Rattle.starred.specs.LongestWords.{LongestWords}

pub longest-words : LongestWords
unfolding shape_answer list_answer
longest-words = record {
  passing = refl;
  longer = refl;
  no_checks = refl;
  more_checks = refl;
  rows = (refl, refl, refl);
  words = (refl, refl, refl);
}
