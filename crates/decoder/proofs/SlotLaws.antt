-- Laws of Decode's slots: with the list of leaders they are those of the definition.
use mathlib.Core.Path.{◌≡◌, ap, ap₂, ◌∙◌}
use mathlib.Core.List.{List, ◌++◌, map}
use Prim.Native.Nat.{ℕ, ◌<◌}
use lib.ListN.{length, get_or, length-map, get_or-append}
use Rattle.coding.specs.Check.{checks, syndrome}
use Rattle.coding.specs.Leader.{syndrome_of}
use Rattle.coding.proofs.ListLaws.{get_d_map, map_same, tabulate-map}
use Rattle.words.specs.Accepted.{Accepted}
use Rattle.leaders.specs.Leaders.{leaders_list}
use Rattle.leaders.proofs.LeaderPromiseLaws.{leader_slot}
use Rattle.words.proofs.CodeLaws.{syndrome-below}
use Rattle.outcomes.specs.Outcome.{outcome_of, word_in, count_in, decoded_as, word_of, count_of}
use Rattle.outcomes.specs.declared.ending.Reading.{Reading}
use Rattle.outcomes.specs.declared.ending.Outcome.{Outcome}
use Rattle.decoder.specs.Inner.SlotsBy.{words_with, counts_with, word_by, count_by}

-- a slot that has been written
pub slot_at : (f : ℕ → ℕ) (ws rest : List ℕ) (i : ℕ) → i < length ws → get_or (map f ws ++ rest) i 0 ≡ f (get_or ws i 0)
slot_at f ws rest i h = get_or-append (map f ws) rest 0 i (rw (length-map ws f) h) ∙ get_d_map f ws i h

-- words with the leaders of their syndromes beside them
module _ (reading : Reading) (leaders hs words : List ℕ) where
  beside : (i : ℕ) → i < length words
      → get_or (map (λ s. get_or leaders s 0) (map (syndrome hs) words)) i 0 ≡ get_or leaders (syndrome hs (get_or words i 0)) 0
  beside i h =
      get_d_map (λ s. get_or leaders s 0) (map (syndrome hs) words) i (rw (length-map words (syndrome hs)) h)
      ∙ ap (λ (s : ℕ). get_or leaders s 0) (get_d_map (syndrome hs) words i h)

  pub words_with_lem : words_with reading words (map (λ s. get_or leaders s 0) (map (syndrome hs) words)) ≡ map (word_by reading leaders hs) words
  words_with_lem =
      tabulate-map _ (word_by reading leaders hs) words
      (λ i h. ap (λ (e : ℕ). word_in (outcome_of reading (get_or words i 0) e) (get_or words i 0)) (beside i h))

  pub counts_with_lem : counts_with reading words (map (λ s. get_or leaders s 0) (map (syndrome hs) words)) ≡ map (count_by reading leaders hs) words
  counts_with_lem = tabulate-map _ (count_by reading leaders hs) words (λ i h. ap (λ (e : ℕ). count_in (outcome_of reading (get_or words i 0) e)) (beside i h))

-- the check rows of an accepted matrix and a list that begins with its leaders give the slots of the definition
module _ (n k : ℕ) (rows : List ℕ) (A : Accepted n k rows) (reading : Reading) (leaders rest hs : List ℕ) (is : leaders ≡ leaders_list n k rows ++ rest)
    (are : hs ≡ checks n rows) where
  outcome_by_lem : (w : ℕ) → outcome_of reading w (get_or leaders (syndrome hs w) 0) ≡ decoded_as n rows reading w
  outcome_by_lem w =
      ap (outcome_of reading w)
      (ap₂ (λ (l h : List ℕ). get_or l (syndrome h w) 0) is are ∙ leader_slot n k rows A rest (syndrome_of n rows w) (syndrome-below n k rows A w))

  pub words_are : (ws : List ℕ) → map (word_by reading leaders hs) ws ≡ map (word_of n rows reading) ws
  words_are ws = map_same _ _ ws (λ i h. ap (λ (o : Outcome ℕ). word_in o (get_or ws i 0)) (outcome_by_lem (get_or ws i 0)))

  pub counts_are : (ws : List ℕ) → map (count_by reading leaders hs) ws ≡ map (count_of n rows reading) ws
  counts_are ws = map_same _ _ ws (λ i h. ap count_in (outcome_by_lem (get_or ws i 0)))
