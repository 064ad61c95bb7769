-- What Decode promises, put together from its causes and from what the lists hold.
use mathlib.Core.Path.{◌≡◌, refl, sym, ap, ◌∙◌}
use mathlib.Core.Logic.{inl, inr}
use mathlib.Core.List.{List, ◌++◌, map}
use Prim.Native.Nat.{ℕ, ◌-◌, ◌^◌, ◌≤◌, ◌<◌}
use native.Mathlib.Omega.{arith}
use lib.ListN.{length, get_or, drop, length-append}
use Rattle.coding.specs.Check.{checks, syndrome}
use Rattle.coding.specs.Weight.{dmin}
use Rattle.words.specs.Widest.{EveryWord}
use Rattle.words.specs.Accepted.{Accepted}
use Rattle.answers.specs.declared.answer.Refusal.{Refusal}
use Rattle.answers.specs.Refusal.{Answer, done}
use Rattle.std.specs.Prelude.{Err}
use Rattle.answers.proofs.AnswerLaws.{refused_done, never_done, kept, filled, written}
use Rattle.words.proofs.AcceptedLaws.{accepted_in}
use Rattle.words.proofs.CodeLaws.{distance_is, syndrome-below, leader_at, every_leader}
use Rattle.leaders.specs.Leaders.{leaders_list}
use Rattle.leaders.proofs.BuiltLaws.{leaders_long}
use Rattle.leaders.proofs.LeaderPromiseLaws.{leader_slot}
use Rattle.outcomes.specs.Outcome.{word_of, count_of}
use Rattle.outcomes.proofs.DemandLaws.{nearest_rule, radius_rule, clean_rule}
use Rattle.decoder.specs.Causes.{decode_answer}
use Rattle.decoder.specs.Decoded.{Batch, Lent, Decoded}
use Rattle.decoder.specs.Inner.SlotsBy.{word_by, count_by}
use Rattle.judging.proofs.CauseLaws.{radius_in}
use Rattle.decoder.proofs.DecodeCauseLaws.{Passed, batch_in, refused_number}
use Rattle.decoder.proofs.SlotLaws.{slot_at, words_are, counts_are}

-- the answer to a batch
abbrev pub answer_to : Batch → Lent → Answer
answer_to B L = decode_answer B.n B.k B.rows B.reading B.words (length L.codewords) (length L.counts) (length L.work)

-- a refusal leaves every list as it was
pub decode_refused : (B : Batch) (L : Lent) → EveryWord B.n (answer_to B L) → (r : Answer) (c : Refusal) → r ≡ Err c → r ≡ answer_to B L
    → (after : Lent) → after ≡ L → Decoded B L r after
decode_refused B L w r c e b after s =
    let numbered = refused_number B.n B.k B.rows B.reading B.words _ _ _ c (sym b ∙ e) in
    record {
      answer = b;
      either = inl (c, e, numbered, s);
      every_word = rw b w;
      every_leader = every_leader B.n B.k B.rows;
      codewords = ap (λ (l : Lent). l.codewords) s ∙ kept r c e _ L.codewords;
      distances = ap (λ (l : Lent). l.counts) s ∙ kept r c e _ L.counts;
      leaders = ap (λ (l : Lent). l.work) s ∙ kept r c e _ L.work;
      leader = λ d. refused_done (sym e ∙ d);
      minimum = λ d. refused_done (sym e ∙ d);
      nearest = λ d. refused_done (sym e ∙ d);
      within = λ d. refused_done (sym e ∙ d);
      clean = λ d. refused_done (sym e ∙ d);
    }

-- ---- causes 1 to 9 have passed

module _ (B : Batch) (L : Lent) (b : answer_to B L ≡ done) where
  passed : Passed B.n B.k B.rows B.reading B.words (length L.codewords) (length L.counts) (length L.work)
  passed = batch_in B.n B.k B.rows B.reading B.words _ _ _ b

  A : Accepted B.n B.k B.rows
  A = accepted_in B.n B.k B.rows passed.matrix

  pub words_fit : (length B.words ≤ length L.codewords) × (length B.words ≤ length L.counts)
  words_fit = let h = passed.listed.room in (omega (arith, h), omega (arith, h))

  -- on success the lists are those of the definitions, and demand 3 holds word by word
  decode_done : (after : Lent)
      → after.codewords ≡ map (word_of B.n B.rows B.reading) B.words ++ drop (length B.words) L.codewords
      → after.counts ≡ map (count_of B.n B.rows B.reading) B.words ++ drop (length B.words) L.counts
      → after.work ≡ leaders_list B.n B.k B.rows ++ drop (2 ^ (B.n - B.k)) L.work
      → Decoded B L done after
  decode_done after eo ec ew = record {
    answer = sym b;
    either = inr refl;
    every_word = λ _. (never_done 3, never_done 7);
    every_leader = every_leader B.n B.k B.rows;
    codewords = written (word_of B.n B.rows B.reading) B.words L.codewords after.codewords eo;
    distances = written (count_of B.n B.rows B.reading) B.words L.counts after.counts ec;
    leaders = filled (leaders_list B.n B.k B.rows) L.work after.work _ (leaders_long B.n B.k B.rows A) ew;
    leader = λ _ s l. rw (ew, leader_slot B.n B.k B.rows A (drop (2 ^ (B.n - B.k)) L.work) s l) (leader_at B.n B.k B.rows A s l);
    minimum = λ _. distance_is B.n B.k B.rows A;
    nearest = λ _ e i h. rw (out_slot i h, count_slot i h, e) (nearest_rule B.n B.k B.rows A (get_or B.words i 0) (passed.listed.inside i h));
    within = λ _ ρ e i h. rw (out_slot i h, count_slot i h, e)
        (radius_rule B.n B.k B.rows A (get_or B.words i 0) (passed.listed.inside i h) ρ
        (radius_in ρ (dmin B.rows) (rw e at passed.radius)));
    clean = λ _ i h. rw (count_slot i h) (clean_rule B.n B.k B.rows A B.reading (get_or B.words i 0));
  }
    where
      out_slot : (i : ℕ) → i < length B.words → get_or after.codewords i 0 ≡ word_of B.n B.rows B.reading (get_or B.words i 0)
      out_slot i h = ap (λ (l : List ℕ). get_or l i 0) eo ∙ slot_at (word_of B.n B.rows B.reading) B.words _ i h

      count_slot : (i : ℕ) → i < length B.words → get_or after.counts i 0 ≡ count_of B.n B.rows B.reading (get_or B.words i 0)
      count_slot i h = ap (λ (l : List ℕ). get_or l i 0) ec ∙ slot_at (count_of B.n B.rows B.reading) B.words _ i h

  -- ---- the leaders stand in the working list

  module _ (hs work : List ℕ) (are : hs ≡ checks B.n B.rows) (ew : work ≡ leaders_list B.n B.k B.rows ++ drop (2 ^ (B.n - B.k)) L.work) where
    pub syndromes_fit : (i : ℕ) → i < length B.words → syndrome hs (get_or B.words i 0) < length work
    syndromes_fit i h =
        rw are (omega (
          arith,
          syndrome-below B.n B.k B.rows A (get_or B.words i 0),
          leaders_long B.n B.k B.rows A,
          ap length ew ∙ length-append (leaders_list B.n B.k B.rows) _,
        ))

    -- the lists written are those of the definitions
    pub decode_ends : (out counts : List ℕ)
        → out ≡ map (word_by B.reading work hs) B.words ++ drop (length B.words) L.codewords
        → counts ≡ map (count_by B.reading work hs) B.words ++ drop (length B.words) L.counts
        → Decoded B L done (record { codewords = out; counts = counts; work = work })
    decode_ends out counts eo ec =
        decode_done _
        (eo ∙ ap (λ (x : List ℕ). x ++ drop (length B.words) L.codewords) (words_are B.n B.k B.rows A B.reading work _ hs ew are B.words))
        (ec ∙ ap (λ (x : List ℕ). x ++ drop (length B.words) L.counts) (counts_are B.n B.k B.rows A B.reading work _ hs ew are B.words))
        ew
