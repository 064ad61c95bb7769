-- The syndromes, then the slots.
use Rattle.std.proofs.Common.{ap, ap₂, ◌∙◌, List, ◌++◌, map, ℕ, length, get_or, take, drop}
use Rattle.coding.specs.Check.{syndrome}
use Rattle.words.proofs.ResultLaws.{first_are, later_are}
use Rattle.decoder.specs.Inner.SlotsBy.{words_with, counts_with}
use Rattle.decoder.proofs.SlotLaws.{words_with_lem, counts_with_lem}
use Rattle.decoder.proofs.batch.decode_words.Goals as goal

pub returns-clause-codewords : goal.returns-clause-codewords
returns-clause-codewords c =
    let a = c.args in
    let words = a.batch.now.words.now in
    let hs = take a.c a.checks.now in
    let list = c.syndromes.new.out in
    let h = c.requires.room.0 in
    let e = c.syndromes.ensures.slots in
    ap₂ ◌++◌
    (c.answer_words.ensures.codewords
    ∙ ap (λ (l : List ℕ). words_with a.batch.now.reading words (map (λ s. get_or a.leaders.now s 0) l)) (first_are (syndrome hs) words a.out.now list h e)
    ∙ words_with_lem a.batch.now.reading a.leaders.now hs words) (later_are (syndrome hs) words a.out.now list h e)

pub returns-clause-counts : goal.returns-clause-counts
returns-clause-counts c =
    let a = c.args in
    let words = a.batch.now.words.now in
    let hs = take a.c a.checks.now in
    let list = c.syndromes.new.out in
    ap (λ (l : List ℕ). l ++ drop (length words) a.counts.now)
    (c.answer_words.ensures.counts
    ∙ ap (λ (l : List ℕ). counts_with a.batch.now.reading words (map (λ s. get_or a.leaders.now s 0) l))
    (first_are (syndrome hs) words a.out.now list c.requires.room.0 c.syndromes.ensures.slots)
    ∙ counts_with_lem a.batch.now.reading a.leaders.now hs words)
