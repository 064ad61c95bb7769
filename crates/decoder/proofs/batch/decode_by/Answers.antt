-- Causes 1 to 8, the leaders and with them cause 9, then the words.
use Rattle.std.proofs.Common.{◌≡◌, refl, sym, ap, ◌∙◌, List, ◌++◌, ℕ, ◌-◌, ◌^◌, ◌≤◌, min, length, take, drop, arith}
use Rattle.std.specs.Prelude.{Option, Some, None, Err}
use Rattle.coding.specs.Lists.{padded}
use Rattle.coding.specs.Check.{checks}
use Rattle.words.specs.Lists.{list_answer}
use Rattle.words.specs.Accepted.{Accepted}
use Rattle.answers.specs.Refusal.{Answer, done, answer_of, and_then}
use Rattle.answers.proofs.AnswerLaws.{handed_on, answered_ok, answered_err}
use Rattle.parity.proofs.CodeOfLaws.{first-checks}
use Rattle.leaders.specs.Leaders.{leaders_list}
use Rattle.leaders.specs.LeadersBy.{LeadersBy}
use Rattle.leaders.proofs.LeaderPromiseLaws.{work_short, work_done, list_kept, leaders_stand, no_tries, some_tries}
use Rattle.judging.specs.Causes.{code_answer}
use Rattle.judging.specs.declared.matrix.Known.{Known}
use Rattle.judging.proofs.CauseLaws.{accepted_past}
use Rattle.words.specs.Limits.{max_checks}
use Rattle.answers.specs.declared.answer.Refusal.TheVariants.{ShortWork}
use Rattle.decoder.specs.Decoded.{Batch, Lent}
use Rattle.decoder.specs.Given.{batch_of, lists_of}
use Rattle.decoder.proofs.DecodeCauseLaws.{at_eight, at_work, every_passes}
use Rattle.decoder.proofs.DecodePromiseLaws.{answer_to, decode_refused, words_fit, syndromes_fit, decode_ends}
use Rattle.decoder.proofs.batch.decode_by.Goals as goal

-- causes 1 to 8
abbrev first_eight : Batch → Lent → Answer
first_eight B L =
    and_then (code_answer B.n B.k B.rows B.reading) (list_answer B.words B.n (min (length L.codewords) (length L.counts)))

-- they have passed
module _ (B : Batch) (L : Lent) (passed : first_eight B L ≡ done) where
  accepted : Accepted B.n B.k B.rows
  accepted = accepted_past B.n B.k B.rows B.reading _ passed

  -- k is at most n, and n - k small
  checked : (B.k ≤ B.n) × (B.n - B.k ≤ 12)
  checked = omega (arith, accepted.range.checks)

  -- cause 9 refuses
  short : {hs : List ℕ} {r : Option ℕ} {work : List ℕ} → LeadersBy hs B.n (B.n - B.k) L.work r work → r ≡ None → Err ShortWork ≡ answer_to B L
  short F none = sym (work_short B.n B.k B.rows accepted F none) ∙ at_work B.n B.k B.rows B.reading B.words _ _ _ passed

  -- or the leaders were written
  module _ {hs : List ℕ} (are : hs ≡ padded max_checks (checks B.n B.rows)) {r : Option ℕ} {work : List ℕ} (F : LeadersBy hs B.n (B.n - B.k) L.work r work)
      {tries : ℕ} (some : r ≡ Some tries) where
    all_passed : answer_to B L ≡ done
    all_passed = sym (at_work B.n B.k B.rows B.reading B.words _ _ _ passed) ∙ work_done B.n B.k B.rows accepted F some

    -- the working list begins with the leaders
    work-is : work ≡ leaders_list B.n B.k B.rows ++ drop (2 ^ (B.n - B.k)) L.work
    work-is = (leaders_stand B.n B.k B.rows accepted F some are).0

    -- the first n - k check rows are those of the definition
    hs-are : take (B.n - B.k) hs ≡ checks B.n B.rows
    hs-are = first-checks B.n B.k B.rows accepted hs are

pub returns-in_err-known-clause-decoded : goal.returns-in_err-known-clause-decoded
returns-in_err-known-clause-decoded c =
    let B = batch_of c.args.batch.now in
    let L = lists_of c.args.lent.now in
    let e = ap answer_of (handed_on _ _ c.from_residual.ensures) in
    let f = answered_err _ _ _ (sym c.in_err-known.was ∙ c.known_past_8.ensures.known) in
    decode_refused B L (every_passes B.n B.k B.rows B.reading B.words _ _ _ c.known_past_8.ensures.every_word) _ _ e
    (e ∙ at_eight B.n B.k B.rows B.reading B.words _ _ _ _ f) _ refl

pub overflow_sub-c : goal.overflow_sub-c
overflow_sub-c c = (checked (batch_of c.args.batch.now) (lists_of c.args.lent.now) (answered_ok _ _ _ c.in_ok-known.ensures.known).0).0

pub returns-in_err-ok_or-clause-decoded : goal.returns-in_err-ok_or-clause-decoded
returns-in_err-ok_or-clause-decoded c =
    let B = batch_of c.args.batch.now in
    let L = lists_of c.args.lent.now in
    let F = c.fill_leaders.ensures in
    let (p, known) = answered_ok _ _ _ c.in_ok-known.ensures.known in
    let (none, is) = no_tries _ _ _ (sym c.in_err-ok_or.was ∙ c.ok_or.ensures.value) in
    let e = ap answer_of (handed_on _ _ c.from_residual-in_err-ok_or.ensures ∙ ap Err is) in
    decode_refused B L (every_passes B.n B.k B.rows B.reading B.words _ _ _ c.known_past_8.ensures.every_word) _ _ e (e ∙ short B L p F none) _
    (ap (λ (l : List ℕ). record { codewords = L.codewords; counts = L.counts; work = l }) (list_kept F none))

pub decode_words-requires-clause-room : goal.decode_words-requires-clause-room
decode_words-requires-clause-room c =
    let B = batch_of c.args.batch.now in
    let L = lists_of c.args.lent.now in
    let (p, known) = answered_ok _ _ _ c.in_ok-known.ensures.known in
    let some = some_tries _ _ _ (sym c.in_ok-ok_or.was ∙ c.ok_or.ensures.value) in
    words_fit B L (all_passed B L p (ap (λ (k : Known). k.checks) known) c.fill_leaders.ensures some)

pub decode_words-requires-clause-syndromes : goal.decode_words-requires-clause-syndromes
decode_words-requires-clause-syndromes c =
    let B = batch_of c.args.batch.now in
    let L = lists_of c.args.lent.now in
    let F = c.fill_leaders.ensures in
    let (p, known) = answered_ok _ _ _ c.in_ok-known.ensures.known in
    let are = ap (λ (k : Known). k.checks) known in
    let some = some_tries _ _ _ (sym c.in_ok-ok_or.was ∙ c.ok_or.ensures.value) in
    syndromes_fit B L (all_passed B L p are F some) _ _ (hs-are B L p are F some) (work-is B L p are F some)

pub returns-clause-decoded : goal.returns-clause-decoded
returns-clause-decoded c =
    let B = batch_of c.args.batch.now in
    let L = lists_of c.args.lent.now in
    let F = c.fill_leaders.ensures in
    let (p, known) = answered_ok _ _ _ c.in_ok-known.ensures.known in
    let are = ap (λ (k : Known). k.checks) known in
    let some = some_tries _ _ _ (sym c.in_ok-ok_or.was ∙ c.ok_or.ensures.value) in
    decode_ends B L (all_passed B L p are F some) _ _ (hs-are B L p are F some) (work-is B L p are F some) _ _
    c.decode_words.ensures.codewords c.decode_words.ensures.counts
