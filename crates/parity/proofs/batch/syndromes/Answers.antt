-- As many syndromes as there are words and slots, by as many rows as there are.
use Rattle.std.proofs.Common.{sym, ap, min, ◌∙◌, List, ◌++◌, ℕ, take, drop}
use Rattle.coding.specs.Check.{syndrome}
use Rattle.words.proofs.ResultLaws.{as_many}
use Rattle.parity.proofs.SyndromeLaws.{syndromes_of, syndromes_first}
use Rattle.parity.proofs.batch.syndromes.Goals as goal

pub returns : goal.returns
returns c =
    let a = c.args in
    let hs = take c.min-r.result a.checks.now in
    syndromes_first a.checks.now a.words.now a.out.now _ a.c c.min-r.result (c.min-r.ensures ∙ ap (min a.c) (sym c.told-checks))
    (syndromes_of hs a.words.now a.out.now _
    (ap (λ (l : List ℕ). l ++ drop c.min-m.result a.out.now) c.join_rows.ensures
    ∙ as_many (syndrome hs) a.words.now a.out.now c.min-m.result c.min-m.ensures))
