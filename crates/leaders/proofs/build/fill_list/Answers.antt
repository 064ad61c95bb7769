-- The words of weight below t have been tried.
use Rattle.std.proofs.Common.{rules, refl, ◌∙◌, ◌⊎◌, inl, inr, ◌≡◌, ◌<◌, arith}
use Rattle.leaders.proofs.TryLaws.{tried-small, zero_long, offered_start, offered-trying, offered_more, offered-small, offered_all}
use Rattle.leaders.proofs.build.fill_list.Goals.{then-loop-t-test+then-filling-eq0, else-loop-t-test}
use Rattle.leaders.proofs.build.fill_list.Goals as goal

pub loop-t-init : goal.loop-t-init
loop-t-init c =
    let p = c.requires.cols_len in record {
      offered = offered_start _ (c.fill.ensures.after (λ y e. e)) p.0 p.1 p.2 c.requires.by_index;
      columns = refl;
      lent = refl;
    }

pub words-tried-requires : goal.words-tried-requires
words-tried-requires c = offered-trying c.loop-t.invariant.offered (omega (arith, c.loop-t-test.true)) (omega (arith, c.if-filling-eq0.false))

pub overflow_add-tried : goal.overflow_add-tried
overflow_add-tried c =
    let O = c.loop-t.invariant.offered in
    record { fits = omega (arith, offered-small O, tried-small c.words-tried.ensures.tried O.places) }

pub loop-t-preserved : goal.loop-t-preserved
loop-t-preserved c = offered_more c.loop-t.invariant (omega (arith, c.loop-t-test.true)) c.words-tried.ensures

pub overflow_cast-result : goal.overflow_cast-result
overflow_cast-result c = record { fits = offered-small c.loop-t.invariant.offered }

-- the weights end, or no entry is blank
pub returns-clause-list_after : goal.returns-clause-list_after
returns-clause-list_after c =
    let P : ((c.args.c < c.loop-t.t) ⊎ (c.loop-t.filling.blank ≡ 0)) × (c.loop-t-test.list ≡ c.loop-t.filling.list.now) = elim c.loop-t-test.branch [
      | then-loop-t-test+then-filling-eq0 w ↦ (inr w.if-filling-eq0.true, search rules)
      | else-loop-t-test w ↦ (inl (omega (arith, w.loop-t-test.false)), search rules)
    ] in
    P.1 ∙ (offered_all c.loop-t.invariant refl (zero_long _ (c.fill.ensures.after (λ y e. e))) P.0).0

pub returns-clause-value : goal.returns-clause-value
returns-clause-value c =
    let over : (c.args.c < c.loop-t.t) ⊎ (c.loop-t.filling.blank ≡ 0) = elim c.loop-t-test.branch [
      | then-loop-t-test+then-filling-eq0 w ↦ inr w.if-filling-eq0.true
      | else-loop-t-test w ↦ inl (omega (arith, w.loop-t-test.false))
    ] in
    (offered_all c.loop-t.invariant refl (zero_long _ (c.fill.ensures.after (λ y e. e))) over).1
