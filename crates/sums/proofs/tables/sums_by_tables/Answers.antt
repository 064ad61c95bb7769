-- A group of rows ends after eight rows or with the last one.
use Rattle.std.proofs.Common.{◌∙◌, ap, sym, rules, ℕ, ◌*◌, replicate}
use Rattle.sums.proofs.TableLaws.{no_rows, grouped_next, grouped_end}
use Rattle.sums.proofs.tables.sums_by_tables.Goals as goal

pub loop-g-init : goal.loop-g-init
loop-g-init c =
    rw (c.into_iter-g-iterator.ensures.into_iter_gives, c.enumerate-g-items.ensures.source, c.enumerate-g-items.ensures.count)
    (record { eight = c.chunks.ensures.size; later = c.chunks.ensures.rest; entries = search rules; are = c.fill.ensures.after (λ y e. e) ∙ ap (λ (m : ℕ). replicate m 0) (sym c.requires.1) ∙ no_rows c.args.words.now })

pub loop-g-preserved : goal.loop-g-preserved
loop-g-preserved c =
    let (step, number, count, room) = c.in-Some.ensures.steps in
    let (size, parts) = step in
    grouped_next c.loop-g.invariant _ _ parts.0 parts.1 parts.2 count size (ap (λ (i : ℕ). i * 8) number) c.fill_sums.ensures c.add_from.ensures

pub returns : goal.returns
returns c = grouped_end c.loop-g.invariant c.in-None.ensures.steps.0.1.0
