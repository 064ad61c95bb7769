-- The first rows, at most eight, and the others make the rows.
use Rattle.std.proofs.Common.{◌≡◌, sym, ap, ◌∙◌, ◌++◌, ◌-◌, length, take, drop, length-append, arith}
use Rattle.walk.proofs.WalkLaws.{parts_whole}
use Rattle.walk.proofs.walk.walk_few.Goals as goal

pub returns : goal.returns
returns c =
    let rows = c.args.rows.now in
    let b = c.block_rows-b.result in
    let front = take b rows in
    let others = take (length rows - b) (drop b rows) in
    let e : front ++ others ≡ rows = parts_whole rows b (omega (arith, c.block_rows-b.ensures)) in
    rw (e, sym (length-append front others) ∙ ap length e) at c.walk_blocks.ensures
