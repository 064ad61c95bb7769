-- Where L bits or more are left, the next place travelled L before the last one read.
use Rattle.std.proofs.Common.{◌∙◌, ◌-◌, arith}
use Rattle.interleaving.proofs.SortLaws.{Sorting, sorting_start, sorting_read, sorting_step, sorting_end}
use Rattle.interleaving.proofs.sorting.sorted_word.Goals as goal

pub loop-b-init : goal.loop-b-init
loop-b-init c = sorting_start c.args.n c.args.depth c.args.bits.now c.args.i c.requires.2

pub bounds-bits-b : goal.bounds-bits-b
bounds-bits-b c = sorting_read c.loop-b.invariant c.requires.3 _ (omega arith) c.requires.0

pub bounds-bits-b-in-loop-b : goal.bounds-bits-b-in-loop-b
bounds-bits-b-in-loop-b c =
    let once : Sorting c.args.n c.args.depth c.args.bits.now c.args.i c.with_lowest-w.result (c.loop-b.b - c.args.depth) =
    rw c.with_lowest-w.ensures (sorting_step c.loop-b.invariant c.requires.3 _ (omega arith) c.requires.1) in
    sorting_read once c.requires.3 _ (omega arith) c.requires.0

pub loop-b-preserved : goal.loop-b-preserved
loop-b-preserved c =
    let once : Sorting c.args.n c.args.depth c.args.bits.now c.args.i c.with_lowest-w.result (c.loop-b.b - c.args.depth) =
    rw c.with_lowest-w.ensures (sorting_step c.loop-b.invariant c.requires.3 _ (omega arith) c.requires.1) in
    rw c.with_lowest-w-in-loop-b.ensures (sorting_step once c.requires.3 _ (omega arith) c.requires.1)

pub returns-then-depth-b : goal.returns-then-depth-b
returns-then-depth-b c =
    c.with_lowest.ensures
    ∙ sorting_end (sorting_step c.loop-b.invariant c.requires.3 (c.loop-b.b - c.args.depth) (omega arith) c.requires.1) (omega arith)

pub returns : goal.returns
returns c = sorting_end c.loop-b.invariant (omega arith)
