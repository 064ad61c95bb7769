-- One word more is sorted back.
use Rattle.std.proofs.Common.{◌≡◌, ◌++◌, ap, sym, length, take, drop, arith}
use lib.Seq.{length-take-le}
use Rattle.coding.specs.Interleaving.{sorted_word}
use Rattle.coding.proofs.LoopLaws.{over-tabulate_step, over-tabulate-full}
use Rattle.interleaving.proofs.sorting.sort_words.Goals as goal

pub loop-i-preserved : goal.loop-i-preserved
loop-i-preserved c =
    let a = c.args in
    let long : length (take a.depth a.out.now) ≡ a.depth = length-take-le _ _ c.requires.3 in
    over-tabulate_step (sorted_word a.n a.depth a.bits.now) a.depth c.loop-i.invariant _ (omega (arith, long))
    (omega (arith, c.loop-i.invariant.long)) c.sorted_word.ensures

pub returns : goal.returns
returns c =
    let a = c.args in
    let long : length (take a.depth a.out.now) ≡ a.depth = length-take-le _ _ c.requires.3 in
    ap (λ l. l ++ drop a.depth a.out.now)
    (over-tabulate-full (sorted_word a.n a.depth a.bits.now) a.depth c.loop-i.invariant (sym long) (omega (arith, c.loop-i.invariant.long)))
