-- Words that are joined have n places where their join has.
use Rattle.std.proofs.Common.{sym, ◌∙◌, ◌^◌, ltb-true}
use Rattle.words.proofs.ShapeLaws.{joined_inside}
use Rattle.words.proofs.shape.all_inside.Goals as goal

pub returns : goal.returns
returns c t =
    let h = ltb-true c.joined.result (2 ^ c.args.n) (sym c.fits.ensures ∙ t) in
    (joined_inside c.args.n 0 c.args.words.now (rw (sym c.joined.ensures) h)).1
