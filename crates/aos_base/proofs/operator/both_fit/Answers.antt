use Rattle.std.proofs.Common.{◌&&◌, ap, sym, ◌∙◌, w64, to_z, of_z}
use Rattle.std.proofs.lemmas.Int.{to_z-of_z}
use Rattle.aos_base.specs.Number.{is_within}
use Rattle.aos_base.proofs.operator.both_fit.Goals as goal

pub returns-then-fits : goal.returns-then-fits
returns-then-fits c =
    let a = to_z-of_z w64 c.args.a c.ranges.a in
    let b = to_z-of_z w64 c.args.b c.ranges.b in
    c.fits-then-fits.ensures.test ∙ ap (λ x. x && is_within c.args.w (to_z w64 (of_z w64 c.args.b))) (sym c.if-fits.true ∙ c.fits.ensures.test) ∙ (λ i. is_within c.args.w (a i) && is_within c.args.w (b i))

pub returns-else-fits : goal.returns-else-fits
returns-else-fits c =
    let a = to_z-of_z w64 c.args.a c.ranges.a in
    c.if-fits.false ∙ ap (λ x. x && is_within c.args.w c.args.b) (sym c.if-fits.false ∙ c.fits.ensures.test ∙ ap (is_within c.args.w) a)
