use Rattle.std.proofs.Common.{ap, subst, sym, ◌∙◌, FitsSigned, w64}
use Rattle.std.specs.Int.{cast_signed, cast_unsigned}
use Rattle.std.proofs.lemmas.Int.{to_z-of_z}
use Rattle.canvas_plane.proofs.Levels.{product-fits, product-kept}
use Rattle.canvas_plane.proofs.windows.product.Goals as goal

pub overflow_mul-result : goal.overflow_mul-result
overflow_mul-result c =
    subst (λ z. FitsSigned w64 z) (sym (product-kept c.args.place c.args.scale c.ranges.place c.ranges.scale)) (product-fits c.args.place c.args.scale c.requires.within.0 c.requires.within.1 c.requires.least c.requires.most)

pub returns : goal.returns
returns c =
    ap (λ z. cast_signed w64 (cast_unsigned w64 z)) (product-kept c.args.place c.args.scale c.ranges.place c.ranges.scale)
    ∙ to_z-of_z w64 _ (product-fits c.args.place c.args.scale c.requires.within.0 c.requires.within.1 c.requires.least c.requires.most)
