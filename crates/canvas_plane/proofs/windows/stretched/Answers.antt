use Rattle.std.proofs.Common.{arith}
use Rattle.std.proofs.lemmas.Int.{ints, to_z-of_z}
use Rattle.std.specs.Int.{w64}
use Rattle.canvas_plane.proofs.Levels.{scale-least, scale-most}
use Rattle.canvas_plane.proofs.windows.stretched.Goals as goal

pub product-requires-clause-least : goal.product-requires-clause-least
product-requires-clause-least c =
    let least = scale-least c.args.level in
    let e = c.scale_of.ensures in
    let kept = to_z-of_z w64 c.scale_of.result (record { sfits = c.scale_of.type_inv }) in
    omega (arith, ints)

pub product-requires-clause-most : goal.product-requires-clause-most
product-requires-clause-most c =
    let most = scale-most c.args.level c.requires.leveled in
    let e = c.scale_of.ensures in
    let kept = to_z-of_z w64 c.scale_of.result (record { sfits = c.scale_of.type_inv }) in
    omega (arith, ints)
