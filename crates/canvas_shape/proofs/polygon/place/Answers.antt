use Rattle.canvas_shape.proofs.Held.{place-within, place-after}
use Rattle.std.proofs.Common.{◌∙◌, ap, sym, FitsSigned, rules}
use Rattle.std.specs.Int.{w32}
use Rattle.std.specs.Prelude.{int_lt}
use Rattle.std.proofs.lemmas.Int.{to_z-of_z}
use Rattle.canvas_shape.proofs.Edge.{held-place}
use Rattle.canvas_shape.proofs.polygon.place.Goals as goal

pub returns-clause-value : goal.returns-clause-value
returns-clause-value c = λ x a b.
    let edge = c.ranges.edge in
    let l : FitsSigned w32 c.args.row.left = search rules in
    let r : FitsSigned w32 c.args.row.right = search rules in
    let k : FitsSigned w32 c.clamped.result = search rules in
    held-place c.args.row.left c.args.row.right c.args.edge x a b ∙ ap (λ u. int_lt x u) (sym (simp to_z-of_z at c.clamped.ensures.value) ∙ sym (simp to_z-of_z at c.distance.ensures))

pub distance-requires : goal.distance-requires
distance-requires c = place-after c.args.row.left c.clamped.result (record { sfits = c.clamped.type_inv }) c.clamped.ensures.within.0

pub returns-clause-bound : goal.returns-clause-bound
returns-clause-bound c =
    let row = c.args.row in
    let left : FitsSigned w32 row.left = search rules in
    let right : FitsSigned w32 row.right = search rules in
    place-within row.left row.right c.clamped.result c.distance.result left right (record { sfits = c.clamped.type_inv }) c.distance.ensures c.clamped.ensures.within.1
