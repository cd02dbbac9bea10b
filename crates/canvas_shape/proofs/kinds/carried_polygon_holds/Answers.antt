use Rattle.canvas_shape.proofs.Sizes.{carried-near}
use Rattle.std.proofs.Common.{◌≤◌, ◌∙◌, sym, refl, length, subst, arith, pos, le_trans, le_of_lt, lit<}
use Rattle.std.specs.Prelude.{map}
use Rattle.std.proofs.lemmas.Int.{to_z-of_z}
use Rattle.std.proofs.lemmas.List.{length-map}
use Rattle.canvas_plane.specs.declared.Point.{Point}
use Rattle.canvas_plane.specs.Motion.{carry, reach_of}
use Rattle.canvas_shape.specs.Edges.{is_odd_along}
use Rattle.canvas_shape.proofs.Pairs.{holds-done}
use Rattle.canvas_shape.proofs.Turned.{turned-step}
use Rattle.canvas_shape.proofs.kinds.carried_polygon_holds.Goals as goal

pub loop-point-preserved : goal.loop-point-preserved
loop-point-preserved c =
    let x = c.ranges.x in let y = c.ranges.y in
    let blank : Point = record { x = pos 0; y = pos 0 } in
    let near = c.requires.vertices.near c.loop-point.point-index blank c.loop-point-test.true in
    record {
      counted = simp to_z-of_z (turned-step c.loop-point.inside c.edge_counts-inside.result (is_odd_along c.carried_last-from.result (map (carry c.args.page.now) c.args.points.now) c.args.x c.args.y) (carry c.args.page.now) c.loop-point.from c.apply-to.result _ blank c.args.points.now c.loop-point.point-index c.args.x c.args.y c.loop-point-test.true refl c.apply-to.ensures.value (simp to_z-of_z at c.edge_counts-inside.ensures) (simp to_z-of_z at c.loop-point.invariant.counted));
      near = omega (arith, c.apply-to.ensures.size);
    }

pub returns : goal.returns
returns c =
    let x = c.ranges.x in let y = c.ranges.y in
    let past : length (map (carry c.args.page.now) c.args.points.now) ≤ c.loop-point.point-index = subst (λ n. n ≤ c.loop-point.point-index) (sym (length-map c.args.points.now (carry c.args.page.now))) c.loop-point-test.false in
    holds-done c.loop-point.inside (is_odd_along c.carried_last-from.result (map (carry c.args.page.now) c.args.points.now) c.args.x c.args.y) c.loop-point.from (map (carry c.args.page.now) c.args.points.now) c.loop-point.point-index c.args.x c.args.y past (simp to_z-of_z at c.loop-point.invariant.counted) ∙ c.carried_last-from.ensures.value c.args.x c.args.y

pub apply-to-requires-clause-within : goal.apply-to-requires-clause-within
apply-to-requires-clause-within c = le_trans (c.requires.vertices.near c.loop-point.point-index _ c.loop-point-test.true) (le_of_lt (lit< tt))

pub edge_counts-inside-requires : goal.edge_counts-inside-requires
edge_counts-inside-requires c = record {
  near = (c.loop-point.invariant.near, carried-near _ _ (reach_of c.args.page.now) c.apply-to.ensures.size (c.requires.vertices.near c.loop-point.point-index _ c.loop-point-test.true) c.requires.reach);
}
