use Rattle.std.proofs.Common.{◌≤◌, ◌+◌, ◌^◌, pos, arith, get_or, subst, sym}
use Rattle.std.proofs.lemmas.List.Elements.{All-set}
use Rattle.canvas_plane.specs.declared.Point.{Point}
use Rattle.canvas_plane.specs.Motion.{carry, reach_of, size_of}
use Rattle.canvas_scene.proofs.Carrying.{none-carried, more-carried, all-carried}
use Rattle.canvas_scene.proofs.walk.carry_each.Goals as goal

abbrev origin : Point
origin = record { x = pos 0; y = pos 0 }

pub loop-vertex-init : goal.loop-vertex-init
loop-vertex-init c = record {
  carried = none-carried (carry c.args.page) c.args.vertices.now;
  near = λ k d lt. let near = c.requires.vertices.near k d lt in omega (arith, near);
}

pub apply-requires-clause-within : goal.apply-requires-clause-within
apply-requires-clause-within c = c.loop-vertex.invariant.near c.loop-vertex.vertex-index origin (omega arith)

pub loop-vertex-preserved : goal.loop-vertex-preserved
loop-vertex-preserved c =
    let at = c.loop-vertex.vertex-index in
    let old = c.args.vertices.now in
    let lt = c.loop-vertex-test.true in
    let own : size_of (get_or c.loop-vertex.vertices at origin) ≤ 2 ^ 20 =
    subst (λ p. size_of p ≤ 2 ^ 20) (sym (c.loop-vertex.invariant.carried.left at origin (omega arith))) (c.requires.vertices.near at origin lt) in
    let size : size_of c.apply.result ≤ size_of (get_or c.loop-vertex.vertices at origin) + reach_of c.args.page = c.apply.ensures.size in
    record {
      carried = more-carried (carry c.args.page) at old c.loop-vertex.vertices c.apply.result origin c.loop-vertex.auto.vertices lt c.apply.ensures.value c.loop-vertex.invariant.carried;
      near = All-set (λ p. size_of p ≤ 2 ^ 27) c.loop-vertex.vertices at c.apply.result (omega (arith, own, size)) c.loop-vertex.invariant.near;
    }

pub returns-clause-value : goal.returns-clause-value
returns-clause-value c = all-carried (carry c.args.page) c.loop-vertex.vertex-index c.args.vertices.now c.loop-vertex.vertices c.loop-vertex.auto.vertices (omega arith) c.loop-vertex.invariant.carried

pub returns-clause-near : goal.returns-clause-near
returns-clause-near c = c.loop-vertex.invariant.near
