use Rattle.std.proofs.Common.{◌∙◌, ap}
use Rattle.canvas_plane.specs.Motion.{carry}
use Rattle.canvas_scene.proofs.Bounded.{carried-within, left_top-near, right_bottom-near}
use Rattle.canvas_scene.proofs.bounds.carried_bounds.Goals as goal

pub apply-requires-clause-within : goal.apply-requires-clause-within
apply-requires-clause-within c = left_top-near c.args.points.now c.bounds-own.result c.left_top.result c.bounds-own.ensures.value c.left_top.ensures c.requires.vertices.near

pub apply-requires-2-clause-within : goal.apply-requires-2-clause-within
apply-requires-2-clause-within c = right_bottom-near c.args.points.now c.bounds-own.result c.right_bottom.result c.bounds-own.ensures.value c.right_bottom.ensures c.requires.vertices.near

pub returns : goal.returns
returns c = carried-within c.args.page.now c.args.points.now c.bounds-own.result c.bounds.result c.apply.result c.apply-2.result c.requires.quarter c.bounds-own.ensures.value (c.apply.ensures.value ∙ ap (carry c.args.page.now) c.left_top.ensures) (c.apply-2.ensures.value ∙ ap (carry c.args.page.now) c.right_bottom.ensures) c.bounds.ensures.value
