use Rattle.std.proofs.lemmas.Result.{on_ok_weaker}
use Rattle.std.proofs.lemmas.List.{drop_more}
use Rattle.canvas_json.specs.Texts.{point_text}
use Rattle.canvas_json.proofs.Lists.{list-more, list-end}
use Rattle.canvas_json.proofs.writing.push_points.Goals as goal

pub loop-point-preserved : goal.loop-point-preserved
loop-point-preserved c =
    list-more point_text c.args.points.now c.loop-point.point-index _ c.loop-point.later c.loop-point.out.items c.push_comma.new.out.items c.push_point.new.out.items _
    (drop_more c.args.points.now c.loop-point.point-index _ c.loop-point-test.true) c.in_ok-push_comma.ensures c.in_ok-push_point.ensures c.loop-point.invariant

pub returns : goal.returns
returns c =
    on_ok_weaker _ (λ close. list-end point_text c.args.points.now c.loop-point.point-index c.loop-point.later c.loop-point.out.items c.push_text.new.out.items _
    c.loop-point-test.false close c.loop-point.invariant) c.push_text.ensures
