use Rattle.std.proofs.Common.{◌≡◌, ◌<◌, ◌-◌, rules, length, arith}
use Rattle.canvas_paint.proofs.Cutting.{polygon-rows}
use Rattle.canvas_paint.proofs.leaf.polygon_rows.Goals as goal

pub returns : goal.returns
returns c = λ k j lt p q.
    let long : length c.flag_rows.new.rows ≡ c.args.bottom - c.args.top = search rules in
    let inside : j - c.args.top < length c.flag_rows.new.rows = omega arith in
    polygon-rows c.args.window.now c.args.vertices.now.points.now c.flag_rows.new.rows c.in_ok-held_rows.field-0.now c.args.top k j c.none.result lt c.args.window.now.across.most p inside c.in_ok-held_rows.ensures c.flag_rows.ensures
