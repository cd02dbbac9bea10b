use Rattle.std.proofs.Common.{◌<ℤ◌, rules}
use Rattle.std.proofs.lemmas.Int.{to_z-of_z}
use Rattle.canvas_shape.proofs.Held.{appends-spans, appends-none}
use Rattle.canvas_shape.proofs.spans.append_cut.Goals as goal

pub returns-in_ok-push-clause-ok : goal.returns-in_ok-push-clause-ok
returns-in_ok-push-clause-ok c =
    let f = c.ranges.from in let t = c.ranges.to in let l = c.ranges.left in let r = c.ranges.right in
    appends-spans c.args.out.now.items c.push.new.self.items _ _ c.in_ok-push.ensures.items (simp to_z-of_z at c.in-Some.ensures.0)

pub returns-in_default-clause-ok : goal.returns-in_default-clause-ok
returns-in_default-clause-ok c =
    let f = c.ranges.from in let t = c.ranges.to in let l = c.ranges.left in let r = c.ranges.right in
    appends-none c.args.out.now.items _ (simp to_z-of_z at c.in_default.ensures)

pub returns-in_err-push-clause-want : goal.returns-in_err-push-clause-want
returns-in_err-push-clause-want c =
    let f = c.ranges.from in let t = c.ranges.to in let l = c.ranges.left in let r = c.ranges.right in
    let filled : c.args.left <ℤ c.args.right = (simp to_z-of_z at c.in-Some.ensures.1) in
    search rules
