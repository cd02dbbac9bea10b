use Rattle.std.proofs.Common.{◌≤◌, ◌-◌, ◌≡◌, length, take, drop, arith, ◌∙◌, ap}
use Rattle.canvas_session.proofs.Ranges.{range_after, length-range}
use Rattle.canvas_session.proofs.pending.Pending.drop_front.Goals as goal

pub returns : goal.returns
returns c =
    let i = c.self.inside in
    let len : length (take (i.end - i.start) (drop i.start i.bytes.items)) ≡ length c.args.self.now = ap length c.self.view_is in
    let within : c.args.n ≤ i.end - i.start = omega (arith, len, c.requires, length-range i.bytes.items i.start i.end (omega arith) (omega (arith, i.bytes.ok.0))) in
    range_after i.bytes.items i.start i.end c.args.n within ∙ ap (drop c.args.n) c.self.view_is
