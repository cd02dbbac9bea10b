use Rattle.std.proofs.Common.{◌≡◌, ◌≤◌, length, ap, arith}
use Rattle.canvas_look.proofs.Prefixes.{prefix_length}
use Rattle.canvas_keep.proofs.keeper.Keeper.close.Goals as goal

pub returns : goal.returns
returns g c =
    let longer : length c.args.self.line.front ≤ length c.in_ok-seat.field-0.line.front = prefix_length c.args.self.line.front c.in_ok-seat.field-0.line.front c.in_ok-seat.ensures.goes_on.0 in
    let kept : c.seat.inside.kept ≡ c.in_ok-seat.field-0.kept = ap (λ k. k.kept) c.seat.view_is in
    omega (arith, longer, kept, c.in_ok-seat.ensures.kept)
