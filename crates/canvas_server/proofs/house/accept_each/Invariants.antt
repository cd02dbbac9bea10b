use Rattle.std.proofs.Common.{◌≡◌}
use Rattle.canvas_server.proofs.house.accept_each.Given as goal

-- where no number of connections was named, none is counted
abbrev pub invariant-accepts : goal.invariant-accepts
invariant-accepts g l = l.connections ≡ 0 → l.left ≡ 0
