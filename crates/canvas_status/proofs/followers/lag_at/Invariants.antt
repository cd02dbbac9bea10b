use Rattle.std.proofs.Common.{◌≡◌, take}
use Rattle.canvas_status.specs.Followers.{lag_at}
use Rattle.canvas_status.proofs.followers.lag_at.Given as goal

abbrev pub invariant-loop-place : goal.invariant-loop-place
invariant-loop-place l = l.most ≡ lag_at l.kept (take l.place-index l.places)
