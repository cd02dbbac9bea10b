use Rattle.std.proofs.Common.{ap, max, rules, FitsSigned, w64, ◌∙◌}
use Rattle.std.specs.Prelude.{unsigned_abs}
use Rattle.std.proofs.lemmas.Int.{to_z-of_z}
use Rattle.canvas_plane.proofs.Pose.reach.Goals as goal

pub returns : goal.returns
returns c =
    let pose = c.args.self.now in
    let x : FitsSigned w64 pose.dx = search rules in
    let y : FitsSigned w64 pose.dy = search rules in
    let dx = c.unsigned_abs.ensures.value ∙ ap unsigned_abs (to_z-of_z w64 pose.dx x) in
    let dy = c.unsigned_abs-2.ensures.value ∙ ap unsigned_abs (to_z-of_z w64 pose.dy y) in
    c.max.ensures ∙ (λ i. max (dx i) (dy i))
