use Rattle.std.proofs.Common.{◌≤◌, ◌↔◌, ◌*◌, ◌/◌, ◌^◌, ℕ, ℤ, pos, ◌≤ℤ◌, w64, sym, subst}
use Rattle.std.proofs.lemmas.Int.{to_z-of_z}
use Rattle.canvas_plane.specs.Sides.{scale_of}
use Rattle.canvas_plane.proofs.Levels.{whole-steps}
use Rattle.canvas_plane.proofs.windows.steps.Goals as goal
use lib.IntN.{nat_abs}

pub returns-clause-exact : goal.returns-clause-exact
returns-clause-exact c =
    let d = c.args.distance in
    let P : ℤ → Type 0 = λ z. (k : ℕ) → (k ≤ nat_abs z / 2 ^ c.args.level) ↔ (pos (k * scale_of c.args.level) ≤ℤ d) in
    subst P (sym (to_z-of_z w64 d c.ranges.distance)) (whole-steps c.args.level d c.requires.least)
