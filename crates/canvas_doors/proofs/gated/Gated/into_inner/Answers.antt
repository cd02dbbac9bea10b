use Rattle.std.proofs.Common.{ℕ, subst, sym}
use Rattle.std.proofs.Math.Logic.{∥∥₁_map}
use Rattle.canvas_doors.specs.Gate.{HasPassed}
use Rattle.canvas_doors.proofs.gated.Gated.into_inner.Goals as goal

pub returns-clause-passed : goal.returns-clause-passed
returns-clause-passed g c =
    let passage = c.args.self.passage in
    subst (λ writer. ∥ ((n : ℕ) × HasPassed g.K.Connection.settled g.K.Connection.begun (g.W.Write.contents writer) n) ∥₁) (sym c.into_inner.ensures) (
    ∥∥₁_map passage.has_passed (λ h. (passage.passed, h))
    )
