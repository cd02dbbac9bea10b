use Rattle.std.proofs.Common.{◌∙◌, sym, subst}
use Rattle.canvas_plane.specs.declared.PageBox.{PageBox}
use Rattle.canvas_plane.specs.Page.{IsWithin}
use Rattle.canvas_plane.proofs.Boxes.{joined-first, joined-second, joined-least}
use Rattle.canvas_plane.proofs.PageBox.hull.Goals as goal

pub returns-else-is_empty-3-clause-first : goal.returns-else-is_empty-3-clause-first
returns-else-is_empty-3-clause-first c =
    let P : PageBox → Type 0 = λ b. IsWithin c.args.self.now b in
    subst P (sym c.joined.ensures) (joined-first c.args.self.now c.args.other.now)

pub returns-else-is_empty-3-clause-second : goal.returns-else-is_empty-3-clause-second
returns-else-is_empty-3-clause-second c =
    let P : PageBox → Type 0 = λ b. IsWithin c.args.other.now b in
    subst P (sym c.joined.ensures) (joined-second c.args.self.now c.args.other.now)

pub returns-else-is_empty-3-clause-least : goal.returns-else-is_empty-3-clause-least
returns-else-is_empty-3-clause-least c = λ outer v w.
    let P : PageBox → Type 0 = λ b. IsWithin b outer in
    subst P (sym c.joined.ensures) (joined-least c.args.self.now c.args.other.now outer (sym c.is_empty.ensures.value ∙ c.if-is_empty.false) (sym c.is_empty-else-is_empty.ensures.value ∙ c.if-is_empty-3.false) v w)
