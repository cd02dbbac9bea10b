use Rattle.std.proofs.Common.{◌∙◌, sym}
use Rattle.canvas_plane.proofs.Boxes.{empty-none}
use Rattle.canvas_plane.proofs.PageBox.is_empty.Goals as goal

pub returns-clause-nothing : goal.returns-clause-nothing
returns-clause-nothing c =
    let known = empty-none c.args.self.now in
    (λ h. known.0 (sym c.is_without_pixel.ensures ∙ h), λ h. c.is_without_pixel.ensures ∙ known.1 h)
