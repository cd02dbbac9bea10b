use Rattle.std.proofs.Common.{◌∙◌, ap}
use Rattle.canvas_plane.specs.Page.{is_in}
use Rattle.canvas_plane.proofs.Boxes.{meet-exact}
use Rattle.canvas_plane.proofs.PageBox.meet.Goals as goal

pub returns-clause-exact : goal.returns-clause-exact
returns-clause-exact c = λ x y. ap (λ b. is_in b x y) c.common.ensures ∙ meet-exact c.args.self.now c.args.other.now x y
