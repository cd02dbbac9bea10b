use Rattle.std.proofs.Common.{◌≡◌, length, ap, ◌∙◌, subst}
use Rattle.canvas_line.specs.Lines.{Sight}
use Rattle.canvas_line.specs.Seats.{EditAccepted}
use Rattle.canvas_follow.proofs.Following.{follows_next}
use Rattle.canvas_follow.proofs.course.Course.make.Goals as goal

pub returns-in-Ok-edit : goal.returns-in-Ok-edit
returns-in-Ok-edit g c =
    let same : c.self.inside.seat ≡ c.args.self.now = cc (c.self.view_is, c.in-Ok.ensures.same) in
    follows_next c.args.self.now c.edit.new.self c.args.line.now c.in-Ok.edit c.in-Ok-edit.edited c.in-Ok.ensures.told
    (subst (λ (s : Sight). EditAccepted s c.in-Ok.edit c.edit.new.self c.in-Ok-edit.edited) same c.in-Ok-edit.ensures.accepted)
    (c.if-edited-before.true ∙ c.number-before.ensures ∙ ap (λ (s : Sight). length s.front) same)
