use Rattle.std.proofs.Common.{◌∙◌, None, ap, cond, sym}
use Rattle.canvas_plane.specs.Page.{is_in}
use Rattle.canvas_record.specs.Picture.{or_else}
use Rattle.canvas_scene.specs.Covers.{first_fill}
use Rattle.canvas_scene.specs.Nodes.{seen, shown_of}
use Rattle.canvas_scene.proofs.Covering.{hidden-box}
use Rattle.canvas_scene.proofs.walk.is_out_of_sight.Goals as goal

pub returns-in_default-clause-nothing : goal.returns-in_default-clause-nothing
returns-in_default-clause-nothing c = λ hidden inner x y.
    let front = first_fill c.args.shown.now x y in
    let answer = shown_of c.args.shape.now.kind c.args.page.now inner x y in
    hidden-box c.args.shown.now c.args.part.now answer x y (c.hides.ensures hidden)
    ∙ ap (or_else front) (c.requires.part inner x y)
    ∙ ap (λ b. or_else front (seen (is_in c.args.clip.now x y) (cond b None answer))) (sym c.if-shape.false)
