use Rattle.std.proofs.Common.{◌∙◌, ap, refl, sym}
use Rattle.canvas_plane.specs.Page.{is_in}
use Rattle.canvas_shape.specs.Leaves.{carried_holds}
use Rattle.canvas_record.specs.Picture.{or_else}
use Rattle.canvas_scene.specs.Covers.{first_fill}
use Rattle.canvas_scene.specs.Nodes.{seen}
use Rattle.canvas_scene.proofs.Covering.{hidden-part}
use Rattle.canvas_scene.proofs.Seen.{or_else-none, seen-none}
use Rattle.canvas_scene.proofs.walk.back_of.Goals as goal

pub returns-then-hides-clause-fills : goal.returns-then-hides-clause-fills
returns-then-hides-clause-fills c = λ x y.
    hidden-part (is_in c.args.clip.now x y) (carried_holds c.args.leaf x y) (first_fill c.args.shown.now x y) c.args.fill (λ inside held. c.if-hides.ensures refl x y (c.requires.part x y inside held))

pub returns-in_default-clause-fills : goal.returns-in_default-clause-fills
returns-in_default-clause-fills c = λ x y.
    let front = first_fill c.args.shown.now x y in
    let inside = is_in c.args.clip.now x y in
    let held = carried_holds c.args.leaf x y in
    or_else-none front
    ∙ ap (or_else front) (seen-none inside ∙ ap (seen inside) (seen-none held ∙ ap (seen held) (sym c.in_default.is)))

pub returns-clause-items : goal.returns-clause-items
returns-clause-items c = c.in_ok-item.ensures.items
