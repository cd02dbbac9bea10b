use Rattle.std.proofs.Common.{◌++◌, ◌∙◌, ap}
use Rattle.canvas_record.specs.Picture.{colour}
use Rattle.canvas_paint.specs.Items.{last_colour}
use Rattle.canvas_paint.specs.Pictures.{rows_of}
use Rattle.canvas_scene.specs.Scenes.{display_list_of}
use Rattle.canvas_paint.proofs.Joined.{joined-picture, ok-then}
use Rattle.canvas_scene.proofs.picture.append_picture.Goals as goal

pub returns-clause-ok : goal.returns-clause-ok
returns-clause-ok g c = ok-then c.append_raster.result _ _
    (λ e. e ∙ ap (λ l. c.args.out.now.items ++ l)
    (ap (λ l. rows_of (last_colour l) c.args.window.now 0 c.args.window.now.h) c.display_list-items.ensures
    ∙ joined-picture (last_colour (display_list_of c.in_ok-scene.scene)) (colour c.args.document.now.records) c.args.window.now c.in_ok-scene.ensures.colours))
    c.append_raster.ensures.ok
