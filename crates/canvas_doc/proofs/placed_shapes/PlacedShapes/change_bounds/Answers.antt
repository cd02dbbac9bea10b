use Rattle.std.proofs.Common.{◌≡◌, ◌∙◌, ap, cond, get_or, set, subst, sym}
use Rattle.std.specs.Result.{is_ok}
use Rattle.canvas_list.specs.declared.in_place.ItemChange.TheVariants.{Replace}
use Rattle.canvas_list.specs.Changed.{changed}
use Rattle.canvas_doc.specs.declared.bounds.Bounds.{Bounds}
use Rattle.canvas_record.specs.declared.records.Record.{Record}
use Rattle.canvas_doc.proofs.editing.Placements.{bounds-changed, if-made, place-changed, shapes-changed}
use Rattle.canvas_doc.proofs.boxes.WidenedAbove.{stays-if}
use Rattle.canvas_doc.proofs.placed_shapes.PlacedShapes.change_bounds.Goals as goal

pub returns-clause-shapes : goal.returns-clause-shapes
returns-clause-shapes c =
    let same : c.new-placed.result.shape ≡ c.at.result.now = c.new-placed.ensures.shape ∙ c.in_ok-try_clone.ensures in
    shapes-changed c.self.inside.list c.change.new.self c.args.self.now c.args.at (Replace c.new-placed.result) (is_ok c.change.result) c.self.view_is (if-made c.change.result c.change.new.self (changed (Replace c.new-placed.result) c.args.at c.self.inside.list) c.self.inside.list c.change.ensures.made c.change.ensures.same)
    ∙ stays-if (is_ok c.change.result) c.args.self.now.shapes c.args.at c.new-placed.result.shape (subst (λ (r : Record). r ≡ get_or c.args.self.now.shapes c.args.at r) (sym same) c.at.ensures)

pub returns-clause-bounds : goal.returns-clause-bounds
returns-clause-bounds c =
    bounds-changed c.self.inside.list c.change.new.self c.args.self.now c.args.at (Replace c.new-placed.result) (is_ok c.change.result) c.self.view_is (if-made c.change.result c.change.new.self (changed (Replace c.new-placed.result) c.args.at c.self.inside.list) c.self.inside.list c.change.ensures.made c.change.ensures.same)
    ∙ ap (λ (b : Bounds). cond (is_ok c.change.result) (set c.args.self.now.bounds c.args.at b) c.args.self.now.bounds) c.new-placed.ensures.bounds

pub at-requires : goal.at-requires
at-requires c = c.requires

pub change-requires : goal.change-requires
change-requires c = place-changed c.self.inside.list c.args.self.now c.args.at (Replace c.new-placed.result) c.self.view_is c.requires
