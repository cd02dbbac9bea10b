use Rattle.std.proofs.Common.{◌≡◌, ◌∙◌, subst}
use Rattle.std.specs.Result.{is_ok}
use Rattle.canvas_list.specs.declared.in_place.ItemChange.TheVariants.{Replace}
use Rattle.canvas_list.specs.Changed.{changed_if}
use Rattle.canvas_doc.specs.declared.bounds.Bounds.{Bounds}
use Rattle.canvas_record.specs.declared.records.Record.{Record}
use Rattle.canvas_doc.proofs.placed_shapes.PlacedShapes.replace_both.Goals as goal

pub change_both-requires-clause-place : goal.change_both-requires-clause-place
change_both-requires-clause-place c = c.requires.at

pub change_both-requires-clause-other : goal.change_both-requires-clause-other
change_both-requires-clause-other c = c.requires.other

pub returns-clause-shapes : goal.returns-clause-shapes
returns-clause-shapes c = subst (λ (x : Record). c.change_both.new.self.shapes ≡ changed_if (is_ok c.change_both.result) (Replace x) c.args.at c.args.self.now.shapes) (c.new-placed.ensures.shape ∙ c.in_ok-shared.ensures) c.change_both.ensures.shapes

pub returns-clause-bounds : goal.returns-clause-bounds
returns-clause-bounds c = subst (λ (b : Bounds). c.change_both.new.self.bounds ≡ changed_if (is_ok c.change_both.result) (Replace b) c.args.at c.args.self.now.bounds) c.new-placed.ensures.bounds c.change_both.ensures.bounds

pub returns-clause-other : goal.returns-clause-other
returns-clause-other c = c.change_both.ensures.other
