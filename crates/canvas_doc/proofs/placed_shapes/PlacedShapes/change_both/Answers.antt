use Rattle.std.specs.Result.{is_ok}
use Rattle.canvas_list.specs.Changed.{changed}
use Rattle.canvas_doc.proofs.editing.Placements.{bounds-changed, if-made, place-changed, shapes-changed}
use Rattle.canvas_doc.proofs.placed_shapes.PlacedShapes.change_both.Goals as goal

pub change_both-requires-clause-place : goal.change_both-requires-clause-place
change_both-requires-clause-place c = place-changed c.self.inside.list c.args.self.now c.args.at c.args.change c.self.view_is c.requires.place

pub returns-clause-shapes : goal.returns-clause-shapes
returns-clause-shapes c = shapes-changed c.self.inside.list c.change_both.new.self c.args.self.now c.args.at c.args.change (is_ok c.change_both.result) c.self.view_is (if-made c.change_both.result c.change_both.new.self (changed c.args.change c.args.at c.self.inside.list) c.self.inside.list c.change_both.ensures.made c.change_both.ensures.same)

pub returns-clause-bounds : goal.returns-clause-bounds
returns-clause-bounds c = bounds-changed c.self.inside.list c.change_both.new.self c.args.self.now c.args.at c.args.change (is_ok c.change_both.result) c.self.view_is (if-made c.change_both.result c.change_both.new.self (changed c.args.change c.args.at c.self.inside.list) c.self.inside.list c.change_both.ensures.made c.change_both.ensures.same)

pub returns-clause-other : goal.returns-clause-other
returns-clause-other c = if-made c.change_both.result c.change_both.new.other (changed c.args.other_change c.args.other_at c.args.records.now) c.args.records.now c.change_both.ensures.made_there c.change_both.ensures.same_there
