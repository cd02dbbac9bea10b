use Rattle.std.proofs.Common.{◌≡◌, ◌∙◌, arith, cond, map, set, subst}
use Rattle.std.specs.List.{insert, remove}
use Rattle.std.specs.Result.{is_ok}
use Rattle.canvas_doc.specs.declared.bounds.Bounds.{Bounds}
use Rattle.canvas_record.specs.declared.records.Record.{Record}
use Rattle.canvas_doc.proofs.editing.Placements.{bounds-moved, bounds_of, if-made, long, shape_of, shapes-moved}
use Rattle.canvas_doc.proofs.placed_shapes.PlacedShapes.move_both.Goals as goal

pub change_both-requires-clause-other : goal.change_both-requires-clause-other
change_both-requires-clause-other c = (omega (arith, long c.self.inside.list c.args.self.now c.self.view_is, c.requires.from), omega (arith, long c.self.inside.list c.args.self.now c.self.view_is, c.requires.to))

pub returns-clause-shapes : goal.returns-clause-shapes
returns-clause-shapes c =
    subst (λ (x : Record). map shape_of c.change_both.new.other ≡ cond (is_ok c.change_both.result) (insert (remove c.args.self.now.shapes c.args.from) c.args.to x) c.args.self.now.shapes) (c.new-placed.ensures.shape ∙ c.in_ok-shared.ensures)
    (shapes-moved c.self.inside.list c.change_both.new.other c.args.self.now c.args.from c.args.to c.new-placed.result (is_ok c.change_both.result) c.self.view_is (if-made c.change_both.result c.change_both.new.other (insert (remove c.self.inside.list c.args.from) c.args.to c.new-placed.result) c.self.inside.list c.change_both.ensures.made_there c.change_both.ensures.same_there))

pub returns-clause-bounds : goal.returns-clause-bounds
returns-clause-bounds c =
    subst (λ (b : Bounds). map bounds_of c.change_both.new.other ≡ cond (is_ok c.change_both.result) (insert (remove c.args.self.now.bounds c.args.from) c.args.to b) c.args.self.now.bounds) c.new-placed.ensures.bounds
    (bounds-moved c.self.inside.list c.change_both.new.other c.args.self.now c.args.from c.args.to c.new-placed.result (is_ok c.change_both.result) c.self.view_is (if-made c.change_both.result c.change_both.new.other (insert (remove c.self.inside.list c.args.from) c.args.to c.new-placed.result) c.self.inside.list c.change_both.ensures.made_there c.change_both.ensures.same_there))

pub returns-clause-other : goal.returns-clause-other
returns-clause-other c = if-made c.change_both.result c.change_both.new.self (set c.args.records.now c.args.other_at c.args.new) c.args.records.now c.change_both.ensures.made c.change_both.ensures.same
