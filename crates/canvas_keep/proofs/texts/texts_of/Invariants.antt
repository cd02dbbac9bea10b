use Rattle.std.proofs.Common.{◌≡◌, map, take}
use Rattle.canvas_wire.specs.EditTexts.{edit_text}
use Rattle.canvas_keep.specs.Telling.{AreReadBack}
use Rattle.canvas_keep.proofs.texts.texts_of.Given as goal

abbrev pub invariant-loop-edit : goal.invariant-loop-edit
invariant-loop-edit l = record {
  texts : l.batch ≡ map edit_text (take l.edit-index l.edits);
  read : AreReadBack (take l.edit-index l.edits);
}
