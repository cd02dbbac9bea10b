use Rattle.std.proofs.Common.{◌∙◌}
use Rattle.canvas_keep.proofs.Histories.{texts_next, read_next, texts_told}
use Rattle.canvas_keep.proofs.texts.texts_of.Goals as goal

pub loop-edit-preserved : goal.loop-edit-preserved
loop-edit-preserved c = record {
  texts = texts_next c.args.edits.now c.loop-edit.edit-index c.edit-item.result c.loop-edit.batch c.push.new.self c.deref.result.now c.loop-edit-test.true c.edit-item.is c.loop-edit.invariant.texts
      c.in_ok-push.ensures.added (c.deref.ensures.value ∙ c.in_ok-text.ensures.text);
  read = read_next c.args.edits.now c.loop-edit.edit-index c.edit-item.result c.in_ok-text.text.items c.loop-edit-test.true c.edit-item.is c.loop-edit.invariant.read
      c.in_ok-text.ensures.accepted c.in_ok-text.ensures.text;
}

pub returns-clause-told : goal.returns-clause-told
returns-clause-told c d cs makes =
    texts_told c.args.edits.now c.loop-edit.edit-index c.loop-edit.batch d cs c.loop-edit-test.false c.loop-edit.invariant.texts c.loop-edit.invariant.read makes
