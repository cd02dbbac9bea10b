use Rattle.std.proofs.Common.{◌++◌}
use Rattle.canvas_board.proofs.Lasting.{version-tells}
use Rattle.canvas_board.proofs.gallery.Hall.answer.Goals as goal

pub answer-answer-requires-clause-told : goal.answer-answer-requires-clause-told
answer-answer-requires-clause-told g c =
    version-tells c.args.seat.now c.mark.result c.args.version.now (c.as_slices.result.0.now ++ c.as_slices.result.1.now) c.requires c.as_slices.ensures c.mark.ensures
