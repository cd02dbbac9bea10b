use Rattle.std.proofs.Common.{◌++◌}
use Rattle.canvas_board.proofs.Lasting.{version-tells}
use Rattle.canvas_board.proofs.kept_pictures.KeptPictures.answer.Goals as goal

pub answer-requires-clause-told : goal.answer-requires-clause-told
answer-requires-clause-told g c =
    version-tells c.args.seat.now c.mark.result c.args.version.now (c.as_slices.result.0.now ++ c.as_slices.result.1.now) c.requires c.as_slices.ensures c.mark.ensures
