use Rattle.std.proofs.Common.{sym}
use Rattle.canvas_world.specs.Transcript.{is_cut}
use Rattle.canvas_world.proofs.Strips.{any-at, is-cut}
use Rattle.canvas_world.proofs.piece.rows_of.Goals as goal

pub returns-then-own-cut-2-clause-found : goal.returns-then-own-cut-2-clause-found
returns-then-own-cut-2-clause-found c =
    sym (any-at (is_cut c.args.cut.k c.args.cut.n) c.args.pieces.now c.loop-piece.piece-index c.piece-item.result c.loop-piece-test.true c.piece-item.is
    (is-cut c.args.cut.k c.args.cut.n c.piece-item.result.cut c.if-own-cut.true c.if-own-cut-2.true))
