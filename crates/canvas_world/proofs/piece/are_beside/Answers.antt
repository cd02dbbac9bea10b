use Rattle.std.proofs.Common.{◌≡◌, false, sym}
use Rattle.canvas_world.specs.Transcript.{is_beside}
use Rattle.canvas_world.proofs.Strips.{all-at, other-number, same-strip}
use Rattle.canvas_world.proofs.piece.are_beside.Goals as goal
use Rattle.canvas_world.proofs.piece.are_beside.Goals.{then-own-cut-via-then-own-cut, then-own-cut-via-else-own-cut+then-own-cut-2}

pub returns-then-own-cut : goal.returns-then-own-cut
returns-then-own-cut c =
    let x = c.piece-item.result in
    let fails : is_beside c.args.cut x.cut ≡ false = elim c.then-own-cut.branch [
      | then-own-cut-via-then-own-cut w ↦ other-number c.args.cut x.cut w.if-own-cut.true
      | then-own-cut-via-else-own-cut+then-own-cut-2 w ↦ same-strip c.args.cut x.cut w.if-own-cut-2.true
    ] in
    sym (all-at (is_beside c.args.cut) c.args.pieces.now c.loop-piece.piece-index x c.loop-piece-test.true c.piece-item.is fails)
