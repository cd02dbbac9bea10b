use Rattle.std.proofs.Common.{ℕ, List, Option, IfSome, ap, subst, sym}
use Rattle.canvas_server.specs.Connection.{IsAnswered}
use Rattle.canvas_server.proofs.connection.answer_gated.Goals as goal

pub returns-clause-answered : goal.returns-clause-answered
returns-clause-answered g c =
    let contents = g.W.Write.contents in
    let told = λ (held output : Option (List ℕ)). IfSome c.answer_input-gated.result.1 (λ answered. (unread : Option (List ℕ)) × IsAnswered c.args.workers.now (record {
      input = g.R.Read.remaining c.args.reader;
      unread = unread;
      held = held;
      output = output;
      before = g.B.Board.seen c.args.board.now;
      after = g.B.Board.seen c.answer_input-gated.new.board;
    }) answered) in
    subst (told (contents c.args.writer)) (ap contents (sym c.into_inner.ensures.writer)) (
    subst (λ held. told held (contents c.answer_input-gated.result.0.passage.writer)) (ap contents c.new-gated.ensures) c.answer_input-gated.ensures
    )
