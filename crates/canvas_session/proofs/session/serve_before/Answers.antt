use Rattle.std.proofs.Common.{◌≡◌, ◌+◌, ◌≤◌, length, take, ap, sym, ◌∙◌, arith, subst, length-drop, ◌++◌}
use Rattle.canvas_session.specs.declared.fault.SessionFault.{SessionFault}
use Rattle.canvas_session.specs.declared.next.Next.TheVariants.{Line, Cut, End, TooLong}
use Rattle.canvas_session.specs.Line.{ended}
use Rattle.canvas_session.specs.declared.next.Interruption.TheVariants.{Read}
use Rattle.canvas_session.specs.Next.{IsInterrupted, IsNext}
use Rattle.canvas_session.specs.Session.{IsStopped}
use Rattle.canvas_session.proofs.Exchanges.{ends, session_begins, session_waits, session_answers, session_breaks, line_at, line_and_rest}
use Rattle.canvas_session.proofs.Stops.{served, cut, unread, unflushed, closes_long, closes_spent}
use Rattle.canvas_session.proofs.session.serve_before.Goals as goal

pub lines-init : goal.lines-init
lines-init g c = record {
  session = session_begins _ _ _ _ c.in-Ok.pending c.in-Ok.ensures;
  few = omega arith;
  small = omega arith;
  fits = omega (arith, ap length c.in-Ok.ensures);
}

pub returns-in-Err-Read : goal.returns-in-Err-Read
returns-in-Err-Read g c =
    let why : IsInterrupted Read c.find_next.new.pending = rw c.in-Err-Read.field-0-is at c.in-Err-Read.ensures.interrupted in
    let e = ends (g.R.Read.remaining c.args.reader.now) (g.R.Read.remaining c.find_next.new.reader) (g.W.Write.contents c.args.writer.now) (g.W.Write.contents c.find_next.new.writer) (g.B.Board.seen c.args.board.now) (g.B.Board.seen c.lines.board) in
    subst (λ (f : SessionFault). IsStopped c.args.workers e f.cause f.answered f.written) (sym c.stop-in-Err-Read.ensures)
    (unread c.args.workers _ _ _ _ _ _ c.find_next.new.pending c.lines.requests c.lines.written (session_waits _ _ _ _ _ _ _ _ _ _ _ _ _ c.lines.invariant.session c.in-Err-Read.ensures.takes c.in-Err-Read.ensures.kept) why.0 why.1)

pub returns-in-Err-Write : goal.returns-in-Err-Write
returns-in-Err-Write g c =
    let e = ends (g.R.Read.remaining c.args.reader.now) (g.R.Read.remaining c.find_next.new.reader) (g.W.Write.contents c.args.writer.now) (g.W.Write.contents c.find_next.new.writer) (g.B.Board.seen c.args.board.now) (g.B.Board.seen c.lines.board) in
    subst (λ (f : SessionFault). IsStopped c.args.workers e f.cause f.answered f.written) (sym c.stop-in-Err-Write.ensures)
    (unflushed c.args.workers _ _ _ _ _ _ c.find_next.new.pending c.lines.requests c.lines.written (session_waits _ _ _ _ _ _ _ _ _ _ _ _ _ c.lines.invariant.session c.in-Err-Write.ensures.takes c.in-Err-Write.ensures.kept))

pub returns-in-Ok-End : goal.returns-in-Ok-End
returns-in-Ok-End g c =
    let next : IsNext End c.find_next.new.pending (g.R.Read.remaining c.find_next.new.reader) = rw c.in-Ok-End.field-0-is at c.in-Ok-End.ensures.next in
    served c.args.workers _ _ _ _ _ _ c.find_next.new.pending c.lines.requests c.lines.written (session_waits _ _ _ _ _ _ _ _ _ _ _ _ _ c.lines.invariant.session c.in-Ok-End.ensures.takes c.in-Ok-End.ensures.kept) next.0 next.1

pub returns-in-Ok-Cut : goal.returns-in-Ok-Cut
returns-in-Ok-Cut g c =
    let next : IsNext Cut c.find_next.new.pending (g.R.Read.remaining c.find_next.new.reader) = rw c.in-Ok-Cut.field-0-is at c.in-Ok-Cut.ensures.next in
    let e = ends (g.R.Read.remaining c.args.reader.now) (g.R.Read.remaining c.find_next.new.reader) (g.W.Write.contents c.args.writer.now) (g.W.Write.contents c.find_next.new.writer) (g.B.Board.seen c.args.board.now) (g.B.Board.seen c.lines.board) in
    subst (λ (f : SessionFault). IsStopped c.args.workers e f.cause f.answered f.written) (sym c.stop-in-Ok-Cut.ensures)
    (cut c.args.workers _ _ _ _ _ _ c.find_next.new.pending c.lines.requests c.lines.written (session_waits _ _ _ _ _ _ _ _ _ _ _ _ _ c.lines.invariant.session c.in-Ok-Cut.ensures.takes c.in-Ok-Cut.ensures.kept) next.0 next.1 next.2 next.3)

pub returns-in-Ok-TooLong : goal.returns-in-Ok-TooLong
returns-in-Ok-TooLong g c =
    let next : IsNext TooLong c.find_next.new.pending (g.R.Read.remaining c.find_next.new.reader) = rw c.in-Ok-TooLong.field-0-is at c.in-Ok-TooLong.ensures.next in
    closes_long c.args.workers _ _ _ _ _ _ _ c.find_next.new.pending c.lines.requests c.lines.written c.close.result (session_waits _ _ _ _ _ _ _ _ _ _ _ _ _ c.lines.invariant.session c.in-Ok-TooLong.ensures.takes c.in-Ok-TooLong.ensures.kept)
    next c.close.ensures

pub returns-then-requests-eq-MOST_REQUESTS : goal.returns-then-requests-eq-MOST_REQUESTS
returns-then-requests-eq-MOST_REQUESTS g c =
    let next : IsNext (Line c.in-Ok-Line.n) c.find_next.new.pending (g.R.Read.remaining c.find_next.new.reader) = rw c.in-Ok-Line.field-0-is at c.in-Ok-Line.ensures.next in
    closes_spent c.args.workers _ _ _ _ _ _ _ c.find_next.new.pending c.lines.requests c.lines.written c.close-then-requests-eq-MOST_REQUESTS.result
    (session_waits _ _ _ _ _ _ _ _ _ _ _ _ _ c.lines.invariant.session c.in-Ok-Line.ensures.takes c.in-Ok-Line.ensures.kept)
    c.if-requests-eq-MOST_REQUESTS.true (c.in-Ok-Line.n, next.0, next.1, next.2, next.3) c.close-then-requests-eq-MOST_REQUESTS.ensures

pub returns-else-whole : goal.returns-else-whole
returns-else-whole g c =
    let next : IsNext (Line c.in-Ok-Line.n) c.find_next.new.pending (g.R.Read.remaining c.find_next.new.reader) = rw c.in-Ok-Line.field-0-is at c.in-Ok-Line.ensures.next in
    let line : c.split_at.result.0.now ≡ take c.in-Ok-Line.n c.find_next.new.pending = c.split_at.ensures.front ∙ ap (λ l. take c.in-Ok-Line.n l) c.as_slice.ensures.bytes in
    let e = ends (g.R.Read.remaining c.args.reader.now) (g.R.Read.remaining c.find_next.new.reader) (g.W.Write.contents c.args.writer.now) (g.W.Write.contents c.write_answer-sent.new.writer) (g.B.Board.seen c.args.board.now) (g.B.Board.seen c.answer_next-answer.new.board) in
    subst (λ (f : SessionFault). IsStopped c.args.workers e f.cause f.answered f.written) (sym c.stop-else-whole.ensures)
    (session_breaks c.args.workers _ _ _ _ _ _ _ _ c.find_next.new.pending c.drop_front.new.self c.lines.requests c.lines.written c.in-Ok-Line.n c.write_answer-sent.result.0 c.answer_next-answer.result
    (session_waits _ _ _ _ _ _ _ _ _ _ _ _ _ c.lines.invariant.session c.in-Ok-Line.ensures.takes c.in-Ok-Line.ensures.kept)
    (omega (arith, c.lines.invariant.few, c.if-requests-eq-MOST_REQUESTS.false))
    (line_at c.find_next.new.pending c.in-Ok-Line.n next.0 next.1 next.2)
    (ap (λ l. ended (take c.in-Ok-Line.n c.find_next.new.pending) ++ l) c.drop_front.ensures ∙ line_and_rest c.find_next.new.pending c.in-Ok-Line.n next.1 next.3)
    (rw line at c.answer_next-answer.ensures)
    c.write_answer-sent.ensures.wrote
    (c.write_answer-sent.ensures.cut c.if-whole.false))

pub lines-preserved : goal.lines-preserved
lines-preserved g c =
    let next : IsNext (Line c.in-Ok-Line.n) c.find_next.new.pending (g.R.Read.remaining c.find_next.new.reader) = rw c.in-Ok-Line.field-0-is at c.in-Ok-Line.ensures.next in
    let line : c.split_at.result.0.now ≡ take c.in-Ok-Line.n c.find_next.new.pending = c.split_at.ensures.front ∙ ap (λ l. take c.in-Ok-Line.n l) c.as_slice.ensures.bytes in
    let small : c.write_answer-sent.result.0 ≤ 2199023255552 = c.write_answer-sent.ensures.small in
    record {
      session = session_answers c.args.workers _ _ _ _ _ _ _ _ c.find_next.new.pending c.drop_front.new.self c.lines.requests c.lines.written c.in-Ok-Line.n c.write_answer-sent.result.0 c.answer_next-answer.result
          (session_waits _ _ _ _ _ _ _ _ _ _ _ _ _ c.lines.invariant.session c.in-Ok-Line.ensures.takes c.in-Ok-Line.ensures.kept)
          (omega (arith, c.lines.invariant.few, c.if-requests-eq-MOST_REQUESTS.false))
          (line_at c.find_next.new.pending c.in-Ok-Line.n next.0 next.1 next.2)
          (ap (λ l. ended (take c.in-Ok-Line.n c.find_next.new.pending) ++ l) c.drop_front.ensures ∙ line_and_rest c.find_next.new.pending c.in-Ok-Line.n next.1 next.3)
          (rw line at c.answer_next-answer.ensures)
          c.write_answer-sent.ensures.wrote
          (c.write_answer-sent.ensures.whole c.if-whole.true);
      few = omega (arith, c.lines.invariant.few, c.if-requests-eq-MOST_REQUESTS.false);
      small = omega (arith, c.lines.invariant.small, small);
      fits = omega (arith, ap length c.drop_front.ensures, length-drop (c.in-Ok-Line.n + 1) c.find_next.new.pending, c.as_slice.ensures.fits, ap length c.as_slice.ensures.bytes);
    }
