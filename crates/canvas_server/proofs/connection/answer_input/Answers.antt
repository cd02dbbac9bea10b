use Rattle.std.proofs.Common.{◌≡◌, ℕ, List, Option, Some, IfSome, OnOk, ap, ◌∙◌, sym, subst}
use Rattle.std.specs.Io.Chain.{chain_remaining}
use Rattle.std.specs.Io.KnownBytes.{Consumes, Keeps}
use Rattle.canvas_session.specs.Session.{Serves}
use Rattle.canvas_doors.specs.Beginning.{TellsOf}
use Rattle.canvas_doors.specs.Outlet.{given_to}
use Rattle.canvas_doors.specs.declared.first_line.Beginning.{Beginning}
use Rattle.canvas_server.proofs.Reading.{chained, session_input}
use Rattle.canvas_doors.proofs.Written.{append_nothing}
use Rattle.canvas_server.proofs.connection.answer_input.Goals as goal

pub returns-in_default-Ok : goal.returns-in_default-Ok
returns-in_default-Ok g c =
    let old = g.R.Read.remaining c.args.reader in
    let new = g.R.Read.remaining c.read_first.new.reader in
    let items = c.read_first.new.first.items in
    let contents = g.W.Write.contents in
    let remaining = chain_remaining (λ s. Some s.now) g.R.Read.remaining in
    let told = subst (λ (b : Beginning). TellsOf b items new) c.in-Ok-Session.field-0-is c.in-Ok-Session.ensures.told in
    let first = c.as_slice.result.now in
    let read = subst (Consumes old new) (sym c.as_slice.ensures.value) c.in-Ok-Session.ensures.read in
    let begun : given_to contents c.in-Ok.outlet ≡ contents c.args.writer = append_nothing _ _ c.in-Ok.ensures.empty ∙ ap contents c.in-Ok.ensures.writer in
    let serves = λ (workers : ℕ) (held : Option (List ℕ)). Serves workers (record {
      input = remaining c.chain.result;
      unread = remaining c.serve_before-ended.new.reader;
      held = held;
      output = given_to contents c.serve_before-ended.new.writer;
      before = g.B.Board.seen c.args.board.now;
      after = g.B.Board.seen c.serve_before-ended.new.board;
    }) c.serve_before-ended.result in (
      remaining c.serve_before-ended.new.reader,
      (
        session_input old new items c.in-Ok-Session.ensures.read told,
        (
          remaining c.chain.result,
          given_to contents c.serve_before-ended.new.writer,
          subst (Keeps old) (sym c.chain.ensures.bytes) (chained old new first read),
          subst (λ workers. serves workers (contents c.args.writer)) c.count.ensures.same (subst (serves c.count.result) begun c.serve_before-ended.ensures),
          subst (λ r. OnOk r (Keeps (given_to contents c.serve_before-ended.new.writer) (contents c.finish.result.0))) c.in_default-Ok.is-1 c.finish.ensures,
        ),
      ),
    )
