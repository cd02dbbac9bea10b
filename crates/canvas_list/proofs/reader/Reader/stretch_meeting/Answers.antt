use Rattle.std.proofs.Common.{◌+◌, List, arith, length, subst, sym, ◌∙◌}
use Rattle.canvas_list.specs.Chunks.{joined, IsRun, IsStretch}
use Rattle.canvas_list.proofs.Held.{apart-on, few-behind, further, place-fits, run-next, run-starts, run-on}
use Rattle.canvas_list.proofs.Stretches.{stretch-beside}
use Rattle.canvas_list.proofs.Runs.{run-of-run}
use Rattle.canvas_list.proofs.reader.Reader.stretch_meeting.Goals as goal

pub returns-then-not-is_empty-2-clause-held : goal.returns-then-not-is_empty-2-clause-held
returns-then-not-is_empty-2-clause-held g c =
    let block : List g.row.T.Denot = joined c.self.inside.held.beyond.now in
    let there : IsRun c.args.self.now block c.self.inside.held.beyond_start = subst (λ (l : List g.row.T.Denot). IsRun l block c.self.inside.held.beyond_start) c.self.view_is c.self.invariant.1.more in
    let beyond : IsRun c.args.self.now block c.args.at = subst (λ n. IsRun c.args.self.now block n) (sym c.if-at-held-3.true) there in
    record {
      run = run-of-run c.args.self.now block c.block_meeting-found.result.items.now c.args.at c.block_meeting-found.result.start beyond c.block_meeting-found.ensures.held.run;
      rest = run-on c.args.self.now block (joined c.block_meeting-found.result.behind.now) c.args.at c.block_meeting-found.result.start (length c.block_meeting-found.result.items.now) beyond c.block_meeting-found.ensures.held.rest;
      more = run-of-run c.args.self.now block (joined c.block_meeting-found.result.beyond.now) c.args.at c.block_meeting-found.result.beyond_start beyond c.block_meeting-found.ensures.held.more;
    }

pub chunk_meeting-found-requires-clause-few : goal.chunk_meeting-found-requires-clause-few
chunk_meeting-found-requires-clause-few g c =
    few-behind c.self.inside.list.now (joined c.self.inside.held.behind.now) (c.self.inside.held.start + length c.self.inside.held.items.now) c.self.invariant.0 c.self.invariant.1.rest

pub block_meeting-found-requires-clause-few : goal.block_meeting-found-requires-clause-few
block_meeting-found-requires-clause-few g c =
    few-behind c.self.inside.list.now (joined c.self.inside.held.beyond.now) c.self.inside.held.beyond_start c.self.invariant.0 c.self.invariant.1.more

pub overflow_add-result : goal.overflow_add-result
overflow_add-result g c =
    let behind = run-next c.self.inside.list.now c.args.self.now c.self.inside.held.items.now c.self.inside.held.start c.args.at c.self.inside.held.behind.now c.self.view_is c.self.invariant.1.rest c.if-at-held.true c.if-at-held-2.true in
    omega (arith, place-fits c.self.inside.list.now c.args.self.now (joined c.self.inside.held.behind.now) c.chunk_meeting-found.result.items.now c.args.at c.chunk_meeting-found.result.start c.self.view_is c.self.invariant.0 behind c.chunk_meeting-found.ensures.held.run)

pub returns-then-not-is_empty : goal.returns-then-not-is_empty
returns-then-not-is_empty g c =
    let behind = run-next c.self.inside.list.now c.args.self.now c.self.inside.held.items.now c.self.inside.held.start c.args.at c.self.inside.held.behind.now c.self.view_is c.self.invariant.1.rest c.if-at-held.true c.if-at-held-2.true in
    let held : List g.row.T.Denot = joined c.self.inside.held.behind.now in
    let beyond : IsRun c.args.self.now (joined c.self.inside.held.beyond.now) c.self.inside.held.beyond_start = subst (λ (l : List g.row.T.Denot). IsRun l (joined c.self.inside.held.beyond.now) c.self.inside.held.beyond_start) c.self.view_is c.self.invariant.1.more in
    record {
      held = stretch-beside c.args.self.now held c.chunk_meeting-found.result.items.now (joined c.chunk_meeting-found.result.behind.now) (joined c.chunk_meeting-found.result.beyond.now) (joined c.self.inside.held.beyond.now) c.args.at c.chunk_meeting-found.result.start c.chunk_meeting-found.result.beyond_start c.self.inside.held.beyond_start behind beyond c.chunk_meeting-found.ensures.held;
      on = further c.args.at c.chunk_meeting-found.result.start (length c.chunk_meeting-found.result.items.now) c.chunk_meeting-found.ensures.on;
      apart = apart-on (g.T.Share.lies_apart c.args.sought.now) c.args.self.now held c.args.at c.chunk_meeting-found.result.start behind (run-starts held c.chunk_meeting-found.result.items.now c.chunk_meeting-found.result.start c.chunk_meeting-found.ensures.held.run) c.chunk_meeting-found.ensures.apart;
    }

pub returns-then-not-is_empty-2-clause-apart : goal.returns-then-not-is_empty-2-clause-apart
returns-then-not-is_empty-2-clause-apart g c =
    let held : List g.row.T.Denot = joined c.self.inside.held.beyond.now in
    let there : IsRun c.args.self.now held c.self.inside.held.beyond_start = subst (λ (l : List g.row.T.Denot). IsRun l held c.self.inside.held.beyond_start) c.self.view_is c.self.invariant.1.more in
    let beyond : IsRun c.args.self.now held c.args.at = subst (λ n. IsRun c.args.self.now held n) (sym c.if-at-held-3.true) there in
    apart-on (g.T.Share.lies_apart c.args.sought.now) c.args.self.now held c.args.at c.block_meeting-found.result.start beyond (run-starts held c.block_meeting-found.result.items.now c.block_meeting-found.result.start c.block_meeting-found.ensures.held.run) c.block_meeting-found.ensures.apart
