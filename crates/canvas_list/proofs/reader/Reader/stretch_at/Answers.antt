use Rattle.std.proofs.Common.{◌≤◌, ◌∙◌, ℕ, List, arith, subst}
use Rattle.canvas_list.specs.Chunks.{joined, IsRun}
use Rattle.canvas_list.proofs.Held.{run-chunk, run-first, run-next, some-here}
use Rattle.canvas_list.proofs.Runs.{run-rest}
use Rattle.canvas_list.proofs.Stretches.{stretch-same}
use Rattle.canvas_list.proofs.reader.Reader.stretch_at.Goals as goal

here : (at : ℕ) → at ≤ at
here at = omega arith

pub returns-in-Some : goal.returns-in-Some
returns-in-Some g c =
    let others : List g.row.T.Denot = joined c.in-Some.behind.now in
    let behind = run-next c.self.inside.list.now c.args.self.now c.self.inside.held.items.now c.self.inside.held.start c.args.at c.self.inside.held.behind.now c.self.view_is c.self.invariant.1.rest c.if-at-held.true c.if-at-held-2.true in
    let whole = run-chunk c.args.self.now c.args.at c.self.inside.held.behind.now c.in-Some.behind.now c.in-Some.next.now c.items.result.now behind c.in-Some.ensures.cases.0 c.items.ensures.same in
    record {
      held = record {
        run = run-first c.args.self.now c.items.result.now others c.args.at whole;
        rest = run-rest c.args.self.now c.items.result.now others c.args.at whole;
        more = subst (λ (l : List g.row.T.Denot). IsRun l (joined c.self.inside.held.beyond.now) c.self.inside.held.beyond_start) c.self.view_is c.self.invariant.1.more;
      };
      from = here c.args.at;
      upto = some-here c.in-Some.next.now c.items.result.now c.args.at c.items.ensures.same c.items.ensures.some;
    }

pub returns : goal.returns
returns g c = record {
  held =
      stretch-same c.list.inside.table c.args.self.now c.stretch_at.result.items.now (joined c.stretch_at.result.behind.now) (joined c.stretch_at.result.beyond.now) c.stretch_at.result.start c.stretch_at.result.beyond_start (c.list.view_is ∙ c.self.view_is) c.stretch_at.ensures.held;
  from = c.stretch_at.ensures.from;
  upto = c.stretch_at.ensures.upto;
}
