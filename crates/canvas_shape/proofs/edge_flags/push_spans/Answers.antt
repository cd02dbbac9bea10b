use Rattle.std.proofs.Common.{refl}
use Rattle.canvas_shape.proofs.FlagCuts.{row-step, row-done, kept-on}
use Rattle.canvas_shape.proofs.edge_flags.push_spans.Goals as goal

pub loop-k-preserved : goal.loop-k-preserved
loop-k-preserved c = record {
  placed = row-step c.args.row.left c.loop-k.reached.inside c.in_ok-reached.reached.inside c.args.width c.args.flags.now.words _ _ c.loop-k.k c.loop-k.reached.place c.in_ok-reached.reached.place c.loop-k.out.items c.push_word.new.out.items _ c.loop-k-test.true refl refl c.in_ok-reached.ensures.ok c.loop-k.invariant.placed;
  place = c.in_ok-reached.ensures.place;
  kept = kept-on c.args.out.now.items c.loop-k.out.items c.push_word.new.out.items c.loop-k.invariant.kept c.in_ok-reached.ensures.kept;
}

pub returns-clause-ok : goal.returns-clause-ok
returns-clause-ok c = row-done c.args.row.left c.loop-k.reached.inside c.args.width c.args.flags.now.words c.loop-k.k c.loop-k.reached.place c.loop-k.out.items _ c.loop-k-test.false c.loop-k.invariant.placed

pub returns-in_err-reached-clause-kept : goal.returns-in_err-reached-clause-kept
returns-in_err-reached-clause-kept c = kept-on c.args.out.now.items c.loop-k.out.items c.push_word.new.out.items c.loop-k.invariant.kept c.in_err-reached.ensures.kept
