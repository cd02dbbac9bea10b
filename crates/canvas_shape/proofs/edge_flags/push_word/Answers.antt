use Rattle.canvas_shape.proofs.Held.{cut-inside}
use Rattle.std.proofs.Common.{◌≡◌, suc, ◌+◌, length, length-append, ap, min, arith}
use Rattle.canvas_shape.specs.declared.Span.{Span}
use Rattle.canvas_shape.proofs.FlagCuts.{fewer-cuts, word-step, word-done}
use Rattle.canvas_shape.proofs.Pairs.{kept-step}
use Rattle.canvas_shape.proofs.edge_flags.push_word.Goals as goal

pub loop-word-smaller : goal.loop-word-smaller
loop-word-smaller c = fewer-cuts c.args.width c.loop-word.word c.flipped-word.result c.args.base c.lowest-at.result c.lowest-at.ensures.within c.lowest-at.ensures.there c.lowest-at.ensures.before c.flipped-word.ensures

pub loop-word-preserved : goal.loop-word-preserved
loop-word-preserved c =
    let cut : c.min-cut.result ≡ min (suc (c.args.base + c.lowest-at.result)) c.args.width = omega arith in
    record {
      placed = word-step c.args.row.left c.loop-word.inside c.args.width c.loop-word.word c.flipped-word.result c.args.base c.lowest-at.result c.loop-word.place c.min-cut.result c.loop-word.out.items c.push_piece.new.out.items _ c.lowest-at.ensures.within c.lowest-at.ensures.there c.lowest-at.ensures.before c.flipped-word.ensures cut c.in_ok-push_piece.ensures.ok c.loop-word.invariant.placed;
      place = omega arith;
      more = omega (arith, length-append {A = Span}, ap length c.in_ok-push_piece.ensures.ok);
      kept = kept-step c.args.out.now.items c.loop-word.out.items c.push_piece.new.out.items _ c.in_ok-push_piece.ensures.ok c.loop-word.invariant.more c.loop-word.invariant.kept;
    }

pub returns-clause-ok : goal.returns-clause-ok
returns-clause-ok c = word-done c.args.row.left c.loop-word.inside c.args.width c.loop-word.word c.args.base c.loop-word.place c.loop-word.out.items _ c.loop-word-test.false c.loop-word.invariant.placed

pub push_piece-requires-clause-second : goal.push_piece-requires-clause-second
push_piece-requires-clause-second c = cut-inside c.args.row.left c.args.row.right c.min-cut.result _ c.args.width c.min-cut.ensures c.requires.wide
