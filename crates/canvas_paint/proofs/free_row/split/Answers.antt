use Rattle.std.proofs.Common.{◌++◌, ◌∙◌, ap}
use Rattle.canvas_paint.specs.FreeRows.{piece_of, rest_of, taken_of}
use Rattle.canvas_paint.proofs.Fraying.{rest-more, taken-more}
use Rattle.canvas_paint.proofs.Joined.{begins-more, begins-same}
use Rattle.std.proofs.lemmas.List.{take_all}
use Rattle.canvas_paint.proofs.free_row.split.Goals as goal

pub loop-part-preserved : goal.loop-part-preserved
loop-part-preserved c = record {
  rest = rest-more c.args.span _ c.args.free.now c.loop-part.rest.items c.push_piece-in-loop-part.new.spans.items c.push_piece-in-loop-part-2.new.spans.items c.loop-part.part-index c.loop-part-test.true c.loop-part.invariant.rest
      (c.in_ok-push_piece-2.ensures.ok ∙ ap (λ s. c.loop-part.rest.items ++ piece_of s) c.part_before.ensures)
      (c.in_ok-push_piece-3.ensures.ok ∙ ap (λ s. c.push_piece-in-loop-part.new.spans.items ++ piece_of s) c.part_after.ensures);
  taken = taken-more c.args.span _ c.args.free.now c.args.out.now.items c.loop-part.out.items c.push_piece.new.spans.items c.loop-part.part-index c.loop-part-test.true c.loop-part.invariant.taken
      (c.in_ok-push_piece.ensures.ok ∙ ap (λ s. c.loop-part.out.items ++ piece_of s) c.common.ensures);
}

pub returns-in_err-push_piece-clause-kept : goal.returns-in_err-push_piece-clause-kept
returns-in_err-push_piece-clause-kept c = begins-same c.args.out.now.items _ c.push_piece.new.spans.items (c.in_err-push_piece.ensures.err ∙ c.loop-part.invariant.taken)

pub returns-in_err-push_piece-2-clause-kept : goal.returns-in_err-push_piece-2-clause-kept
returns-in_err-push_piece-2-clause-kept c = begins-more c.args.out.now.items _ _ c.loop-part.out.items c.push_piece.new.spans.items c.loop-part.invariant.taken c.in_ok-push_piece.ensures.ok

pub returns-in_err-push_piece-3-clause-kept : goal.returns-in_err-push_piece-3-clause-kept
returns-in_err-push_piece-3-clause-kept c = begins-more c.args.out.now.items _ _ c.loop-part.out.items c.push_piece.new.spans.items c.loop-part.invariant.taken c.in_ok-push_piece.ensures.ok

pub returns-clause-kept : goal.returns-clause-kept
returns-clause-kept c = begins-same c.args.out.now.items _ c.loop-part.out.items c.loop-part.invariant.taken

pub returns-clause-taken : goal.returns-clause-taken
returns-clause-taken c = c.loop-part.invariant.taken ∙ ap (λ l. c.args.out.now.items ++ taken_of c.args.span l) (take_all c.loop-part.part-index c.args.free.now c.loop-part-test.false)

pub returns-clause-rest : goal.returns-clause-rest
returns-clause-rest c = c.loop-part.invariant.rest ∙ ap (rest_of c.args.span) (take_all c.loop-part.part-index c.args.free.now c.loop-part-test.false)
