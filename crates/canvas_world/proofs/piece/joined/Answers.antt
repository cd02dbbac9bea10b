use Rattle.std.proofs.Common.{◌++◌, ◌∙◌, ap, arith}
use Rattle.canvas_record.specs.Picture.{colour}
use Rattle.canvas_paint.specs.Pictures.{picture_of}
use Rattle.canvas_world.specs.Pieces.{cuts_of}
use Rattle.canvas_world.proofs.Strips.{below-more, no-picture, rows-more, whole}
use Rattle.canvas_world.proofs.piece.joined.Goals as goal

pub returns-in-None : goal.returns-in-None
returns-in-None c = λ document window painted. no-picture c.loop-k.k c.args.n (cuts_of c.args.pieces.now) (picture_of (colour document.records) window) c.loop-k-test.true c.in-None.ensures.found

pub loop-k-preserved : goal.loop-k-preserved
loop-k-preserved c = record {
  there = below-more c.loop-k.k c.args.n (cuts_of c.args.pieces.now) c.in-Some.ensures.found c.loop-k.invariant.there;
  rows = λ document window painted. rows-more (colour document.records) window c.loop-k.k c.args.n c.loop-k.bytes.items c.extend_from_slice.new.self.items c.in-Some.rows.now c.requires (c.loop-k.invariant.rows document window painted)
      (c.in-Some.ensures.rows document window painted) (c.in_ok-extend_from_slice-in-Some.ensures.items ∙ ap (λ l. c.loop-k.bytes.items ++ l) c.bytes.ensures);
}

pub returns : goal.returns
returns c = λ document window painted. whole (colour document.records) window c.loop-k.k c.args.n (cuts_of c.args.pieces.now) c.loop-k.bytes.items c.from_vec.result c.requires (omega (arith, c.loop-k-test.false)) c.loop-k.invariant.there (c.loop-k.invariant.rows document window painted) c.from_vec.ensures
