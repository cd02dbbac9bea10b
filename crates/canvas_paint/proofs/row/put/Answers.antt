use Rattle.canvas_paint.proofs.Filling.{part-copied}
use Rattle.canvas_paint.proofs.row.put.Goals as goal

pub returns : goal.returns
returns c = λ k d lt. part-copied c.args.row.now c.copy_from_slice.new.self c.args.pattern.now c.args.from c.args.to k d c.requires.ends c.requires.within c.requires.long c.copy_from_slice.ensures.after lt
