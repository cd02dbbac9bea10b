use Rattle.std.proofs.Common.{◌∙◌, ap}
use Rattle.canvas_record.specs.Contents.{Contents}
use Rattle.canvas_record.specs.Effect.{effect_of}
use Rattle.canvas_record.specs.Picture.{colour}
use Rattle.canvas_doc.proofs.spacing.Respacings.{spaces-only}
use Rattle.canvas_doc.proofs.Document.with.Goals as goal

pub returns-clause-colours : goal.returns-clause-colours
returns-clause-colours c spaced x y =
    ap (λ (d : Contents). colour d.records x y) (c.in_ok-apply.ensures.effect ∙ ap (effect_of c.args.change.now) c.in_ok-after.ensures)
    ∙ spaces-only c.args.change.now c.args.self.now spaced c.requires.left x y
