use Rattle.std.proofs.Common.{◌∙◌, ap, not}
use Rattle.canvas_doc.proofs.places.Placed.{has-key, has-more}
use Rattle.canvas_doc.proofs.restored.takes_place.Goals as goal

pub returns : goal.returns
returns c =
    let k = c.place_of.ensures in
    record {
      key = k.key;
      free = c.in_ok-free.ensures.added ∙ ap not (has-key c.args.places.now c.place_of.result c.args.shape.now k.holder k.index);
      after = has-more c.args.places.now c.insert.new.self c.place_of.result c.args.shape.now k.holder k.index c.in_ok-free.ensures.updates.0;
    }
