use Rattle.std.proofs.Common.{sym, ◌∙◌, ap}
use Rattle.canvas_line.proofs.Adding.{adds_moves}
use Rattle.canvas_line.proofs.front.Trace.add.Goals as goal

pub compare_exchange-found-requires : goal.compare_exchange-found-requires
compare_exchange-found-requires c =
    let h = c.args.head.now.word_is in
    let offer = c.plain-offer.ensures in
    let pen = c.no_pen-pen.ensures in
    let book = ap (λ t. t.book) c.self.view_is ∙ sym c.requires.book in (
      ap (λ w. w.tracked) h,
      book,
      pen.0 ∙ (book),
      offer.0,
      rw (ap (λ w. w.key) h, pen.1, offer.1, offer.3) (adds_moves c.self.inside.seen.log c.args.change.now.value c.self.inside.count (sym c.self.invariant)),
    )
