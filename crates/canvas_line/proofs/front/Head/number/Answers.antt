use Rattle.std.proofs.Common.{sym, ◌∙◌, ap}
use Rattle.canvas_line.proofs.Adding.{looks_moves}
use Rattle.canvas_line.proofs.front.Head.number.Goals as goal

pub load-requires : goal.load-requires
load-requires c =
    let h = c.args.self.now.word_is in
    let offer = c.plain-offer.ensures in
    let book = ap (λ s. s.book) c.again-seen.ensures ∙ (ap (λ t. t.book) c.seen.view_is ∙ c.requires) in (
      ap (λ w. w.tracked) h,
      book,
      offer.0,
      rw (ap (λ w. w.key) h, offer.3) (looks_moves c.again-seen.result.log c.plain-offer.result.ask),
    )
