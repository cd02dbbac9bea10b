use Rattle.std.proofs.Common.{◌∙◌, refl, sym}
use Rattle.canvas_list.proofs.Moved.{below, changed-halves, halves, in-back, in-front, set-swap}
use Rattle.canvas_list.proofs.moves.two_of.Goals as goal

pub returns-then-first-second : goal.returns-then-first-second
returns-then-first-second g c =
    let cut = c.split_at_mut-front in
    let parts = halves c.args.parts.now c.args.parts.now cut.result.0.now cut.result.1.now c.args.second refl cut.ensures.front cut.ensures.back in (
      ((refl, refl), λ x y. changed-halves c.args.parts.now cut.result.0.now cut.result.1.now c.args.second parts c.args.first x y c.if-first-second.true c.requires.second ∙ set-swap c.args.parts.now c.args.first c.args.second x y c.requires.apart),
      record {
        writes_back = _;
        first = in-front c.args.parts.now cut.result.0.now cut.result.1.now c.args.second parts c.args.first c.index-front-first.result c.index-front-first.is c.if-first-second.true;
        second = in-back c.args.parts.now cut.result.0.now cut.result.1.now c.args.second parts c.index-back-0.result c.index-back-0.is;
      },
    )

pub returns-else-first-second : goal.returns-else-first-second
returns-else-first-second g c =
    let cut = c.split_at_mut-front-else-first-second in
    let parts = halves c.args.parts.now c.args.parts.now cut.result.0.now cut.result.1.now c.args.first refl cut.ensures.front cut.ensures.back in
    let low = below c.args.second c.args.first c.if-first-second.false (λ e. c.requires.apart (sym e)) in (
      ((refl, refl), λ x y. changed-halves c.args.parts.now cut.result.0.now cut.result.1.now c.args.first parts c.args.second y x low c.requires.first),
      record {
        writes_back = _;
        first = in-back c.args.parts.now cut.result.0.now cut.result.1.now c.args.first parts c.index-back-0-else-first-second.result c.index-back-0-else-first-second.is;
        second = in-front c.args.parts.now cut.result.0.now cut.result.1.now c.args.first parts c.args.second c.index-front-second.result c.index-front-second.is low;
      },
    )
