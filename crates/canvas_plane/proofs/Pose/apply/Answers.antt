use Rattle.std.proofs.Common.{ap, subst, sym, ◌≤◌, ◌+◌, ◌^◌, ◌∙◌}
use Rattle.canvas_plane.specs.Motion.{moved, place_of, reach_of, size_of, turned}
use Rattle.canvas_plane.proofs.Turns.{moved-fits, place-kept, size-moved}
use Rattle.canvas_plane.proofs.Pose.apply.Goals as goal

pub plus-requires-clause-x_fits : goal.plus-requires-clause-x_fits
plus-requires-clause-x_fits c =
    let within : size_of c.turn.result ≤ 2 ^ 27 = subst (λ n. n ≤ 2 ^ 27) (sym (c.turn.ensures.size ∙ c.flip.ensures.size)) c.requires.within in
    (moved-fits (place_of c.args.self.now) c.turn.result within c.requires.reach).0

pub plus-requires-clause-y_fits : goal.plus-requires-clause-y_fits
plus-requires-clause-y_fits c =
    let within : size_of c.turn.result ≤ 2 ^ 27 = subst (λ n. n ≤ 2 ^ 27) (sym (c.turn.ensures.size ∙ c.flip.ensures.size)) c.requires.within in
    (moved-fits (place_of c.args.self.now) c.turn.result within c.requires.reach).1

pub returns-clause-size : goal.returns-clause-size
returns-clause-size c =
    let by = place_of c.args.self.now in
    let e = c.plus.ensures.value ∙ ap (λ b. moved b c.turn.result) (place-kept by c.requires.reach) in
    subst (λ n. size_of c.plus.result ≤ n + reach_of c.args.self.now) (c.turn.ensures.size ∙ c.flip.ensures.size)
    (subst (λ p. size_of p ≤ size_of c.turn.result + size_of by) (sym e) (size-moved by c.turn.result))

pub returns-clause-value : goal.returns-clause-value
returns-clause-value c =
    let by = place_of c.args.self.now in
    c.plus.ensures.value
    ∙ ap (λ b. moved b c.turn.result) (place-kept by c.requires.reach)
    ∙ ap (moved by) (c.turn.ensures.value ∙ ap (turned c.args.self.now.quarter) c.flip.ensures.value)
