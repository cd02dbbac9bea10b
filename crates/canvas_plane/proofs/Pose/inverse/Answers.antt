use Rattle.std.proofs.Common.{◌∙◌, ap}
use Rattle.canvas_plane.specs.Motion.{negated, turned, flipped, place_of}
use Rattle.canvas_plane.proofs.Inverse.{IsInverse, undoes, undone}
use Rattle.canvas_plane.proofs.Pose.inverse.Goals as goal

pub returns-clause-undoes : goal.returns-clause-undoes
returns-clause-undoes c = λ p.
    let back = c.quarters_back-quarter.result in
    let i : IsInverse c.args.self.now c.posed.result = record {
      place = c.posed.ensures.place ∙ c.opposite.ensures.value ∙ ap negated (c.turn-place.ensures.value ∙ ap (turned back) (c.flip.ensures.value ∙ ap (flipped c.args.self.now.flip) c.place.ensures.place) ∙ ap (λ n. turned n (flipped c.args.self.now.flip (place_of c.args.self.now))) c.quarters_back-quarter.ensures.value);
      quarter = c.posed.ensures.quarter ∙ c.quarters_back-quarter.ensures.value;
      flip = c.posed.ensures.flip;
    } in
    undoes c.args.self.now c.posed.result p c.requires.quarters i

pub returns-clause-undone : goal.returns-clause-undone
returns-clause-undone c = λ p.
    let back = c.quarters_back-quarter.result in
    let i : IsInverse c.args.self.now c.posed.result = record {
      place = c.posed.ensures.place ∙ c.opposite.ensures.value ∙ ap negated (c.turn-place.ensures.value ∙ ap (turned back) (c.flip.ensures.value ∙ ap (flipped c.args.self.now.flip) c.place.ensures.place) ∙ ap (λ n. turned n (flipped c.args.self.now.flip (place_of c.args.self.now))) c.quarters_back-quarter.ensures.value);
      quarter = c.posed.ensures.quarter ∙ c.quarters_back-quarter.ensures.value;
      flip = c.posed.ensures.flip;
    } in
    undone c.args.self.now c.posed.result p c.requires.quarters i
