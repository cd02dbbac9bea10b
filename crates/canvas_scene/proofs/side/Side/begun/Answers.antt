use Rattle.std.proofs.Common.{◌≤◌, ◌+◌, ◌-◌, ◌/◌, ◌^◌, subst, sym, rules, FitsSigned, ℕ}
use Rattle.std.specs.Int.{w64}
use Rattle.std.proofs.lemmas.Int.{to_z-of_z}
use Rattle.canvas_scene.specs.Places.{cell_of}
use Rattle.canvas_scene.proofs.Sides.{begun-most, begun-past}
use Rattle.canvas_scene.proofs.side.Side.begun.Goals as goal

pub returns : goal.returns
returns c =
    let side = c.args.self.now in
    let at : FitsSigned w64 c.args.at = search rules in
    let places = simp to_z-of_z at c.offset.ensures.places in
    let P : ℕ → Type 0 = λ u. (c.offset.result + (u - 1)) / 2 ^ side.shift ≤ 32 in
    record {
      bound = subst P (sym c.cell.ensures) (begun-most side.shift c.offset.result c.offset.ensures.bound);
      past = λ x on h. begun-past side.start c.args.at x side.shift c.offset.result (places x on) (subst (λ (u : ℕ). (c.offset.result + (u - 1)) / 2 ^ side.shift ≤ cell_of side.start side.shift x) c.cell.ensures h);
    }
