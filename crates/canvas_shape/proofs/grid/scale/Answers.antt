use Rattle.std.proofs.Common.{◌≡◌, ◌≤◌, ◌^◌, ◌*◌, ◌%◌, ap, ◌∙◌, arith, subst, sym}
use Rattle.std.proofs.lemmas.Nat.{one_shl}
use Rattle.canvas_shape.proofs.Grids.{scale-most}
use Rattle.canvas_shape.proofs.grid.scale.Goals as goal

pub returns-clause-bound : goal.returns-clause-bound
returns-clause-bound c =
    let is : 1 * 2 ^ c.from.result % 2 ^ 32 ≡ 2 ^ c.args.level = one_shl c.from.result 32 (omega (arith, c.requires, c.from.ensures)) ∙ ap (λ k. 2 ^ k) c.from.ensures in
    subst (λ n. n ≤ 64) (sym is) (scale-most c.args.level c.requires)
