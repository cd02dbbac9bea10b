use Rattle.std.proofs.Common.{◌≡◌, ◌+◌, ◌-◌, ap, ◌∙◌, arith}
use Rattle.std.specs.Prelude.{nat_lt}
use Rattle.canvas_plane.specs.Motion.{not_same}
use Rattle.canvas_shape.specs.Flags.{is_held}
use Rattle.canvas_shape.proofs.edge_flags.EdgeFlags.toggle_before.Goals as goal

pub returns-then-place-gt0 : goal.returns-then-place-gt0
returns-then-place-gt0 c = λ i.
    let same : c.args.place - 1 + 1 ≡ c.args.place = omega arith in
    c.toggle_through.ensures i ∙ ap (λ n. not_same (is_held c.args.self.now.words i) (nat_lt i n)) same
