use Rattle.std.proofs.Common.{ap, sym, subst, ◌∙◌, ◌≡◌, ◌≤◌, ◌^◌}
use Rattle.canvas_plane.specs.Motion.{negated, size_of}
use Rattle.canvas_plane.proofs.Turns.{size-turned, turned-even, turned-kept, turned-odd}
use Rattle.canvas_plane.proofs.motion.turn.Goals as goal
use Rattle.canvas_plane.proofs.motion.turn.Goals.{then-quarter-eq1, else-quarter-eq1}

pub returns-then-quarter-ge2-clause-size : goal.returns-then-quarter-ge2-clause-size
returns-then-quarter-ge2-clause-size c =
    c.opposite.ensures.size ∙ elim c.if-quarter-eq1.branch [
      | then-quarter-eq1 w ↦ ap size_of (w.once-is ∙ turned-kept c.args.point c.requires.within) ∙ size-turned c.args.point
      | else-quarter-eq1 w ↦ ap size_of w.once-is
    ]

pub returns-then-quarter-ge2-clause-value : goal.returns-then-quarter-ge2-clause-value
returns-then-quarter-ge2-clause-value c =
    c.opposite.ensures.value ∙ elim c.if-quarter-eq1.branch [
      | then-quarter-eq1 w ↦ ap negated (w.once-is ∙ turned-kept c.args.point c.requires.within) ∙ turned-odd c.args.quarter c.args.point c.requires.quarters c.if-quarter-ge2.true w.if-quarter-eq1.true
      | else-quarter-eq1 w ↦ ap negated w.once-is ∙ turned-even c.args.quarter c.args.point c.requires.quarters c.if-quarter-ge2.true w.if-quarter-eq1.false
    ]

pub returns-else-quarter-ge2-clause-size : goal.returns-else-quarter-ge2-clause-size
returns-else-quarter-ge2-clause-size c =
    elim c.if-quarter-eq1.branch [
      | then-quarter-eq1 w ↦ ap size_of (w.once-is ∙ turned-kept c.args.point c.requires.within) ∙ size-turned c.args.point
      | else-quarter-eq1 w ↦ ap size_of w.once-is
    ]

pub opposite-requires : goal.opposite-requires
opposite-requires c =
    let e : size_of c.if-quarter-eq1.once ≡ size_of c.args.point = elim c.if-quarter-eq1.branch [
      | then-quarter-eq1 w ↦ ap size_of (w.once-is ∙ turned-kept c.args.point c.requires.within) ∙ size-turned c.args.point
      | else-quarter-eq1 w ↦ ap size_of w.once-is
    ] in
    subst (λ n. n ≤ 2 ^ 27) (sym e) c.requires.within
