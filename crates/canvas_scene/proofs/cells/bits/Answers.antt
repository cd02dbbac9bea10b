use Rattle.std.proofs.Common.{◌∙◌, ◌-◌, ◌^◌, ap, arith}
use Rattle.canvas_scene.specs.Places.{is_bit}
use Rattle.canvas_scene.proofs.Bits.{empty-run, pow_up, run-bit}
use Rattle.canvas_scene.proofs.cells.bits.Goals as goal

pub overflow_sub-result : goal.overflow_sub-result
overflow_sub-result c = omega (arith, pow_up c.args.run.first c.args.run.end (omega arith), c.bit.ensures, c.bit-then-run.ensures)

pub returns-then-run : goal.returns-then-run
returns-then-run c = λ k.
    ap (λ n. is_bit (n - c.bit-then-run.result) k) c.bit.ensures
    ∙ ap (λ n. is_bit (2 ^ c.args.run.end - n) k) c.bit-then-run.ensures
    ∙ run-bit c.args.run.first c.args.run.end k (omega arith)

pub returns-else-run : goal.returns-else-run
returns-else-run c = λ k. empty-run c.args.run.first c.args.run.end k (omega arith)
