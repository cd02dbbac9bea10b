use Rattle.std.proofs.Common.{ap}
use Rattle.circular_buffer.specs.Buffer.{Buffer}
use Rattle.canvas_line.specs.declared.recent.Damage.{Damage}
use Rattle.canvas_board.proofs.Logging.{log-begins}
use Rattle.canvas_board.proofs.damage_log.DamageLog.new.Goals as goal

pub invariant_of-result : goal.invariant_of-result
invariant_of-result g c = (
  c.requires.number,
  log-begins c.args.at c.args.version.now c.in_ok-told.told c.extend_from_slice.new.self c.extend_from_slice-2.new.self c.as_slices.result.0.now c.as_slices.result.1.now c.requires c.as_slices.ensures
      (ap (λ (b : Buffer Damage). b.items) c.in_ok-told.ensures) c.extend_from_slice.ensures c.extend_from_slice-2.ensures,
)
