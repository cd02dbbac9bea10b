use Rattle.std.proofs.Common.{◌≡◌, ◌<◌, ◌≤◌, ◌+◌, length, arith, rules}
use Rattle.canvas_line.specs.Seats.{Begins}
use Rattle.canvas_look.proofs.Prefixes.{prefix_length}
use Rattle.canvas_board.proofs.Logging.{log-goes-on}
use Rattle.canvas_board.proofs.damage_log.DamageLog.go_on.Goals.{in-Some, in-None}
use Rattle.canvas_board.proofs.damage_log.DamageLog.go_on.Goals as goal

pub invariant_of-self : goal.invariant_of-self
invariant_of-self g c =
    let i = c.self.inside in
    let t = c.args.at in
    let v = c.args.version.now in
    let left = c.match-checked_sub.left in
    let on : Begins i.at t = c.begins.ensures.begins (search rules) in
    let later : i.number ≤ v.number = omega (arith, c.self.invariant.0, prefix_length i.at.front t.front on.0, c.requires.number) in
    let within : left ≤ length i.told.items = elim c.match-checked_sub.branch [
      | in-Some w ↦ omega (arith, w.left-is, w.saturating_sub-left.ensures, w.len-in-Some.ensures.len)
      | in-None w ↦ omega (arith, w.left-is)
    ] in
    let meets : 0 < left → left + length v.recent + i.number ≡ length i.told.items + v.number = elim c.match-checked_sub.branch [
      | in-Some w ↦ λ some. omega (arith, some, later, w.left-is, w.saturating_sub-left.ensures, w.len-in-Some.ensures.len, w.in-Some.ensures.0, w.in-Some.ensures.1, c.len.ensures)
      | in-None w ↦ λ some. absurd (omega (arith, some, w.left-is))
    ] in (
      c.requires.number,
      log-goes-on i.at t v i.number left i.told c.truncate_back.new.self c.extend_from_slice.new.self c.extend_from_slice-2.new.self c.as_slices.result.0.now c.as_slices.result.1.now on c.requires c.self.invariant.0
          c.self.invariant.1 c.as_slices.ensures within meets c.truncate_back.ensures c.extend_from_slice.ensures c.extend_from_slice-2.ensures,
    )
