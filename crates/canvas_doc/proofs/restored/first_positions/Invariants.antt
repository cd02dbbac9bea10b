use Rattle.std.proofs.Common.{◌≡◌, ℕ, take}
use Rattle.std.specs.Ordering.{nat_cmp}
use Rattle.std.specs.BTreeMap.{get}
use Rattle.canvas_doc.specs.Listed.{position_of}
use Rattle.canvas_doc.proofs.restored.first_positions.Given as goal

abbrev pub invariant-loop-position : goal.invariant-loop-position
invariant-loop-position l = (id : ℕ) → get nat_cmp l.firsts id ≡ position_of id (take l.position l.records)
