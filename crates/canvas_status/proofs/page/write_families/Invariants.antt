use Rattle.std.proofs.Common.{◌≡◌, ◌++◌, take}
use Rattle.std.specs.List.{flat_map}
use Rattle.canvas_status.specs.Page.{family_text}
use Rattle.canvas_status.proofs.page.write_families.Given as goal

abbrev pub invariant-loop-family : goal.invariant-loop-family
invariant-loop-family l = l.out.items ≡ l.initial.out.items ++ flat_map (family_text l.status) (take l.family-index l.families)
