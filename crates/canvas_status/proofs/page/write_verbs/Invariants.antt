use Rattle.std.proofs.Common.{◌≡◌, ◌++◌, take}
use Rattle.std.specs.List.{flat_map}
use Rattle.canvas_status.specs.Page.{request_sample}
use Rattle.canvas_status.proofs.page.write_verbs.Given as goal

abbrev pub invariant-loop-verb : goal.invariant-loop-verb
invariant-loop-verb l = l.out.items ≡ l.initial.out.items ++ flat_map (request_sample l.name l.requests) (take l.verb-index l.verbs)
