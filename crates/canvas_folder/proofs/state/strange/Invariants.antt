use Rattle.std.specs.Prelude.{◌≡◌, false, All}
use Rattle.std.proofs.Common.{take}
use Rattle.canvas_folder.specs.Generations.{is_strange}
use Rattle.canvas_folder.proofs.state.strange.Given as goal

abbrev pub invariant-loop-generation : goal.invariant-loop-generation
invariant-loop-generation l = All (λ g. is_strange l.served g ≡ false) (take l.generation-index l.generations)
