use Rattle.std.proofs.Common.{take}
use Rattle.canvas_folder.specs.Generations.{IsServed}
use Rattle.canvas_folder.proofs.generation.served.Given as goal

abbrev pub invariant-loop-generation : goal.invariant-loop-generation
invariant-loop-generation l = IsServed (take l.generation-index l.generations) l.highest
