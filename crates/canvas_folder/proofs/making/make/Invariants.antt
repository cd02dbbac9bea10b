use Rattle.std.specs.Prelude.{◌≡◌}
use Rattle.std.proofs.Common.{take}
use Rattle.canvas_folder.specs.declared.making.TheConstants.{STEPS}
use Rattle.canvas_folder.proofs.making.make.Given as goal

abbrev pub invariant-loop-step : goal.invariant-loop-step
invariant-loop-step g l = g.M.Maker.asked l.maker ≡ take l.step-index STEPS
