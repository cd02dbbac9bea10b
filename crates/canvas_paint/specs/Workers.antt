-- Workers of a picture.
use Rattle.std.specs.Prelude.{ℕ, Bool, ◌&&◌, nat_le}
use Rattle.canvas_paint.specs.declared.fault.PaintFault.{PaintFault}
use Rattle.canvas_paint.specs.declared.fault.PaintFault.TheVariants.{BadWorkers, OutOfMemory}

-- a number of workers is 1 to 16
abbrev pub are_workers : ℕ → Bool
are_workers workers = nat_le 1 workers && nat_le workers 16

-- the code of a fault
abbrev pub fault_code : PaintFault → ℕ
fault_code BadWorkers = 31
fault_code OutOfMemory = 1
