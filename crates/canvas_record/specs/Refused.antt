-- The numbers of refusals.
use Rattle.std.specs.Prelude.{ℕ}
use Rattle.canvas_record.specs.declared.refusals.Refusal.{Refusal}
use Rattle.canvas_record.specs.declared.refusals.Refusal.TheVariants.{OutOfMemory, NoSuchShape, NoSuchParent, NotAContainer, Cycle, TooDeep, TooMany, BadSize, BadPose, BadPolygon, SpotNotSibling, IndexTaken, NoRoom, WrongKind, IdsSpent}

-- the number of a refusal, by which replies name it
abbrev pub refusal_code : Refusal → ℕ
refusal_code OutOfMemory = 1
refusal_code NoSuchShape = 2
refusal_code NoSuchParent = 3
refusal_code NotAContainer = 4
refusal_code Cycle = 5
refusal_code TooDeep = 6
refusal_code TooMany = 7
refusal_code BadSize = 8
refusal_code BadPose = 9
refusal_code BadPolygon = 10
refusal_code SpotNotSibling = 11
refusal_code IndexTaken = 12
refusal_code NoRoom = 13
refusal_code WrongKind = 14
refusal_code IdsSpent = 15
