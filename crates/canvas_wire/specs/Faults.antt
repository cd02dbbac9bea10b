-- The numbers of the faults, and what a reader of requests may answer.
use Rattle.std.specs.Prelude.{◌≡◌, ℕ, Option, Some, None, Result, Ok, Err}
use Rattle.canvas_json.specs.declared.fault.TextFault.{TextFault}
use Rattle.canvas_json.specs.declared.fault.TextFault.TheVariants as text
use Rattle.canvas_wire.specs.declared.fault.WireFault.{WireFault}
use Rattle.canvas_wire.specs.declared.fault.WireFault.TheVariants.{BadJson, NotObject, BadVerb, BadField, ExtraField, OutOfMemory}

-- the number of a fault
abbrev pub fault_code : WireFault → ℕ
fault_code BadJson = 50
fault_code NotObject = 51
fault_code BadVerb = 52
fault_code BadField = 53
fault_code ExtraField = 54
fault_code OutOfMemory = 1

-- a text that has no tape
abbrev pub fault_of_text : TextFault → WireFault
fault_of_text text.NotJson = BadJson
fault_of_text text.OutOfMemory = OutOfMemory

-- the value, or the fault where there is none
abbrev pub or_fault : {T : Type 0} → WireFault → Option T → Result T WireFault
or_fault fault None = Err fault
or_fault fault (Some x) = Ok x

-- the next step, unless one before it found a fault
infixl 10 ◌>>=◌
abbrev pub ◌>>=◌ : {S T : Type 0} → Result S WireFault → (S → Result T WireFault) → Result T WireFault
(Ok x) >>= next = next x
(Err fault) >>= next = Err fault

-- the fault is the one that is wanted, unless memory was refused before
abbrev pub Refuses : {T : Type 0} → WireFault → Result T WireFault → Type 0
Refuses OutOfMemory wanted = Unit {0}
Refuses BadJson wanted = wanted ≡ Err BadJson
Refuses NotObject wanted = wanted ≡ Err NotObject
Refuses BadVerb wanted = wanted ≡ Err BadVerb
Refuses BadField wanted = wanted ≡ Err BadField
Refuses ExtraField wanted = wanted ≡ Err ExtraField

-- what is given is what is wanted, unless memory was refused
abbrev pub Gives : {T : Type 0} → Result T WireFault → Result T WireFault → Type 0
Gives (Ok x) wanted = wanted ≡ Ok x
Gives (Err fault) wanted = Refuses fault wanted
