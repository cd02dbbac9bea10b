-- The numbers of the faults, and what a reader of saved documents may answer.
use Rattle.std.specs.Prelude.{◌≡◌, ℕ, Option, Some, None, Result, Ok, Err}
use Rattle.canvas_json.specs.declared.fault.TextFault.{TextFault}
use Rattle.canvas_json.specs.declared.fault.TextFault.TheVariants as text
use Rattle.canvas_saved.specs.declared.fault.StoreFault.{StoreFault}
use Rattle.canvas_saved.specs.declared.fault.StoreFault.TheVariants.{BadJson, BadFormat, BadRecord, BadTree, OutOfMemory}

-- the number of a fault
abbrev pub fault_code : StoreFault → ℕ
fault_code BadJson = 50
fault_code BadFormat = 60
fault_code (BadRecord position) = 61
fault_code (BadTree position) = 62
fault_code OutOfMemory = 1

-- a text that has no tape
abbrev pub fault_of_text : TextFault → StoreFault
fault_of_text text.NotJson = BadJson
fault_of_text text.OutOfMemory = OutOfMemory

-- the value, or the fault where there is none
abbrev pub or_fault : {T : Type 0} → StoreFault → Option T → Result T StoreFault
or_fault fault None = Err fault
or_fault fault (Some x) = Ok x

-- the next step, unless one before it found a fault
infixl 10 ◌>>=◌
abbrev pub ◌>>=◌ : {S T : Type 0} → Result S StoreFault → (S → Result T StoreFault) → Result T StoreFault
(Ok x) >>= next = next x
(Err fault) >>= next = Err fault

-- the fault is the one that is wanted, unless memory was refused before
abbrev pub Refuses : {T : Type 0} → StoreFault → Result T StoreFault → Type 0
Refuses BadJson wanted = wanted ≡ Err BadJson
Refuses BadFormat wanted = wanted ≡ Err BadFormat
Refuses (BadRecord position) wanted = wanted ≡ Err (BadRecord position)
Refuses (BadTree position) wanted = wanted ≡ Err (BadTree position)
Refuses OutOfMemory wanted = Unit {0}

-- what is given is what is wanted, unless memory was refused
abbrev pub Gives : {T : Type 0} → Result T StoreFault → Result T StoreFault → Type 0
Gives (Ok x) wanted = wanted ≡ Ok x
Gives (Err fault) wanted = Refuses fault wanted

-- the same of a value that is seen through `view`
abbrev pub GivesSeen : {S T : Type 0} → (S → T) → Result S StoreFault → Result T StoreFault → Type 0
GivesSeen view (Ok x) wanted = wanted ≡ Ok (view x)
GivesSeen view (Err fault) wanted = Refuses fault wanted
