-- What a reader of texts may answer.
use Rattle.std.specs.Prelude.{◌≡◌, Option, Some, None, Result, Ok, Err}
use Rattle.canvas_json.specs.declared.fault.TextFault.{TextFault}
use Rattle.canvas_json.specs.declared.fault.TextFault.TheVariants.{NotJson, OutOfMemory}

-- there is nothing to be given, unless memory was refused before
abbrev pub Lacks : {T : Type 0} → TextFault → Option T → Type 0
Lacks NotJson wanted = wanted ≡ None
Lacks OutOfMemory wanted = Unit {0}

-- what is given, seen through `view`, is what is wanted, unless memory was refused
abbrev pub GivesSeen : {S T : Type 0} → (S → T) → Result S TextFault → Option T → Type 0
GivesSeen view (Ok x) wanted = wanted ≡ Some (view x)
GivesSeen view (Err fault) wanted = Lacks fault wanted
