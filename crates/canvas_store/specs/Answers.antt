-- What a store answers.
use Rattle.std.specs.Prelude.{◌≡◌, ◌≢◌, ℕ, List, ◌++◌, codes, decimal, length}
use Rattle.canvas_store.specs.declared.fault.StoreFault.{StoreFault}
use Rattle.canvas_store.specs.declared.fault.StoreFault.TheVariants as fault
use Rattle.canvas_store.specs.declared.held.HeldLine.{HeldLine}

-- all since the last one is kept
abbrev pub ok_text : List ℕ
ok_text = codes "ok\n"

-- the line of a lease: its epoch, the newest generation, and how many bytes of the opening and of the journal follow
abbrev pub held_text : HeldLine → List ℕ
held_text h = codes "held " ++ decimal h.epoch ++ codes " " ++ decimal h.generation ++ codes " " ++ decimal h.opening ++ codes " " ++ decimal h.journal ++ codes "\n"

-- the line and the bytes of a lease
abbrev pub held_message : ℕ → ℕ → List ℕ → List ℕ → List ℕ
held_message epoch generation opening journal =
    held_text (record { epoch = epoch; generation = generation; opening = length opening; journal = length journal }) ++ (opening ++ journal)

-- the lease lasts for so many milliseconds
abbrev pub lasts_text : ℕ → List ℕ
lasts_text time = codes "lasts " ++ decimal time ++ codes "\n"

-- why a store does not do what it was asked, by its line without the LF
abbrev pub Tells : List ℕ → StoreFault → Type 0
Tells line (fault.Busy words) = line ≡ codes "busy " ++ words.bytes
Tells line (fault.Refused words) = line ≡ codes "error " ++ words.bytes
Tells line (fault.Lost words) = line ≡ codes "lost " ++ words.bytes
Tells line fault.Strange = (words : List ℕ) → (line ≢ codes "busy " ++ words) × (line ≢ codes "error " ++ words) × (line ≢ codes "lost " ++ words)
Tells line (fault.Io error) = ⊥
Tells line fault.Ended = ⊥
Tells line fault.Memory = ⊥
