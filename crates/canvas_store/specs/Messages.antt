-- What a store is sent.
use Rattle.std.specs.Prelude.{ℕ, List, ◌++◌, codes, decimal, length}

-- the document of this name is wanted, with the lease of it
abbrev pub hold_text : List ℕ → List ℕ
hold_text name = codes "hold " ++ name ++ codes "\n"

-- how long the lease of this epoch lasts
abbrev pub lease_text : List ℕ → ℕ → List ℕ
lease_text name epoch = codes "lease " ++ name ++ codes " " ++ decimal epoch ++ codes "\n"

-- a generation begins with this saved document, and with an empty journal
abbrev pub begin_text : ℕ → List ℕ → List ℕ
begin_text generation opening = codes "begin " ++ decimal generation ++ codes " " ++ decimal (length opening) ++ codes "\n" ++ opening

-- these bytes stand at a place of the journal
abbrev pub write_text : ℕ → List ℕ → List ℕ
write_text place bytes = codes "write " ++ decimal place ++ codes " " ++ decimal (length bytes) ++ codes "\n" ++ bytes

-- the journal has this length
abbrev pub cut_text : ℕ → List ℕ
cut_text len = codes "cut " ++ decimal len ++ codes "\n"

-- all since the last one is to be kept
abbrev pub sync_text : List ℕ
sync_text = codes "sync\n"
