-- What a crash may leave of a generation that is being made.
use Rattle.std.specs.Prelude.{◌≡◌, ◌≢◌, ◌⊎◌, ◌&&◌, ◌<◌, ℕ, Bool, true, false, List, [], ◌∷◌, ◌++◌, Option, Some, IfSome}
use Rattle.canvas_folder.specs.declared.generation.Generation.{Generation}
use Rattle.canvas_folder.specs.declared.step.Step.{Step}
use Rattle.canvas_folder.specs.declared.step.Step.TheVariants.{MakeFolder, KeepFolder, WriteOpening, KeepOpening, NameOpening, KeepNames, MakeJournal, KeepJournal}
use Rattle.canvas_folder.specs.Generations.{IsServed}

-- what stands under the name of the opening
pub data Opening : Type 0 where
  -- nothing
  absent : Opening
  -- one that a making before left there
  older : Opening
  -- the new one, of which some bytes may be missing or wrong
  torn : Opening
  -- the new one, whole
  whole : Opening

-- what a crash leaves
pub record Left : Type 0 where
  pub opening : Opening
  pub has_journal : Bool

-- what was done, and what of it is on the disk
pub record Done : Type 0 where
  pub folder : Bool
  pub folder_kept : Bool
  -- the opening's bytes are written
  pub written : Bool
  pub written_kept : Bool
  -- it has its name
  pub named : Bool
  pub named_kept : Bool
  pub journal : Bool
  pub journal_kept : Bool
  -- the journal's name is on the disk
  pub journal_named : Bool

-- nothing is done
abbrev pub undone : Done
undone = record {
  folder = false;
  folder_kept = false;
  written = false;
  written_kept = false;
  named = false;
  named_kept = false;
  journal = false;
  journal_kept = false;
  journal_named = false;
}

-- after a step
abbrev pub after : Done → Step → Done
after d MakeFolder = record d { folder = true }
after d KeepFolder = record d { folder_kept = d.folder }
after d WriteOpening = record d { written = true; written_kept = false; named = false; named_kept = false }
after d KeepOpening = record d { written_kept = d.written }
after d NameOpening = record d { named = d.written; named_kept = false }
after d KeepNames = record d { named_kept = d.named; journal_named = d.journal }
after d MakeJournal = record d { journal = true; journal_kept = false; journal_named = false }
after d KeepJournal = record d { journal_kept = d.journal }

abbrev pub after_all : Done → List Step → Done
after_all d [] = d
after_all d (s ∷ ss) = after_all (after d s) ss

-- a crash may leave this: what is not on the disk may be there or not
pub record MayLeave (d : Done) (c : Left) : Type 0 where
  pub opening_stays : (d.folder_kept && d.named_kept) ≡ true → c.opening ≢ absent
  pub older_goes : d.named_kept ≡ true → c.opening ≢ older
  pub torn_before_kept : c.opening ≡ torn → (d.named ≡ true) × (d.written_kept ≡ false)
  pub whole_after_named : c.opening ≡ whole → d.named ≡ true
  pub journal_made : c.has_journal ≡ true → d.journal ≡ true
  pub journal_stays : (d.folder_kept && d.journal_kept && d.journal_named) ≡ true → c.has_journal ≡ true

-- a crash at some moment of these steps leaves this; during a step it leaves what it may leave before or after it
abbrev pub LeftBy : Done → List Step → Left → Type 0
LeftBy d [] c = MayLeave d c
LeftBy d (s ∷ ss) c = MayLeave d c ⊎ LeftBy (after d s) ss c

-- no half of an opening has its name, and a journal stands only beside the new opening
pub record IsSound (c : Left) : Type 0 where
  pub not_torn : c.opening ≢ torn
  pub journal_last : c.has_journal ≡ true → c.opening ≡ whole

abbrev pub LeavesSound : List Step → Type 0
LeavesSound asked = (c : Left) → LeftBy undone asked c → IsSound c

abbrev pub is_there : Opening → Bool
is_there absent = false
is_there older = true
is_there torn = true
is_there whole = true

-- a generation that is found after a crash
pub record IsFound (n : ℕ) (c : Left) (g : Generation) : Type 0 where
  pub number : g.number ≡ n
  pub opening : g.has_opening ≡ is_there c.opening
  pub journal : g.has_journal ≡ c.has_journal

-- beside generations of which a lower one is served, or none
pub record IsNext (before : List Generation) (served : Option ℕ) (n : ℕ) : Type 0 where
  pub serves : IsServed before served
  pub above : IfSome served (λ m. m < n)

-- after a crash at some moment the folder serves what it served before, or this generation with the whole opening
abbrev pub LeavesServed : List Step → Type 0
LeavesServed asked = (before : List Generation) (served : Option ℕ) (n : ℕ) → IsNext before served n
    → (c : Left) → LeftBy undone asked c → (g : Generation) → IsFound n c g
    → IsServed (before ++ g ∷ []) served ⊎ (IsServed (before ++ g ∷ []) (Some n) × (c.opening ≡ whole))

-- after a crash behind these steps it serves this generation, with the whole opening
abbrev pub LeavesWhole : List Step → Type 0
LeavesWhole asked = (before : List Generation) (served : Option ℕ) (n : ℕ) → IsNext before served n
    → (c : Left) → MayLeave (after_all undone asked) c → (g : Generation) → IsFound n c g
    → IsServed (before ++ g ∷ []) (Some n) × (c.opening ≡ whole)
