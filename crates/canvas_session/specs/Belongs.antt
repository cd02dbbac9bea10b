-- That all that a board is asked and answers belongs to one history.
use Rattle.std.specs.Prelude.{◌≡◌, ℕ, ℤ, ◌+◌, ◌<◌, ◌≤◌, pos, ◌*ℤ◌, true, false, List, [], ◌∷◌, ◌++◌, ◌⊎◌, length, take, Option, None, Some, Result, Ok, Err}
use mathlib.Core.List.{IsPrefix}
use Rattle.canvas_plane.specs.declared.windows.Window.{Window}
use Rattle.canvas_plane.specs.declared.windows.WindowFault.{WindowFault}
use Rattle.canvas_plane.specs.Limits.{window_fault, window_fault_code}
use Rattle.canvas_plane.specs.Window.{IsWindowAt}
use Rattle.canvas_record.specs.declared.edits.Change.{Change}
use Rattle.canvas_record.specs.declared.edits.Edit.{Edit as AnEdit}
use Rattle.canvas_record.specs.declared.refusals.Refusal.{Refusal}
use Rattle.canvas_record.specs.Contents.{Contents}
use Rattle.canvas_record.specs.Decision.{decision_of}
use Rattle.canvas_record.specs.Effect.{new_id}
use Rattle.canvas_record.specs.History.{replay_of, AllFit}
use Rattle.canvas_record.specs.Picture.{colour}
use Rattle.canvas_record.specs.Refused.{refusal_code}
use Rattle.canvas_paint.specs.Workers.{are_workers}
use Rattle.canvas_json.specs.Saved.{saved_text_of}
use Rattle.canvas_wire.specs.declared.request.Request.{Request}
use Rattle.canvas_wire.specs.declared.request.Request.TheVariants.{Edit, Tile, Patch, Point, Export}
use Rattle.canvas_wire.specs.declared.fault.WireFault.{WireFault}
use Rattle.canvas_wire.specs.Faults.{fault_code}
use Rattle.canvas_wire.specs.Replies.{Said, created, edited, body, point, refused, behind}
use Rattle.canvas_look.specs.Raster.{file_of}
use Rattle.canvas_look.specs.Seen.{Seen}
use Rattle.canvas_look.specs.Steps.{WantsMemory}
use Rattle.canvas_session.specs.Response.{Response, bare, made}

-- the document after the first n changes of a history
abbrev pub document_at : Contents → List Change → ℕ → Contents
document_at opening history n = replay_of opening (take n history)

-- what a board sees there
abbrev pub seen_at : Seen → List Change → ℕ → Seen
seen_at b history n = record { opening = b.opening; limit = b.limit; front = take n history; alone = b.alone }

-- bytes as a body, with their count and a version
abbrev pub full : List ℕ → ℕ → Response
full bytes n = record { reply = body (length bytes) n; follows = bytes }

-- how many changes were made for a reply: one if an edit was accepted
abbrev pub changes_of : Said → ℕ
changes_of (created id version) = 1
changes_of (edited version) = 1
changes_of (body bytes version) = 0
changes_of (point colour version) = 0
changes_of (refused code) = 0
changes_of (behind desk front) = 0

-- how many changes were made for these answers
abbrev pub changes_in : List Response → ℕ
changes_in [] = 0
changes_in (a ∷ more) = changes_of a.reply + changes_in more

-- Change n is what is decided of the edit at the document before it. The answer names n, and the id of the shape that the change makes, if it makes one.
pub record IsAccepted (opening : Contents) (history : List Change) (n : ℕ) (edit : AnEdit) (a : Response) : Type 0 where
  pub before : ℕ
  pub change : Change
  pub number : n ≡ before + 1
  pub stands : take n history ≡ take before history ++ change ∷ []
  pub decided : decision_of edit (document_at opening history before) ≡ Ok change
  pub answer : a ≡ bare (made (new_id change) n)

-- there is room for a change, and at this document the edit is refused, by this number
abbrev pub IsRefused : ℕ → Contents → ℕ → AnEdit → Response → Type 0
IsRefused limit d n edit a = (why : Refusal) × (n < limit) × (decision_of edit d ≡ Err why) × (a ≡ bare (refused (refusal_code why)))

-- all versions are spent
abbrev pub IsSpent : ℕ → ℕ → Response → Type 0
IsSpent limit n a = (n ≡ limit) × (a ≡ bare (refused 16))

-- a refusal with this code, at a board that is as it was after the answer before
abbrev pub Stays : ℕ → ℕ → ℕ → Response → Type 0
Stays code m n a = (n ≡ m) × (a ≡ bare (refused code))

-- memory was refused, and nothing else stood against the edit there, or where others had gone on from there
abbrev pub HasNoRoom : Seen → List Change → ℕ → ℕ → AnEdit → Response → Type 0
HasNoRoom b history m n edit a = WantsMemory (seen_at b history n) edit × Stays 1 m n a

-- the desk is another document's, or behind what the board has seen: only where others edit too
abbrev pub IsApart : Seen → ℕ → ℕ → Response → Type 0
IsApart b m n a = (b.alone ≡ false) × (Stays 18 m n a ⊎ ((desk : ℕ) × (front : ℕ) × (n ≡ m) × (n ≤ front) × (desk < front) × (a ≡ bare (behind desk front))))

-- the document could not be entered: only where others edit too
abbrev pub HasNoView : Seen → ℕ → ℕ → Response → Type 0
HasNoView b m n a = (b.alone ≡ false) × Stays 33 m n a

-- the number of workers is none
abbrev pub HasNoWorkers : ℕ → ℕ → ℕ → Response → Type 0
HasNoWorkers workers m n a = (are_workers workers ≡ false) × Stays 31 m n a

-- the picture of the window of this level, place and sides, with number n, or why there is none
abbrev pub IsShown : Option WindowFault → ℕ → Seen → Contents → ℕ → ℕ → ℕ → ℤ → ℤ → ℕ → ℕ → Response → Type 0
IsShown None workers b d m n level x y w h a =
    HasNoWorkers workers m n a
    ⊎ ((are_workers workers ≡ true)
    × (((window : Window) × IsWindowAt level x y w h window × (a ≡ full (file_of d window) n)) ⊎ (HasNoView b m n a ⊎ Stays 1 m n a)))
IsShown (Some fault) workers b d m n level x y w h a = Stays (window_fault_code fault) m n a

-- what a request comes to after the first n changes, where the answer before it came after the first m
abbrev pub ComesTo : ℕ → Seen → List Change → ℕ → ℕ → Result Request WireFault → Response → Type 0
ComesTo workers b history m n (Ok (Edit edit)) a =
    IsAccepted b.opening history n edit a
    ⊎ (IsRefused b.limit (document_at b.opening history n) n edit a
    ⊎ (IsSpent b.limit n a ⊎ (HasNoRoom b history m n edit a ⊎ (IsApart b m n a ⊎ HasNoView b m n a))))
ComesTo workers b history m n (Ok (Tile level col row)) a =
    IsShown (window_fault level (pos 256 *ℤ col) (pos 256 *ℤ row) 256 256) workers b (document_at b.opening history n) m n level (pos 256 *ℤ col) (pos 256 *ℤ row) 256 256 a
ComesTo workers b history m n (Ok (Patch level x y w h)) a = IsShown (window_fault level x y w h) workers b (document_at b.opening history n) m n level x y w h a
ComesTo workers b history m n (Ok (Point x y)) a = (a ≡ bare (point (colour (document_at b.opening history n).records x y) n)) ⊎ HasNoView b m n a
ComesTo workers b history m n (Ok Export) a = (a ≡ full (saved_text_of (document_at b.opening history n)) n) ⊎ (HasNoView b m n a ⊎ Stays 1 m n a)
ComesTo workers b history m n (Err fault) a = Stays (fault_code fault) m n a

-- The answer is given at number n, after one at number m. A change that was made for it came since. Where nobody else edits, no other came.
pub record StandsAt (workers : ℕ) (b : Seen) (history : List Change) (m n : ℕ) (r : Result Request WireFault) (a : Response) : Type 0 where
  pub since : m + changes_of a.reply ≤ n
  pub only : b.alone ≡ true → n ≡ m + changes_of a.reply
  pub comes : ComesTo workers b history m n r a

-- Each answer stands at a number, none before that of the answer before it, and all within the history. Where nobody else edits, it ends there.
abbrev pub StandInTurn : ℕ → Seen → List Change → ℕ → List (Result Request WireFault) → List Response → Type 0
StandInTurn workers b history m [] [] = (m ≤ length history) × (b.alone ≡ true → length history ≡ m)
StandInTurn workers b history m (r ∷ rs) (a ∷ more) = (n : ℕ) × StandsAt workers b history m n r a × StandInTurn workers b history n rs more
StandInTurn workers b history m [] (a ∷ more) = ⊥
StandInTurn workers b history m (r ∷ rs) [] = ⊥

-- What the board b was asked and answered belongs to the history: it begins with what b had seen, is one that b may see, and each answer is what its request comes
-- to after so many of its changes.
pub record BelongsTo (workers : ℕ) (b : Seen) (history : List Change) (requests : List (Result Request WireFault)) (answers : List Response) : Type 0 where
  pub begins : IsPrefix b.front history
  pub fits : AllFit b.opening history
  pub within : length history ≤ b.limit
  pub numbers : StandInTurn workers b history (length b.front) requests answers
