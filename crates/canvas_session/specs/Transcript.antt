-- Which responses a board may give to a list of requests.
use Rattle.std.specs.Prelude.{◌≡◌, ℕ, ℤ, pos, ◌*ℤ◌, List, [], ◌∷◌, Option, None, Some, Result, Ok, Err}
use Rattle.canvas_plane.specs.declared.windows.Window.{Window}
use Rattle.canvas_plane.specs.declared.windows.WindowFault.{WindowFault}
use Rattle.canvas_plane.specs.Limits.{window_fault, window_fault_code}
use Rattle.canvas_plane.specs.Window.{IsWindowAt}
use Rattle.canvas_wire.specs.declared.request.Request.{Request}
use Rattle.canvas_wire.specs.declared.request.Request.TheVariants.{Edit, Tile, Patch, Point, Export}
use Rattle.canvas_wire.specs.declared.fault.WireFault.{WireFault}
use Rattle.canvas_wire.specs.Faults.{Gives, fault_code}
use Rattle.canvas_wire.specs.Requests.{request_of}
use Rattle.canvas_wire.specs.Replies.{refused}
use Rattle.canvas_look.specs.declared.answers.Edited.{Edited}
use Rattle.canvas_look.specs.declared.answers.Picture.{Picture}
use Rattle.canvas_look.specs.declared.answers.Dot.{Dot}
use Rattle.canvas_look.specs.declared.answers.Saved.{Saved}
use Rattle.canvas_look.specs.declared.fault.BoardFault.{BoardFault}
use Rattle.canvas_look.specs.Seen.{Seen}
use Rattle.canvas_look.specs.Steps.{Edits, Looks, Paints, Saves}
use Rattle.canvas_session.specs.Response.{Response, bare, edit_response, picture_response, point_response, saved_response}

-- the picture of a window by so many workers
pub record Shows (workers : ℕ) (s : Seen) (window : Window) (a : Response) (t : Seen) : Type 0 where
  pub result : Result Picture BoardFault
  pub step : Paints s window workers result t
  pub answer : a ≡ picture_response result

-- the picture of a window, or why there is no such window
abbrev pub ShowsUnless : Option WindowFault → ℕ → Seen → ℕ → ℤ → ℤ → ℕ → ℕ → Response → Seen → Type 0
ShowsUnless None workers s level x y w h a t = (window : Window) × IsWindowAt level x y w h window × Shows workers s window a t
ShowsUnless (Some fault) workers s level x y w h a t = (a ≡ bare (refused (window_fault_code fault))) × (t ≡ s)

-- the picture of the window of this level, place and sides, if it is one
abbrev pub ShowsAt : ℕ → Seen → ℕ → ℤ → ℤ → ℕ → ℕ → Response → Seen → Type 0
ShowsAt workers s level x y w h a t = ShowsUnless (window_fault level x y w h) workers s level x y w h a t

-- what one request, or the fault of its line, is answered with, and what board it leaves
abbrev pub Step : ℕ → Seen → Result Request WireFault → Response → Seen → Type 0
Step workers s (Ok (Edit edit)) a t = (result : Result Edited BoardFault) × Edits s edit result t × (a ≡ edit_response result)
Step workers s (Ok (Tile level col row)) a t = ShowsAt workers s level (pos 256 *ℤ col) (pos 256 *ℤ row) 256 256 a t
Step workers s (Ok (Patch level x y w h)) a t = ShowsAt workers s level x y w h a t
Step workers s (Ok (Point x y)) a t = (result : Result Dot BoardFault) × Looks s x y result t × (a ≡ point_response result)
Step workers s (Ok Export) a t = (result : Result Saved BoardFault) × Saves s result t × (a ≡ saved_response result)
Step workers s (Err fault) a t = (a ≡ bare (refused (fault_code fault))) × (t ≡ s)

-- A line is read as its request, its first fault, or, where memory is refused, as none; and what it is read as is answered.
abbrev pub Answers : ℕ → Seen → List ℕ → Response → Seen → Type 0
Answers workers s line a t = (read : Result Request WireFault) × Gives read (request_of line) × Step workers s read a t

-- each of these lines was read so
abbrev pub AreRead : List (List ℕ) → List (Result Request WireFault) → Type 0
AreRead [] [] = Unit {0}
AreRead (line ∷ lines) (read ∷ reads) = Gives read (request_of line) × AreRead lines reads
AreRead [] (read ∷ reads) = ⊥
AreRead (line ∷ lines) [] = ⊥

-- the requests were answered in turn
abbrev pub IsTranscript : ℕ → Seen → List (Result Request WireFault) → List Response → Seen → Type 0
IsTranscript workers s [] [] t = t ≡ s
IsTranscript workers s (r ∷ rs) (a ∷ more) t = (mid : Seen) × Step workers s r a mid × IsTranscript workers mid rs more t
IsTranscript workers s [] (a ∷ more) t = ⊥
IsTranscript workers s (r ∷ rs) [] t = ⊥
