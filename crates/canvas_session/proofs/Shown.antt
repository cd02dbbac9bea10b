-- Windows that there are.
use Rattle.std.proofs.Common.{◌≡◌, ℕ, ℤ, Option, None, Some}
use Rattle.canvas_plane.specs.declared.windows.Window.{Window}
use Rattle.canvas_plane.specs.declared.windows.WindowFault.{WindowFault}
use Rattle.canvas_plane.specs.Window.{IsWindowAt}
use Rattle.canvas_look.specs.Seen.{Seen}
use Rattle.canvas_session.specs.Response.{Response}
use Rattle.canvas_session.specs.Transcript.{Shows, ShowsUnless}

-- a window that is not refused, and its picture
pub shows_taken : (fault : Option WindowFault) (workers : ℕ) (s : Seen) (level : ℕ) (x y : ℤ) (w h : ℕ) (a : Response) (t : Seen) (window : Window)
    → fault ≡ None → IsWindowAt level x y w h window → Shows workers s window a t → ShowsUnless fault workers s level x y w h a t
shows_taken None workers s level x y w h a t window is place shows = (window, place, shows)
shows_taken (Some fault) workers s level x y w h a t window is place shows = absurd (cc is)
