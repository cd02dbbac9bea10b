-- Which poses and windows are taken.
use Rattle.std.specs.Prelude.{ℕ, ℤ, ◌≤◌, ◌^◌, Bool, ◌&&◌, cond, nat_le, Option, None, Some}
use Rattle.canvas_plane.specs.declared.Pose.{Pose}
use Rattle.canvas_plane.specs.declared.PoseFault.{PoseFault}
use Rattle.canvas_plane.specs.declared.PoseFault.TheVariants.{BadPose}
use Rattle.canvas_plane.specs.declared.windows.WindowFault.{WindowFault}
use Rattle.canvas_plane.specs.declared.windows.WindowFault.TheVariants.{BadLevel, BadWindow}
use Rattle.canvas_plane.specs.Motion.{reach_of}
use Rattle.canvas_plane.specs.Sides.{is_window, scale_of}

-- the quarter is at most 3, dx and dy are at most 2^20 in size
abbrev pub is_pose : Pose → Bool
is_pose p = nat_le p.quarter 3 && nat_le (reach_of p) (2 ^ 20)

-- why a pose is refused
abbrev pub pose_fault : Pose → Option PoseFault
pose_fault p = cond (is_pose p) None (Some BadPose)

-- the same as facts
pub record IsPose (p : Pose) : Type 0 where
  pub quarter : p.quarter ≤ 3
  pub reach : reach_of p ≤ 2 ^ 20

-- why a window of a level is refused: a level above 6 before all else
abbrev pub window_fault : ℕ → ℤ → ℤ → ℕ → ℕ → Option WindowFault
window_fault level x y w h = cond (nat_le level 6) (cond (is_window (scale_of level) x y w h) None (Some BadWindow)) (Some BadLevel)

-- the number of a window's refusal
abbrev pub window_fault_code : WindowFault → ℕ
window_fault_code BadLevel = 34
window_fault_code BadWindow = 30
