-- The way from a parent up to the page.
use Rattle.std.specs.Prelude.{ℕ, ◌≡◌, ◌≤◌, ◌^◌, List, Option, None}
use Rattle.canvas_plane.specs.declared.Point.{Point}
use Rattle.canvas_plane.specs.Motion.{carry, reach_of}
use Rattle.canvas_doc.specs.declared.ancestry.Way.{Way}
use Rattle.canvas_record.specs.declared.records.Parent.{Parent}
use Rattle.canvas_record.specs.declared.records.Parent.TheVariants.{Page, Shape}
use Rattle.canvas_record.specs.declared.records.Record.{Record}
use Rattle.canvas_record.specs.Contents.{record_of}
use Rattle.canvas_record.specs.Damage.{to_page}
use Rattle.canvas_record.specs.Depth.{depth_of}
use Rattle.canvas_record.specs.Effect.{is_below}

-- the record of a parent; the page has none
abbrev pub holder_in : Parent → List Record → Option Record
holder_in Page rs = None
holder_in (Shape id) rs = record_of id rs

-- what lies between a parent and the page within so many steps, where a shape of this id hangs there or is to
pub record IsWay (rs : List Record) (id steps : ℕ) (parent : Parent) (way : Way) : Type 0 where
  pub depth : way.depth ≡ depth_of steps rs parent
  pub own : way.has_own ≡ is_below steps id rs parent
  pub carries : (q : Point) → carry way.pose q ≡ to_page steps rs parent q
  pub quarter : way.pose.quarter ≤ 3
  pub reach : reach_of way.pose ≤ 2 ^ 25
  pub small : way.depth ≤ 32
