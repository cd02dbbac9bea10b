-- What a document is seen as.
use Rattle.std.specs.Prelude.{ℕ, ◌≡◌, ◌≢◌, ◌<◌, ◌≤◌, ◌^◌, List, [], ◌∷◌, ◌==◌, Option, Some, None, Bool, true, false, ◌&&◌, All, length, zero, suc, find, slice_index_or}
use Rattle.std.specs.List.{AllByRecursion}
use Rattle.canvas_shape.specs.declared.Kind.{Kind}
use Rattle.canvas_shape.specs.declared.Kind.TheVariants.{Group, Frame, Rect, Ellipse, Polygon}
use Rattle.canvas_record.specs.declared.records.Parent.{Parent}
use Rattle.canvas_record.specs.declared.records.Parent.TheVariants.{Page, Shape}
use Rattle.canvas_record.specs.declared.records.Record.{Record}
use Rattle.canvas_record.specs.Tree.{IsInLimits, HavePlaces}

-- records and a next id; a document's records stand in rising id
pub record Contents : Type 0 where
  pub records : List Record
  pub next : ℕ

-- the record of an id
abbrev pub record_of : ℕ → List Record → Option Record
record_of id rs = find (λ r. r.id == id) rs

-- the record of an id stands at a position
abbrev pub StandsAt : List Record → ℕ → ℕ → Type 0
StandsAt rs id at = (at < length rs) × ((d : Record) → record_of id rs ≡ Some (slice_index_or rs at d))

-- the record at a position has the id, and is this one
pub record IsStanding (rs : List Record) (id at : ℕ) (shape : Record) : Type 0 where
  pub there : StandsAt rs id at
  pub found : record_of id rs ≡ Some shape

-- groups and frames have children
abbrev pub is_container : Kind → Bool
is_container Group = true
is_container (Frame w h fill) = true
is_container (Rect w h fill) = false
is_container (Ellipse w h fill) = false
is_container (Polygon points fill) = false

-- the next step, from the record of a parent
abbrev pub reaches_from : (Parent → Bool) → Option Record → Bool
reaches_from up None = false
reaches_from up (Some r) = is_container r.kind && up r.place.parent

-- following parents reaches the page within so many steps, and each is a group or a frame
unfoldable pub reaches_page : ℕ → List Record → Parent → Bool
reaches_page steps rs Page = true
reaches_page zero rs (Shape id) = false
reaches_page (suc steps) rs (Shape id) = reaches_from (λ p. reaches_page steps rs p) (record_of id rs)

-- each id is above those before it
abbrev pub AreRising : List Record → Type 0
AreRising [] = Unit {0}
AreRising (r ∷ rs) = AllByRecursion (λ s. r.id < s.id) rs × AreRising rs

-- no id stands twice
abbrev pub HaveIds : List Record → Type 0
HaveIds rs = (i j : ℕ) (d : Record) → i < j → j < length rs → (slice_index_or rs i d).id ≢ (slice_index_or rs j d).id

-- the most records of a document
abbrev pub most_records : ℕ
most_records = 16384

-- a page tree within the product's limits
pub record IsWellFormed (d : Contents) : Type 0 where
  pub next_above : 1 ≤ d.next
  pub next_below : d.next < 2 ^ 32
  pub few : length d.records ≤ most_records
  pub rising : AreRising d.records
  pub ids : All (λ r. (1 ≤ r.id) × (r.id < d.next)) d.records
  pub limits : All IsInLimits d.records
  pub places : HavePlaces d.records
  pub grounded : All (λ r. reaches_page 31 d.records r.place.parent ≡ true) d.records
