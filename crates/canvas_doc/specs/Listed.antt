-- Look-ups in a list of records while it is judged.
use Rattle.std.specs.Prelude.{ℕ, ◌≡◌, ◌==◌, List, position, Option, Some, None, Bool}
use Rattle.std.specs.Borrow.{Bor}
use Rattle.std.specs.Ordering.{nat_cmp, ordering_then}
use Rattle.std.specs.declared.cmp.Ordering.{Ordering}
use Rattle.std.specs.Option.{option_cmp}
use Rattle.std.specs.Cmp.Lexicographic.{slice_cmp}
use Rattle.std.specs.BTreeMap.{BTreeMap, get}
use Rattle.std.specs.BTreeSet.{BTreeSet, contains}
use Rattle.canvas_record.specs.declared.records.Parent.{Parent}
use Rattle.canvas_record.specs.declared.records.Parent.TheVariants.{Page, Shape}
use Rattle.canvas_record.specs.declared.records.Record.{Record}

-- the first position of an id
unfoldable pub position_of : ℕ → List Record → Option ℕ
position_of id rs = position (λ r. r.id == id) rs

-- the map has the first position of each id
abbrev pub GivesFirsts : BTreeMap ℕ ℕ → List Record → Type 0
GivesFirsts firsts rs = (id : ℕ) → get nat_cmp firsts id ≡ position_of id rs

-- the id of a shape as a parent, none for the page
abbrev pub holder_of : Parent → Option ℕ
holder_of Page = None
holder_of (Shape id) = Some id

-- a parent and an index, as a set keeps them
abbrev pub PlaceKey : Type 0
PlaceKey = Option ℕ × Bor (List ℕ)

-- their order: by the parent, then by the index
abbrev pub place_cmp : PlaceKey → PlaceKey → Ordering
place_cmp a b = ordering_then (option_cmp nat_cmp a.0 b.0) (slice_cmp nat_cmp a.1.now b.1.now)

abbrev pub place_key : Record → PlaceKey
place_key r = (holder_of r.place.parent, record { ref_ptr = (0, 0); now = r.place.index })

-- the place of r is in the set
unfoldable pub has_place : BTreeSet PlaceKey → Record → Bool
has_place places r = contains place_cmp places (place_key r)
