-- What a change does to a document, and which changes fit.
use Rattle.std.specs.Prelude.{ℕ, zero, suc, ◌≡◌, ◌<◌, ◌+◌, List, [], ◌∷◌, ◌++◌, ◌==◌, ◌&&◌, ◌||◌, not, cond, Option, Some, None, Bool, true, false, map, filter, IsSome, count_by, length, slice_index_or, slice_set}
use Rattle.canvas_key.specs.Rank.{fresh_key}
use Rattle.canvas_key.specs.Order.{is_before}
use Rattle.canvas_key.specs.Text.{IsKey}
use Rattle.canvas_record.specs.declared.records.Parent.{Parent}
use Rattle.canvas_record.specs.declared.records.Parent.TheVariants.{Page, Shape}
use Rattle.canvas_record.specs.declared.records.Record.{Record}
use Rattle.canvas_record.specs.declared.edits.Change.{Change}
use Rattle.canvas_record.specs.declared.edits.Change.TheVariants.{Create, Move, Pose, Reshape, Show, Delete, Respace}
use Rattle.canvas_record.specs.Children.{is_child, is_in_front}
use Rattle.canvas_record.specs.Contents.{Contents, IsWellFormed, record_of}

-- the id of the shape that a change makes, if it makes one
abbrev pub new_id : Change → Option ℕ
new_id (Create id kind pose hidden place) = Some id
new_id (Move id place) = None
new_id (Pose id pose) = None
new_id (Reshape id kind) = None
new_id (Show id hidden) = None
new_id (Delete id) = None
new_id (Respace parent) = None

-- the records, with another one at an id
abbrev pub at_id : ℕ → (Record → Record) → List Record → List Record
at_id id change rs = map (λ r. cond (r.id == id) (change r) r) rs

-- the next step, from the record of a parent
abbrev pub is_below_from : ℕ → (Parent → Bool) → Option Record → Bool
is_below_from id up None = false
is_below_from id up (Some r) = (r.id == id) || up r.place.parent

-- the parent is the shape of the id, or following parents from it comes there within so many steps
unfoldable pub is_below : ℕ → ℕ → List Record → Parent → Bool
is_below steps id rs Page = false
is_below zero id rs (Shape p) = false
is_below (suc steps) id rs (Shape p) = is_below_from id (λ q. is_below steps id rs q) (record_of p rs)

-- the shape and all below it
abbrev pub is_in_subtree : ℕ → List Record → Record → Bool
is_in_subtree id rs r = (r.id == id) || is_below 32 id rs r.place.parent

-- how many children of r's parent are behind it
abbrev pub rank_of : List Record → Record → ℕ
rank_of rs r = count_by (λ s. is_child r.place.parent s && is_in_front r s) rs

-- r with the index that stands for its place from the back, if it is a child of p
abbrev pub respaced : Parent → List Record → Record → Record
respaced p rs r = cond (is_child p r) (record r { place = record r.place { index = fresh_key (rank_of rs r) } }) r

-- the indexes of the children of a parent
abbrev pub indexes : Parent → List Record → List (List ℕ)
indexes p rs = map (λ r. r.place.index) (filter (is_child p) rs)

-- how many of the keys come before one
abbrev pub rank_among : List (List ℕ) → List ℕ → ℕ
rank_among keys key = count_by (λ k. is_before k key) keys

-- a record after a change of one shape's place, pose, kind or mark
abbrev pub changed_by : Change → Record → Record
changed_by (Create id kind pose hidden place) r = r
changed_by (Move id place) r = cond (r.id == id) (record r { place = place }) r
changed_by (Pose id pose) r = cond (r.id == id) (record r { pose = pose }) r
changed_by (Reshape id kind) r = cond (r.id == id) (record r { kind = kind }) r
changed_by (Show id hidden) r = cond (r.id == id) (record r { hidden = hidden }) r
changed_by (Delete id) r = r
changed_by (Respace p) r = r

-- the change replaces the record at a position, and no other
pub record ReplacesAt (c : Change) (rs : List Record) (at : ℕ) : Type 0 where
  pub there : at < length rs
  pub only : (d : Record) → map (changed_by c) rs ≡ slice_set rs at (changed_by c (slice_index_or rs at d))

-- the change replaces the record at a position, which is this one
pub record Replaces (c : Change) (rs : List Record) (at : ℕ) (shape : Record) : Type 0 where
  pub there : ReplacesAt c rs at
  pub is : shape ≡ slice_index_or rs at shape

-- the document after a change
abbrev pub effect_of : Change → Contents → Contents
effect_of (Create id kind pose hidden place) d = record { records = d.records ++ record { id = id; kind = kind; place = place; pose = pose; hidden = hidden } ∷ []; next = d.next + 1 }
effect_of (Move id place) d = record d { records = at_id id (λ r. record r { place = place }) d.records }
effect_of (Pose id pose) d = record d { records = at_id id (λ r. record r { pose = pose }) d.records }
effect_of (Reshape id kind) d = record d { records = at_id id (λ r. record r { kind = kind }) d.records }
effect_of (Show id hidden) d = record d { records = at_id id (λ r. record r { hidden = hidden }) d.records }
effect_of (Delete id) d = record d { records = filter (λ r. not (is_in_subtree id d.records r)) d.records }
effect_of (Respace p) d = record d { records = map (respaced p d.records) d.records }

-- the page, or a record that is there
abbrev pub IsThere : Parent → List Record → Type 0
IsThere Page rs = Unit {0}
IsThere (Shape id) rs = IsSome (record_of id rs)

-- what the change names is there, and a new id is the next one
abbrev pub NamesWhatIsThere : Change → Contents → Type 0
NamesWhatIsThere (Create id kind pose hidden place) d = id ≡ d.next
NamesWhatIsThere (Move id place) d = IsSome (record_of id d.records)
NamesWhatIsThere (Pose id pose) d = IsSome (record_of id d.records)
NamesWhatIsThere (Reshape id kind) d = IsSome (record_of id d.records)
NamesWhatIsThere (Show id hidden) d = IsSome (record_of id d.records)
NamesWhatIsThere (Delete id) d = IsSome (record_of id d.records)
NamesWhatIsThere (Respace p) d = IsThere p d.records

-- the change may be made, and leaves a well-formed document
pub record Fits (c : Change) (d : Contents) : Type 0 where
  pub named : NamesWhatIsThere c d
  pub left : IsWellFormed (effect_of c d)

-- the index of a place is a key
abbrev pub HasKey : Change → Type 0
HasKey (Create id kind pose hidden place) = IsKey place.index
HasKey (Move id place) = IsKey place.index
HasKey (Pose id pose) = Unit {0}
HasKey (Reshape id kind) = Unit {0}
HasKey (Show id hidden) = Unit {0}
HasKey (Delete id) = Unit {0}
HasKey (Respace p) = Unit {0}

-- the change gives new indexes and nothing else
abbrev pub SpacesOnly : Change → Type 0
SpacesOnly (Create id kind pose hidden place) = ⊥
SpacesOnly (Move id place) = ⊥
SpacesOnly (Pose id pose) = ⊥
SpacesOnly (Reshape id kind) = ⊥
SpacesOnly (Show id hidden) = ⊥
SpacesOnly (Delete id) = ⊥
SpacesOnly (Respace p) = Unit {0}

-- the change replaces one record
abbrev pub changes_one : Change → Bool
changes_one (Create id kind pose hidden place) = false
changes_one (Move id place) = true
changes_one (Pose id pose) = true
changes_one (Reshape id kind) = true
changes_one (Show id hidden) = true
changes_one (Delete id) = false
changes_one (Respace p) = false
