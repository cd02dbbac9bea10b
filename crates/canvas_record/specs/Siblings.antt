-- Siblings, and the index that a spot gives among them.
use Rattle.std.specs.Prelude.{ℕ, ◌==◌, ◌&&◌, not, List, [], ◌∷◌, Option, Some, None, Bool, true, cond, Result, Ok, Err, filter, false}
use Rattle.std.specs.List.{list_any}
use Rattle.canvas_key.specs.Order.{is_before}
use Rattle.canvas_key.specs.Text.{is_same}
use Rattle.canvas_key.specs.Between.{key_between}
use Rattle.canvas_key.specs.declared.KeyFault.{KeyFault}
use Rattle.canvas_record.specs.declared.records.Parent.{Parent}
use Rattle.canvas_record.specs.declared.records.Record.{Record}
use Rattle.canvas_record.specs.declared.edits.Spot.{Spot}
use Rattle.canvas_record.specs.declared.edits.Spot.TheVariants.{Back, Front, Over, At}
use Rattle.canvas_record.specs.declared.refusals.Refusal.{Refusal}
use Rattle.canvas_record.specs.declared.refusals.Refusal.TheVariants.{SpotNotSibling, IndexTaken, NoRoom}
use Rattle.canvas_record.specs.Children.{is_child}
use Rattle.canvas_record.specs.Contents.{record_of}

-- refused, if the test holds; else the rest decides
abbrev pub refused_if : {T : Type 0} → Bool → Refusal → Result T Refusal → Result T Refusal
refused_if true why rest = Err why
refused_if false why rest = rest

-- a child of the parent, but for one shape
abbrev pub is_sibling : ℕ → Parent → Record → Bool
is_sibling own p r = is_child p r && not (r.id == own)

-- the children of a parent but for one shape
abbrev pub siblings : ℕ → Parent → List Record → List Record
siblings own p rs = filter (is_sibling own p) rs

-- the lesser of two indexes, of which the first may be missing
abbrev pub lesser : Option (List ℕ) → List ℕ → List ℕ
lesser None key = key
lesser (Some other) key = cond (is_before key other) key other

-- the greater of the two
abbrev pub greater : Option (List ℕ) → List ℕ → List ℕ
greater None key = key
greater (Some other) key = cond (is_before other key) key other

-- the index is above a bound, or there is none
abbrev pub is_above : Option (List ℕ) → List ℕ → Bool
is_above None key = true
is_above (Some bound) key = is_before bound key

-- the least index above a bound
abbrev pub least_above : Option (List ℕ) → List Record → Option (List ℕ)
least_above bound [] = None
least_above bound (s ∷ rest) = cond (is_above bound s.place.index) (Some (lesser (least_above bound rest) s.place.index)) (least_above bound rest)

-- the greatest index
abbrev pub greatest_index : List Record → Option (List ℕ)
greatest_index [] = None
greatest_index (s ∷ rest) = Some (greater (greatest_index rest) s.place.index)

-- a sibling has the index
abbrev pub is_taken : List ℕ → List Record → Bool
is_taken key among = list_any (λ s. is_same s.place.index key) among

-- an index between two ends is short enough
abbrev pub with_room : Result (List ℕ) KeyFault → Result (List ℕ) Refusal
with_room (Ok key) = Ok key
with_room (Err fault) = Err NoRoom

-- between a sibling and the next greater one, or none
abbrev pub index_over : Option Record → List Record → Result (List ℕ) Refusal
index_over None among = Err SpotNotSibling
index_over (Some s) among = with_room (key_between (Some s.place.index) (least_above (Some s.place.index) among))

-- the index of a spot among siblings
abbrev pub index_at : Spot → List Record → Result (List ℕ) Refusal
index_at Back among = with_room (key_between None (least_above None among))
index_at Front among = with_room (key_between (greatest_index among) None)
index_at (Over id) among = index_over (record_of id among) among
index_at (At key) among = refused_if (is_taken key among) IndexTaken (Ok key)
