-- Which lists of records are a document's, and the first fault of the others.
use Rattle.std.specs.Prelude.{ℕ, zero, suc, ◌==◌, ◌&&◌, ◌||◌, not, nat_lt, nat_le, List, [], ◌∷◌, ◌++◌, length, position, cond, Option, Some, None, Bool, true, false, Result, Ok, Err}
use Rattle.std.specs.List.{list_any}
use Rattle.canvas_key.specs.Text.{is_same}
use Rattle.canvas_plane.specs.Limits.{is_pose}
use Rattle.canvas_shape.specs.Limits.{has_sides, has_vertices}
use Rattle.canvas_record.specs.declared.records.Parent.{Parent}
use Rattle.canvas_record.specs.declared.records.Parent.TheVariants.{Page, Shape}
use Rattle.canvas_record.specs.declared.records.Record.{Record}
use Rattle.canvas_record.specs.declared.tree_faults.TreeFault.{TreeFault}
use Rattle.canvas_record.specs.declared.tree_faults.TreeFault.TheVariants.{OutOfMemory, BadRecord, BadTree}
use Rattle.canvas_record.specs.Children.{same_parent}
use Rattle.canvas_record.specs.Contents.{Contents, record_of}
use Rattle.canvas_record.specs.Decision.{can_have_children}

-- an id below the next one, and a pose and a kind within the limits
abbrev pub is_record : ℕ → Record → Bool
is_record next r = (nat_le 1 r.id && nat_lt r.id next) && (is_pose r.pose && (has_sides r.kind && has_vertices r.kind))

-- the least position of a record outside these limits
abbrev pub record_fault : ℕ → List Record → Option ℕ
record_fault next rs = position (λ r. not (is_record next r)) rs

-- the next step, from the record of a parent
abbrev pub leads_from : (Parent → Bool) → Option Record → Bool
leads_from up None = false
leads_from up (Some r) = up r.place.parent

-- following parents comes to the page within so many steps; of one id the first record is the parent
unfoldable pub leads_to_page : ℕ → List Record → Parent → Bool
leads_to_page steps rs Page = true
leads_to_page zero rs (Shape id) = false
leads_to_page (suc steps) rs (Shape id) = leads_from (λ p. leads_to_page steps rs p) (record_of id rs)

abbrev pub same_place : Record → Record → Bool
same_place r s = same_parent s.place.parent r.place.parent && is_same s.place.index r.place.index

-- the id of an earlier record, a parent that is neither the page nor a group or frame of the list, no path to the page, or the place of an earlier record
abbrev pub is_misplaced : List Record → List Record → Record → Bool
is_misplaced all earlier r =
    list_any (λ s. s.id == r.id) earlier || (not (can_have_children all r.place.parent) || (not (leads_to_page 31 all r.place.parent) || list_any (same_place r) earlier))

-- the position of the first misplaced record among the later ones
abbrev pub tree_fault_after : List Record → List Record → List Record → Option ℕ
tree_fault_after all earlier [] = None
tree_fault_after all earlier (r ∷ later) = cond (is_misplaced all earlier r) (Some (length earlier)) (tree_fault_after all (earlier ++ r ∷ []) later)

-- the least position of a record that does not belong to a page tree
abbrev pub tree_fault : List Record → Option ℕ
tree_fault rs = tree_fault_after rs [] rs

-- r in front of the first whose id is not below its own
abbrev pub put_by_id : Record → List Record → List Record
put_by_id r [] = r ∷ []
put_by_id r (s ∷ rest) = cond (nat_lt s.id r.id) (s ∷ put_by_id r rest) (r ∷ s ∷ rest)

-- the records in rising id
abbrev pub by_id : List Record → List Record
by_id [] = []
by_id (r ∷ rs) = put_by_id r (by_id rs)

-- what a list without fault is restored as
abbrev pub restored_of : List Record → ℕ → Contents
restored_of rs next = record { records = by_id rs; next = next }

-- refused at a position, if there is one; else the rest decides
abbrev pub refused_at : Option ℕ → (ℕ → TreeFault) → Result Contents TreeFault → Result Contents TreeFault
refused_at None why rest = rest
refused_at (Some i) why rest = Err (why i)

-- the document of a list of records, or its first fault: the limits of each record are judged before the tree
abbrev pub restoration_of : List Record → ℕ → Result Contents TreeFault
restoration_of rs next =
    refused_at (record_fault next rs) (λ i. BadRecord i)
    (refused_at (tree_fault rs) (λ i. BadTree i)
    (Ok (restored_of rs next)))

-- the number of a fault
abbrev pub tree_fault_code : TreeFault → ℕ
tree_fault_code OutOfMemory = 1
tree_fault_code (BadRecord i) = 61
tree_fault_code (BadTree i) = 62
