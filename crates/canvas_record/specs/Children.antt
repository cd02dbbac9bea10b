-- The children of a parent, from front to back.
use Rattle.std.specs.Prelude.{◌≡◌, ◌⊎◌, List, [], ◌∷◌, Bool, true, false, cond, ◌==◌, filter}
use Rattle.canvas_key.specs.Order.{is_before}
use Rattle.canvas_record.specs.declared.records.Parent.{Parent}
use Rattle.canvas_record.specs.declared.records.Parent.TheVariants.{Page, Shape}
use Rattle.canvas_record.specs.declared.records.Record.{Record}

abbrev pub same_parent : Parent → Parent → Bool
same_parent Page Page = true
same_parent Page (Shape b) = false
same_parent (Shape a) Page = false
same_parent (Shape a) (Shape b) = a == b

abbrev pub is_child : Parent → Record → Bool
is_child p r = same_parent r.place.parent p

-- r has the greater index
abbrev pub is_in_front : Record → Record → Bool
is_in_front r s = is_before s.place.index r.place.index

-- r at its place in a list from front to back
abbrev pub put : Record → List Record → List Record
put r [] = r ∷ []
put r (s ∷ rest) = cond (is_in_front s r) (s ∷ put r rest) (r ∷ s ∷ rest)

-- the greatest index first
abbrev pub front_first : List Record → List Record
front_first [] = []
front_first (r ∷ rs) = put r (front_first rs)

-- the records with the parent p, greatest index first
abbrev pub children : Parent → List Record → List Record
children p rs = front_first (filter (is_child p) rs)

-- the items of the part stand in the whole in the same order, some left out
abbrev pub IsPartOf : {A : Type 0} → List A → List A → Type 0
IsPartOf [] whole = Unit {0}
IsPartOf (p ∷ part) [] = ⊥
IsPartOf (p ∷ part) (w ∷ whole) = ((p ≡ w) × IsPartOf part whole) ⊎ IsPartOf (p ∷ part) whole
