-- Depth and height, as numbers.
use Rattle.std.specs.Prelude.{ℕ, zero, suc, ◌+◌, ◌==◌, nat_lt, max, List, [], ◌∷◌, cond, Option, Some, None, Bool}
use Rattle.canvas_record.specs.declared.records.Parent.{Parent}
use Rattle.canvas_record.specs.declared.records.Parent.TheVariants.{Page, Shape}
use Rattle.canvas_record.specs.declared.records.Record.{Record}
use Rattle.canvas_record.specs.Contents.{record_of}

abbrev pub depth_from : (Parent → ℕ) → Option Record → ℕ
depth_from up None = 0
depth_from up (Some r) = suc (up r.place.parent)

-- how many shapes lie on the path from a parent to the page: the page has depth 0
unfoldable pub depth_of : ℕ → List Record → Parent → ℕ
depth_of steps rs Page = 0
depth_of zero rs (Shape id) = 0
depth_of (suc steps) rs (Shape id) = depth_from (λ q. depth_of steps rs q) (record_of id rs)

-- a level more, if there is any
abbrev pub one_more : ℕ → ℕ
one_more zero = 0
one_more (suc n) = suc (suc n)

abbrev pub levels_from : ℕ → (Parent → ℕ) → Option Record → ℕ
levels_from id up None = 0
levels_from id up (Some r) = cond (r.id == id) 1 (one_more (up r.place.parent))

-- how many shapes lie on the path from a parent up to a shape, both counted: 0 where it does not come there
unfoldable pub levels_to : ℕ → ℕ → List Record → Parent → ℕ
levels_to steps id rs Page = 0
levels_to zero id rs (Shape p) = 0
levels_to (suc steps) id rs (Shape p) = levels_from id (λ q. levels_to steps id rs q) (record_of p rs)

-- how many levels a record lies below a shape, itself at 1, and 0 where it lies elsewhere
abbrev pub levels_of : ℕ → List Record → Record → ℕ
levels_of id rs r = cond (r.id == id) 1 (one_more (levels_to 31 id rs r.place.parent))

abbrev pub greatest : (Record → ℕ) → List Record → ℕ
greatest f [] = 0
greatest f (r ∷ rs) = max (f r) (greatest f rs)

-- the height of a subtree: a single shape has height 1
abbrev pub height_of : ℕ → List Record → ℕ
height_of id rs = greatest (levels_of id rs) rs

-- the depth of the new parent and the height of the moved subtree together are above 32
abbrev pub is_above_32 : List Record → ℕ → Parent → Bool
is_above_32 rs id p = nat_lt 32 (depth_of 32 rs p + height_of id rs)
