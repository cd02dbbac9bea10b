-- Boxes of pixels.
use Rattle.std.specs.Prelude.{◌≡◌, ℤ, pos, Bool, true, ◌&&◌, ◌||◌, cond, int_le, int_lt}
use Rattle.std.specs.Int.{int_min, int_max}
use Rattle.canvas_plane.specs.declared.PageBox.{PageBox}

-- the box holds its left and top edges, and not its right and bottom ones
abbrev pub is_in : PageBox → ℤ → ℤ → Bool
is_in b x y = (int_le b.left x && int_lt x b.right) && (int_le b.top y && int_lt y b.bottom)

-- no pixel lies between the edges
abbrev pub is_empty_box : PageBox → Bool
is_empty_box b = int_le b.right b.left || int_le b.bottom b.top

-- the other box holds whatever the one holds
abbrev pub IsWithin : PageBox → PageBox → Type 0
IsWithin inner outer = (x y : ℤ) → is_in inner x y ≡ true → is_in outer x y ≡ true

-- what two boxes have in common
abbrev pub meet_of : PageBox → PageBox → PageBox
meet_of a b = record { left = int_max a.left b.left; top = int_max a.top b.top; right = int_min a.right b.right; bottom = int_min a.bottom b.bottom }

-- from the least to the greatest edges of two boxes
abbrev pub joined : PageBox → PageBox → PageBox
joined a b = record { left = int_min a.left b.left; top = int_min a.top b.top; right = int_max a.right b.right; bottom = int_max a.bottom b.bottom }

-- the box of no pixel
abbrev pub empty_box : PageBox
empty_box = record { left = pos 0; top = pos 0; right = pos 0; bottom = pos 0 }

-- the least box round two boxes, to which an empty box adds nothing
abbrev pub hull_of : PageBox → PageBox → PageBox
hull_of a b = cond (is_empty_box a) (cond (is_empty_box b) empty_box b) (cond (is_empty_box b) a (joined a b))
