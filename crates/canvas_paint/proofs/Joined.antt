-- A window painted from a scene is the document's picture, and strips in order are the whole of it.
use Rattle.std.proofs.Common.{◌≡◌, ℕ, ◌+◌, ◌<◌, ◌≤◌, ◌++◌, ◌∙◌, List, [], ℤ, ◌+ℤ◌, ◌*ℤ◌, ◌≤ℤ◌, ◌<ℤ◌, ◌*◌, pos, ◌&&◌, true, ap, append_assoc, append-nil, arith, length, refl, sym, take, Result, Ok, Err}
use Rattle.std.proofs.lemmas.List.{take_at}
use Rattle.std.proofs.Math.Nat.{mul-div_cancel_left, mul-le-mul_right}
use Rattle.std.specs.Result.{OnOk}
use Rattle.std.proofs.lemmas.Int.{ints}
use Rattle.canvas_plane.specs.declared.windows.Window.{Window}
use Rattle.canvas_plane.specs.Page.{is_in}
use Rattle.canvas_plane.specs.Sides.{scale_of}
use Rattle.canvas_plane.specs.Window.{column_shown, covered_by, row_shown}
use Rattle.canvas_plane.proofs.Levels.{along, scale-least}
use Rattle.canvas_shape.specs.Spans.{is_from_to}
use Rattle.canvas_shape.specs.declared.Colour.{Colour}
use Rattle.canvas_paint.specs.declared.item.Item.{Item}
use Rattle.canvas_paint.specs.Items.{last_colour}
use Rattle.canvas_paint.specs.Pictures.{bytes_at, picture_of, rows_of}
use Rattle.canvas_paint.proofs.Raster.{band-more, rows-agree}
use Rattle.canvas_paint.specs.Strips.{IsStrip, strip_start}

from-to : (a b c : ℤ) → a ≤ℤ b → b <ℤ c → is_from_to a b c ≡ true
from-to a b c p q = grind (arith, ints)

in-side : (x : ℤ) (k n level : ℕ) → k < n → is_from_to ((x +ℤ pos 0) *ℤ pos (scale_of level)) ((x +ℤ pos k) *ℤ pos (scale_of level)) ((x +ℤ pos n) *ℤ pos (scale_of level)) ≡ true
in-side x k n level lt =
    let s = scale_of level in
    let first = along x 0 s in
    let here = along x k s in
    let last = along x n s in
    let least = scale-least level in
    let next : (k + 1) * s ≤ n * s = mul-le-mul_right s (omega arith) in
    let step : (k + 1) * s ≡ k * s + s = omega arith in
    let none : 0 * s ≡ 0 = omega arith in
    let low : ((x +ℤ pos 0) *ℤ pos s) ≤ℤ ((x +ℤ pos k) *ℤ pos s) = omega (arith, ints, first, here, none) in
    let high : ((x +ℤ pos k) *ℤ pos s) <ℤ ((x +ℤ pos n) *ℤ pos s) = omega (arith, ints, here, last, least, next, step) in
    from-to ((x +ℤ pos 0) *ℤ pos s) ((x +ℤ pos k) *ℤ pos s) ((x +ℤ pos n) *ℤ pos s) low high

-- the box that the window covers has each pixel that its columns and rows show
pub in-window : (w : Window) (k j : ℕ) → k < w.w → j < w.h → is_in (covered_by w) (column_shown w k) (row_shown w j) ≡ true
in-window w k j p q = ap (λ t. t && is_from_to (row_shown w 0) (row_shown w j) (row_shown w w.h)) (in-side w.x k w.w w.level p) ∙ in-side w.y j w.h w.level q

-- colours that agree in the box that a window covers make one picture
pub joined-picture : (f g : ℤ → ℤ → Colour) (w : Window) → ((x y : ℤ) → is_in (covered_by w) x y ≡ true → f x y ≡ g x y) → rows_of f w 0 w.h ≡ picture_of g w
joined-picture f g w h = rows-agree f g w 0 w.h (omega arith) (omega arith) (λ k j p q. h (column_shown w k) (row_shown w j) (in-window w k j p q))

-- what follows of a call that succeeded
pub ok-then : {A E : Type 0} (r : Result A E) (P Q : Type 0) → (P → Q) → OnOk r P → OnOk r Q
ok-then (Ok a) P Q f h = f h
ok-then (Err e) P Q f h = h

-- strips begin and end in order
strip-order : (h k n : ℕ) → strip_start h k n ≤ strip_start h (k + 1) n
strip-order h k n = grind arith

-- the bytes after one strip more
pub strip-after : (items : List Item) (w : Window) (k n : ℕ) (start old new strip : List ℕ) → old ≡ start ++ rows_of (last_colour items) w 0 (strip_start w.h k n) → IsStrip items w k n strip → new ≡ old ++ strip → new ≡ start ++ rows_of (last_colour items) w 0 (strip_start w.h (k + 1) n)
strip-after items w k n start old new strip o s e =
    band-more (bytes_at (last_colour items) w) w.w 0 (strip_start w.h k n) (strip_start w.h (k + 1) n) start old new strip (omega arith) (strip-order w.h k n) o s e

-- before the first strip there is nothing
pub strips-begin : (items : List Item) (w : Window) (n : ℕ) (start : List ℕ) → start ≡ start ++ rows_of (last_colour items) w 0 (strip_start w.h 0 n)
strips-begin items w n start =
    let none : strip_start w.h 0 n ≡ 0 = grind arith in
    sym (ap (λ m. start ++ rows_of (last_colour items) w 0 m) none ∙ append-nil start)

-- what is only appended to keeps its beginning
pub begins-same : {X : Type 0} (start rest whole : List X) → whole ≡ start ++ rest → take (length start) whole ≡ start
begins-same start rest whole e = ap (take (length start)) e ∙ take_at start rest (length start) refl

-- the same with more after it
pub begins-more : {X : Type 0} (start rest more middle whole : List X) → middle ≡ start ++ rest → whole ≡ middle ++ more → take (length start) whole ≡ start
begins-more start rest more middle whole e f = begins-same start (rest ++ more) whole (f ∙ ap (λ l. l ++ more) e ∙ append_assoc start rest more)

-- and with nothing after it
pub begins-itself : {X : Type 0} (start : List X) → take (length start) start ≡ start
begins-itself start = begins-same start [] start (sym (append-nil start))

-- after n strips there are all rows
pub strips-whole : (items : List Item) (w : Window) (k n : ℕ) (start whole : List ℕ) → 0 < n → k ≡ n → whole ≡ start ++ rows_of (last_colour items) w 0 (strip_start w.h k n) → whole ≡ start ++ rows_of (last_colour items) w 0 w.h
strips-whole items w k n start whole some all e =
    let end : strip_start w.h k n ≡ w.h = ap (λ m. strip_start w.h m n) all ∙ mul-div_cancel_left w.h some in
    e ∙ ap (λ m. start ++ rows_of (last_colour items) w 0 m) end
