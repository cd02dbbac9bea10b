-- Rows joined into pictures.
use Rattle.std.proofs.Common.{◌≡◌, ℕ, zero, suc, ◌+◌, ◌-◌, ◌<◌, ◌≤◌, List, [], ◌∷◌, ◌++◌, refl, sym, ap, ◌∙◌, arith, length, get_or, append_assoc, append-nil}
use Rattle.std.specs.List.{flat_map}
use Rattle.std.proofs.Common.{Result, Ok, Err, IfOk, Vec, Global}
use Rattle.std.specs.Prelude.{ℤ}
use Rattle.canvas_plane.specs.declared.windows.Window.{Window}
use Rattle.canvas_plane.specs.Window.{column_shown, row_shown}
use Rattle.canvas_shape.specs.declared.Colour.{Colour}
use Rattle.canvas_paint.specs.Pictures.{bytes_at, raster_of, row_of, rows_of}

-- strips follow one another
pub raster-join : (f : ℕ → ℕ → List ℕ) (w y m n : ℕ) → raster_of f w y (m + n) ≡ raster_of f w y m ++ raster_of f w (y + m) n
raster-join f w y zero n =
    let e : 0 + n ≡ n = omega arith in
    let g : y ≡ y + 0 = omega arith in
    ap (λ k. raster_of f w y k) e ∙ ap (λ z. raster_of f w z n) g
raster-join f w y (suc m) n =
    let e : suc m + n ≡ suc (m + n) = omega arith in
    let g : y + 1 + m ≡ y + suc m = omega arith in
    ap (λ k. raster_of f w y k) e
    ∙ ap (λ bytes. row_of (λ x. f x y) 0 w ++ bytes) (raster-join f w (y + 1) m n)
    ∙ sym (append_assoc (row_of (λ x. f x y) 0 w) (raster_of f w (y + 1) m) (raster_of f w (y + 1 + m) n))
    ∙ ap (λ z. (row_of (λ x. f x y) 0 w ++ raster_of f w (y + 1) m) ++ raster_of f w z n) g

row-from : (f : ℕ → List ℕ) (row : List (List ℕ)) (at : ℕ) → ((x : ℕ) (d : List ℕ) → x < length row → get_or row x d ≡ f (at + x)) → flat_map (λ b. b) row ≡ row_of f at (length row)
row-from f [] at h = refl
row-from f (p ∷ row) at h =
    let e : at + 0 ≡ at = omega arith in
    let first : p ≡ f at = h 0 [] (omega arith) ∙ ap f e in
    ap (λ b. b ++ flat_map (λ b. b) row) first
    ∙ ap (λ rest. f at ++ rest) (row-from f row (at + 1) (λ x d lt. let g : at + suc x ≡ at + 1 + x = omega arith in h (suc x) d (omega arith) ∙ ap f g))

-- the bytes of a row of pixels
pub row-is : (f : ℕ → List ℕ) (row : List (List ℕ)) → ((x : ℕ) (d : List ℕ) → x < length row → get_or row x d ≡ f x) → flat_map (λ b. b) row ≡ row_of f 0 (length row)
row-is f row h = row-from f row 0 (λ x d lt. let e : x ≡ 0 + x = omega arith in h x d lt ∙ ap f e)

-- the bytes after a band
pub band-more : (f : ℕ → ℕ → List ℕ) (w first y until : ℕ) (start old new band : List ℕ) → first ≤ y → y ≤ until → old ≡ start ++ raster_of f w first (y - first) → band ≡ raster_of f w y (until - y) → new ≡ old ++ band → new ≡ start ++ raster_of f w first (until - first)
band-more f w first y until start old new band le le2 o b e =
    let p : y ≡ first + (y - first) = omega arith in
    let q : y - first + (until - y) ≡ until - first = omega arith in
    e ∙ ap (λ l. l ++ band) o ∙ ap (λ l. (start ++ raster_of f w first (y - first)) ++ l) b
    ∙ append_assoc start (raster_of f w first (y - first)) (raster_of f w y (until - y))
    ∙ ap (λ z. start ++ (raster_of f w first (y - first) ++ raster_of f w z (until - y))) p
    ∙ ap (λ l. start ++ l) (sym (raster-join f w first (y - first) (until - y)))
    ∙ ap (λ m. start ++ raster_of f w first m) q

row-agree : (f g : ℕ → List ℕ) (at w : ℕ) → ((x : ℕ) → at ≤ x → x < at + w → f x ≡ g x) → row_of f at w ≡ row_of g at w
row-agree f g at zero h = refl
row-agree f g at (suc w) h =
    ap (λ b. b ++ row_of f (at + 1) w) (h at (omega arith) (omega arith))
    ∙ ap (λ rest. g at ++ rest) (row-agree f g (at + 1) w (λ x low high. h x (omega arith) (omega arith)))

-- pictures that agree on some rows have the same bytes there
pub raster-agree : (f g : ℕ → ℕ → List ℕ) (w y n : ℕ) → ((x z : ℕ) → x < w → y ≤ z → z < y + n → f x z ≡ g x z) → raster_of f w y n ≡ raster_of g w y n
raster-agree f g w y zero h = refl
raster-agree f g w y (suc n) h =
    ap (λ b. b ++ raster_of f w (y + 1) n) (row-agree (λ x. f x y) (λ x. g x y) 0 w (λ x low high. h x y (omega arith) (omega arith) (omega arith)))
    ∙ ap (λ rest. row_of (λ x. g x y) 0 w ++ rest) (raster-agree f g w (y + 1) n (λ x z p q r. h x z p (omega arith) (omega arith)))

-- the same of bytes that a call gave
pub ok-agrees : {E : Type 0} (f g : ℕ → ℕ → List ℕ) (w first end : ℕ) (r : Result (Vec ℕ Global) E) → first ≤ end → ((x z : ℕ) → x < w → first ≤ z → z < end → f x z ≡ g x z) → IfOk r (λ v. v.items ≡ raster_of f w first (end - first)) → IfOk r (λ v. v.items ≡ raster_of g w first (end - first))
ok-agrees f g w first end (Ok v) le h e = e ∙ raster-agree f g w first (end - first) (λ x z p q r. h x z p q (omega arith))
ok-agrees f g w first end (Err e) le h t = t

-- the bytes after one strip more
pub strip-more : (f : ℕ → ℕ → List ℕ) (w y until : ℕ) (old new band : List ℕ) → y ≤ until → old ≡ raster_of f w 0 y → band ≡ raster_of f w y (until - y) → new ≡ old ++ band → new ≡ raster_of f w 0 until
strip-more f w y until old new band le o b e =
    let p : y ≡ 0 + y = omega arith in
    let q : y + (until - y) ≡ until = omega arith in
    e ∙ ap (λ l. l ++ band) o ∙ ap (λ l. raster_of f w 0 y ++ l) b
    ∙ ap (λ z. raster_of f w 0 y ++ raster_of f w z (until - y)) p
    ∙ sym (raster-join f w 0 y (until - y))
    ∙ ap (λ m. raster_of f w 0 m) q

-- the bytes after one row more
pub row-more : (f : ℕ → ℕ → List ℕ) (w first y : ℕ) (row : List (List ℕ)) (start old new bytes : List ℕ) → first ≤ y → length row ≡ w → old ≡ start ++ raster_of f w first (y - first) → ((x : ℕ) (d : List ℕ) → x < length row → get_or row x d ≡ f x y) → bytes ≡ flat_map (λ b. b) row → new ≡ old ++ bytes → new ≡ start ++ raster_of f w first (y + 1 - first)
row-more f w first y row start old new bytes le long o h b e =
    let one : 1 ≡ y + 1 - y = omega arith in
    band-more f w first y (y + 1) start old new bytes le (omega arith) o
    (b ∙ row-is (λ x. f x y) row h ∙ ap (λ v. row_of (λ x. f x y) 0 v) long ∙ sym (append-nil (row_of (λ x. f x y) 0 w)) ∙ ap (λ n. raster_of f w y n) one)
    e

-- pictures of colours that agree on a window are the same bytes
pub rows-agree : (f g : ℤ → ℤ → Colour) (w : Window) (first end : ℕ) → first ≤ end → end ≤ w.h → ((k j : ℕ) → k < w.w → j < w.h → f (column_shown w k) (row_shown w j) ≡ g (column_shown w k) (row_shown w j)) → rows_of f w first end ≡ rows_of g w first end
rows-agree f g w first end le high h =
    raster-agree (bytes_at f w) (bytes_at g w) w.w first (end - first) (λ x z p q r. ap (λ (c : Colour). c.0) (h x z p (omega arith)))
