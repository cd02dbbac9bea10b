-- What a lean grows by over so many rows, and a quotient by twice a height, as machine words.
use Rattle.canvas_shape.specs.Ellipse.{offset}
use Rattle.std.proofs.Common.{Fits, ◌≡◌, ℕ, ◌≤◌, ◌<◌, ◌*◌, ◌+◌, ℤ, pos, negsuc, ◌+ℤ◌, ◌-ℤ◌, ◌*ℤ◌, ◌≤ℤ◌, ◌<ℤ◌, true, refl, sym, ap, ◌∙◌, subst, arith, FitsSigned, to_z, of_z, lit<, le_refl, le_trans, lt_of_le_of_lt, ◌%◌}
use Rattle.std.specs.Prelude.{unsigned_abs, int_le}
use Rattle.std.specs.Int.{w32, w64}
use Rattle.std.proofs.lemmas.Bool.{false≢true}
use Rattle.std.proofs.lemmas.Int.{ints, to_z-of_z, to_z_pos, fits_signed_mul, fits_signed_from_abs, unsigned_abs-mul}
use Rattle.std.proofs.Math.Nat.{mul-le-mul}
use Rattle.std.specs.Int.Signed.{non_neg}
use lib.Dec.{T}
use Rattle.canvas_plane.specs.declared.Point.{Point}
use Rattle.canvas_plane.specs.Motion.{size_of}
use Rattle.canvas_shape.proofs.Sizes.{difference-words, x-fits, y-fits, low-fits, unsigned-fits, unsigned-is, size-kept, word-is}
use lib.IntN.{neg_ℤ}
use Rattle.canvas_shape.proofs.Edge.{floor-positive, floor-negative}

twice-rows : (rows : ℕ) → rows ≤ 64 → 2 * rows ≤ 128
twice-rows rows le = omega (arith, le)

rows-word : (rows : ℕ) → rows ≤ 64 → to_z w64 (of_z w64 (pos 2 *ℤ to_z w64 rows)) ≡ pos 2 *ℤ pos rows
rows-word rows le =
    ap (λ z. to_z w64 (of_z w64 (pos 2 *ℤ z))) (to_z_pos w64 rows (lt_of_le_of_lt le (lit< tt)))
    ∙ to_z-of_z w64 (pos 2 *ℤ pos rows) (fits_signed_mul w64 (pos 2) (pos rows) 2 64 (le_refl 2) le (lit< tt))

lean-words : (rows : ℕ) (a : ℤ) → rows ≤ 64 → FitsSigned w64 a → to_z w64 (of_z w64 (pos 2 *ℤ to_z w64 rows)) *ℤ to_z w64 (of_z w64 a) ≡ (pos 2 *ℤ pos rows) *ℤ a
lean-words rows a le fits = ap (λ z. z *ℤ to_z w64 (of_z w64 a)) (rows-word rows le) ∙ ap (λ z. (pos 2 *ℤ pos rows) *ℤ z) (to_z-of_z w64 a fits)

lean-fits : (rows : ℕ) (a : ℤ) → rows ≤ 64 → unsigned_abs a ≤ 268435456 → FitsSigned w64 ((pos 2 *ℤ pos rows) *ℤ a)
lean-fits rows a le small = fits_signed_mul w64 (pos 2 *ℤ pos rows) a 128 268435456 (twice-rows rows le) small (lit< tt)

-- what the lean grows by fits in a word
pub lean-over-fits : (rows : ℕ) (a : ℤ) → rows ≤ 64 → unsigned_abs a ≤ 268435456 → FitsSigned w64 a → FitsSigned w64 (to_z w64 (of_z w64 (pos 2 *ℤ to_z w64 rows)) *ℤ to_z w64 (of_z w64 a))
lean-over-fits rows a le small fits = subst (FitsSigned w64) (sym (lean-words rows a le fits)) (lean-fits rows a le small)

pub lean-over-is : (rows : ℕ) (a : ℤ) → rows ≤ 64 → unsigned_abs a ≤ 268435456 → FitsSigned w64 a → to_z w64 (of_z w64 (to_z w64 (of_z w64 (pos 2 *ℤ to_z w64 rows)) *ℤ to_z w64 (of_z w64 a))) ≡ (pos 2 *ℤ pos rows) *ℤ a
lean-over-is rows a le small fits = ap (λ z. to_z w64 (of_z w64 z)) (lean-words rows a le fits) ∙ to_z-of_z w64 ((pos 2 *ℤ pos rows) *ℤ a) (lean-fits rows a le small)

pub lean-over-small : (rows : ℕ) (a : ℤ) → rows ≤ 64 → unsigned_abs a ≤ 268435456 → unsigned_abs ((pos 2 *ℤ pos rows) *ℤ a) ≤ 34359738368
lean-over-small rows a le small = subst (λ n. n ≤ 34359738368) (sym (unsigned_abs-mul (pos 2 *ℤ pos rows) a)) (mul-le-mul (twice-rows rows le) small)

-- ---- quotients by twice a height
above : (v t : ℤ) (q b : ℕ) → t ≡ pos q → int_le (pos 0) v ≡ true → q * (2 * b) ≤ unsigned_abs v → unsigned_abs v < q * (2 * b) + 2 * b → (((t *ℤ pos b) +ℤ (t *ℤ pos b)) ≤ℤ v) × (v <ℤ (((t *ℤ pos b) +ℤ (t *ℤ pos b)) +ℤ (pos b +ℤ pos b)))
above (pos n) t q b e h least most = subst (λ z. (((z *ℤ pos b) +ℤ (z *ℤ pos b)) ≤ℤ pos n) × (pos n <ℤ (((z *ℤ pos b) +ℤ (z *ℤ pos b)) +ℤ (pos b +ℤ pos b)))) (sym e) (floor-positive (pos n) n q b refl least most)
above (negsuc n) t q b e h least most = absurd (false≢true h)

flipped-from : (v : ℤ) (n : ℕ) → pos n ≡ neg_ℤ v -ℤ pos 1 → v ≡ negsuc n
flipped-from v n e = omega (arith, ints)

flipped-to : (z : ℤ) (n : ℕ) → z ≡ neg_ℤ (pos n) -ℤ pos 1 → z ≡ negsuc n
flipped-to z n e = omega (arith, ints)

-- the quotient of a number that is not below zero
pub floor-above : (a : ℤ) (q b : ℕ) → FitsSigned w64 a → unsigned_abs a ≤ 4611686018427387904 → int_le (pos 0) (to_z w64 (of_z w64 a)) ≡ true → q * (2 * b) ≤ unsigned_abs (to_z w64 (of_z w64 a)) → unsigned_abs (to_z w64 (of_z w64 a)) < q * (2 * b) + 2 * b → q ≤ unsigned_abs (to_z w64 (of_z w64 a)) → (((to_z w64 q *ℤ pos b) +ℤ (to_z w64 q *ℤ pos b)) ≤ℤ a) × (a <ℤ (((to_z w64 q *ℤ pos b) +ℤ (to_z w64 q *ℤ pos b)) +ℤ (pos b +ℤ pos b)))
floor-above a q b fits small h least most bound =
    let e = to_z-of_z w64 a fits in
    let t = to_z w64 q in
    let low : q ≤ 4611686018427387904 = le_trans bound (subst (λ z. unsigned_abs z ≤ 4611686018427387904) (sym e) small) in
    subst (λ z. (((t *ℤ pos b) +ℤ (t *ℤ pos b)) ≤ℤ z) × (z <ℤ (((t *ℤ pos b) +ℤ (t *ℤ pos b)) +ℤ (pos b +ℤ pos b)))) e
    (above (to_z w64 (of_z w64 a)) t q b (to_z_pos w64 q (lt_of_le_of_lt low (lit< tt))) h least most)

-- and of one below
pub floor-below : (a f : ℤ) (n q b : ℕ) → FitsSigned w64 a → FitsSigned w64 f → pos n ≡ neg_ℤ (to_z w64 (of_z w64 a)) -ℤ pos 1 → f ≡ neg_ℤ (pos q) -ℤ pos 1 → q * (2 * b) ≤ n → n < q * (2 * b) + 2 * b → (((to_z w64 (of_z w64 f) *ℤ pos b) +ℤ (to_z w64 (of_z w64 f) *ℤ pos b)) ≤ℤ a) × (a <ℤ (((to_z w64 (of_z w64 f) *ℤ pos b) +ℤ (to_z w64 (of_z w64 f) *ℤ pos b)) +ℤ (pos b +ℤ pos b)))
floor-below a f n q b fa ff en ef least most =
    let t = to_z w64 (of_z w64 f) in
    let v = to_z w64 (of_z w64 a) in
    subst (λ z. (((t *ℤ pos b) +ℤ (t *ℤ pos b)) ≤ℤ z) × (z <ℤ (((t *ℤ pos b) +ℤ (t *ℤ pos b)) +ℤ (pos b +ℤ pos b)))) (to_z-of_z w64 a fa)
    (floor-negative v t n q b (flipped-from v n en) (to_z-of_z w64 f ff ∙ flipped-to f q ef) least most)

-- ---- how far an edge leans in a row
pub lean-is : (p q : Point) (y b m r : ℤ) → size_of p ≤ 134217728 → size_of q ≤ 134217728 → FitsSigned w32 y → FitsSigned w64 b → FitsSigned w64 m → FitsSigned w64 r → b ≡ pos 2 *ℤ to_z w32 (of_z w32 y) +ℤ pos 1 -ℤ pos 2 *ℤ to_z w64 (of_z w64 p.y) → m ≡ to_z w64 (of_z w64 q.x) -ℤ to_z w64 (of_z w64 p.x) → r ≡ to_z w64 (of_z w64 b) *ℤ to_z w64 (of_z w64 m) → to_z w64 (of_z w64 r) ≡ (pos 2 *ℤ y +ℤ pos 1 -ℤ pos 2 *ℤ p.y) *ℤ (q.x -ℤ p.x)
lean-is p q y b m r np nq fy fb fm fr eb em er =
    let down = pos 2 *ℤ y +ℤ pos 1 -ℤ pos 2 *ℤ p.y in
    to_z-of_z w64 r fr ∙ er
    ∙ ap (λ z. z *ℤ to_z w64 (of_z w64 m)) (to_z-of_z w64 b fb ∙ eb ∙ ap (λ z. pos 2 *ℤ z +ℤ pos 1 -ℤ pos 2 *ℤ to_z w64 (of_z w64 p.y)) (to_z-of_z w32 y fy) ∙ ap (λ z. pos 2 *ℤ y +ℤ pos 1 -ℤ pos 2 *ℤ z) (to_z-of_z w64 p.y (y-fits p np)))
    ∙ ap (λ z. down *ℤ z) (to_z-of_z w64 m fm ∙ em ∙ difference-words q.x p.x (x-fits q nq) (x-fits p np))

-- ---- what a quotient leaves over
first-size : (n half : ℤ) → unsigned_abs half ≤ 4611686018427387904 → (half +ℤ half) ≤ℤ n → n <ℤ ((half +ℤ half) +ℤ pos 536870912) → unsigned_abs (n -ℤ half) ≤ 4611686018964258816
first-size n half small least most = omega (arith, ints)

left-least : (n half : ℤ) → (half +ℤ half) ≤ℤ n → pos 0 ≤ℤ (n -ℤ half -ℤ half)
left-least n half least = omega (arith, ints)

left-most : (n half : ℤ) → n <ℤ ((half +ℤ half) +ℤ pos 536870912) → (n -ℤ half -ℤ half) <ℤ pos 4294967296
left-most n half most = omega (arith, ints)

left-words : (n half : ℤ) → FitsSigned w64 n → FitsSigned w64 half → unsigned_abs half ≤ 4611686018427387904 → (half +ℤ half) ≤ℤ n → n <ℤ ((half +ℤ half) +ℤ pos 536870912) → to_z w64 (of_z w64 (to_z w64 (of_z w64 n) -ℤ to_z w64 (of_z w64 half))) -ℤ to_z w64 (of_z w64 half) ≡ n -ℤ half -ℤ half
left-words n half fn fh small least most =
    ap (λ z. to_z w64 (of_z w64 z) -ℤ to_z w64 (of_z w64 half)) (difference-words n half fn fh)
    ∙ ap (λ z. z -ℤ to_z w64 (of_z w64 half)) (to_z-of_z w64 (n -ℤ half) (fits_signed_from_abs w64 (n -ℤ half) (lt_of_le_of_lt (first-size n half small least most) (lit< tt))))
    ∙ ap (λ z. n -ℤ half -ℤ z) (to_z-of_z w64 half fh)

pub left-fits : (n half : ℤ) → FitsSigned w64 n → FitsSigned w64 half → unsigned_abs half ≤ 4611686018427387904 → (half +ℤ half) ≤ℤ n → n <ℤ ((half +ℤ half) +ℤ pos 536870912) → FitsSigned w64 (to_z w64 (of_z w64 (to_z w64 (of_z w64 n) -ℤ to_z w64 (of_z w64 half))) -ℤ to_z w64 (of_z w64 half))
left-fits n half fn fh small least most = subst (FitsSigned w64) (sym (left-words n half fn fh small least most)) (low-fits (n -ℤ half -ℤ half) (left-least n half least) (left-most n half most))

pub left-unsigned : (n half : ℤ) → FitsSigned w64 n → FitsSigned w64 half → unsigned_abs half ≤ 4611686018427387904 → (half +ℤ half) ≤ℤ n → n <ℤ ((half +ℤ half) +ℤ pos 536870912) → T (non_neg (to_z w64 (of_z w64 (to_z w64 (of_z w64 (to_z w64 (of_z w64 n) -ℤ to_z w64 (of_z w64 half))) -ℤ to_z w64 (of_z w64 half))))) × Fits w64 (unsigned_abs (to_z w64 (of_z w64 (to_z w64 (of_z w64 (to_z w64 (of_z w64 n) -ℤ to_z w64 (of_z w64 half))) -ℤ to_z w64 (of_z w64 half)))))
left-unsigned n half fn fh small least most = unsigned-fits _ (n -ℤ half -ℤ half) (left-words n half fn fh small least most) (left-least n half least) (left-most n half most)

pub left-is : (n half : ℤ) → FitsSigned w64 n → FitsSigned w64 half → unsigned_abs half ≤ 4611686018427387904 → (half +ℤ half) ≤ℤ n → n <ℤ ((half +ℤ half) +ℤ pos 536870912) → pos (unsigned_abs (to_z w64 (of_z w64 (to_z w64 (of_z w64 (to_z w64 (of_z w64 n) -ℤ to_z w64 (of_z w64 half))) -ℤ to_z w64 (of_z w64 half))))) ≡ n -ℤ half -ℤ half
left-is n half fn fh small least most = unsigned-is _ (n -ℤ half -ℤ half) (left-words n half fn fh small least most) (left-least n half least) (left-most n half most)

-- ---- sizes of quotients that are added
pub sum-small : (a b w : ℤ) → FitsSigned w64 a → FitsSigned w64 b → FitsSigned w64 w → unsigned_abs b ≤ 34359738368 → unsigned_abs w ≤ unsigned_abs (to_z w64 (of_z w64 b)) + unsigned_abs (to_z w64 (of_z w64 a)) → unsigned_abs (to_z w64 (of_z w64 w)) ≤ unsigned_abs a + 34359738368
sum-small a b w fa fb fw small h =
    let ea = ap unsigned_abs (to_z-of_z w64 a fa) in let eb = ap unsigned_abs (to_z-of_z w64 b fb) in let ew = ap unsigned_abs (to_z-of_z w64 w fw) in
    omega (arith, ea, eb, ew, small, h)

pub sum-next : (a v w : ℤ) → FitsSigned w64 v → unsigned_abs (to_z w64 (of_z w64 w)) ≤ unsigned_abs a + 34359738368 → unsigned_abs v ≤ 1 + unsigned_abs (to_z w64 (of_z w64 w)) → unsigned_abs (to_z w64 (of_z w64 v)) ≤ unsigned_abs a + 68719476736
sum-next a v w fv h k = let ev = ap unsigned_abs (to_z-of_z w64 v fv) in omega (arith, ev, h, k)

pub sum-more : (n m : ℕ) → n ≤ m + 34359738368 → n ≤ m + 68719476736
sum-more n m h = omega (arith, h)

pub sum-room : (n m : ℕ) → n ≤ m + 34359738368 → m ≤ 4611826755915743232 → n ≤ 4611967493404098560
sum-room n m h k = omega (arith, h, k)

half-size : (u n : ℤ) (h : ℕ) → unsigned_abs n ≤ 4611686018427387904 → h ≤ 268435456 → (u +ℤ u) ≤ℤ n → n <ℤ ((u +ℤ u) +ℤ (pos h +ℤ pos h)) → unsigned_abs u ≤ 4611686018427387904
half-size u n h small low least most = omega (arith, ints)

pub half-small : (w n : ℤ) (h : ℕ) → FitsSigned w64 w → FitsSigned w64 n → unsigned_abs n ≤ 4611686018427387904 → h ≤ 268435456 → ((w *ℤ pos h) +ℤ (w *ℤ pos h)) ≤ℤ to_z w64 (of_z w64 n) → to_z w64 (of_z w64 n) <ℤ (((w *ℤ pos h) +ℤ (w *ℤ pos h)) +ℤ (pos h +ℤ pos h)) → unsigned_abs (to_z w64 (of_z w64 w) *ℤ pos h) ≤ 4611686018427387904
half-small w n h fw fn small low least most =
    subst (λ z. unsigned_abs (z *ℤ pos h) ≤ 4611686018427387904) (sym (to_z-of_z w64 w fw))
    (half-size (w *ℤ pos h) (to_z w64 (of_z w64 n)) h (size-kept n 4611686018427387904 fn small) low least most)

multiple-words : (a : ℤ) (h : ℕ) → FitsSigned w64 a → h ≤ 268435456 → to_z w64 (of_z w64 a) *ℤ to_z w64 h ≡ a *ℤ pos h
multiple-words a h fa low = ap (λ z. z *ℤ to_z w64 h) (to_z-of_z w64 a fa) ∙ ap (λ z. a *ℤ z) (to_z_pos w64 h (lt_of_le_of_lt low (lit< tt)))

pub multiple-fits : (a : ℤ) (h : ℕ) → FitsSigned w64 a → h ≤ 268435456 → unsigned_abs (a *ℤ pos h) ≤ 4611686018427387904 → FitsSigned w64 (to_z w64 (of_z w64 a) *ℤ to_z w64 h)
multiple-fits a h fa low small = subst (FitsSigned w64) (sym (multiple-words a h fa low)) (fits_signed_from_abs w64 (a *ℤ pos h) (lt_of_le_of_lt small (lit< tt)))

pub multiple-is : (a : ℤ) (h : ℕ) → FitsSigned w64 a → h ≤ 268435456 → unsigned_abs (a *ℤ pos h) ≤ 4611686018427387904 → to_z w64 (of_z w64 (to_z w64 (of_z w64 a) *ℤ to_z w64 h)) ≡ a *ℤ pos h
multiple-is a h fa low small = to_z-of_z w64 _ (multiple-fits a h fa low small) ∙ multiple-words a h fa low

-- ---- ways from a centre, doubled
pub below-is : (y top k d r : ℤ) → FitsSigned w32 y → FitsSigned w64 top → FitsSigned w64 k → FitsSigned w64 d → FitsSigned w64 r → k ≡ pos 2 *ℤ to_z w32 (of_z w32 y) +ℤ pos 1 → d ≡ pos 2 *ℤ to_z w64 (of_z w64 top) → r ≡ to_z w64 (of_z w64 k) -ℤ to_z w64 (of_z w64 d) → to_z w64 (of_z w64 r) ≡ pos 2 *ℤ y +ℤ pos 1 -ℤ pos 2 *ℤ top
below-is y top k d r fy ft fk fd fr ek ed er =
    to_z-of_z w64 r fr ∙ er ∙ difference-words k d fk fd
    ∙ ap (λ z. z -ℤ d) (ek ∙ ap (λ z. pos 2 *ℤ z +ℤ pos 1) (to_z-of_z w32 y fy))
    ∙ ap (λ z. (pos 2 *ℤ y +ℤ pos 1) -ℤ z) (ed ∙ ap (λ z. pos 2 *ℤ z) (to_z-of_z w64 top ft))

pub way-is : (at from k d r : ℤ) (size : ℕ) → FitsSigned w32 at → FitsSigned w64 from → FitsSigned w64 k → FitsSigned w64 d → FitsSigned w64 r → k ≡ pos 2 *ℤ to_z w32 (of_z w32 at) +ℤ pos 1 → d ≡ pos 2 *ℤ to_z w64 (of_z w64 from) → r ≡ to_z w64 (of_z w64 k) -ℤ to_z w64 (of_z w64 d) -ℤ pos size → to_z w64 (of_z w64 r) ≡ offset at from (pos size)
way-is at from k d r size fa ff fk fd fr ek ed er =
    to_z-of_z w64 r fr ∙ er ∙ ap (λ z. z -ℤ pos size) (difference-words k d fk fd)
    ∙ ap (λ z. z -ℤ d -ℤ pos size) (ek ∙ ap (λ z. pos 2 *ℤ z +ℤ pos 1) (to_z-of_z w32 at fa))
    ∙ ap (λ z. (pos 2 *ℤ at +ℤ pos 1) -ℤ z -ℤ pos size) (ed ∙ ap (λ z. pos 2 *ℤ z) (to_z-of_z w64 from ff))

pub way-odd : (at from : ℤ) (size : ℕ) → (unsigned_abs (offset at from (pos size)) + size) % 2 ≡ 1
way-odd at from size = omega (arith, ints)

offset-size : (a b : ℤ) → unsigned_abs a ≤ 4294967296 → unsigned_abs b ≤ 536870912 → unsigned_abs (a -ℤ b) ≤ 4831838208
offset-size a b na nb = omega (arith, ints)

offset-less : (u : ℤ) (n : ℕ) → unsigned_abs u ≤ 4831838208 → n ≤ 65536 → unsigned_abs (u -ℤ pos n) ≤ 4831903744
offset-less u n nu le = omega (arith, ints)

offset-words : (a b : ℤ) (n : ℕ) → FitsSigned w64 a → FitsSigned w64 b → unsigned_abs a ≤ 4294967296 → unsigned_abs b ≤ 536870912 → n ≤ 65536 → to_z w64 (of_z w64 (to_z w64 (of_z w64 a) -ℤ to_z w64 (of_z w64 b))) -ℤ to_z w64 n ≡ a -ℤ b -ℤ pos n
offset-words a b n fa fb na nb le =
    ap (λ z. to_z w64 (of_z w64 z) -ℤ to_z w64 n) (difference-words a b fa fb)
    ∙ ap (λ z. z -ℤ to_z w64 n) (to_z-of_z w64 (a -ℤ b) (fits_signed_from_abs w64 (a -ℤ b) (lt_of_le_of_lt (offset-size a b na nb) (lit< tt))))
    ∙ ap (λ z. a -ℤ b -ℤ z) (to_z_pos w64 n (lt_of_le_of_lt le (lit< tt)))

pub offset-fits : (a b : ℤ) (n : ℕ) → FitsSigned w64 a → FitsSigned w64 b → unsigned_abs a ≤ 4294967296 → unsigned_abs b ≤ 536870912 → n ≤ 65536 → FitsSigned w64 (to_z w64 (of_z w64 (to_z w64 (of_z w64 a) -ℤ to_z w64 (of_z w64 b))) -ℤ to_z w64 n)
offset-fits a b n fa fb na nb le =
    subst (FitsSigned w64) (sym (offset-words a b n fa fb na nb le)) (fits_signed_from_abs w64 (a -ℤ b -ℤ pos n) (lt_of_le_of_lt (offset-less (a -ℤ b) n (offset-size a b na nb) le) (lit< tt)))

pub offset-is : (a b : ℤ) (n : ℕ) → FitsSigned w64 a → FitsSigned w64 b → unsigned_abs a ≤ 4294967296 → unsigned_abs b ≤ 536870912 → n ≤ 65536 → to_z w64 (of_z w64 (to_z w64 (of_z w64 (to_z w64 (of_z w64 a) -ℤ to_z w64 (of_z w64 b))) -ℤ to_z w64 n)) ≡ a -ℤ b -ℤ pos n
offset-is a b n fa fb na nb le = to_z-of_z w64 _ (offset-fits a b n fa fb na nb le) ∙ offset-words a b n fa fb na nb le

-- ---- a lean that is raised by a height, less one
raised-sum : (lean : ℤ) (h : ℕ) → unsigned_abs lean ≤ 2305843009213693952 → h ≤ 268435456 → unsigned_abs (lean +ℤ pos h) ≤ 4611686018427387903
raised-sum lean h small low = omega (arith, ints)

pub raised-size : (lean : ℤ) (h : ℕ) → unsigned_abs lean ≤ 2305843009213693952 → h ≤ 268435456 → unsigned_abs ((lean +ℤ pos h) -ℤ pos 1) ≤ 4611686018427387904
raised-size lean h small low = omega (arith, ints)

pub raised-words : (lean : ℤ) (h : ℕ) → FitsSigned w64 lean → unsigned_abs lean ≤ 2305843009213693952 → h ≤ 268435456 → to_z w64 (of_z w64 (to_z w64 (of_z w64 lean) +ℤ to_z w64 h)) -ℤ pos 1 ≡ (lean +ℤ pos h) -ℤ pos 1
raised-words lean h fits small low =
    ap (λ z. z -ℤ pos 1)
    (word-is (to_z w64 (of_z w64 lean) +ℤ to_z w64 h) (lean +ℤ pos h) 4611686018427387903
    (ap (λ z. z +ℤ to_z w64 h) (to_z-of_z w64 lean fits) ∙ ap (λ z. lean +ℤ z) (to_z_pos w64 h (lt_of_le_of_lt low (lit< tt))))
    (raised-sum lean h small low) (lit< tt))
