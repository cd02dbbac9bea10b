-- Boxes of pixels, side by side.
use Rattle.std.proofs.Common.{◌≡◌, ℤ, pos, ◌-ℤ◌, ◌≤ℤ◌, Bool, true, false, ◌&&◌, ◌||◌, ◌↔◌, refl, sym, ap, ◌∙◌, arith, FitsSigned, w64, to_z, of_z}
use Rattle.std.specs.Prelude.{int_le, int_lt}
use Rattle.std.specs.Int.{int_min, int_max}
use Rattle.std.proofs.lemmas.Int.{ints, to_z-of_z}
use Rattle.canvas_plane.specs.declared.PageBox.{PageBox}
use Rattle.canvas_plane.specs.Page.{is_in, is_empty_box, IsWithin, meet_of, joined}

-- x is from the one up to the other
abbrev side : ℤ → ℤ → ℤ → Bool
side from to x = int_le from x && int_lt x to

-- the machine compares the same numbers
pub kept-side : (a b x : ℤ) → FitsSigned w64 a → FitsSigned w64 b → FitsSigned w64 x
    → (int_le (to_z w64 (of_z w64 a)) (to_z w64 (of_z w64 x)) && int_lt (to_z w64 (of_z w64 x)) (to_z w64 (of_z w64 b))) ≡ (int_le a x && int_lt x b)
kept-side a b x f g h = λ i. int_le (to_z-of_z w64 a f i) (to_z-of_z w64 x h i) && int_lt (to_z-of_z w64 x h i) (to_z-of_z w64 b g i)

side-none : (a b x : ℤ) → int_le b a ≡ true → side a b x ≡ false
side-none a b x h = grind (arith, ints)

side-first : (a b : ℤ) → int_le b a ≡ false → side a b a ≡ true
side-first a b h = grind (arith, ints)

side-last : (a b : ℤ) → int_le b a ≡ false → side a b (b -ℤ pos 1) ≡ true
side-last a b h = grind (arith, ints)

side-least : (a b x : ℤ) → side a b x ≡ true → a ≤ℤ x
side-least a b x h = grind (arith, ints)

side-most : (a b x : ℤ) → side a b (x -ℤ pos 1) ≡ true → x ≤ℤ b
side-most a b x h = grind (arith, ints)

side-meet : (a b c d x : ℤ) → side (int_max a c) (int_min b d) x ≡ (side a b x && side c d x)
side-meet a b c d x = grind (arith, ints)

side-grows : (a b c d x : ℤ) → c ≤ℤ a → b ≤ℤ d → side a b x ≡ true → side c d x ≡ true
side-grows a b c d x h k s = grind (arith, ints)

pub min-first : (a b : ℤ) → int_min a b ≤ℤ a
min-first a b = grind (arith, ints)

pub min-second : (a b : ℤ) → int_min a b ≤ℤ b
min-second a b = grind (arith, ints)

pub max-first : (a b : ℤ) → a ≤ℤ int_max a b
max-first a b = grind (arith, ints)

pub max-second : (a b : ℤ) → b ≤ℤ int_max a b
max-second a b = grind (arith, ints)

pub min-above : (o a b : ℤ) → o ≤ℤ a → o ≤ℤ b → o ≤ℤ int_min a b
min-above o a b h k = grind (arith, ints)

pub max-below : (o a b : ℤ) → a ≤ℤ o → b ≤ℤ o → int_max a b ≤ℤ o
max-below o a b h k = grind (arith, ints)

first-of : (p q : Bool) → (p && q) ≡ true → p ≡ true
first-of true q h = refl
first-of false q h = h

second-of : (p q : Bool) → (p && q) ≡ true → q ≡ true
second-of true q h = h
second-of false true h = refl
second-of false false h = h

both-of : (p q : Bool) → p ≡ true → q ≡ true → (p && q) ≡ true
both-of p q h k = ap (λ b. b && q) h ∙ k

neither-of : (p q : Bool) → (p || q) ≡ false → (p ≡ false) × (q ≡ false)
neither-of false q h = (refl, h)
neither-of true q h = absurd (cc h)

and_false : (p : Bool) → (p && false) ≡ false
and_false true = refl
and_false false = refl

swapped : (a b c d : Bool) → ((a && b) && (c && d)) ≡ ((a && c) && (b && d))
swapped false b c d = refl
swapped true false true d = refl
swapped true false false d = refl
swapped true true true d = refl
swapped true true false d = refl

-- each edge of the outer box lies no further in
pub record EnclosesEdges (outer b : PageBox) : Type 0 where
  pub left : outer.left ≤ℤ b.left
  pub top : outer.top ≤ℤ b.top
  pub right : b.right ≤ℤ outer.right
  pub bottom : b.bottom ≤ℤ outer.bottom

within-edges : (b outer : PageBox) → EnclosesEdges outer b → IsWithin b outer
within-edges b outer e = λ x y h.
    both-of (side outer.left outer.right x) (side outer.top outer.bottom y)
    (side-grows b.left b.right outer.left outer.right x e.left e.right (first-of (side b.left b.right x) (side b.top b.bottom y) h))
    (side-grows b.top b.bottom outer.top outer.bottom y e.top e.bottom (second-of (side b.left b.right x) (side b.top b.bottom y) h))

-- what holds a box that is not empty has it between its edges
edges-of : (b outer : PageBox) → is_empty_box b ≡ false → IsWithin b outer → EnclosesEdges outer b
edges-of b outer h w =
    let n = neither-of (int_le b.right b.left) (int_le b.bottom b.top) h in
    let first = w b.left b.top (both-of (side b.left b.right b.left) (side b.top b.bottom b.top) (side-first b.left b.right n.0) (side-first b.top b.bottom n.1)) in
    let last = w (b.right -ℤ pos 1) (b.bottom -ℤ pos 1) (both-of (side b.left b.right (b.right -ℤ pos 1)) (side b.top b.bottom (b.bottom -ℤ pos 1)) (side-last b.left b.right n.0) (side-last b.top b.bottom n.1)) in
    record {
      left = side-least outer.left outer.right b.left (first-of (side outer.left outer.right b.left) (side outer.top outer.bottom b.top) first);
      top = side-least outer.top outer.bottom b.top (second-of (side outer.left outer.right b.left) (side outer.top outer.bottom b.top) first);
      right = side-most outer.left outer.right b.right (first-of (side outer.left outer.right (b.right -ℤ pos 1)) (side outer.top outer.bottom (b.bottom -ℤ pos 1)) last);
      bottom = side-most outer.top outer.bottom b.bottom (second-of (side outer.left outer.right (b.right -ℤ pos 1)) (side outer.top outer.bottom (b.bottom -ℤ pos 1)) last);
    }

pub joined-first : (a b : PageBox) → IsWithin a (joined a b)
joined-first a b = within-edges a (joined a b) (record { left = min-first a.left b.left; top = min-first a.top b.top; right = max-first a.right b.right; bottom = max-first a.bottom b.bottom })

pub joined-second : (a b : PageBox) → IsWithin b (joined a b)
joined-second a b = within-edges b (joined a b) (record { left = min-second a.left b.left; top = min-second a.top b.top; right = max-second a.right b.right; bottom = max-second a.bottom b.bottom })

pub joined-least : (a b outer : PageBox) → is_empty_box a ≡ false → is_empty_box b ≡ false → IsWithin a outer → IsWithin b outer → IsWithin (joined a b) outer
joined-least a b outer h k v w =
    let e = edges-of a outer h v in
    let f = edges-of b outer k w in
    within-edges (joined a b) outer (record {
      left = min-above outer.left a.left b.left e.left f.left;
      top = min-above outer.top a.top b.top e.top f.top;
      right = max-below outer.right a.right b.right e.right f.right;
      bottom = max-below outer.bottom a.bottom b.bottom e.bottom f.bottom;
    })

-- two boxes have in common what both hold
pub meet-exact : (a b : PageBox) (x y : ℤ) → is_in (meet_of a b) x y ≡ (is_in a x y && is_in b x y)
meet-exact a b x y =
    ap (λ t. t && side (int_max a.top b.top) (int_min a.bottom b.bottom) y) (side-meet a.left a.right b.left b.right x)
    ∙ ap (λ t. (side a.left a.right x && side b.left b.right x) && t) (side-meet a.top a.bottom b.top b.bottom y)
    ∙ swapped (side a.left a.right x) (side b.left b.right x) (side a.top a.bottom y) (side b.top b.bottom y)

-- a box without width or height holds nothing
narrow-none : (b : PageBox) (x y : ℤ) → int_le b.right b.left ≡ true → is_in b x y ≡ false
narrow-none b x y h = ap (λ t. t && side b.top b.bottom y) (side-none b.left b.right x h)

low-none : (b : PageBox) (x y : ℤ) → int_le b.bottom b.top ≡ true → is_in b x y ≡ false
low-none b x y h = ap (λ t. side b.left b.right x && t) (side-none b.top b.bottom y h) ∙ and_false (side b.left b.right x)

test-known : (p : Bool) → (p ≡ false → true ≡ false) → p ≡ true
test-known true h = refl
test-known false h = sym (h refl)

either : {P : Type 0} (p q : Bool) → (p || q) ≡ true → (p ≡ true → P) → (q ≡ true → P) → P
either true q h f g = f refl
either false q h f g = g h

-- a box is empty just where it holds nothing
pub empty-none : (b : PageBox) → (is_empty_box b ≡ true) ↔ ((x y : ℤ) → is_in b x y ≡ false)
empty-none b = (
  λ h x y. either (int_le b.right b.left) (int_le b.bottom b.top) h (narrow-none b x y) (low-none b x y),
  λ h. test-known (is_empty_box b) (λ e.
      let n = neither-of (int_le b.right b.left) (int_le b.bottom b.top) e in
      sym (both-of (side b.left b.right b.left) (side b.top b.bottom b.top) (side-first b.left b.right n.0) (side-first b.top b.bottom n.1)) ∙ h b.left b.top),
)
