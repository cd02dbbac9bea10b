-- A pixel of the page, pulled back to a plane that is carried there.
use Rattle.std.proofs.Common.{◌≡◌, ℕ, zero, suc, ◌≤◌, Bool, true, false, ◌&&◌, ℤ, pos, ◌+ℤ◌, ◌-ℤ◌, ◌≤ℤ◌, refl, ap, ◌∙◌, arith}
use Rattle.std.specs.Prelude.{int_le, int_lt}
use Rattle.std.specs.Int.{int_max, int_min}
use Rattle.std.proofs.lemmas.Int.{ints}
use lib.IntN.{neg_ℤ}
use mathlib.Core.Path.{fun_ext}
use Rattle.canvas_plane.specs.declared.Point.{Point}
use Rattle.canvas_plane.specs.declared.Pose.{Pose}
use Rattle.canvas_plane.specs.Motion.{carry, flipped, moved, not_same, place_of, turned, turns_of}
use Rattle.canvas_plane.specs.Page.{is_in}
use Rattle.canvas_plane.proofs.Composition.{carry-carry}
use Rattle.canvas_shape.specs.Bounds.{IsAmong}
use Rattle.canvas_shape.specs.Box.{box_between}

-- x is from the lesser of the two up to the greater
abbrev side : ℤ → ℤ → ℤ → Bool
side a b x = int_le (int_min a b) x && int_lt x (int_max a b)

side-moved : (a b d x : ℤ) → side (a +ℤ d) (b +ℤ d) x ≡ side a b (x -ℤ d)
side-moved a b d x = grind (arith, ints)

side-negated : (a b x : ℤ) → side (neg_ℤ a) (neg_ℤ b) x ≡ side a b (neg_ℤ x -ℤ pos 1)
side-negated a b x = grind (arith, ints)

swapped : (p q : Bool) → (p && q) ≡ (q && p)
swapped true true = refl
swapped true false = refl
swapped false true = refl
swapped false false = refl

-- the pixel of the plane that is carried to a pixel of the page: a box holds the one where the carried box holds the other
pub record Pulled (f : Point → Point) (x y : ℤ) : Type 0 where
  pub u : ℤ
  pub v : ℤ
  pub same : (p q : Point) → is_in (box_between (f p) (f q)) x y ≡ is_in (box_between p q) u v

pulled-moved : (by : Point) (x y : ℤ) → Pulled (moved by) x y
pulled-moved by x y = record {
  u = x -ℤ by.x;
  v = y -ℤ by.y;
  same = λ p q. ap (λ t. t && side (p.y +ℤ by.y) (q.y +ℤ by.y) y) (side-moved p.x q.x by.x x) ∙ ap (λ t. side p.x q.x (x -ℤ by.x) && t) (side-moved p.y q.y by.y y);
}

pulled-flipped : (f : Bool) (x y : ℤ) → Pulled (flipped f) x y
pulled-flipped false x y = record { u = x; v = y; same = λ p q. refl }
pulled-flipped true x y = record { u = neg_ℤ x -ℤ pos 1; v = y; same = λ p q. ap (λ t. t && side p.y q.y y) (side-negated p.x q.x x) }

turned-once : (n : ℕ) (x y : ℤ) (p q : Point) → is_in (box_between (turned (suc n) p) (turned (suc n) q)) x y ≡ is_in (box_between (turned n p) (turned n q)) y (neg_ℤ x -ℤ pos 1)
turned-once n x y p q =
    ap (λ t. t && side (turned n p).x (turned n q).x y) (side-negated (turned n p).y (turned n q).y x)
    ∙ swapped (side (turned n p).y (turned n q).y (neg_ℤ x -ℤ pos 1)) (side (turned n p).x (turned n q).x y)

pulled-turned : (n : ℕ) (x y : ℤ) → Pulled (turned n) x y
pulled-turned zero x y = record { u = x; v = y; same = λ p q. refl }
pulled-turned (suc n) x y =
    let rest : Pulled (turned n) y (neg_ℤ x -ℤ pos 1) = pulled-turned n y (neg_ℤ x -ℤ pos 1) in
    record { u = rest.u; v = rest.v; same = λ p q. turned-once n x y p q ∙ rest.same p q }

-- back through one after the other
through : (g f : Point → Point) (x y : ℤ) (a : Pulled g x y) → Pulled f a.u a.v → Pulled (λ p. g (f p)) x y
through g f x y a b = record { u = b.u; v = b.v; same = λ p q. a.same (f p) (f q) ∙ b.same p q }

pub pulled : (out : Pose) (x y : ℤ) → Pulled (carry out) x y
pulled out x y =
    let a : Pulled (moved (place_of out)) x y = pulled-moved (place_of out) x y in
    let b : Pulled (turned out.quarter) a.u a.v = pulled-turned out.quarter a.u a.v in
    let c : Pulled (flipped out.flip) b.u b.v = pulled-flipped out.flip b.u b.v in
    through (moved (place_of out)) (λ p. turned out.quarter (flipped out.flip p)) x y a (through (turned out.quarter) (flipped out.flip) a.u a.v b c)

-- ---- points between corners stay between them

-- x is from the lesser of the two to the greater
pub record IsFromTo (a b x : ℤ) : Type 0 where
  pub least : int_min a b ≤ℤ x
  pub most : x ≤ℤ int_max a b

from-moved : (a b d x : ℤ) → IsFromTo a b x → IsFromTo (a +ℤ d) (b +ℤ d) (x +ℤ d)
from-moved a b d x h = record { least = grind (arith, ints); most = grind (arith, ints) }

from-negated : (a b x : ℤ) → IsFromTo a b x → IsFromTo (neg_ℤ a) (neg_ℤ b) (neg_ℤ x)
from-negated a b x h = record { least = grind (arith, ints); most = grind (arith, ints) }

-- the point lies between two corners
pub record LiesBetween (p q r : Point) : Type 0 where
  pub across : IsFromTo p.x q.x r.x
  pub down : IsFromTo p.y q.y r.y

between-flipped : (f : Bool) (p q r : Point) → LiesBetween p q r → LiesBetween (flipped f p) (flipped f q) (flipped f r)
between-flipped false p q r h = h
between-flipped true p q r h = record { across = from-negated p.x q.x r.x h.across; down = h.down }

between-turned : (n : ℕ) (p q r : Point) → LiesBetween p q r → LiesBetween (turned n p) (turned n q) (turned n r)
between-turned zero p q r h = h
between-turned (suc n) p q r h =
    let rest : LiesBetween (turned n p) (turned n q) (turned n r) = between-turned n p q r h in
    record { across = from-negated (turned n p).y (turned n q).y (turned n r).y rest.down; down = rest.across }

between-moved : (by p q r : Point) → LiesBetween p q r → LiesBetween (moved by p) (moved by q) (moved by r)
between-moved by p q r h = record { across = from-moved p.x q.x by.x r.x h.across; down = from-moved p.y q.y by.y r.y h.down }

pub between-carried : (out : Pose) (p q r : Point) → LiesBetween p q r → LiesBetween (carry out p) (carry out q) (carry out r)
between-carried out p q r h =
    between-moved (place_of out) (turned out.quarter (flipped out.flip p)) (turned out.quarter (flipped out.flip q)) (turned out.quarter (flipped out.flip r))
    (between-turned out.quarter (flipped out.flip p) (flipped out.flip q) (flipped out.flip r) (between-flipped out.flip p q r h))

pub among-between : (p q r : Point) → LiesBetween p q r → IsAmong (box_between p q) r
among-between p q r h = record { left = h.across.least; right = h.across.most; top = h.down.least; bottom = h.down.most }

-- ---- one pose after another

turns-few : (f : Bool) (m n : ℕ) → turns_of f m n ≤ 3
turns-few false m n = omega arith
turns-few true m n = omega arith

abbrev pub composed : Pose → Pose → Pose
composed a b = record {
  dx = (carry b (place_of a)).x;
  dy = (carry b (place_of a)).y;
  quarter = turns_of b.flip a.quarter b.quarter;
  flip = not_same a.flip b.flip;
}

-- a pose that carries as one after the other
pub record Composed (a b : Pose) : Type 0 where
  pub pose : Pose
  pub quarter : pose.quarter ≤ 3
  pub carries : carry pose ≡ (λ q. carry b (carry a q))

pub compose : (a b : Pose) → a.quarter ≤ 3 → b.quarter ≤ 3 → Composed a b
compose a b h k = record {
  pose = composed a b;
  quarter = turns-few b.flip a.quarter b.quarter;
  carries = fun_ext (λ p. carry-carry a b (composed a b) p h k refl refl refl);
}
