-- The edges of boxes.
use Rattle.std.proofs.Common.{◌≡◌, ◌≤◌, ◌^◌, ◌-◌, Bool, true, false, ◌&&◌, ◌||◌, ℤ, pos, ◌≤ℤ◌, ◌<ℤ◌, refl, sym, ap, ◌∙◌, arith, ◌⊎◌, inl, inr}
use Rattle.std.proofs.lemmas.Bool.{cases_Bool, true≢false, and_from, or_right, and_parts, and_right}
use Rattle.std.specs.Prelude.{int_le, int_lt, unsigned_abs}
use Rattle.std.specs.Int.{int_max, int_min}
use Rattle.std.proofs.lemmas.Int.{by_lt_z, ints}
use lib.IntN.{neg_ℤ}
use Rattle.canvas_plane.proofs.Boxes.{min-first, min-second, max-first, max-second, min-above, max-below}
use Rattle.canvas_doc.specs.Edges.{AreEdges, AreNear, AreNearEnds, AreWidest}

-- x is from the lesser of the two up to the greater
abbrev side : ℤ → ℤ → ℤ → Bool
side a b x = int_le (int_min a b) x && int_lt x (int_max a b)

-- a pixel lies between edges, or these are the widest
abbrev pub holds : ℤ → ℤ → ℤ → ℤ → ℤ → ℤ → Bool
holds l t r b u v = int_le l (neg_ℤ (pos (2 ^ 31))) || (side l r u && side t b v)

lt-test : (a b : ℤ) → a <ℤ b → int_lt a b ≡ true
lt-test a b h = grind (arith, ints)

side-grows : (a b c d x : ℤ) → a ≤ℤ b → c ≤ℤ a → b ≤ℤ d → side a b x ≡ true → side c d x ≡ true
side-grows a b c d x o h k s = grind (arith, ints)

side-least : (a b x : ℤ) → a ≤ℤ b → side a b x ≡ true → a ≤ℤ x
side-least a b x o s = grind (arith, ints)

side-most : (a b x : ℤ) → a ≤ℤ b → side a b x ≡ true → x <ℤ b
side-most a b x o s = grind (arith, ints)

test-grows : (a c m : ℤ) → c ≤ℤ a → int_le a m ≡ true → int_le c m ≡ true
test-grows a c m h k = grind (arith, ints)

either-way : (p q r s : Bool) → (p ≡ true → r ≡ true) → (q ≡ true → s ≡ true) → (p || q) ≡ true → (r || s) ≡ true
either-way true q r s f g h = ap (λ z. z || s) (f refl)
either-way false q true s f g h = refl
either-way false q false s f g h = g h

not-le : (a b : ℤ) → b <ℤ a → int_le a b ≡ false
not-le a b h = grind (arith, ints)

both-ways : (p q r s : Bool) → (p ≡ true → r ≡ true) → (q ≡ true → s ≡ true) → (p && q) ≡ true → (r && s) ≡ true
both-ways true q r s f g h = ap (λ z. z && s) (f refl) ∙ g h
both-ways false q r s f g h = cc

-- wider edges hold what narrower ones hold
pub holds-grows : (l t r b l' t' r' b' u v : ℤ) → l ≤ℤ r → t ≤ℤ b → l' ≤ℤ l → t' ≤ℤ t → r ≤ℤ r' → b ≤ℤ b' → holds l t r b u v ≡ true → holds l' t' r' b' u v ≡ true
holds-grows l t r b l' t' r' b' u v across down hl ht hr hb h =
    either-way (int_le l (neg_ℤ (pos (2 ^ 31)))) (side l r u && side t b v) (int_le l' (neg_ℤ (pos (2 ^ 31)))) (side l' r' u && side t' b' v)
    (test-grows l l' (neg_ℤ (pos (2 ^ 31))) hl)
    (both-ways (side l r u) (side t b v) (side l' r' u) (side t' b' v) (side-grows l r l' r' u across hl hr) (side-grows t b t' b' v down ht hb)) h

-- ---- how far edges go

pub record AreLimited (l t r b : ℤ) : Type 0 where
  pub left : l <ℤ pos (2 ^ 31 - 1)
  pub top : t <ℤ pos (2 ^ 31 - 1)
  pub right : neg_ℤ (pos (2 ^ 31)) <ℤ r
  pub bottom : neg_ℤ (pos (2 ^ 31)) <ℤ b

pub limited : (l t r b : ℤ) → AreEdges l t r b → AreLimited l t r b
limited l t r b e = by_lt_z (neg_ℤ (pos (2 ^ 31))) l
    (λ h. let n : AreNear l t r b = e.near h in record { left = omega (arith, ints); top = omega (arith, ints); right = omega (arith, ints); bottom = omega (arith, ints) })
    (λ h. let w : AreWidest l t r b = e.widest h in record { left = omega (arith, ints); top = omega (arith, ints); right = omega (arith, ints); bottom = omega (arith, ints) })

-- what a box whose edges are no widest ones holds lies between them
holds-near : (l t r b u v : ℤ) → neg_ℤ (pos (2 ^ 31)) <ℤ l → holds l t r b u v ≡ true → (side l r u && side t b v) ≡ true
holds-near l t r b u v h k = ap (λ z. z || (side l r u && side t b v)) (sym (not-le l (neg_ℤ (pos (2 ^ 31))) h)) ∙ k

overlapping : (l r l' r' x : ℤ) → l ≤ℤ x → x <ℤ r → l' ≤ℤ x → x <ℤ r' → (int_lt l r' && int_lt l' r) ≡ true
overlapping l r l' r' x h k h' k' = and_from (int_lt l r') (int_lt l' r) (lt-test l r' (omega (arith, ints))) (lt-test l' r (omega (arith, ints)))

crossing : (l r l' r' : ℤ) → l <ℤ r' → l' <ℤ r → (int_lt l r' && int_lt l' r) ≡ true
crossing l r l' r' h k = and_from (int_lt l r') (int_lt l' r) (lt-test l r' h) (lt-test l' r k)

-- the sides of two boxes have parts in common
pub record Overlap (l t r b l' t' r' b' : ℤ) : Type 0 where
  pub across : (int_lt l r' && int_lt l' r) ≡ true
  pub down : (int_lt t b' && int_lt t' b) ≡ true

-- the whole plane overlaps all
widest-overlap : (l t r b l' t' r' b' : ℤ) → AreWidest l t r b → AreLimited l' t' r' b' → Overlap l t r b l' t' r' b'
widest-overlap l t r b l' t' r' b' w n = record {
  across = crossing l r l' r' (omega (arith, ints)) (omega (arith, ints));
  down = crossing t b t' b' (omega (arith, ints)) (omega (arith, ints));
}

overlap-widest : (l t r b l' t' r' b' : ℤ) → AreLimited l t r b → AreWidest l' t' r' b' → Overlap l t r b l' t' r' b'
overlap-widest l t r b l' t' r' b' n w = record {
  across = crossing l r l' r' (omega (arith, ints)) (omega (arith, ints));
  down = crossing t b t' b' (omega (arith, ints)) (omega (arith, ints));
}

near-overlap : (l t r b l' t' r' b' u v : ℤ) → l ≤ℤ r → t ≤ℤ b → l' ≤ℤ r' → t' ≤ℤ b' → (side l r u && side t b v) ≡ true → (side l' r' u && side t' b' v) ≡ true → Overlap l t r b l' t' r' b'
near-overlap l t r b l' t' r' b' u v o p o' p' h h' =
    let s = and_parts (side l r u) (side t b v) h in
    let s' = and_parts (side l' r' u) (side t' b' v) h' in
    record {
      across = overlapping l r l' r' u (side-least l r u o s.0) (side-most l r u o s.0) (side-least l' r' u o' s'.0) (side-most l' r' u o' s'.0);
      down = overlapping t b t' b' v (side-least t b v p s.1) (side-most t b v p s.1) (side-least t' b' v p' s'.1) (side-most t' b' v p' s'.1);
    }

-- boxes that hold a pixel in common overlap
pub common-overlap : (l t r b l' t' r' b' u v : ℤ) → AreEdges l t r b → AreEdges l' t' r' b' → holds l t r b u v ≡ true → holds l' t' r' b' u v ≡ true → Overlap l t r b l' t' r' b'
common-overlap l t r b l' t' r' b' u v e e' h h' = by_lt_z (neg_ℤ (pos (2 ^ 31))) l
    (λ n. by_lt_z (neg_ℤ (pos (2 ^ 31))) l'
    (λ n'. near-overlap l t r b l' t' r' b' u v e.across e.down e'.across e'.down (holds-near l t r b u v n h) (holds-near l' t' r' b' u v n' h'))
    (λ w'. overlap-widest l t r b l' t' r' b' (limited l t r b e) (e'.widest w')))
    (λ w. widest-overlap l t r b l' t' r' b' (e.widest w) (limited l' t' r' b' e'))

-- ---- empty boxes

side-none : (a b x : ℤ) → a ≤ℤ b → int_le b a ≡ true → side a b x ≡ false
side-none a b x o h = grind (arith, ints)

sides-none : (l t r b u v : ℤ) → l ≤ℤ r → t ≤ℤ b → (int_le r l || int_le b t) ≡ true → (side l r u && side t b v) ≡ false
sides-none l t r b u v o p h = elim (cases_Bool (int_le r l)) [
  | inl e ↦ ap (λ z. z && side t b v) (side-none l r u o e)
  | inr e ↦ ap (λ z. side l r u && z) (side-none t b v p (ap (λ z. z || int_le b t) (sym e) ∙ h)) ∙ and_right (side l r u) false refl
]

widest-some : (l t r b : ℤ) → AreWidest l t r b → (int_le r l || int_le b t) ≡ false
widest-some l t r b w =
    let x : int_le r l ≡ false = not-le r l (omega (arith, ints)) in
    let y : int_le b t ≡ false = not-le b t (omega (arith, ints)) in
    ap (λ z. z || int_le b t) x ∙ y

-- no pixel lies between edges that touch
pub empty-none : (l t r b u v : ℤ) → AreEdges l t r b → (int_le r l || int_le b t) ≡ true → holds l t r b u v ≡ false
empty-none l t r b u v e h = by_lt_z (neg_ℤ (pos (2 ^ 31))) l
    (λ n. ap (λ z. z || (side l r u && side t b v)) (not-le l (neg_ℤ (pos (2 ^ 31))) n) ∙ sides-none l t r b u v e.across e.down h)
    (λ w. absurd (true≢false (sym h ∙ widest-some l t r b (e.widest w))))

-- ---- the box round two boxes

-- numbers of 32 bits
pub record AreNumbers (l t r b : ℤ) : Type 0 where
  pub left : neg_ℤ (pos (2 ^ 31)) ≤ℤ l
  pub top : neg_ℤ (pos (2 ^ 31)) ≤ℤ t
  pub right : r ≤ℤ pos (2 ^ 31 - 1)
  pub bottom : b ≤ℤ pos (2 ^ 31 - 1)

pub numbers : (l t r b : ℤ) → AreEdges l t r b → AreNumbers l t r b
numbers l t r b e = by_lt_z (neg_ℤ (pos (2 ^ 31))) l
    (λ h. let n : AreNear l t r b = e.near h in record { left = omega (arith, ints); top = omega (arith, ints); right = omega (arith, ints); bottom = omega (arith, ints) })
    (λ h. let w : AreWidest l t r b = e.widest h in record { left = omega (arith, ints); top = omega (arith, ints); right = omega (arith, ints); bottom = omega (arith, ints) })

le-trans : (a b c : ℤ) → a ≤ℤ b → b ≤ℤ c → a ≤ℤ c
le-trans a b c h k = omega (arith, ints)

lt-first : (a b m : ℤ) → m <ℤ int_min a b → m <ℤ a
lt-first a b m h = grind (arith, ints)

lt-second : (a b m : ℤ) → m <ℤ int_min a b → m <ℤ b
lt-second a b m h = grind (arith, ints)

-- the lesser of two numbers is the least of all where one of them is, and the greater likewise
min-least : (a b m : ℤ) → a ≡ m → m ≤ℤ b → int_min a b ≡ m
min-least a b m e h = grind (arith, ints)

least-min : (a b m : ℤ) → b ≡ m → m ≤ℤ a → int_min a b ≡ m
least-min a b m e h = grind (arith, ints)

max-most : (a b m : ℤ) → a ≡ m → b ≤ℤ m → int_max a b ≡ m
max-most a b m e h = grind (arith, ints)

most-max : (a b m : ℤ) → b ≡ m → a ≤ℤ m → int_max a b ≡ m
most-max a b m e h = grind (arith, ints)

one-least : (a b m : ℤ) → int_min a b ≤ℤ m → (a ≤ℤ m) ⊎ (b ≤ℤ m)
one-least a b m h = by_lt_z m a (λ n. inr (grind (arith, ints))) (λ w. inl w)

first-widest : (l t r b l' t' r' b' : ℤ) → AreWidest l t r b → AreNumbers l' t' r' b' → AreWidest (int_min l l') (int_min t t') (int_max r r') (int_max b b')
first-widest l t r b l' t' r' b' w n = record {
  left = min-least l l' (neg_ℤ (pos (2 ^ 31))) w.left n.left;
  top = min-least t t' (neg_ℤ (pos (2 ^ 31))) w.top n.top;
  right = max-most r r' (pos (2 ^ 31 - 1)) w.right n.right;
  bottom = max-most b b' (pos (2 ^ 31 - 1)) w.bottom n.bottom;
}

second-widest : (l t r b l' t' r' b' : ℤ) → AreNumbers l t r b → AreWidest l' t' r' b' → AreWidest (int_min l l') (int_min t t') (int_max r r') (int_max b b')
second-widest l t r b l' t' r' b' n w = record {
  left = least-min l l' (neg_ℤ (pos (2 ^ 31))) w.left n.left;
  top = least-min t t' (neg_ℤ (pos (2 ^ 31))) w.top n.top;
  right = most-max r r' (pos (2 ^ 31 - 1)) w.right n.right;
  bottom = most-max b b' (pos (2 ^ 31 - 1)) w.bottom n.bottom;
}

both-near : (l t r b l' t' r' b' : ℤ) → AreNear l t r b → AreNear l' t' r' b' → AreNear (int_min l l') (int_min t t') (int_max r r') (int_max b b')
both-near l t r b l' t' r' b' n n' = record {
  left = min-above (neg_ℤ (pos (2 ^ 27))) l l' n.left n'.left;
  top = min-above (neg_ℤ (pos (2 ^ 27))) t t' n.top n'.top;
  right = max-below (pos (2 ^ 27)) r r' n.right n'.right;
  bottom = max-below (pos (2 ^ 27)) b b' n.bottom n'.bottom;
}

pub joined-edges : (l t r b l' t' r' b' : ℤ) → AreEdges l t r b → AreEdges l' t' r' b' → AreEdges (int_min l l') (int_min t t') (int_max r r') (int_max b b')
joined-edges l t r b l' t' r' b' e e' = record {
  across = le-trans (int_min l l') l (int_max r r') (min-first l l') (le-trans l r (int_max r r') e.across (max-first r r'));
  down = le-trans (int_min t t') t (int_max b b') (min-first t t') (le-trans t b (int_max b b') e.down (max-first b b'));
  near = λ h. both-near l t r b l' t' r' b' (e.near (lt-first l l' (neg_ℤ (pos (2 ^ 31))) h)) (e'.near (lt-second l l' (neg_ℤ (pos (2 ^ 31))) h));
  widest = λ h. elim (one-least l l' (neg_ℤ (pos (2 ^ 31))) h) [
    | inl w ↦ first-widest l t r b l' t' r' b' (e.widest w) (numbers l' t' r' b' e')
    | inr w ↦ second-widest l t r b l' t' r' b' (numbers l t r b e) (e'.widest w)
  ];
}

pub joined-first : (l t r b l' t' r' b' u v : ℤ) → AreEdges l t r b → holds l t r b u v ≡ true → holds (int_min l l') (int_min t t') (int_max r r') (int_max b b') u v ≡ true
joined-first l t r b l' t' r' b' u v e h = holds-grows l t r b (int_min l l') (int_min t t') (int_max r r') (int_max b b') u v e.across e.down (min-first l l') (min-first t t') (max-first r r') (max-first b b') h

pub joined-second : (l t r b l' t' r' b' u v : ℤ) → AreEdges l' t' r' b' → holds l' t' r' b' u v ≡ true → holds (int_min l l') (int_min t t') (int_max r r') (int_max b b') u v ≡ true
joined-second l t r b l' t' r' b' u v e h = holds-grows l' t' r' b' (int_min l l') (int_min t t') (int_max r r') (int_max b b') u v e.across e.down (min-second l l') (min-second t t') (max-second r r') (max-second b b') h

-- ---- the box between two points

near-least : (a b : ℤ) → unsigned_abs a ≤ 2 ^ 27 → unsigned_abs b ≤ 2 ^ 27 → neg_ℤ (pos (2 ^ 27)) ≤ℤ int_min a b
near-least a b h k = grind (arith, ints)

near-most : (a b : ℤ) → unsigned_abs a ≤ 2 ^ 27 → unsigned_abs b ≤ 2 ^ 27 → int_max a b ≤ℤ pos (2 ^ 27)
near-most a b h k = grind (arith, ints)

above-least : (l : ℤ) → neg_ℤ (pos (2 ^ 27)) ≤ℤ l → l ≤ℤ neg_ℤ (pos (2 ^ 31)) → ⊥
above-least l h k = omega (arith, ints)

pub ends-edges : (x y x' y' : ℤ) → AreNearEnds x y x' y' → AreEdges (int_min x x') (int_min y y') (int_max x x') (int_max y y')
ends-edges x y x' y' n =
    let least : neg_ℤ (pos (2 ^ 27)) ≤ℤ int_min x x' = near-least x x' n.left n.right in
    record {
      across = le-trans (int_min x x') x (int_max x x') (min-first x x') (max-first x x');
      down = le-trans (int_min y y') y (int_max y y') (min-first y y') (max-first y y');
      near = λ h. record { left = least; top = near-least y y' n.top n.bottom; right = near-most x x' n.left n.right; bottom = near-most y y' n.top n.bottom };
      widest = λ h. absurd (above-least (int_min x x') least h);
    }

side-ends : (a b x : ℤ) → side (int_min a b) (int_max a b) x ≡ side a b x
side-ends a b x = grind (arith, ints)

-- the box from the lesser to the greater coordinates holds what lies between two points
pub ends-hold : (x y x' y' u v : ℤ) → (side x x' u && side y y' v) ≡ true → holds (int_min x x') (int_min y y') (int_max x x') (int_max y y') u v ≡ true
ends-hold x y x' y' u v h =
    or_right (int_le (int_min x x') (neg_ℤ (pos (2 ^ 31)))) (side (int_min x x') (int_max x x') u && side (int_min y y') (int_max y y') v)
    (ap (λ z. z && side (int_min y y') (int_max y y') v) (side-ends x x' u) ∙ ap (λ z. side x x' u && z) (side-ends y y' v) ∙ h)
