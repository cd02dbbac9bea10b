-- Children in strict order.
use Rattle.std.proofs.Common.{◌≡◌, ◌≢◌, ℕ, zero, suc, ◌<◌, List, [], ◌∷◌, Bool, true, false, not, cond, ◌&&◌, refl, sym, ap, ◌∙◌, arith, filter, inl, inr, length, get_or, map, All, Bor, ◌⊎◌}
use Rattle.std.specs.List.{AllByRecursion, Contains, IsDistinct}
use Rattle.std.specs.List.Sorted.{IsPermutation}
use Rattle.std.proofs.lemmas.Bool.{true≢false}
use Rattle.std.proofs.lemmas.List.Elements.{All-cons, All-head, All-tail, All-nil, All-contains, All-filter}
use Rattle.std.proofs.lemmas.List.Sorted.{All-permutation, IsPermutation-cons, IsPermutation-middle, IsPermutation-refl, IsPermutation-trans}
use Rattle.std.proofs.lemmas.Map.Keys.{IsDistinct-head, IsDistinct-tail}
use Rattle.canvas_key.specs.Order.{is_before}
use Rattle.canvas_record.specs.declared.records.Parent.{Parent}
use Rattle.canvas_record.specs.declared.records.Record.{Record}
use Rattle.canvas_record.specs.Children.{is_in_front, put, front_first, is_child, children}
use Rattle.canvas_doc.proofs.siblings.Fronts.{AreInOrder, NoneInFront, IsNewIndex, HaveIndexes, before-asym, before-itself, before-or-same}

-- each in front of all that come later
abbrev pub AreApart : List Record → Type 0
AreApart [] = Unit {0}
AreApart (s ∷ rest) = All (λ r. is_in_front s r ≡ true) rest × AreApart rest

-- neither is in front of the other
abbrev pub is_level : Record → Record → Bool
is_level r s = not (is_in_front r s) && not (is_in_front s r)

pub level-flips : (b c : Bool) → (not b && not c) ≡ (not c && not b)
level-flips true true = refl
level-flips true false = refl
level-flips false true = refl
level-flips false false = refl

level-apart : (b c : Bool) → c ≡ false → (not b && not c) ≡ false → b ≡ true
level-apart true c h k = refl
level-apart false true h k = sym h
level-apart false false h k = sym k

in_front-apart : (r s : Record) → is_in_front s r ≡ false → is_level r s ≡ false → is_in_front r s ≡ true
in_front-apart r s h k = level-apart (is_in_front r s) (is_in_front s r) h k

not_level : (b c : Bool) → (b ≡ false → c ≡ true) → (not b && not c) ≡ false
not_level true c h = refl
not_level false true h = refl
not_level false false h = sym (h refl)

level-new : (x y : Record) → x.place.index ≢ y.place.index → is_level x y ≡ false
level-new x y d = not_level (is_in_front x y) (is_in_front y x) (λ h. before-or-same y.place.index x.place.index h (λ e. d (sym e)))

all-new : (x : Record) (ys : List Record) → IsNewIndex x ys → AllByRecursion (λ y. is_level x y ≡ false) ys
all-new x [] d = tt
all-new x (y ∷ ys) d = (level-new x y d.0, all-new x ys d.1)

pub distinct-indexes : (xs : List Record) → HaveIndexes xs → IsDistinct is_level xs
unfolding IsDistinct
distinct-indexes [] h = tt
distinct-indexes (x ∷ xs) h = (all-new x xs h.0, distinct-indexes xs h.1)

put-moves : (r : Record) (l : List Record) → IsPermutation (r ∷ l) (put r l)
put-moves r [] = IsPermutation-refl (r ∷ [])
put-moves r (s ∷ rest) = elim (is_in_front s r) as (λ b. IsPermutation (r ∷ s ∷ rest) (cond b (s ∷ put r rest) (r ∷ s ∷ rest))) [
  | true ↦ IsPermutation-trans (r ∷ s ∷ rest) (s ∷ r ∷ rest) (s ∷ put r rest) (IsPermutation-middle (r ∷ []) s rest) (IsPermutation-cons s (r ∷ rest) (put r rest) (put-moves r rest))
  | false ↦ IsPermutation-refl (r ∷ s ∷ rest)
]

pub front_first-moves : (xs : List Record) → IsPermutation xs (front_first xs)
front_first-moves [] = IsPermutation-refl []
front_first-moves (x ∷ xs) = IsPermutation-trans (x ∷ xs) (x ∷ front_first xs) (put x (front_first xs)) (IsPermutation-cons x xs (front_first xs) (front_first-moves xs)) (put-moves x (front_first xs))

front-all : (s : Record) (rest : List Record) → NoneInFront s rest → AllByRecursion (λ y. is_level s y ≡ false) rest → All (λ r. is_in_front s r ≡ true) rest
front-all s [] n d = All-nil (λ r. is_in_front s r ≡ true)
front-all s (y ∷ ys) n d = All-cons (λ r. is_in_front s r ≡ true) y ys (in_front-apart s y n.0 d.0) (front-all s ys n.1 d.1)

pub apart-in_order : (l : List Record) → AreInOrder l → IsDistinct is_level l → AreApart l
apart-in_order [] h d = tt
apart-in_order (s ∷ rest) h d = (front-all s rest h.0 (IsDistinct-head is_level s rest d), apart-in_order rest h.1 (IsDistinct-tail is_level s rest d))

contains-at : (s : Record) (u : List Record) (x : Record) (k : ℕ) → k < length (s ∷ u) → get_or (s ∷ u) k x ≡ x → (s ≡ x) ⊎ Contains u x
contains-at s u x zero h e = inl e
contains-at s u x (suc k) h e = inr (k, omega arith, e)

contains-none : (x : Record) → Contains [] x → ⊥
contains-none x h = let l : h.0 < 0 = h.1 in absurd (omega arith)

in_front-itself : (s x : Record) → is_in_front s x ≡ true → s ≢ x
in_front-itself s x h e = true≢false (sym h ∙ ap (λ (z : Record). is_before z.place.index s.place.index) (sym e) ∙ before-itself s.place.index)

not_head : (s t : Record) (v : List Record) (x : Record) → s ≡ t → is_in_front s x ≡ true → Contains (t ∷ v) x → Contains v x
not_head s t v x e f h = elim (contains-at t v x h.0 h.1 h.2) [ inl q ↦ absurd (in_front-itself s x f (e ∙ q)) | inr m ↦ m ]

same-heads : (s t : Record) (u v : List Record) → All (λ r. is_in_front s r ≡ true) u → All (λ r. is_in_front t r ≡ true) v → Contains (t ∷ v) s → Contains (s ∷ u) t → s ≡ t
same-heads s t u v f g h k = elim (contains-at t v s h.0 h.1 h.2) [
  | inl e ↦ sym e
  | inr m ↦ elim (contains-at s u t k.0 k.1 k.2) [
    | inl e ↦ e
    | inr n ↦ absurd (true≢false (sym (All-contains (λ r. is_in_front t r ≡ true) v s g m) ∙ before-asym t.place.index s.place.index (All-contains (λ r. is_in_front s r ≡ true) u t f n)))
  ]
]

-- lists in strict order with the same members are one
pub same-order : (a b : List Record) → AreApart a → AreApart b → All (Contains b) a → All (Contains a) b → a ≡ b
same-order [] [] f g h k = refl
same-order [] (t ∷ v) f g h k = absurd (contains-none t (All-head (Contains []) t v k))
same-order (s ∷ u) [] f g h k = absurd (contains-none s (All-head (Contains []) s u h))
same-order (s ∷ u) (t ∷ v) f g h k =
    let e : s ≡ t = same-heads s t u v f.0 g.0 (All-head (Contains (t ∷ v)) s u h) (All-head (Contains (s ∷ u)) t v k) in
    ap (λ z. z ∷ u) e
    ∙ ap (λ l. t ∷ l) (same-order u v f.1 g.1
    (λ i d below. not_head s t v (get_or u i d) e (f.0 i d below) (All-tail (Contains (t ∷ v)) s u h i d below))
    (λ i d below. not_head t s u (get_or v i d) (sym e) (g.0 i d below) (All-tail (Contains (s ∷ u)) t v k i d below)))

-- the record behind a reference
abbrev pub record_of : Bor Record → Record
record_of b = b.now

pub all-by_reference : (P : Record → Type 0) (bs : List (Bor Record)) → All P (map record_of bs) → All (λ (b : Bor Record). P b.now) bs
all-by_reference P [] h = All-nil (λ (b : Bor Record). P b.now)
all-by_reference P (b ∷ bs) h = All-cons (λ (x : Bor Record). P x.now) b bs (All-head P b.now (map record_of bs) h) (all-by_reference P bs (All-tail P b.now (map record_of bs) h))

-- what holds of all records holds of all children
pub all-children : (P : Record → Type 0) (p : Parent) (rs : List Record) → All P rs → All P (children p rs)
all-children P p rs h = All-permutation P (filter (is_child p) rs) (children p rs) (front_first-moves (filter (is_child p) rs)) (All-filter (is_child p) P rs h)
