-- Children in order, and their indexes.
use Rattle.std.proofs.Common.{◌≡◌, ◌≢◌, ℕ, List, [], ◌∷◌, true, false, cond, refl, sym, ap, ◌∙◌, filter, inl, inr}
use Rattle.std.specs.declared.cmp.Ordering.{Ordering}
use Rattle.std.specs.declared.cmp.Ordering.TheVariants.{Less, Equal, Greater}
use Rattle.std.specs.Ordering.{nat_cmp, is_lt, is_gt, ordering_reverse}
use Rattle.std.specs.Cmp.Lexicographic.{slice_cmp}
use Rattle.std.proofs.lemmas.Cmp.{nat_list_cmp_total, upto, tied_itself}
use Rattle.std.proofs.lemmas.Map.Lookups.{exact_bytes}
use Rattle.std.proofs.lemmas.Bool.{cases_Bool, true≢false, eq-eqb, eqb-true}
use Rattle.canvas_key.specs.Order.{is_before}
use Rattle.canvas_record.specs.declared.records.Record.{Record}
use Rattle.canvas_record.specs.Children.{is_in_front, put, front_first, is_child, same_parent}
use Rattle.canvas_record.specs.Tree.{HavePlaces, IsElsewhere}
use Rattle.canvas_record.specs.declared.records.Parent.{Parent}
use Rattle.canvas_record.specs.declared.records.Parent.TheVariants.{Page, Shape}
use Rattle.std.specs.List.{AllByRecursion}
use Rattle.canvas_doc.proofs.lists.Tests.{less-from_lt}

pub before-trans : (a b c : List ℕ) → is_before a b ≡ true → is_before b c ≡ true → is_before a c ≡ true
before-trans a b c h k = ap is_lt (nat_list_cmp_total.trans a b c (less-from_lt (slice_cmp nat_cmp a b) h) (less-from_lt (slice_cmp nat_cmp b c) k))

pub before-itself : (a : List ℕ) → is_before a a ≡ false
before-itself a = ap is_lt (tied_itself nat_list_cmp_total a)

lt-reverse : (o : Ordering) → is_lt (ordering_reverse o) ≡ is_gt o
lt-reverse Less = refl
lt-reverse Equal = refl
lt-reverse Greater = refl

pub before-gt : (a b : List ℕ) → is_before b a ≡ is_gt (slice_cmp nat_cmp a b)
before-gt a b = ap is_lt (nat_list_cmp_total.antisymm b a) ∙ lt-reverse (slice_cmp nat_cmp a b)

pub upto-trans : (a b c : List ℕ) → is_before b a ≡ false → is_before c b ≡ false → is_before c a ≡ false
upto-trans a b c h k = before-gt a c ∙ upto nat_list_cmp_total a b c (sym (before-gt a b) ∙ h) (sym (before-gt b c) ∙ k)

-- keys of which neither comes before the other are one
pub not_before : (o : Ordering) → is_lt o ≡ false → is_gt o ≡ false → o ≡ Equal
not_before Less h k = cc
not_before Equal h k = refl
not_before Greater h k = cc

pub before-or-same : (a b : List ℕ) → is_before a b ≡ false → a ≢ b → is_before b a ≡ true
before-or-same a b h ne = elim (cases_Bool (is_before b a)) [ inl t ↦ t | inr f ↦ absurd (ne (exact_bytes a b (not_before (slice_cmp nat_cmp a b) h (sym (before-gt a b) ∙ f)))) ]

-- no record of the list stands in front of s
abbrev pub NoneInFront : Record → List Record → Type 0
NoneInFront s [] = Unit {0}
NoneInFront s (r ∷ rs) = (is_in_front r s ≡ false) × NoneInFront s rs

pub none_in_front-weaker : (s t : Record) (rs : List Record) → is_in_front s t ≡ false → NoneInFront s rs → NoneInFront t rs
none_in_front-weaker s t [] h n = tt
none_in_front-weaker s t (r ∷ rs) h n = (upto-trans r.place.index s.place.index t.place.index n.0 h, none_in_front-weaker s t rs h n.1)

pub before-asym : (a b : List ℕ) → is_before a b ≡ true → is_before b a ≡ false
before-asym a b h = elim (cases_Bool (is_before b a)) [ inl t ↦ absurd (true≢false (sym (before-trans a b a h t) ∙ before-itself a)) | inr f ↦ f ]

-- the index of x is none of the list's
abbrev pub IsNewIndex : Record → List Record → Type 0
IsNewIndex x [] = Unit {0}
IsNewIndex x (y ∷ ys) = (x.place.index ≢ y.place.index) × IsNewIndex x ys

-- no two have one index
abbrev pub HaveIndexes : List Record → Type 0
HaveIndexes [] = Unit {0}
HaveIndexes (x ∷ xs) = IsNewIndex x xs × HaveIndexes xs

pub same_parent-both : (a b p : Parent) → same_parent a p ≡ true → same_parent b p ≡ true → same_parent a b ≡ true
same_parent-both Page Page p h k = refl
same_parent-both Page (Shape b) Page h k = cc
same_parent-both Page (Shape b) (Shape p) h k = cc
same_parent-both (Shape a) Page Page h k = cc
same_parent-both (Shape a) Page (Shape p) h k = cc
same_parent-both (Shape a) (Shape b) Page h k = cc
same_parent-both (Shape a) (Shape b) (Shape p) h k = eq-eqb a b (eqb-true a p h ∙ sym (eqb-true b p k))

new-index : (p : Parent) (r : Record) (rs : List Record) → is_child p r ≡ true → AllByRecursion (IsElsewhere r) rs → IsNewIndex r (filter (is_child p) rs)
new-index p r [] h a = tt
new-index p r (s ∷ rs) h a = elim (cases_Bool (is_child p s)) [
  | inl t ↦ rw t ((λ e. a.0 (same_parent-both s.place.parent r.place.parent p t h) (sym e)), new-index p r rs h a.1)
  | inr f ↦ rw f (new-index p r rs h a.1)
]

-- the children of a parent have different indexes
pub have-indexes : (p : Parent) (rs : List Record) → HavePlaces rs → HaveIndexes (filter (is_child p) rs)
have-indexes p [] h = tt
have-indexes p (r ∷ rs) h = elim (cases_Bool (is_child p r)) [
  | inl t ↦ rw t (new-index p r rs t h.0, have-indexes p rs h.1)
  | inr f ↦ rw f (have-indexes p rs h.1)
]

-- from front to back
abbrev pub AreInOrder : List Record → Type 0
AreInOrder [] = Unit {0}
AreInOrder (s ∷ rest) = NoneInFront s rest × AreInOrder rest

none_in_front-put : (s r : Record) (l : List Record) → is_in_front r s ≡ false → NoneInFront s l → NoneInFront s (put r l)
none_in_front-put s r [] h n = (h, tt)
none_in_front-put s r (t ∷ rest) h n = elim (is_in_front t r) as (λ b. NoneInFront s (cond b (t ∷ put r rest) (r ∷ t ∷ rest))) [
  | true ↦ (n.0, none_in_front-put s r rest h n.1)
  | false ↦ (h, n)
]

in_order-put : (r : Record) (l : List Record) → AreInOrder l → AreInOrder (put r l)
in_order-put r [] h = (tt, tt)
in_order-put r (s ∷ rest) h = elim (cases_Bool (is_in_front s r)) [
  | inl t ↦ rw t (none_in_front-put s r rest (before-asym r.place.index s.place.index t) h.0, in_order-put r rest h.1)
  | inr f ↦ rw f ((f, none_in_front-weaker s r rest f h.0), h)
]

pub in_order : (rs : List Record) → AreInOrder (front_first rs)
in_order [] = tt
in_order (r ∷ rs) = in_order-put r (front_first rs) (in_order rs)

-- of two keys of which neither comes before the other
pub same-key : (a b : List ℕ) → is_before a b ≡ false → is_before b a ≡ false → a ≡ b
same-key a b h k = exact_bytes a b (not_before (slice_cmp nat_cmp a b) h (sym (before-gt a b) ∙ k))

pub before-differs : (a b : List ℕ) → is_before a b ≡ true → a ≢ b
before-differs a b h e = true≢false (sym h ∙ ap (λ x. is_before x b) e ∙ before-itself b)
