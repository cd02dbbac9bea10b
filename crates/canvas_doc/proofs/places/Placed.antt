-- The set of places that are taken.
use Rattle.std.proofs.Common.{◌≡◌, ℕ, ◌==◌, ◌&&◌, ◌||◌, nat_cmp, nat_lt, arith, List, [], Bool, true, false, cond, Option, refl, ap, ◌∙◌, inl, inr}
use Rattle.std.specs.List.{list_any}
use Rattle.std.specs.Ordering.{is_eq, ordering_then}
use Rattle.std.specs.declared.cmp.Ordering.{Ordering}
use Rattle.std.specs.declared.cmp.Ordering.TheVariants.{Less, Equal, Greater}
use Rattle.std.specs.Option.{option_cmp}
use Rattle.std.specs.Cmp.Lexicographic.{slice_cmp}
use Rattle.std.specs.BTreeSet.{BTreeSet, contains}
use Rattle.std.proofs.lemmas.Bool.{cases_Bool}
use Rattle.std.proofs.lemmas.Bool.Decides.{nat_tests}
use Rattle.std.proofs.lemmas.Map.Text.{is_eq-slice_cmp}
use Rattle.canvas_key.specs.Text.{is_same}
use Rattle.canvas_record.specs.declared.records.Parent.{Parent}
use Rattle.canvas_record.specs.declared.records.Parent.TheVariants.{Page, Shape}
use Rattle.canvas_record.specs.declared.records.Record.{Record}
use Rattle.canvas_record.specs.Children.{same_parent}
use Rattle.canvas_doc.specs.Listed.{holder_of, PlaceKey, place_cmp, place_key, has_place}
use Rattle.canvas_record.specs.Restored.{same_place}

pub then-eq : (a b : Ordering) → is_eq (ordering_then a b) ≡ (is_eq a && is_eq b)
then-eq Less b = refl
then-eq Equal b = refl
then-eq Greater b = refl

nat-eq : (a b : ℕ) → is_eq (nat_cmp a b) ≡ (a == b)
nat-eq a b = elim (cases_Bool (nat_lt a b)) [
  | inl t ↦ (let e : (a == b) ≡ false = grind (arith, nat_tests) in rw (t, e) refl)
  | inr f ↦ elim (cases_Bool (a == b)) [ inl e ↦ rw (f, e) refl | inr e ↦ rw (f, e) refl ]
]

pub holder-eq : (p q : Parent) → is_eq (option_cmp nat_cmp (holder_of p) (holder_of q)) ≡ same_parent p q
holder-eq Page Page = refl
holder-eq Page (Shape b) = refl
holder-eq (Shape a) Page = refl
holder-eq (Shape a) (Shape b) = nat-eq a b

-- a key that stands for the place of r is equal to that of s where the places are
key-eq : (k : PlaceKey) (r s : Record) → k.0 ≡ holder_of r.place.parent → k.1.now ≡ r.place.index → is_eq (place_cmp k (place_key s)) ≡ same_place s r
key-eq k r s h e =
    then-eq (option_cmp nat_cmp k.0 (holder_of s.place.parent)) (slice_cmp nat_cmp k.1.now s.place.index)
    ∙ ap (λ o. is_eq (option_cmp nat_cmp o (holder_of s.place.parent)) && is_eq (slice_cmp nat_cmp k.1.now s.place.index)) h
    ∙ ap (λ b. b && is_eq (slice_cmp nat_cmp k.1.now s.place.index)) (holder-eq r.place.parent s.place.parent)
    ∙ ap (λ b. same_parent r.place.parent s.place.parent && b) (is_eq-slice_cmp k.1.now s.place.index)
    ∙ ap (λ (x : List ℕ). same_parent r.place.parent s.place.parent && is_same x s.place.index) e

any-same : (o p : Option ℕ) (i j : List ℕ) (keys : List PlaceKey) → o ≡ p → i ≡ j →
    list_any (λ x. is_eq (ordering_then (option_cmp nat_cmp o x.0) (slice_cmp nat_cmp i x.1.now))) keys ≡ list_any (λ x. is_eq (ordering_then (option_cmp nat_cmp p x.0) (slice_cmp nat_cmp j x.1.now))) keys
any-same o p i j keys h e =
    ap (λ q. list_any (λ (x : PlaceKey). is_eq (ordering_then (option_cmp nat_cmp q x.0) (slice_cmp nat_cmp i x.1.now))) keys) h
    ∙ ap (λ n. list_any (λ (x : PlaceKey). is_eq (ordering_then (option_cmp nat_cmp p x.0) (slice_cmp nat_cmp n x.1.now))) keys) e

-- whether the set has such a key
pub has-key : (places : BTreeSet PlaceKey) (k : PlaceKey) (r : Record) → k.0 ≡ holder_of r.place.parent → k.1.now ≡ r.place.index → contains place_cmp places k ≡ has_place places r
unfolding has_place
has-key places k r h e = any-same k.0 (holder_of r.place.parent) k.1.now r.place.index places.keys h e

cond-or : (b c : Bool) → cond b true c ≡ (b || c)
cond-or true c = refl
cond-or false c = refl

-- after such a key was put in
pub has-more : (old new : BTreeSet PlaceKey) (k : PlaceKey) (r : Record) → k.0 ≡ holder_of r.place.parent → k.1.now ≡ r.place.index → ((q : PlaceKey) → contains place_cmp new q ≡ cond (is_eq (place_cmp k q)) true (contains place_cmp old q)) → (s : Record) → has_place new s ≡ (same_place s r || has_place old s)
unfolding has_place
has-more old new k r h e u s =
    u (place_key s)
    ∙ ap (λ b. cond b true (contains place_cmp old (place_key s))) (key-eq k r s h e)
    ∙ cond-or (same_place s r) (contains place_cmp old (place_key s))

pub none-placed : (places : BTreeSet PlaceKey) (r : Record) → places.keys ≡ [] → has_place places r ≡ false
unfolding has_place
none-placed places r h = ap (list_any (λ x. is_eq (place_cmp (place_key r) x))) h
