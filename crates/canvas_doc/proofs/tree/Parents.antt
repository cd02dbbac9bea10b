-- Parents that are the same, and the record of a parent.
use Rattle.std.proofs.Common.{◌≡◌, ◌∙◌, ℕ, Bool, true, false, ◌||◌, ◌==◌, Option, Some, None, refl, sym, ap, inl, inr, arith}
use Rattle.std.proofs.lemmas.Bool.{and_parts, eq-eqb, eqb-true, cases_Bool}
use Rattle.std.proofs.lemmas.Bool.Decides.{nat_tests}
use Rattle.canvas_record.specs.declared.records.Parent.{Parent}
use Rattle.canvas_record.specs.declared.records.Parent.TheVariants.{Page, Shape}
use Rattle.canvas_record.specs.declared.records.Record.{Record}
use Rattle.canvas_record.specs.Children.{same_parent}
use Rattle.canvas_record.specs.Contents.{is_container, reaches_from}
use Rattle.canvas_record.specs.Decision.{holds_container}
use Rattle.canvas_record.specs.Effect.{is_below_from}

pub same_parent-itself : (a : Parent) → same_parent a a ≡ true
same_parent-itself Page = refl
same_parent-itself (Shape a) = eq-eqb a a refl

pub same_parent-is : (a b : Parent) → same_parent a b ≡ true → a ≡ b
same_parent-is Page Page h = refl
same_parent-is Page (Shape b) h = cc
same_parent-is (Shape a) Page h = cc
same_parent-is (Shape a) (Shape b) h = ap (λ n. Shape n) (eqb-true a b h)

pub flip-eq : (a b : ℕ) → (a == b) ≡ false → (b == a) ≡ false
flip-eq a b h = grind (arith, nat_tests)

eq-sym : (a b : ℕ) → (a == b) ≡ (b == a)
eq-sym a b = elim (cases_Bool (a == b)) [
  | inl t ↦ (let e : (b == a) ≡ true = eq-eqb b a (sym (eqb-true a b t)) in rw (t, e) refl)
  | inr f ↦ (let e : (b == a) ≡ false = flip-eq a b f in rw (f, e) refl)
]

pub same_parent-flips : (p q : Parent) → same_parent p q ≡ same_parent q p
same_parent-flips Page Page = refl
same_parent-flips Page (Shape b) = refl
same_parent-flips (Shape a) Page = refl
same_parent-flips (Shape a) (Shape b) = eq-sym a b

pub same_parent-sym : (a b : Parent) → same_parent a b ≡ true → same_parent b a ≡ true
same_parent-sym a b h = sym (same_parent-flips a b) ∙ h

-- a container above that leads on
pub from-some : (up : Parent → Bool) (o : Option Record) → reaches_from up o ≡ true → (r : Record) × (o ≡ Some r) × (is_container r.kind ≡ true) × (up r.place.parent ≡ true)
from-some up None h = cc
from-some up (Some r) h = let both = and_parts (is_container r.kind) (up r.place.parent) h in (r, refl, both.0, both.1)

pub container-there : (o : Option Record) → holds_container o ≡ true → (r : Record) × (o ≡ Some r) × (is_container r.kind ≡ true)
container-there None h = cc
container-there (Some r) h = (r, refl, h)

pub below-from : (id : ℕ) (up : Parent → Bool) (o : Option Record) → ((r : Record) → o ≡ Some r → ((r.id == id) || up r.place.parent) ≡ false) → is_below_from id up o ≡ false
below-from id up None k = refl
below-from id up (Some r) k = k r refl
