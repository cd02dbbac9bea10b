-- The records under the groups and frames at a shape and below it are those that lie below the shape.
use Rattle.std.proofs.Common.{◌≡◌, ℕ, zero, suc, ◌+◌, ◌==◌, List, [], ◌∷◌, Bool, true, false, not, ◌||◌, ◌&&◌, refl, sym, ap, ◌∙◌, arith, inl, inr, Option, Some, None, All, get_or, filter, map}
use Rattle.std.specs.List.{Contains, list_any}
use Rattle.std.proofs.lemmas.Bool.{cases_Bool, eq-eqb, eqb-true, and_parts, true≢false}
use Rattle.std.proofs.lemmas.List.Elements.{All-contains}
use Rattle.std.proofs.lemmas.List.Folds.{list_any-append, list_any_at, list_any_none}
use Rattle.canvas_record.specs.declared.records.Parent.{Parent}
use Rattle.canvas_record.specs.declared.records.Parent.TheVariants.{Page, Shape}
use Rattle.canvas_record.specs.declared.records.Record.{Record}
use Rattle.canvas_record.specs.Children.{is_child, same_parent}
use Rattle.canvas_record.specs.Contents.{record_of, is_container, reaches_from, reaches_page, AreRising}
use Rattle.canvas_doc.specs.Deletion.{container_ids, containers_under, holders_below, is_held}
use Rattle.canvas_record.specs.Effect.{is_below, is_below_from, is_in_subtree}
use Rattle.canvas_doc.specs.PlaceOrder.{IsInPlaceOrder}
use Rattle.canvas_doc.proofs.tree.Childless.{filter-same}
use Rattle.canvas_doc.proofs.fitting.Fit.{found-all}
use Rattle.canvas_doc.proofs.deleting.Freed.{filter-both}
use Rattle.canvas_doc.proofs.tree.Paths.{reaches-step}
use Rattle.canvas_doc.proofs.places.Reordered.{found-in, same-record}
use Rattle.canvas_doc.proofs.siblings.Spotted.{any-filter}
use Rattle.std.proofs.lemmas.List.Elements.{Contains-get_or}
use Rattle.canvas_doc.proofs.lists.Tests.{or-false}
use Rattle.canvas_doc.proofs.tree.Found.{found-has}

-- one of the shapes is the parent
abbrev pub is_parent : List ℕ → Parent → Bool
is_parent holders q = list_any (λ h. same_parent q (Shape h)) holders

or-turn : (a b c : Bool) → (a || (b || c)) ≡ ((a || b) || c)
or-turn true b c = refl
or-turn false b c = refl

page-none : (holders : List ℕ) → is_parent holders Page ≡ false
page-none [] = refl
page-none (h ∷ holders) = page-none holders

any-map : (t : ℕ → Bool) (rs : List Record) → list_any t (map (λ (r : Record). r.id) rs) ≡ list_any (λ (r : Record). t r.id) rs
any-map t [] = refl
any-map t (r ∷ rs) = ap (λ b. t r.id || b) (any-map t rs)

-- a path that reaches the page from a shape: its record is there, and may have children
from-shape : (up : Parent → Bool) (o : Option Record) → reaches_from up o ≡ true → (s : Record) × (o ≡ Some s) × (is_container s.kind ≡ true)
from-shape up None h = cc
from-shape up (Some s) h = (s, refl, (and_parts (is_container s.kind) (up s.place.parent) h).0)

module _ (id : ℕ) (rs order : List Record) (up : AreRising rs) (o : IsInPlaceOrder order rs) (grounded : All (λ (r : Record). reaches_page 31 rs r.place.parent ≡ true) rs) where
  held-by : (p : ℕ) → reaches_page 31 rs (Shape p) ≡ true → (s : Record) × (record_of p rs ≡ Some s) × (is_container s.kind ≡ true)
  held-by p h = from-shape (λ q. reaches_page 30 rs q) (record_of p rs) (sym (reaches-step 31 p rs (record_of p rs) (omega arith) refl) ∙ h)

  -- whether a container is among the children of a shape
  one-holder : (p h : ℕ) (s : Record) → record_of p rs ≡ Some s → is_container s.kind ≡ true → list_any (λ x. p == x) (container_ids (filter (is_child (Shape h)) order)) ≡ is_child (Shape h) s
  one-holder p h s found group =
      let q : Record → Bool = is_child (Shape h) in
      let c : Record → Bool = λ r. is_container r.kind in
      let t : Record → Bool = λ r. p == r.id in
      let same : s.id ≡ p = eqb-true s.id p (found-has p rs s found) in
      let there : Contains rs s = found-in rs p s found in
      let all : list_any (λ x. p == x) (container_ids (filter q order)) ≡ list_any (λ r. q r && (c r && t r)) order =
      any-map (λ x. p == x) (filter c (filter q order)) ∙ any-filter t c (filter q order) ∙ any-filter (λ r. c r && t r) q order in
      all ∙ elim (cases_Bool (q s)) [
        | inl y ↦ (
            let m = All-contains (Contains order) rs s o.complete there in
            let last : t s ≡ true = eq-eqb p s.id (sym same) in
            let passes : (q s && (c s && t s)) ≡ true = rw (y, group) last in
            list_any_at (λ r. q r && (c r && t r)) order m.0 s m.1 (ap (λ r. q r && (c r && t r)) m.2 ∙ passes) ∙ sym y)
        | inr n ↦ list_any_none (λ r. q r && (c r && t r)) order (λ i d l. (
            let r : Record = get_or order i d in
            elim (cases_Bool (q r && (c r && t r))) [
              | inl y ↦ (
                  let parts = and_parts (q r) (c r && t r) y in
                  let is : p ≡ r.id = eqb-true p r.id (and_parts (c r) (t r) parts.1).1 in
                  absurd (true≢false (sym parts.0 ∙ ap q (sym (same-record rs s r up there (o.listed i d l) (same ∙ is))) ∙ n)))
              | inr f ↦ f
            ])) ∙ sym n
      ]

  next-holders : (p : ℕ) (s : Record) (level : List ℕ) → record_of p rs ≡ Some s → is_container s.kind ≡ true → is_parent (containers_under order level) (Shape p) ≡ is_held level s
  next-holders p s [] found group = refl
  next-holders p s (h ∷ level) found group =
      list_any-append (λ x. p == x) (container_ids (filter (is_child (Shape h)) order)) (containers_under order level)
      ∙ ap (λ b. b || is_parent (containers_under order level) (Shape p)) (one-holder p h s found group)
      ∙ ap (λ b. is_child (Shape h) s || b) (next-holders p s level found group)

  -- the shapes of a level are those that one step more finds
  abbrev Leads : ℕ → List ℕ → Type 0
  Leads k level = (q : Parent) → reaches_page 31 rs q ≡ true → is_below (suc k) id rs q ≡ (is_below k id rs q || is_parent level q)

  below-zero : (q : Parent) → is_below 0 id rs q ≡ false
  unfolding is_below
  below-zero Page = refl
  below-zero (Shape p) = refl

  first-leads : Leads 0 (id ∷ [])
  unfolding is_below
  first-leads Page h = refl
  first-leads (Shape p) h =
      let s = held-by p h in
      let same : s.0.id ≡ p = eqb-true s.0.id p (found-has p rs s.0 s.1) in
      ap (is_below_from id (λ q. is_below 0 id rs q)) s.1
      ∙ ap (λ b. (s.0.id == id) || b) (below-zero s.0.place.parent)
      ∙ ap (λ n. (n == id) || false) same

  next-leads : (k : ℕ) (level : List ℕ) → Leads k level → Leads (suc k) (containers_under order level)
  unfolding is_below
  next-leads k level leads Page h = sym (page-none (containers_under order level))
  next-leads k level leads (Shape p) h =
      let s = held-by p h in
      let own : Bool = s.0.id == id in
      let above : reaches_page 31 rs s.0.place.parent ≡ true = found-all (λ (r : Record). reaches_page 31 rs r.place.parent ≡ true) p rs s.0 grounded s.1 in
      ap (is_below_from id (λ q. is_below (suc k) id rs q)) s.1
      ∙ ap (λ b. own || b) (leads s.0.place.parent above)
      ∙ or-turn own (is_below k id rs s.0.place.parent) (is_parent level s.0.place.parent)
      ∙ ap (λ b. (own || is_below k id rs s.0.place.parent) || b) (sym (next-holders p s.0 level s.1 s.2))
      ∙ ap (λ b. b || is_parent (containers_under order level) (Shape p)) (sym (ap (is_below_from id (λ q. is_below k id rs q)) s.1))

  levels-below : (n k : ℕ) (level : List ℕ) → Leads k level → (q : Parent) → reaches_page 31 rs q ≡ true → is_below (n + k) id rs q ≡ (is_below k id rs q || is_parent (holders_below n order level) q)
  unfolding holders_below
  levels-below zero k level leads q h =
      let e : 0 + k ≡ k = omega arith in
      ap (λ n. is_below n id rs q) e ∙ sym (or-false (is_below k id rs q))
  levels-below (suc n) k level leads q h =
      let e : suc n + k ≡ n + suc k = omega arith in
      let rest : List ℕ = holders_below n order (containers_under order level) in
      ap (λ m. is_below m id rs q) e
      ∙ levels-below n (suc k) (containers_under order level) (next-leads k level leads) q h
      ∙ ap (λ b. b || is_parent rest q) (leads q h)
      ∙ sym (or-turn (is_below k id rs q) (is_parent level q) (is_parent rest q))
      ∙ ap (λ b. is_below k id rs q || b) (sym (list_any-append (λ x. same_parent q (Shape x)) level rest))

  pub held-below : (r : Record) → Contains rs r → is_held (holders_below 32 order (id ∷ [])) r ≡ is_below 32 id rs r.place.parent
  held-below r c =
      let h : reaches_page 31 rs r.place.parent ≡ true = All-contains (λ (s : Record). reaches_page 31 rs s.place.parent ≡ true) rs r grounded c in
      sym (levels-below 32 0 (id ∷ []) first-leads r.place.parent h ∙ ap (λ b. b || is_parent (holders_below 32 order (id ∷ [])) r.place.parent) (below-zero r.place.parent))

  -- without the records below a shape, and then without the shape
  pub subtree-gone : filter (λ r. not (r.id == id)) (filter (λ r. not (is_held (holders_below 32 order (id ∷ [])) r)) rs) ≡ filter (λ r. not (is_in_subtree id rs r)) rs
  subtree-gone =
      let t : Record → Bool = λ r. is_held (holders_below 32 order (id ∷ [])) r in
      filter-both (λ r. r.id == id) t (λ r. (r.id == id) || t r) rs (λ r. or-swap (t r) (r.id == id))
      ∙ filter-same (λ r. not ((r.id == id) || t r)) (λ r. not (is_in_subtree id rs r)) rs
      (λ i d l. ap (λ b. not ((get_or rs i d).id == id || b)) (held-below (get_or rs i d) (Contains-get_or rs i d l)))
    where
      or-swap : (a b : Bool) → (a || b) ≡ (b || a)
      or-swap true true = refl
      or-swap true false = refl
      or-swap false true = refl
      or-swap false false = refl
