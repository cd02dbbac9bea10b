-- The records of a document are restored as that document.
use Rattle.std.proofs.Common.{◌≡◌, ℕ, zero, suc, ◌+◌, ◌-◌, ◌^◌, ◌<◌, ◌≤◌, ◌==◌, ◌&&◌, ◌||◌, not, nat_lt, nat_le, List, [], ◌∷◌, ◌++◌, Bool, true, false, cond, Option, Some, None, Ok, refl, sym, ap, ◌∙◌, arith, inl, inr, length}
use Rattle.std.specs.List.{AllByRecursion, list_any, position, position_or_len}
use Rattle.std.proofs.lemmas.Bool.{cases_Bool, true≢false, and_parts, and_from}
use Rattle.std.proofs.lemmas.Bool.Decides.{nat_tests}
use Rattle.std.proofs.lemmas.List.Elements.{recursion_from_All}
use Rattle.std.proofs.lemmas.List.Folds.{list_any-append}
use Rattle.canvas_key.specs.Text.{is_same}
use Rattle.std.specs.Cmp.Lexicographic.{same_text}
use Rattle.canvas_plane.specs.Limits.{is_pose}
use Rattle.canvas_plane.specs.Motion.{reach_of}
use Rattle.canvas_shape.specs.Limits.{has_sides, has_vertices}
use Rattle.canvas_record.specs.declared.records.Parent.{Parent}
use Rattle.canvas_record.specs.declared.records.Parent.TheVariants.{Page, Shape}
use Rattle.canvas_record.specs.declared.records.Record.{Record}
use Rattle.canvas_record.specs.Contents.{Contents, IsWellFormed, AreRising, record_of, is_container, reaches_from, reaches_page}
use Rattle.canvas_record.specs.Decision.{can_have_children, holds_container}
use Rattle.canvas_record.specs.Tree.{HavePlaces, IsElsewhere, IsInLimits}
use Rattle.canvas_shape.proofs.Limits.{sound-sides, sound-vertices}
use Rattle.canvas_record.specs.declared.tree_faults.TreeFault.TheVariants.{BadRecord, BadTree}
use Rattle.canvas_record.specs.Children.{same_parent}
use Rattle.canvas_doc.proofs.restoring.Leads.{leads-page, leads-step}
use Rattle.canvas_doc.proofs.restoring.Misplaced.{well-placed}
use Rattle.canvas_doc.proofs.tree.Paths.{reaches-none, reaches-step}
use Rattle.canvas_doc.proofs.restoring.RestoredWell.{Passes, Apart, NoneClash}
use Rattle.canvas_record.specs.Restored.{is_record, record_fault, leads_from, leads_to_page, same_place, tree_fault_after, tree_fault, put_by_id, by_id, restored_of, refused_at, restoration_of}
use Rattle.canvas_doc.proofs.tree.Parents.{same_parent-flips}

or-none : (a b : Bool) → a ≡ false → b ≡ false → (a || (b || false)) ≡ false
or-none a b h k = rw (h, k) refl

not-equal : (a b : ℕ) → a < b → (a == b) ≡ false
not-equal a b h = grind (arith, nat_tests)

can-step : (up : Parent → Bool) (o : Option Record) → reaches_from up o ≡ true → holds_container o ≡ true
can-step up None h = cc
can-step up (Some r) h = (and_parts (is_container r.kind) (up r.place.parent) h).0

leads-over : (leads reaches : Parent → Bool) → ((q : Parent) → reaches q ≡ true → leads q ≡ true) → (o : Option Record) → reaches_from reaches o ≡ true → leads_from leads o ≡ true
leads-over leads reaches k None h = cc
leads-over leads reaches k (Some r) h = k r.place.parent (and_parts (is_container r.kind) (reaches r.place.parent) h).1

-- in rising id already
not-lower : (a b : ℕ) → b < a → nat_lt a b ≡ false
not-lower a b h = grind (arith, nat_tests)

put-first : (r : Record) (l : List Record) → AllByRecursion (λ (s : Record). r.id < s.id) l → put_by_id r l ≡ r ∷ l
put-first r [] a = refl
put-first r (s ∷ rest) a = let e : nat_lt s.id r.id ≡ false = not-lower s.id r.id a.0 in rw e refl

pub by_id-same : (rs : List Record) → AreRising rs → by_id rs ≡ rs
by_id-same [] a = refl
by_id-same (r ∷ rs) a = ap (put_by_id r) (by_id-same rs a.1) ∙ put-first r rs a.0

-- each record is within the limits
none-fails : (p : Record → Bool) (rs : List Record) → Passes p rs → position_or_len (λ r. not (p r)) rs ≡ length rs
none-fails p [] a = refl
none-fails p (r ∷ rs) a =
    let h : p r ≡ true = a.0 in
    let one : 1 + length rs ≡ suc (length rs) = omega arith in
    rw h (ap (λ n. 1 + n) (none-fails p rs a.1) ∙ one)

no-position : (p : Record → Bool) (rs : List Record) → Passes p rs → position (λ r. not (p r)) rs ≡ None
no-position p rs a =
    let e : nat_lt (length rs) (length rs) ≡ false = grind (arith, nat_tests) in
    ap (λ n. cond (nat_lt n (length rs)) (Some n) None) (none-fails p rs a) ∙ rw e refl

within-limits : (next : ℕ) (r : Record) → (1 ≤ r.id) × (r.id < next) → IsInLimits r → is_record next r ≡ true
within-limits next r h l =
    and_from (nat_le 1 r.id && nat_lt r.id next) (is_pose r.pose && (has_sides r.kind && has_vertices r.kind))
    (and_from (nat_le 1 r.id) (nat_lt r.id next) (grind (arith, nat_tests, h.0)) (grind (arith, nat_tests, h.1)))
    (and_from (is_pose r.pose) (has_sides r.kind && has_vertices r.kind)
    (and_from (nat_le r.pose.quarter 3) (nat_le (reach_of r.pose) (2 ^ 20)) (grind (arith, nat_tests, l.quarter)) (grind (arith, nat_tests, l.reach)))
    (and_from (has_sides r.kind) (has_vertices r.kind) (sound-sides r.kind l.kind) (sound-vertices r.kind l.kind)))

all-within : (next : ℕ) (rs : List Record) → AllByRecursion (λ r. (1 ≤ r.id) × (r.id < next)) rs → AllByRecursion IsInLimits rs → Passes (is_record next) rs
all-within next [] a l = tt
all-within next (r ∷ rs) a l = (within-limits next r a.0 l.0, all-within next rs a.1 l.1)

-- none clashes with an earlier one
add-earlier : (clash : Record → Record → Bool) (r : Record) (earlier later : List Record) → AllByRecursion (λ t. list_any (λ s. clash s t) earlier ≡ false) later → AllByRecursion (λ t. clash r t ≡ false) later → AllByRecursion (λ t. list_any (λ s. clash s t) (earlier ++ r ∷ []) ≡ false) later
add-earlier clash r earlier [] a b = tt
add-earlier clash r earlier (t ∷ later) a b =
    (list_any-append (λ s. clash s t) earlier (r ∷ []) ∙ or-none (list_any (λ s. clash s t) earlier) (clash r t) a.0 b.0, add-earlier clash r earlier later a.1 b.1)

none-clash : (clash : Record → Record → Bool) (earlier later : List Record) → AllByRecursion (λ t. list_any (λ s. clash s t) earlier ≡ false) later → Apart clash later → NoneClash clash earlier later
none-clash clash earlier [] a b = tt
none-clash clash earlier (r ∷ later) a b = (a.0, none-clash clash (earlier ++ r ∷ []) later (add-earlier clash r earlier later a.1 b.0) b.1)

none-yet : (clash : Record → Record → Bool) (rs : List Record) → AllByRecursion (λ t. list_any (λ s. clash s t) [] ≡ false) rs
none-yet clash [] = tt
none-yet clash (r ∷ rs) = (refl, none-yet clash rs)

ids-differ : (r : Record) (rs : List Record) → AllByRecursion (λ (s : Record). r.id < s.id) rs → AllByRecursion (λ (s : Record). (r.id == s.id) ≡ false) rs
ids-differ r [] a = tt
ids-differ r (s ∷ rs) a = (not-equal r.id s.id a.0, ids-differ r rs a.1)

ids-apart : (rs : List Record) → AreRising rs → Apart (λ s r. s.id == r.id) rs
ids-apart [] a = tt
ids-apart (r ∷ rs) a = (ids-differ r rs a.0, ids-apart rs a.1)

place-differs : (r s : Record) → IsElsewhere r s → same_place s r ≡ false
place-differs r s e = elim (cases_Bool (same_place s r)) [
  | inl t ↦ (let p = and_parts (same_parent r.place.parent s.place.parent) (is_same r.place.index s.place.index) t in
      absurd (e (same_parent-flips s.place.parent r.place.parent ∙ p.0) (sym (same_text r.place.index s.place.index (sym p.1)))))
  | inr f ↦ f
]

places-differ : (r : Record) (rs : List Record) → AllByRecursion (IsElsewhere r) rs → AllByRecursion (λ s. same_place s r ≡ false) rs
places-differ r [] a = tt
places-differ r (s ∷ rs) a = (place-differs r s a.0, places-differ r rs a.1)

places-apart : (rs : List Record) → HavePlaces rs → Apart (λ s r. same_place r s) rs
places-apart [] a = tt
places-apart (r ∷ rs) a = (places-differ r rs a.0, places-apart rs a.1)

-- parents that reach the page
can-from : (n : ℕ) (rs : List Record) (p : Parent) → reaches_page n rs p ≡ true → can_have_children rs p ≡ true
can-from n rs Page h = refl
can-from zero rs (Shape p) h = absurd (true≢false (sym h ∙ reaches-none zero p rs refl))
can-from (suc n) rs (Shape p) h = can-step (λ q. reaches_page (suc n - 1) rs q) (record_of p rs) (sym (reaches-step (suc n) p rs (record_of p rs) (omega arith) refl) ∙ h)

leads-from-reaches : (n : ℕ) (rs : List Record) (p : Parent) → reaches_page n rs p ≡ true → leads_to_page n rs p ≡ true
leads-from-reaches n rs Page h = leads-page n rs
leads-from-reaches zero rs (Shape p) h = absurd (true≢false (sym h ∙ reaches-none zero p rs refl))
leads-from-reaches (suc n) rs (Shape p) h =
    let m : suc n - 1 ≡ n = omega arith in
    leads-step (suc n) p rs (record_of p rs) (omega arith) refl
    ∙ leads-over (λ q. leads_to_page (suc n - 1) rs q) (λ q. reaches_page (suc n - 1) rs q)
    (λ q k. ap (λ i. leads_to_page i rs q) m ∙ leads-from-reaches n rs q (ap (λ i. reaches_page i rs q) (sym m) ∙ k))
    (record_of p rs) (sym (reaches-step (suc n) p rs (record_of p rs) (omega arith) refl) ∙ h)

hang : (all rs : List Record) → AllByRecursion (λ (r : Record). reaches_page 31 all r.place.parent ≡ true) rs → Passes (λ r. can_have_children all r.place.parent && leads_to_page 31 all r.place.parent) rs
hang all [] a = tt
hang all (r ∷ rs) a =
    (and_from (can_have_children all r.place.parent) (leads_to_page 31 all r.place.parent) (can-from 31 all r.place.parent a.0) (leads-from-reaches 31 all r.place.parent a.0), hang all rs a.1)

no-tree-fault : (all earlier later : List Record) → NoneClash (λ s r. s.id == r.id) earlier later → NoneClash (λ s r. same_place r s) earlier later → Passes (λ r. can_have_children all r.place.parent && leads_to_page 31 all r.place.parent) later → tree_fault_after all earlier later ≡ None
no-tree-fault all earlier [] a b c = refl
no-tree-fault all earlier (r ∷ later) a b c =
    ap (λ m. cond m (Some (length earlier)) (tree_fault_after all (earlier ++ r ∷ []) later)) (well-placed all earlier r a.0 c.0 b.0)
    ∙ no-tree-fault all (earlier ++ r ∷ []) later a.1 b.1 c.1

-- the records of a document are restored as that document
pub restoration_of-same : (d : Contents) → IsWellFormed d → restoration_of d.records d.next ≡ Ok d
restoration_of-same d w =
    let rs = d.records in
    let limits = all-within d.next rs (recursion_from_All (λ (r : Record). (1 ≤ r.id) × (r.id < d.next)) rs w.ids) (recursion_from_All IsInLimits rs w.limits) in
    let first : record_fault d.next rs ≡ None = no-position (is_record d.next) rs limits in
    let tree : tree_fault rs ≡ None = no-tree-fault rs [] rs
    (none-clash (λ s r. s.id == r.id) [] rs (none-yet (λ s r. s.id == r.id) rs) (ids-apart rs w.rising))
    (none-clash (λ s r. same_place r s) [] rs (none-yet (λ s r. same_place r s) rs) (places-apart rs w.places))
    (hang rs rs (recursion_from_All (λ (r : Record). reaches_page 31 rs r.place.parent ≡ true) rs w.grounded)) in
    ap (λ o. refused_at o (λ i. BadRecord i) (refused_at (tree_fault rs) (λ i. BadTree i) (Ok (restored_of rs d.next)))) first
    ∙ ap (λ o. refused_at o (λ i. BadTree i) (Ok (restored_of rs d.next))) tree
    ∙ ap (λ x. Ok (record { records = x; next = d.next })) (by_id-same rs w.rising)
