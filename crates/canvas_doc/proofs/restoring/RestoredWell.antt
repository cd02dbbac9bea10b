-- A list without fault is restored as a well-formed document.
use Rattle.std.proofs.Common.{◌≡◌, ℕ, zero, suc, ◌-◌, ◌<◌, ◌≤◌, ◌^◌, ◌==◌, ◌&&◌, ◌||◌, not, nat_lt, nat_le, List, [], ◌∷◌, ◌++◌, Bool, true, false, cond, Some, None, refl, sym, ap, subst, ◌∙◌, arith, inl, inr, All, length, get_or}
use Rattle.std.specs.List.{AllByRecursion, list_any, position, position_or_len}
use Rattle.std.proofs.lemmas.Bool.{cases_Bool, true≢false, and_parts, or_parts, and_from}
use Rattle.std.proofs.lemmas.Bool.Decides.{nat_tests}
use Rattle.std.proofs.lemmas.List.Elements.{All-from_recursion, recursion_from_All}
use Rattle.std.proofs.lemmas.List.Sums.{fails_before_first}
use Rattle.std.proofs.lemmas.List.Folds.{list_any-append}
use Rattle.std.specs.Ordering.{is_eq}
use Rattle.std.proofs.lemmas.Cmp.{nat_list_cmp_total, tied_itself}
use Rattle.std.proofs.lemmas.Map.Text.{is_eq-slice_cmp}
use Rattle.canvas_record.specs.declared.records.Parent.{Parent}
use Rattle.canvas_record.specs.declared.records.Parent.TheVariants.{Page, Shape}
use Rattle.canvas_record.specs.declared.records.Record.{Record}
use Rattle.canvas_record.specs.Children.{same_parent}
use Rattle.canvas_record.specs.Contents.{IsWellFormed, AreRising, record_of, is_container, reaches_page, most_records}
use Rattle.canvas_key.specs.Text.{IsKey, is_same}
use Rattle.canvas_plane.specs.Limits.{is_pose}
use Rattle.canvas_shape.specs.Limits.{has_sides, has_vertices}
use Rattle.canvas_shape.proofs.Limits.{sound-known}
use Rattle.canvas_record.specs.Decision.{can_have_children}
use Rattle.canvas_record.specs.Tree.{HavePlaces, IsElsewhere, IsInLimits}
use Rattle.canvas_record.specs.Restored.{is_record, record_fault, leads_to_page, same_place, is_misplaced, tree_fault_after, tree_fault, put_by_id, by_id, restored_of}
use Rattle.canvas_doc.proofs.restoring.ById.{HaveIds, put-all, sorted-all, reaches-by_id}
use Rattle.canvas_doc.proofs.fitting.FitMore.{pose-limits}
use Rattle.canvas_doc.proofs.restoring.Leads.{none-below, leads-nowhere, leads-step}
use Rattle.canvas_doc.proofs.tree.Paths.{reaches-page, reaches-step}
use Rattle.canvas_record.proofs.Accepted.{not-false}
use Rattle.canvas_doc.proofs.tree.Parents.{same_parent-flips, container-there, flip-eq}

-- each passes
abbrev pub Passes : (Record → Bool) → List Record → Type 0
Passes p rs = AllByRecursion (λ r. p r ≡ true) rs

-- what no record being at fault says of each
all-records : (p : Record → Bool) (rs : List Record) → position (λ r. not (p r)) rs ≡ None → Passes p rs
all-records p rs h =
    let past : length rs ≤ position_or_len (λ r. not (p r)) rs = none-below (length rs) (position_or_len (λ r. not (p r)) rs) h in
    recursion_from_All (λ r. p r ≡ true) rs (λ k d l. not-false (p (get_or rs k d)) (fails_before_first (λ r. not (p r)) rs k d (omega arith)))

-- no later record clashes with an earlier one
abbrev pub Apart : (Record → Record → Bool) → List Record → Type 0
Apart clash [] = Unit {0}
Apart clash (r ∷ rs) = AllByRecursion (λ s. clash r s ≡ false) rs × Apart clash rs

-- none of the later ones clashes with one before it
abbrev pub NoneClash : (Record → Record → Bool) → List Record → List Record → Type 0
NoneClash clash earlier [] = Unit {0}
NoneClash clash earlier (r ∷ later) = (list_any (λ s. clash s r) earlier ≡ false) × NoneClash clash (earlier ++ r ∷ []) later

last-apart : (p : Record → Bool) (xs : List Record) (y : Record) → list_any p (xs ++ y ∷ []) ≡ false → (list_any p xs ≡ false) × (p y ≡ false)
last-apart p xs y h =
    let a = or_parts (list_any p xs) (list_any p (y ∷ [])) (sym (list_any-append p xs (y ∷ [])) ∙ h) in
    (a.0, (or_parts (p y) false a.1).0)

apart-later : (clash : Record → Record → Bool) (x : Record) (earlier later : List Record) → ((r : Record) → list_any (λ s. clash s r) earlier ≡ false → clash x r ≡ false) → NoneClash clash earlier later → AllByRecursion (λ s. clash x s ≡ false) later
apart-later clash x earlier [] k n = tt
apart-later clash x earlier (r ∷ later) k n =
    (k r n.0, apart-later clash x (earlier ++ r ∷ []) later (λ t h. k t (last-apart (λ s. clash s t) earlier r h).0) n.1)

apart : (clash : Record → Record → Bool) (earlier later : List Record) → NoneClash clash earlier later → Apart clash later
apart clash earlier [] n = tt
apart clash earlier (r ∷ later) n =
    (apart-later clash r (earlier ++ r ∷ []) later (λ t h. (last-apart (λ s. clash s t) earlier r h).1) n.1, apart clash (earlier ++ r ∷ []) later n.1)

-- what no record being misplaced says
record Placed (all earlier later : List Record) : Type 0 where
  ids : NoneClash (λ s r. s.id == r.id) earlier later
  places : NoneClash (λ s r. same_place r s) earlier later
  parents : Passes (λ r. can_have_children all r.place.parent) later
  paths : Passes (λ r. leads_to_page 31 all r.place.parent) later

placed : (all earlier later : List Record) → tree_fault_after all earlier later ≡ None → Placed all earlier later
placed all earlier [] h = record { ids = tt; places = tt; parents = tt; paths = tt }
placed all earlier (r ∷ later) h = elim (cases_Bool (is_misplaced all earlier r)) [
  | inl t ↦ (let e : Some (length earlier) ≡ None = ap (λ b. cond b (Some (length earlier)) (tree_fault_after all (earlier ++ r ∷ []) later)) (sym t) ∙ h in cc)
  | inr f ↦ (let e : tree_fault_after all (earlier ++ r ∷ []) later ≡ None = ap (λ b. cond b (Some (length earlier)) (tree_fault_after all (earlier ++ r ∷ []) later)) (sym f) ∙ h in
      let rest = placed all (earlier ++ r ∷ []) later e in
      let can = can_have_children all r.place.parent in
      let leads = leads_to_page 31 all r.place.parent in
      let taken = list_any (same_place r) earlier in
      let a = or_parts (list_any (λ s. s.id == r.id) earlier) (not can || (not leads || taken)) f in
      let b = or_parts (not can) (not leads || taken) a.1 in
      let d = or_parts (not leads) taken b.1 in
      record {
        ids = (a.0, rest.ids);
        places = (d.1, rest.places);
        parents = (not-false can b.0, rest.parents);
        paths = (not-false leads d.0, rest.paths);
      })
]

flip-all : (r : Record) (rs : List Record) → AllByRecursion (λ (s : Record). (r.id == s.id) ≡ false) rs → AllByRecursion (λ (s : Record). (s.id == r.id) ≡ false) rs
flip-all r [] a = tt
flip-all r (s ∷ rs) a = (flip-eq r.id s.id a.0, flip-all r rs a.1)

have-ids : (rs : List Record) → Apart (λ s r. s.id == r.id) rs → HaveIds rs
have-ids [] a = tt
have-ids (r ∷ rs) a = (flip-all r rs a.0, have-ids rs a.1)

above-all : (m n : ℕ) (l : List Record) → m < n → AllByRecursion (λ (s : Record). n < s.id) l → AllByRecursion (λ (s : Record). m < s.id) l
above-all m n [] h a = tt
above-all m n (s ∷ rest) h a = (omega (arith, a.0), above-all m n rest h a.1)

-- a list in rising id, once it is sorted
rising-put : (r : Record) (l : List Record) → AllByRecursion (λ (s : Record). (s.id == r.id) ≡ false) l → AreRising l → AreRising (put_by_id r l)
rising-put r [] n a = (tt, tt)
rising-put r (s ∷ rest) n a = elim (cases_Bool (nat_lt s.id r.id)) [
  | inl t ↦ (let h : s.id < r.id = grind (arith, nat_tests) in rw t (put-all (λ (x : Record). s.id < x.id) r rest h a.0, rising-put r rest n.1 a.1))
  | inr f ↦ (let g : (s.id == r.id) ≡ false = n.0 in
      let h : r.id < s.id = grind (arith, nat_tests) in rw f ((h, above-all r.id s.id rest h a.0), a))
]

rising-sorted : (rs : List Record) → HaveIds rs → AreRising (by_id rs)
rising-sorted [] h = tt
rising-sorted (r ∷ rs) h = rising-put r (by_id rs) (sorted-all (λ (s : Record). (s.id == r.id) ≡ false) rs h.0) (rising-sorted rs h.1)

same-itself : (a : List ℕ) → is_same a a ≡ true
same-itself a = sym (is_eq-slice_cmp a a) ∙ ap is_eq (tied_itself nat_list_cmp_total a)

elsewhere : (r s : Record) → same_place s r ≡ false → IsElsewhere r s
elsewhere r s h p e =
    let both : (same_parent r.place.parent s.place.parent && is_same r.place.index s.place.index) ≡ true =
    and_from (same_parent r.place.parent s.place.parent) (is_same r.place.index s.place.index) (same_parent-flips r.place.parent s.place.parent ∙ p)
    (ap (is_same r.place.index) e ∙ same-itself r.place.index) in
    true≢false (sym both ∙ h)

elsewhere-sym : (r s : Record) → IsElsewhere r s → IsElsewhere s r
elsewhere-sym r s h p e = h (same_parent-flips s.place.parent r.place.parent ∙ p) (sym e)

elsewhere-all : (r : Record) (rs : List Record) → AllByRecursion (λ s. same_place s r ≡ false) rs → AllByRecursion (IsElsewhere r) rs
elsewhere-all r [] a = tt
elsewhere-all r (s ∷ rs) a = (elsewhere r s a.0, elsewhere-all r rs a.1)

have-places : (rs : List Record) → Apart (λ s r. same_place r s) rs → HavePlaces rs
have-places [] a = tt
have-places (r ∷ rs) a = (elsewhere-all r rs a.0, have-places rs a.1)

places-put : (r : Record) (l : List Record) → AllByRecursion (IsElsewhere r) l → HavePlaces l → HavePlaces (put_by_id r l)
places-put r [] n a = (tt, tt)
places-put r (s ∷ rest) n a = elim (cases_Bool (nat_lt s.id r.id)) [
  | inl t ↦ rw t (put-all (IsElsewhere s) r rest (elsewhere-sym r s n.0) a.0, places-put r rest n.1 a.1)
  | inr f ↦ rw f (n, a)
]

places-sorted : (rs : List Record) → HavePlaces rs → HavePlaces (by_id rs)
places-sorted [] h = tt
places-sorted (r ∷ rs) h = places-put r (by_id rs) (sorted-all (IsElsewhere r) rs h.0) (places-sorted rs h.1)

-- paths: where each parent can have children, a path to the page goes through such parents alone
found-parent : (p : ℕ) (rs : List Record) (r : Record) (P : Record → Type 0) → AllByRecursion P rs → record_of p rs ≡ Some r → P r
found-parent p [] r P a h = cc
found-parent p (x ∷ rs) r P a h = elim (cases_Bool (x.id == p)) [
  | inl t ↦ (let e : Some x ≡ Some r = rw t at h in let same : x ≡ r = cc in subst P same a.0)
  | inr f ↦ (let e : record_of p rs ≡ Some r = rw f at h in found-parent p rs r P a.1 e)
]

reaches-from_leads : (n : ℕ) (rs : List Record) (p : Parent) → Passes (λ r. can_have_children rs r.place.parent) rs → can_have_children rs p ≡ true → leads_to_page n rs p ≡ true → reaches_page n rs p ≡ true
reaches-from_leads n rs Page all can leads = reaches-page n rs
reaches-from_leads zero rs (Shape p) all can leads = absurd (true≢false (sym leads ∙ leads-nowhere zero p rs refl))
reaches-from_leads (suc n) rs (Shape p) all can leads =
    let m : suc n - 1 ≡ n = omega arith in
    let s = container-there (record_of p rs) can in
    let r = s.0 in
    let up : leads_to_page n rs r.place.parent ≡ true =
    ap (λ k. leads_to_page k rs r.place.parent) (sym m) ∙ sym (leads-step (suc n) p rs (Some r) (omega arith) (sym s.1)) ∙ leads in
    let holds : can_have_children rs r.place.parent ≡ true = found-parent p rs r (λ x. can_have_children rs x.place.parent ≡ true) all s.1 in
    let below : reaches_page (suc n - 1) rs r.place.parent ≡ true = ap (λ k. reaches_page k rs r.place.parent) m ∙ reaches-from_leads n rs r.place.parent all holds up in
    reaches-step (suc n) p rs (Some r) (omega arith) (sym s.1) ∙ and_from (is_container r.kind) (reaches_page (suc n - 1) rs r.place.parent) s.2 below

-- lengths
length-put : (r : Record) (l : List Record) → length (put_by_id r l) ≡ suc (length l)
length-put r [] = refl
length-put r (s ∷ rest) = elim (cases_Bool (nat_lt s.id r.id)) [ inl t ↦ rw t (ap suc (length-put r rest)) | inr f ↦ rw f refl ]

pub length-by_id : (rs : List Record) → length (by_id rs) ≡ length rs
length-by_id [] = refl
length-by_id (r ∷ rs) = length-put r (by_id rs) ∙ ap suc (length-by_id rs)

limits : (next : ℕ) (r : Record) → is_record next r ≡ true → IsKey r.place.index → ((1 ≤ r.id) × (r.id < next)) × IsInLimits r
limits next r h key =
    let a = and_parts (nat_le 1 r.id && nat_lt r.id next) (is_pose r.pose && (has_sides r.kind && has_vertices r.kind)) h in
    let b = and_parts (nat_le 1 r.id) (nat_lt r.id next) a.0 in
    let c = and_parts (is_pose r.pose) (has_sides r.kind && has_vertices r.kind) a.1 in
    let k = and_parts (has_sides r.kind) (has_vertices r.kind) c.1 in
    let low : nat_le 1 r.id ≡ true = b.0 in
    let high : nat_lt r.id next ≡ true = b.1 in
    let pose = pose-limits r.pose c.0 in
    ((grind (arith, nat_tests), grind (arith, nat_tests)), record { quarter = pose.0; reach = pose.1; kind = sound-known r.kind k.0 k.1; key = key })

limits-all : (next : ℕ) (rs : List Record) → Passes (is_record next) rs → AllByRecursion (λ r. IsKey r.place.index) rs → AllByRecursion (λ r. (1 ≤ r.id) × (r.id < next)) rs × AllByRecursion IsInLimits rs
limits-all next [] a k = (tt, tt)
limits-all next (r ∷ rs) a k = let one = limits next r a.0 k.0 in let rest = limits-all next rs a.1 k.1 in ((one.0, rest.0), (one.1, rest.1))

grounded-all : (all rs : List Record) → HaveIds all → Passes (λ r. can_have_children all r.place.parent) all → Passes (λ r. can_have_children all r.place.parent) rs → Passes (λ r. leads_to_page 31 all r.place.parent) rs → AllByRecursion (λ (r : Record). reaches_page 31 (by_id all) r.place.parent ≡ true) rs
grounded-all all [] ids holds can leads = tt
grounded-all all (r ∷ rs) ids holds can leads =
    (reaches-by_id 31 all r.place.parent ids ∙ reaches-from_leads 31 all r.place.parent holds can.0 leads.0, grounded-all all rs ids holds can.1 leads.1)

pub restores-well : (rs : List Record) (next : ℕ) → 1 ≤ next → next < 2 ^ 32 → length rs ≤ most_records → All (λ (r : Record). IsKey r.place.index) rs → record_fault next rs ≡ None → tree_fault rs ≡ None → IsWellFormed (restored_of rs next)
restores-well rs next above below few keys records tree =
    let p = placed rs [] rs tree in
    let ids = have-ids rs (apart (λ s r. s.id == r.id) [] rs p.ids) in
    let l = limits-all next rs (all-records (is_record next) rs records) (recursion_from_All (λ (r : Record). IsKey r.place.index) rs keys) in
    record {
      next_above = above;
      next_below = below;
      few = rw (length-by_id rs) few;
      rising = rising-sorted rs ids;
      ids = All-from_recursion (λ (r : Record). (1 ≤ r.id) × (r.id < next)) (by_id rs) (sorted-all (λ (r : Record). (1 ≤ r.id) × (r.id < next)) rs l.0);
      limits = All-from_recursion IsInLimits (by_id rs) (sorted-all IsInLimits rs l.1);
      places = places-sorted rs (have-places rs (apart (λ s r. same_place r s) [] rs p.places));
      grounded = All-from_recursion (λ (r : Record). reaches_page 31 (by_id rs) r.place.parent ≡ true) (by_id rs)
          (sorted-all (λ (r : Record). reaches_page 31 (by_id rs) r.place.parent ≡ true) rs (grounded-all rs rs ids p.parents p.parents p.paths));
    }
