-- The first record that does not belong to a page tree, step by step.
use Rattle.std.proofs.Common.{◌≡◌, ◌==◌, ℕ, suc, ◌+◌, ◌<◌, ◌||◌, ◌&&◌, not, cond, List, [], ◌∷◌, ◌++◌, Bool, true, false, Some, refl, sym, ap, ◌∙◌, arith, length, get_or, take, drop, add-one, drop-cons}
use Rattle.std.specs.List.{list_any}
use Rattle.std.proofs.lemmas.Grind.{common_steps}
use Rattle.std.proofs.lemmas.List.{take_more}
use Rattle.std.proofs.lemmas.List.Folds.{list_any_more}
use Rattle.canvas_record.specs.declared.records.Record.{Record}
use Rattle.canvas_record.specs.Decision.{can_have_children}
use Rattle.canvas_record.specs.Restored.{leads_to_page, same_place, is_misplaced, tree_fault_after}

split-at : (all : List Record) (i : ℕ) (r : Record) → i < length all → r ≡ get_or all i r → drop i all ≡ r ∷ drop (i + 1) all
split-at all i r l e = drop-cons all i r l ∙ rw add-one (ap (λ x. x ∷ drop (suc i) all) (sym e))

take-length : (all : List Record) (i : ℕ) → i < length all → length (take i all) ≡ i
take-length all i l = grind (arith, common_steps)

-- the record at i is the first that is misplaced
pub fault-here : (all : List Record) (i : ℕ) (r : Record) → i < length all → r ≡ get_or all i r → is_misplaced all (take i all) r ≡ true → tree_fault_after all (take i all) (drop i all) ≡ Some i
fault-here all i r l e m =
    ap (tree_fault_after all (take i all)) (split-at all i r l e)
    ∙ ap (λ b. cond b (Some (length (take i all))) (tree_fault_after all (take i all ++ r ∷ []) (drop (i + 1) all))) m
    ∙ ap Some (take-length all i l)

-- the record at i is not
pub fault-later : (all : List Record) (i : ℕ) (r : Record) → i < length all → r ≡ get_or all i r → is_misplaced all (take i all) r ≡ false → tree_fault_after all (take i all) (drop i all) ≡ tree_fault_after all (take (i + 1) all) (drop (i + 1) all)
fault-later all i r l e m =
    ap (tree_fault_after all (take i all)) (split-at all i r l e)
    ∙ ap (λ b. cond b (Some (length (take i all))) (tree_fault_after all (take i all ++ r ∷ []) (drop (i + 1) all))) m
    ∙ ap (λ x. tree_fault_after all (take i all ++ x ∷ []) (drop (i + 1) all)) e
    ∙ ap (λ x. tree_fault_after all x (drop (i + 1) all)) (sym (take_more all i r l))

or-swap : (a b : Bool) → (a || b) ≡ (b || a)
or-swap true true = refl
or-swap true false = refl
or-swap false true = refl
or-swap false false = refl

-- the places of one record more
pub places-more : (all : List Record) (i : ℕ) (r s : Record) (b : Bool) → i < length all → r ≡ get_or all i r → b ≡ list_any (same_place s) (take i all) → (same_place s r || b) ≡ list_any (same_place s) (take (i + 1) all)
places-more all i r s b l e h =
    ap (λ c. same_place s r || c) h
    ∙ or-swap (same_place s r) (list_any (same_place s) (take i all))
    ∙ ap (λ x. list_any (same_place s) (take i all) || same_place s x) e
    ∙ sym (list_any_more (same_place s) all i r l)

second-true : (a can leads d : Bool) → (can && leads) ≡ false → (a || (not can || (not leads || d))) ≡ true
second-true true can leads d h = refl
second-true false false leads d h = refl
second-true false true leads d h = rw h refl

last-true : (a b c d : Bool) → d ≡ true → (a || (b || (c || d))) ≡ true
last-true true b c d h = refl
last-true false true c d h = refl
last-true false false true d h = refl
last-true false false false d h = h

pub misplaced-repeats : (all earlier : List Record) (r : Record) → list_any (λ s. s.id == r.id) earlier ≡ true → is_misplaced all earlier r ≡ true
misplaced-repeats all earlier r h = ap (λ b. b || (not (can_have_children all r.place.parent) || (not (leads_to_page 31 all r.place.parent) || list_any (same_place r) earlier))) h

pub misplaced-hangs : (all earlier : List Record) (r : Record) → (can_have_children all r.place.parent && leads_to_page 31 all r.place.parent) ≡ false → is_misplaced all earlier r ≡ true
misplaced-hangs all earlier r h = second-true (list_any (λ s. s.id == r.id) earlier) (can_have_children all r.place.parent) (leads_to_page 31 all r.place.parent) (list_any (same_place r) earlier) h

pub misplaced-taken : (all earlier : List Record) (r : Record) → list_any (same_place r) earlier ≡ true → is_misplaced all earlier r ≡ true
misplaced-taken all earlier r h = last-true (list_any (λ s. s.id == r.id) earlier) (not (can_have_children all r.place.parent)) (not (leads_to_page 31 all r.place.parent)) (list_any (same_place r) earlier) h

none-true : (a can leads d : Bool) → a ≡ false → (can && leads) ≡ true → d ≡ false → (a || (not can || (not leads || d))) ≡ false
none-true a true leads d h k e = rw (h, k, e) refl
none-true a false leads d h k e = cc

pub well-placed : (all earlier : List Record) (r : Record) → list_any (λ s. s.id == r.id) earlier ≡ false → (can_have_children all r.place.parent && leads_to_page 31 all r.place.parent) ≡ true → list_any (same_place r) earlier ≡ false → is_misplaced all earlier r ≡ false
well-placed all earlier r h k e = none-true (list_any (λ s. s.id == r.id) earlier) (can_have_children all r.place.parent) (leads_to_page 31 all r.place.parent) (list_any (same_place r) earlier) h k e

-- what is said of the place that was asked for
pub taken-from : (b c f : Bool) → f ≡ not b → b ≡ c → f ≡ false → c ≡ true
taken-from true c f h e k = sym e
taken-from false c f h e k = cc

pub free-from : (b c f : Bool) → f ≡ not b → b ≡ c → f ≡ true → c ≡ false
free-from true c f h e k = cc
free-from false c f h e k = sym e
