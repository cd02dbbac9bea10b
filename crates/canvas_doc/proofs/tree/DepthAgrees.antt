-- A move lies too deep exactly where depth and height together are above 32.
use Rattle.std.proofs.Common.{◌≡◌, ℕ, zero, suc, ◌+◌, ◌-◌, ◌==◌, List, [], ◌∷◌, Bool, true, false, cond, not, ◌&&◌, ◌||◌, Option, Some, None, refl, sym, ap, ◌∙◌, arith, inl, inr, All, nat_le, nat_lt, max}
use Rattle.std.specs.List.{list_all}
use Rattle.std.proofs.lemmas.Bool.{cases_Bool, or_parts}
use Rattle.std.proofs.lemmas.Bool.Decides.{nat_tests}
use Rattle.std.proofs.lemmas.List.Elements.{All-head, All-tail}
use Rattle.canvas_record.specs.declared.records.Parent.{Parent}
use Rattle.canvas_record.specs.declared.records.Parent.TheVariants.{Page, Shape}
use Rattle.canvas_record.specs.declared.records.Record.{Record}
use Rattle.canvas_record.specs.Contents.{Contents, IsWellFormed, record_of, is_container, reaches_from, reaches_page}
use Rattle.canvas_record.specs.Effect.{is_below, is_below_from}
use Rattle.canvas_record.specs.Decision.{put_under, parent_after, lies_too_deep, makes_cycle}
use Rattle.canvas_record.specs.Depth.{depth_of, depth_from, levels_to, levels_from, levels_of, one_more, greatest, height_of, is_above_32}
use Rattle.canvas_doc.proofs.tree.Paths.{reaches-page, reaches-step_after, deep-after}
use Rattle.canvas_doc.proofs.tree.Parents.{from-some}

le-zero : (n : ℕ) → nat_le 0 n ≡ true
le-zero n = grind (arith, nat_tests)

above-zero : (n : ℕ) → false ≡ nat_le (suc n) 0
above-zero n = grind (arith, nat_tests)

both-suc : (a n : ℕ) → nat_le a n ≡ nat_le (suc a) (suc n)
both-suc a n = grind (arith, nat_tests)

-- a path reaches the page within n steps exactly where its depth is at most n
pub reaches-depth : (k n : ℕ) (rs : List Record) (q : Parent) → reaches_page k rs q ≡ true → reaches_page n rs q ≡ nat_le (depth_of k rs q) n
unfolding reaches_page depth_of
reaches-depth zero n rs Page h = reaches-page n rs ∙ sym (le-zero n)
reaches-depth zero n rs (Shape p) h = cc
reaches-depth (suc k) n rs Page h = reaches-page n rs ∙ sym (le-zero n)
reaches-depth (suc k) zero rs (Shape p) h =
    let s = from-some (λ q. reaches_page k rs q) (record_of p rs) h in
    above-zero (depth_of k rs s.0.place.parent) ∙ ap (λ o. nat_le (depth_from (λ q. depth_of k rs q) o) 0) (sym s.1)
reaches-depth (suc k) (suc n) rs (Shape p) h =
    let s = from-some (λ q. reaches_page k rs q) (record_of p rs) h in
    ap (reaches_from (λ q. reaches_page n rs q)) s.1
    ∙ ap (λ b. b && reaches_page n rs s.0.place.parent) s.2
    ∙ reaches-depth k n rs s.0.place.parent s.3
    ∙ both-suc (depth_of k rs s.0.place.parent) n
    ∙ ap (λ o. nat_le (depth_from (λ q. depth_of k rs q) o) (suc n)) (sym s.1)

-- a path that does not meet the shape is as before
reaches-apart : (k n id : ℕ) (u : Parent) (rs : List Record) (q : Parent) → reaches_page k rs q ≡ true → is_below k id rs q ≡ false → reaches_page n (put_under id u rs) q ≡ reaches_page n rs q
unfolding reaches_page is_below
reaches-apart zero n id u rs Page h b = reaches-page n (put_under id u rs) ∙ sym (reaches-page n rs)
reaches-apart zero n id u rs (Shape p) h b = cc
reaches-apart (suc k) n id u rs Page h b = reaches-page n (put_under id u rs) ∙ sym (reaches-page n rs)
reaches-apart (suc k) zero id u rs (Shape p) h b = refl
reaches-apart (suc k) (suc n) id u rs (Shape p) h b =
    let s = from-some (λ q. reaches_page k rs q) (record_of p rs) h in
    let parts = or_parts (s.0.id == id) (is_below k id rs s.0.place.parent) (sym (ap (is_below_from id (λ q. is_below k id rs q)) s.1) ∙ b) in
    let same : suc n - 1 ≡ n = omega arith in
    reaches-step_after (suc n) id p u rs s.0 (omega arith) (sym s.1)
    ∙ ap (λ m. is_container s.0.kind && reaches_page m (put_under id u rs) (parent_after id u s.0)) same
    ∙ ap (λ c. is_container s.0.kind && reaches_page n (put_under id u rs) (cond c u s.0.place.parent)) parts.0
    ∙ ap (λ c. is_container s.0.kind && c) (reaches-apart k n id u rs s.0.place.parent s.3 parts.1)
    ∙ sym (ap (reaches_from (λ q. reaches_page n rs q)) s.1)

more-none : (n : ℕ) → one_more n ≡ 0 → n ≡ 0
more-none zero h = refl
more-none (suc n) h = absurd (omega arith)

none-cases : (b c : Bool) (m : ℕ) → cond b 1 (one_more m) ≡ 0 → (m ≡ 0 → c ≡ false) → (b || c) ≡ false
none-cases true c m h k = absurd (omega arith)
none-cases false c m h k = k (more-none m h)

none-from : (id : ℕ) (down : Parent → ℕ) (up : Parent → Bool) → ((q : Parent) → down q ≡ 0 → up q ≡ false) → (o : Option Record) → levels_from id down o ≡ 0 → is_below_from id up o ≡ false
none-from id down up k None h = refl
none-from id down up k (Some r) h = none-cases (r.id == id) (up r.place.parent) (down r.place.parent) h (k r.place.parent)

-- no level, not below
levels-none : (k id : ℕ) (rs : List Record) (q : Parent) → levels_to k id rs q ≡ 0 → is_below k id rs q ≡ false
unfolding levels_to is_below
levels-none zero id rs Page h = refl
levels-none zero id rs (Shape p) h = refl
levels-none (suc k) id rs Page h = refl
levels-none (suc k) id rs (Shape p) h = none-from id (λ q. levels_to k id rs q) (λ q. is_below k id rs q) (λ q e. levels-none k id rs q e) (record_of p rs) h

step-le : (a j n : ℕ) → nat_le (a + suc j) n ≡ nat_le (a + suc (suc j)) (suc n)
step-le a j n = grind (arith, nat_tests)

one-le : (a n : ℕ) → nat_le a n ≡ nat_le (a + 1) (suc n)
one-le a n = grind (arith, nat_tests)

zero-le : (a j : ℕ) → false ≡ nat_le (a + suc j) 0
zero-le a j = grind (arith, nat_tests)

pub more-some : (n j : ℕ) → one_more n ≡ suc j → (i : ℕ) × (n ≡ suc i) × (j ≡ suc i)
more-some zero j h = absurd (omega arith)
more-some (suc i) j h = (i, refl, omega arith)

-- a path that meets the shape goes on from its new parent, which has depth a
reaches-moved : (k n id j a : ℕ) (u : Parent) (rs : List Record) (q : Parent) → ((m : ℕ) → reaches_page m (put_under id u rs) u ≡ nat_le a m) → reaches_page k rs q ≡ true → levels_to k id rs q ≡ suc j → reaches_page n (put_under id u rs) q ≡ nat_le (a + suc j) n
unfolding reaches_page levels_to
reaches-moved zero n id j a u rs Page d h l = absurd (omega arith)
reaches-moved zero n id j a u rs (Shape p) d h l = cc
reaches-moved (suc k) n id j a u rs Page d h l = absurd (omega arith)
reaches-moved (suc k) zero id j a u rs (Shape p) d h l = zero-le a j
reaches-moved (suc k) (suc n) id j a u rs (Shape p) d h l =
    let s = from-some (λ q. reaches_page k rs q) (record_of p rs) h in
    let same : suc n - 1 ≡ n = omega arith in
    let levels : cond (s.0.id == id) 1 (one_more (levels_to k id rs s.0.place.parent)) ≡ suc j = sym (ap (levels_from id (λ q. levels_to k id rs q)) s.1) ∙ l in
    reaches-step_after (suc n) id p u rs s.0 (omega arith) (sym s.1)
    ∙ ap (λ m. is_container s.0.kind && reaches_page m (put_under id u rs) (parent_after id u s.0)) same
    ∙ ap (λ c. c && reaches_page n (put_under id u rs) (parent_after id u s.0)) s.2
    ∙ elim (cases_Bool (s.0.id == id)) [
      | inl t ↦ (
          let one : 1 ≡ suc j = ap (λ c. cond c 1 (one_more (levels_to k id rs s.0.place.parent))) (sym t) ∙ levels in
          ap (λ c. reaches_page n (put_under id u rs) (cond c u s.0.place.parent)) t ∙ d n ∙ one-le a n ∙ ap (λ x. nat_le (a + x) (suc n)) one)
      | inr f ↦ (
          let more = more-some (levels_to k id rs s.0.place.parent) j (ap (λ c. cond c 1 (one_more (levels_to k id rs s.0.place.parent))) (sym f) ∙ levels) in
          ap (λ c. reaches_page n (put_under id u rs) (cond c u s.0.place.parent)) f
          ∙ reaches-moved k n id more.0 a u rs s.0.place.parent d s.3 more.1
          ∙ step-le a more.0 n ∙ ap (λ x. nat_le (a + suc x) (suc n)) (sym more.2))
    ]

le-32 : (a : ℕ) → nat_le a 31 ≡ nat_le (a + 1) 32
le-32 a = grind (arith, nat_tests)

le-32_more : (a j : ℕ) → nat_le (a + suc j) 31 ≡ nat_le (a + suc (suc j)) 32
le-32_more a j = grind (arith, nat_tests)

le-plain : (a : ℕ) → nat_le a 32 ≡ true → true ≡ nat_le (a + 0) 32
le-plain a h = grind (arith, nat_tests)

below-record : (id a : ℕ) (u : Parent) (rs : List Record) (r : Record) (j : ℕ) → levels_to 31 id rs r.place.parent ≡ j → ((m : ℕ) → reaches_page m (put_under id u rs) u ≡ nat_le a m) → nat_le a 32 ≡ true → reaches_page 31 rs r.place.parent ≡ true → reaches_page 31 (put_under id u rs) r.place.parent ≡ nat_le (a + one_more (levels_to 31 id rs r.place.parent)) 32
below-record id a u rs r zero e d small h =
    reaches-apart 31 31 id u rs r.place.parent h (levels-none 31 id rs r.place.parent e) ∙ h ∙ le-plain a small ∙ ap (λ x. nat_le (a + one_more x) 32) (sym e)
below-record id a u rs r (suc j) e d small h =
    reaches-moved 31 31 id j a u rs r.place.parent d h e ∙ le-32_more a j ∙ ap (λ x. nat_le (a + one_more x) 32) (sym e)

both-le : (a x y : ℕ) → (nat_le (a + x) 32 && nat_le (a + y) 32) ≡ nat_le (a + max x y) 32
both-le a x y = grind (arith, nat_tests)

-- where one record lies after the move
one-record : (id a : ℕ) (u : Parent) (rs : List Record) (r : Record) → ((m : ℕ) → reaches_page m (put_under id u rs) u ≡ nat_le a m) → nat_le a 32 ≡ true → reaches_page 31 rs r.place.parent ≡ true → reaches_page 31 (put_under id u rs) (parent_after id u r) ≡ nat_le (a + levels_of id rs r) 32
one-record id a u rs r d small h = elim (cases_Bool (r.id == id)) [
  | inl t ↦ ap (λ c. reaches_page 31 (put_under id u rs) (cond c u r.place.parent)) t ∙ d 31 ∙ le-32 a ∙ ap (λ c. nat_le (a + cond c 1 (one_more (levels_to 31 id rs r.place.parent))) 32) (sym t)
  | inr f ↦ ap (λ c. reaches_page 31 (put_under id u rs) (cond c u r.place.parent)) f ∙ below-record id a u rs r (levels_to 31 id rs r.place.parent) refl d small h ∙ ap (λ c. nat_le (a + cond c 1 (one_more (levels_to 31 id rs r.place.parent))) 32) (sym f)
]

all-records : (id a : ℕ) (u : Parent) (all rs : List Record) → ((m : ℕ) → reaches_page m (put_under id u all) u ≡ nat_le a m) → nat_le a 32 ≡ true → All (λ (r : Record). reaches_page 31 all r.place.parent ≡ true) rs → list_all (λ r. reaches_page 31 (put_under id u all) (parent_after id u r)) rs ≡ nat_le (a + greatest (levels_of id all) rs) 32
all-records id a u all [] d small h = le-plain a small
all-records id a u all (r ∷ rs) d small h =
    ap (λ b. b && list_all (λ s. reaches_page 31 (put_under id u all) (parent_after id u s)) rs) (one-record id a u all r d small (All-head (λ (s : Record). reaches_page 31 all s.place.parent ≡ true) r rs h))
    ∙ ap (λ b. nat_le (a + levels_of id all r) 32 && b) (all-records id a u all rs d small (All-tail (λ (s : Record). reaches_page 31 all s.place.parent ≡ true) r rs h))
    ∙ both-le a (levels_of id all r) (greatest (levels_of id all) rs)

not-le : (x : ℕ) → not (nat_le x 32) ≡ nat_lt 32 x
not-le x = grind (arith, nat_tests)

-- TooDeep by the effect is TooDeep by depth and height
pub deep-agrees : (d : Contents) → IsWellFormed d → (id : ℕ) (p : Parent) → reaches_page 32 d.records p ≡ true → makes_cycle d.records id p ≡ false → lies_too_deep d.records id p ≡ is_above_32 d.records id p
deep-agrees d w id p h b =
    let rs = d.records in
    let a = depth_of 32 rs p in
    let depth : (m : ℕ) → reaches_page m (put_under id p rs) p ≡ nat_le a m = λ m. reaches-apart 32 m id p rs p h b ∙ reaches-depth 32 m rs p h in
    let small : nat_le a 32 ≡ true = sym (reaches-depth 32 32 rs p h) ∙ h in
    deep-after rs id p ∙ ap not (all-records id a p rs rs depth small w.grounded) ∙ not-le (a + height_of id rs)
