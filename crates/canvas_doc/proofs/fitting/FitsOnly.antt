-- A change that fits passes the tests.
use Rattle.std.proofs.Common.{◌≡◌, ◌≢◌, ℕ, zero, suc, ◌+◌, ◌<◌, ◌≤◌, ◌^◌, ◌==◌, List, [], ◌∷◌, ◌++◌, Bool, true, false, cond, not, ◌&&◌, ◌||◌, Option, Some, None, refl, sym, ap, ◌∙◌, arith, inl, inr, subst, map, All, length, IsSome, nat_le, is_some, rules, length-append}
use Rattle.std.specs.List.{AllByRecursion, list_all}
use Rattle.std.proofs.lemmas.Bool.{cases_Bool, true≢false, and_parts, eq-eqb, or_from, and_from}
use Rattle.std.proofs.lemmas.Bool.Decides.{nat_tests}
use Rattle.std.proofs.lemmas.List.Elements.{All-weaker, All-cons, All-head, All-tail}
use Rattle.canvas_plane.specs.declared.Pose.{Pose}
use Rattle.canvas_plane.specs.Motion.{reach_of}
use Rattle.canvas_shape.specs.declared.Kind.{Kind}
use Rattle.canvas_record.specs.declared.records.Parent.{Parent}
use Rattle.canvas_record.specs.declared.records.Parent.TheVariants.{Page, Shape}
use Rattle.canvas_record.specs.declared.records.Record.{Record}
use Rattle.canvas_record.specs.declared.records.Place.{Place}
use Rattle.canvas_record.specs.declared.edits.Change.{Change}
use Rattle.canvas_record.specs.declared.edits.Change.TheVariants as change
use Rattle.canvas_record.specs.Contents.{Contents, IsWellFormed, record_of, is_container, reaches_from, reaches_page, most_records}
use Rattle.canvas_record.specs.Tree.{HavePlaces, IsElsewhere, IsInLimits}
use Rattle.canvas_record.specs.Effect.{at_id, Fits, HasKey}
use Rattle.canvas_record.specs.Siblings.{is_sibling, siblings, is_taken}
use Rattle.canvas_record.specs.Decision.{has_parent}
use Rattle.canvas_plane.specs.Limits.{is_pose}
use Rattle.canvas_shape.proofs.Limits.{sound-sides, sound-vertices}
use Rattle.canvas_doc.proofs.tree.Paths.{changed, found-after, reaches-page, reaches-step}
use Rattle.canvas_doc.proofs.siblings.Free.{IsFree}
use Rattle.canvas_doc.proofs.tree.Maps.{at-keeps, AreGrounded}
use Rattle.std.proofs.Common.{filter, IsTrue, Decides}
use Rattle.canvas_doc.proofs.fitting.Fitting.{fits-sound}
use Rattle.std.proofs.lemmas.List.Folds.{list_all-map}
use Rattle.canvas_record.specs.Children.{is_child}
use Rattle.canvas_doc.specs.Fitting.{fits_test, has_no_child}
use Rattle.canvas_record.specs.Effect.{IsThere}
use Rattle.canvas_record.specs.Decision.{lies_too_deep, put_under}
use Rattle.std.specs.Cmp.Lexicographic.{same_text}
use Rattle.canvas_key.specs.Text.{is_same}
use Rattle.canvas_doc.proofs.siblings.Free.{Avoids}
use Rattle.canvas_doc.proofs.tree.Maps.{reaches-map}
use Rattle.canvas_doc.proofs.fitting.Fit.{found-all, set-index, set-index-keeps, set-index-all}
use Rattle.canvas_doc.proofs.lists.Tests.{not-true}
use Rattle.canvas_doc.proofs.tree.Parents.{same_parent-sym, same_parent-is, from-some}
use Rattle.canvas_doc.proofs.tree.Found.{found-has, found-push, found-last}

is-there : {T : Type 0} (o : Option T) → IsSome o → is_some o ≡ true
is-there None h = search (rules, h)
is-there (Some x) h = refl

some-of : {T : Type 0} (o : Option T) → is_some o ≡ true → (x : T) × (o ≡ Some x)
some-of None h = cc
some-of (Some x) h = (x, refl)

pub test-from_all : (t : Record → Bool) (rs : List Record) → All (λ r. t r ≡ true) rs → list_all t rs ≡ true
test-from_all t [] h = refl
test-from_all t (r ∷ rs) h = and_from (t r) (list_all t rs) (All-head (λ x. t x ≡ true) r rs h) (test-from_all t rs (All-tail (λ x. t x ≡ true) r rs h))

all-same : (t s : Record → Bool) → ((r : Record) → t r ≡ s r) → (rs : List Record) → list_all t rs ≡ list_all s rs
all-same t s k [] = refl
all-same t s k (r ∷ rs) = ap (λ b. b && list_all t rs) (k r) ∙ ap (λ b. s r && b) (all-same t s k rs)

-- a pose within its limits passes the test
pose-test : (pose : Pose) → pose.quarter ≤ 3 → reach_of pose ≤ 2 ^ 20 → is_pose pose ≡ true
pose-test pose h k =
    let a : nat_le pose.quarter 3 ≡ true = grind (arith, nat_tests) in
    let b : nat_le (reach_of pose) (2 ^ 20) ≡ true = grind (arith, nat_tests) in
    and_from (nat_le pose.quarter 3) (nat_le (reach_of pose) (2 ^ 20)) a b

-- what holds of all records after a change at an id holds of the one that was changed
changed-one : (P : Record → Type 0) (id : ℕ) (f : Record → Record) → ((r : Record) → (f r).id ≡ r.id) → (rs : List Record) (r : Record) → All P (at_id id f rs) → record_of id rs ≡ Some r → P (f r)
changed-one P id f k rs r a h =
    let e : record_of id (at_id id f rs) ≡ Some (cond (r.id == id) (f r) r) = found-after id id f k rs ∙ ap (changed id f) h in
    let p : P (cond (r.id == id) (f r) r) = found-all P id (at_id id f rs) (cond (r.id == id) (f r) r) a e in
    subst (λ b. P (cond b (f r) r)) (found-has id rs r h) p

moved-shallow : (id : ℕ) (pl : Place) (rs : List Record) → AreGrounded (at_id id (λ r. record r { place = pl }) rs) → lies_too_deep rs id pl.parent ≡ false
unfolding lies_too_deep
moved-shallow id pl rs h =
    let g = set-index id pl.index in
    let m = put_under id pl.parent rs in
    let after : AreGrounded (map g m) = subst AreGrounded (sym (set-index-all id pl.parent pl.index rs)) h in
    let t : Record → Bool = λ r. reaches_page 31 (map g m) r.place.parent in
    let tests : list_all t (map g m) ≡ true = test-from_all t (map g m) after in
    ap not
    (sym (list_all-map t g m
    ∙ all-same (λ r. t (g r)) (λ r. reaches_page 31 m r.place.parent) (λ r. ap (reaches_page 31 (map g m)) ((set-index-keeps id pl.index).parents r) ∙ reaches-map 31 g (set-index-keeps id pl.index) m r.place.parent) m)
    ∙ tests)

filter-all : (t : Record → Bool) (P : Record → Type 0) (l : List Record) → AllByRecursion (λ r. t r ≡ true → P r) l → AllByRecursion P (filter t l)
filter-all t P [] a = tt
filter-all t P (r ∷ rs) a = elim (cases_Bool (t r)) [ inl e ↦ rw e (a.0 e, filter-all t P rs a.1) | inr e ↦ rw e (filter-all t P rs a.1) ]

avoids-test : (key : List ℕ) (l : List Record) → Avoids key l → is_taken key l ≡ false
avoids-test key [] a = refl
avoids-test key (s ∷ rest) a = elim (cases_Bool (is_same s.place.index key)) [
  | inl t ↦ absurd (a.0 (same_text s.place.index key (sym t)))
  | inr f ↦ or_from (is_same s.place.index key) (is_taken key rest) f (avoids-test key rest a.1)
]

sibling-parts : (own : ℕ) (p : Parent) (r : Record) → is_sibling own p r ≡ true → (is_child p r ≡ true) × ((r.id == own) ≡ false)
sibling-parts own p r h = let both = and_parts (is_child p r) (not (r.id == own)) h in (both.0, not-true (r.id == own) both.1)

free-plain : (own : ℕ) (p : Parent) (key : List ℕ) (rs : List Record) → AllByRecursion (IsFree own p key) rs → AllByRecursion (λ r. is_sibling own p r ≡ true → r.place.index ≢ key) rs
free-plain own p key [] a = tt
free-plain own p key (r ∷ rs) a = ((λ h. let b = sibling-parts own p r h in a.0 b.1 b.0), free-plain own p key rs a.1)

-- a free index is not taken
pub free-test : (own : ℕ) (p : Parent) (key : List ℕ) (rs : List Record) → AllByRecursion (IsFree own p key) rs → is_taken key (siblings own p rs) ≡ false
free-test own p key rs a = avoids-test key (siblings own p rs) (filter-all (is_sibling own p) (λ r. r.place.index ≢ key) rs (free-plain own p key rs a))

-- what holds of all after a change at an id holds of the one that was changed
changed-by_rest : (P : Record → Type 0) (id : ℕ) (f : Record → Record) (rs : List Record) (r : Record) → AllByRecursion P (at_id id f rs) → record_of id rs ≡ Some r → P (f r)
changed-by_rest P id f [] r a h = cc
changed-by_rest P id f (x ∷ rs) r a h = elim (cases_Bool (x.id == id)) [
  | inl t ↦ (let g : Some x ≡ Some r = rw t at h in let same : x ≡ r = cc in
      let p : P (cond (x.id == id) (f x) x) = a.0 in
      let q : P (f x) = subst (λ b. P (cond b (f x) x)) t p in subst (λ y. P (f y)) same q)
  | inr n ↦ (let g : record_of id rs ≡ Some r = rw n at h in changed-by_rest P id f rs r a.1 g)
]

rest-free : (id : ℕ) (pl : Place) (x : Record) (rs : List Record) → AllByRecursion (IsElsewhere (record x { place = pl })) (at_id id (λ s. record s { place = pl }) rs) → AllByRecursion (IsFree id pl.parent pl.index) rs
rest-free id pl x [] a = tt
rest-free id pl x (s ∷ rs) a = (
  (λ n same. (let p : IsElsewhere (record x { place = pl }) (cond (s.id == id) (record s { place = pl }) s) = a.0 in
      let q : IsElsewhere (record x { place = pl }) s = subst (λ b. IsElsewhere (record x { place = pl }) (cond b (record s { place = pl }) s)) n p in q same)),
  rest-free id pl x rs a.1,
)

moved-free : (id : ℕ) (pl : Place) (rs : List Record) (r : Record) → record_of id rs ≡ Some r → HavePlaces (at_id id (λ s. record s { place = pl }) rs) → AllByRecursion (IsFree id pl.parent pl.index) rs
moved-free id pl [] r h a = cc
moved-free id pl (x ∷ rs) r h a = elim (cases_Bool (x.id == id)) [
  | inl t ↦ (
    (λ n _. absurd (true≢false (sym t ∙ n))),
    rest-free id pl x rs (subst (λ b. AllByRecursion (IsElsewhere (cond b (record x { place = pl }) x)) (at_id id (λ s. record s { place = pl }) rs)) t a.0),
  )
  | inr n ↦ (let g : record_of id rs ≡ Some r = rw n at h in
      let all : AllByRecursion (IsElsewhere x) (at_id id (λ s. record s { place = pl }) rs) = subst (λ b. AllByRecursion (IsElsewhere (cond b (record x { place = pl }) x)) (at_id id (λ s. record s { place = pl }) rs)) n a.0 in
      let one : IsElsewhere x (record r { place = pl }) = changed-by_rest (IsElsewhere x) id (λ s. record s { place = pl }) rs r all g in
      ((λ _ same e. one (same_parent-sym x.place.parent pl.parent same) (sym e)), moved-free id pl rs r g a.1))
]

last-all : (P : Record → Type 0) (rs : List Record) (r : Record) → All P (rs ++ r ∷ []) → P r
last-all P [] r a = All-head P r [] a
last-all P (x ∷ rs) r a = last-all P rs r (All-tail P x (rs ++ r ∷ []) a)

last-elsewhere : (x : Record) (rs : List Record) (r : Record) → AllByRecursion (IsElsewhere x) (rs ++ r ∷ []) → IsElsewhere x r
last-elsewhere x [] r a = a.0
last-elsewhere x (y ∷ rs) r a = last-elsewhere x rs r a.1

created-free : (rs : List Record) (r : Record) → HavePlaces (rs ++ r ∷ []) → AllByRecursion (IsFree r.id r.place.parent r.place.index) rs
created-free [] r a = tt
created-free (x ∷ rs) r a = ((λ _ same e. last-elsewhere x rs r a.0 (same_parent-sym x.place.parent r.place.parent same) (sym e)), created-free rs r a.1)

-- a path within the old records needs no new one
reaches-old : (k n : ℕ) (rs : List Record) (r : Record) (q : Parent) → reaches_page k rs q ≡ true → reaches_page n (rs ++ r ∷ []) q ≡ true → reaches_page n rs q ≡ true
unfolding reaches_page
reaches-old zero n rs r Page h m = reaches-page n rs
reaches-old zero n rs r (Shape p) h m = cc
reaches-old (suc k) n rs r Page h m = reaches-page n rs
reaches-old (suc k) zero rs r (Shape p) h m = cc
reaches-old (suc k) (suc n) rs r (Shape p) h m =
    let s = from-some (λ q. reaches_page k rs q) (record_of p rs) h in
    let e : record_of p (rs ++ r ∷ []) ≡ Some s.0 = found-push p rs r s.0 s.1 in
    let up = and_parts (is_container s.0.kind) (reaches_page n (rs ++ r ∷ []) s.0.place.parent) (sym (ap (reaches_from (λ q. reaches_page n (rs ++ r ∷ []) q)) e) ∙ m) in
    ap (reaches_from (λ q. reaches_page n rs q)) s.1 ∙ and_from (is_container s.0.kind) (reaches_page n rs s.0.place.parent) s.2 (reaches-old k n rs r s.0.place.parent s.3 up.1)

-- a record under itself never reaches the page
reaches-itself : (n p : ℕ) (rs : List Record) (r : Record) → record_of p rs ≡ Some r → r.place.parent ≡ Shape p → reaches_page n rs (Shape p) ≡ true → ⊥
unfolding reaches_page
reaches-itself zero p rs r h e m = cc
reaches-itself (suc n) p rs r h e m =
    let up = and_parts (is_container r.kind) (reaches_page n rs r.place.parent) (sym (ap (reaches_from (λ q. reaches_page n rs q)) h) ∙ m) in
    reaches-itself n p rs r h e (ap (reaches_page n rs) (sym e) ∙ up.1)

reaches-nothing : (n p : ℕ) (rs : List Record) → record_of p rs ≡ None → reaches_page n rs (Shape p) ≡ true → ⊥
unfolding reaches_page
reaches-nothing zero p rs h m = cc
reaches-nothing (suc n) p rs h m = true≢false (sym m ∙ ap (reaches_from (λ q. reaches_page n rs q)) h)

created-apart : (p : ℕ) (rs : List Record) (r : Record) → record_of p rs ≡ None → r.place.parent ≡ Shape p → reaches_page 31 (rs ++ r ∷ []) (Shape p) ≡ true → ⊥
created-apart p rs r h e m = elim (cases_Bool (r.id == p)) [
  | inl t ↦ reaches-itself 31 p (rs ++ r ∷ []) r (found-last p rs r h ∙ ap (λ b. cond b (Some r) None) t) e m
  | inr f ↦ reaches-nothing 31 p (rs ++ r ∷ []) (found-last p rs r h ∙ ap (λ b. cond b (Some r) None) f) m
]

container-of : (s x : Record) → Some s ≡ Some x → is_container x.kind ≡ true → is_container s.kind ≡ true
container-of s x e c = let same : s ≡ x = cc in ap (λ (y : Record). is_container y.kind) same ∙ c

created-step : (p : ℕ) (rs : List Record) (r : Record) (o : Option Record) → record_of p rs ≡ o → AreGrounded rs → r.place.parent ≡ Shape p → reaches_page 31 (rs ++ r ∷ []) (Shape p) ≡ true → reaches_page 31 rs (Shape p) ≡ true
created-step p rs r None h g e m = absurd (created-apart p rs r h e m)
created-step p rs r (Some s) h g e m =
    let up : reaches_page 31 rs s.place.parent ≡ true = found-all (λ (x : Record). reaches_page 31 rs x.place.parent ≡ true) p rs s g h in
    let one = from-some (λ q. reaches_page 30 (rs ++ r ∷ []) q) (Some s) (sym (reaches-step 31 p (rs ++ r ∷ []) (Some s) (omega arith) (sym (found-push p rs r s h))) ∙ m) in
    let known : reaches_page 32 rs (Shape p) ≡ true = reaches-step 32 p rs (Some s) (omega arith) (sym h) ∙ and_from (is_container s.kind) (reaches_page 31 rs s.place.parent) (container-of s one.0 one.1 one.2) up in
    reaches-old 32 31 rs r (Shape p) known m

created-reached : (rs : List Record) (r : Record) (q : Parent) → q ≡ r.place.parent → AreGrounded rs → reaches_page 31 (rs ++ r ∷ []) q ≡ true → reaches_page 31 rs q ≡ true
created-reached rs r Page e g m = reaches-page 31 rs
created-reached rs r (Shape p) e g m = created-step p rs r (record_of p rs) refl g (sym e) m

leaf-blocks : (id : ℕ) (kind : Kind) (rs : List Record) (r0 r : Record) → record_of id rs ≡ Some r0 → is_container kind ≡ false → reaches_page 31 (at_id id (λ s. record s { kind = kind }) rs) (cond (r.id == id) (record r { kind = kind }) r).place.parent ≡ true → not (is_child (Shape id) r) ≡ true
leaf-blocks id kind rs r0 r h k m = elim (cases_Bool (is_child (Shape id) r)) [
  | inl t ↦ (
      let f : Record → Record = λ s. record s { kind = kind } in
      let parent : r.place.parent ≡ Shape id = same_parent-is r.place.parent (Shape id) t in
      let here : reaches_page 31 (at_id id f rs) (Shape id) ≡ true = ap (reaches_page 31 (at_id id f rs)) (sym parent ∙ sym (ap (λ (x : Place). x.parent) (at-keeps (λ s. s.place) id f (λ s. refl) r))) ∙ m in
      let found : record_of id (at_id id f rs) ≡ Some (f r0) = found-after id id f (λ s. refl) rs ∙ ap (changed id f) h ∙ ap (λ b. Some (cond b (f r0) r0)) (found-has id rs r0 h) in
      let step = reaches-step 31 id (at_id id f rs) (Some (f r0)) (omega arith) (sym found) in
      absurd (true≢false (sym here ∙ step ∙ ap (λ b. b && reaches_page 30 (at_id id f rs) r0.place.parent) k)))
  | inr f ↦ ap not f
]

or-true : (a b : Bool) → (a ≡ false → b ≡ true) → (a || b) ≡ true
or-true true b h = refl
or-true false b h = h refl

all-of_map : (P : Record → Type 0) (g : Record → Record) (rs : List Record) → All P (map g rs) → All (λ r. P (g r)) rs
all-of_map P g [] a = λ k d l. absurd (omega arith)
all-of_map P g (r ∷ rs) a = All-cons (λ x. P (g x)) r rs (All-head P (g r) (map g rs) a) (all-of_map P g rs (All-tail P (g r) (map g rs) a))

parent-test : (p : Parent) (rs : List Record) → IsThere p rs → has_parent rs p ≡ true
parent-test Page rs h = refl
parent-test (Shape id) rs h = is-there (record_of id rs) h

next-test : (n : ℕ) → n + 1 < 2 ^ 32 → not (n == 4294967295) ≡ true
next-test n h = let e : (n == 4294967295) ≡ false = grind (arith, nat_tests) in ap not e

few-test : (n m : ℕ) → m ≡ n + 1 → m ≤ most_records → not (nat_le most_records n) ≡ true
few-test n m e h = let f : nat_le most_records n ≡ false = grind (arith, nat_tests) in ap not f

pub fits-complete : (c : Change) (d : Contents) → IsWellFormed d → Fits c d → fits_test c d ≡ true
fits-complete (change.Create id kind pose hidden pl) d w f =
    let rs = d.records in
    let r : Record = record { id = id; kind = kind; place = pl; pose = pose; hidden = hidden } in
    let same : id ≡ d.next = f.named in
    let limits : IsInLimits r = last-all IsInLimits rs r f.left.limits in
    let reached : reaches_page 31 rs pl.parent ≡ true = created-reached rs r pl.parent refl w.grounded (last-all (λ (s : Record). reaches_page 31 (rs ++ r ∷ []) s.place.parent ≡ true) rs r f.left.grounded) in
    let free : AllByRecursion (IsFree d.next pl.parent pl.index) rs = subst (λ n. AllByRecursion (IsFree n pl.parent pl.index) rs) same (created-free rs r f.left.places) in
    and_from _ _ (eq-eqb id d.next same)
    (and_from _ _ (next-test d.next f.left.next_below)
    (and_from _ _ (few-test (length rs) (length (rs ++ r ∷ [])) (length-append rs (r ∷ [])) f.left.few)
    (and_from _ _ (sound-sides kind limits.kind)
    (and_from _ _ (sound-vertices kind limits.kind)
    (and_from _ _ (pose-test pose limits.quarter limits.reach)
    (and_from _ _ reached (ap not (free-test d.next pl.parent pl.index rs free))))))))
fits-complete (change.Move id pl) d w f =
    let there = is-there (record_of id d.records) f.named in
    let s = some-of (record_of id d.records) there in
    and_from _ _ there
    (and_from _ _ (ap not (moved-shallow id pl d.records f.left.grounded))
    (ap not (free-test id pl.parent pl.index d.records (moved-free id pl d.records s.0 s.1 f.left.places))))
fits-complete (change.Pose id pose) d w f =
    let there = is-there (record_of id d.records) f.named in
    let s = some-of (record_of id d.records) there in
    let l : IsInLimits (record s.0 { pose = pose }) = changed-one IsInLimits id (λ r. record r { pose = pose }) (λ r. refl) d.records s.0 f.left.limits s.1 in
    and_from _ _ there (pose-test pose l.quarter l.reach)
fits-complete (change.Reshape id kind) d w f =
    let rs = d.records in
    let there = is-there (record_of id rs) f.named in
    let s = some-of (record_of id rs) there in
    let g : Record → Record = λ r. cond (r.id == id) (record r { kind = kind }) r in
    let l : IsInLimits (record s.0 { kind = kind }) = changed-one IsInLimits id (λ r. record r { kind = kind }) (λ r. refl) rs s.0 f.left.limits s.1 in
    and_from _ _ there
    (and_from _ _ (sound-sides kind l.kind)
    (and_from _ _ (sound-vertices kind l.kind)
    (or-true (is_container kind) (has_no_child id rs) (λ leaf.
    test-from_all (λ r. not (is_child (Shape id) r)) rs
    (All-weaker (λ (r : Record). reaches_page 31 (map g rs) (g r).place.parent ≡ true) (λ (r : Record). not (is_child (Shape id) r) ≡ true) (λ r m. leaf-blocks id kind rs s.0 r s.1 leaf m) rs
    (all-of_map (λ (r : Record). reaches_page 31 (map g rs) r.place.parent ≡ true) g rs f.left.grounded))))))
fits-complete (change.Show id hidden) d w f = is-there (record_of id d.records) f.named
fits-complete (change.Delete id) d w f = is-there (record_of id d.records) f.named
fits-complete (change.Respace p) d w f = parent-test p d.records f.named

-- the test decides whether a change fits
pub fits-decides : (d s : Contents) → IsWellFormed d → d ≡ s → (c : Change) (r : Bool) → (IsTrue r → HasKey c) → r ≡ fits_test c s → Decides r (Fits c s)
fits-decides d s w same c r keyed h =
    let well : IsWellFormed s = subst IsWellFormed same w in
    ((λ t. fits-sound c s well (keyed t) (sym h ∙ t)), (λ f. h ∙ fits-complete c s well f))
