-- The height of a subtree is what the walk down from its root finds.
use Rattle.std.proofs.Common.{◌≡◌, ℕ, zero, suc, ◌+◌, ◌-◌, ◌<◌, ◌≤◌, ◌==◌, List, [], ◌∷◌, Bool, true, false, cond, ◌&&◌, Option, Some, None, refl, sym, ap, ◌∙◌, arith, inl, inr, subst, All, length, get_or, filter, max, take, drop}
use Rattle.std.specs.List.{Contains}
use Rattle.std.proofs.lemmas.Bool.{cases_Bool, eqb-true, true≢false}
use Rattle.std.proofs.lemmas.List.Elements.{All-contains, All-filter, All-head, All-tail, filter_passes, All-contains_itself}
use Rattle.canvas_record.specs.declared.records.Parent.{Parent}
use Rattle.canvas_record.specs.declared.records.Parent.TheVariants.{Page, Shape}
use Rattle.canvas_record.specs.declared.records.Record.{Record}
use Rattle.canvas_record.specs.Children.{is_child}
use Rattle.canvas_record.specs.Contents.{record_of, is_container, reaches_page, AreRising}
use Rattle.canvas_record.specs.Depth.{levels_to, levels_from, levels_of, one_more, greatest, height_of}
use Rattle.canvas_doc.specs.Heights.{tallest}
use Rattle.canvas_doc.specs.PlaceOrder.{AreChildrenWithin, IsInPlaceOrder}
use Rattle.canvas_doc.proofs.tree.Childless.{IsChildless}
use Rattle.canvas_doc.proofs.tree.Found.{found-at, other-id, found-has}
use Rattle.canvas_doc.proofs.tree.Marks.{level-below, levels-most, levels-up, reaches-more, reaches-up}
use Rattle.canvas_doc.proofs.tree.Paths.{levels-page, reaches-none, reaches-step}
use Rattle.canvas_doc.proofs.lists.SameMembers.{Contains-filter, filter-members, same-members}
use Rattle.canvas_doc.proofs.tree.Parents.{same_parent-itself, same_parent-is}
use Rattle.canvas_doc.proofs.siblings.Neighbours.{found-contained}
use Rattle.canvas_doc.proofs.tree.DepthAgrees.{more-some}

-- all records reach the page
abbrev pub AllGrounded : List Record → Type 0
AllGrounded rs = All (λ (r : Record). reaches_page 31 rs r.place.parent ≡ true) rs

max-first : (a b : ℕ) → a ≤ max a b
max-first a b = grind arith

max-second : (a b c : ℕ) → c ≤ b → c ≤ max a b
max-second a b c h = grind arith

max-under : (a b m h : ℕ) → m + a ≤ h → m + b ≤ h → m + max a b ≤ h
max-under a b m h k l = grind arith

greatest-at : (f : Record → ℕ) (rs : List Record) (k : ℕ) (r : Record) → k < length rs → get_or rs k r ≡ r → f r ≤ greatest f rs
greatest-at f [] k r h e = absurd (omega arith)
greatest-at f (s ∷ rs) zero r h e =
    let same : f s ≡ f r = ap f e in
    let first : f s ≤ max (f s) (greatest f rs) = max-first (f s) (greatest f rs) in
    omega arith
greatest-at f (s ∷ rs) (suc k) r h e = max-second (f s) (greatest f rs) (f r) (greatest-at f rs k r (omega arith) e)

greatest-has : (f : Record → ℕ) (rs : List Record) (r : Record) → Contains rs r → f r ≤ greatest f rs
greatest-has f rs r c = greatest-at f rs c.0 r c.1 c.2

-- the greatest is under a bound where all are, with so much added
greatest-under : (f : Record → ℕ) (m h : ℕ) (rs : List Record) → m ≤ h → All (λ (r : Record). m + f r ≤ h) rs → m + greatest f rs ≤ h
greatest-under f m h [] l a = omega arith
greatest-under f m h (r ∷ rs) l a =
    max-under (f r) (greatest f rs) m h (All-head (λ (s : Record). m + f s ≤ h) r rs a)
    (greatest-under f m h rs l (All-tail (λ (s : Record). m + f s ≤ h) r rs a))

-- a record is found by its own id
member-found : (rs : List Record) (r : Record) → AreRising rs → Contains rs r → record_of r.id rs ≡ Some r
member-found rs r w c = sym (found-at rs c.0 r.id r w c.1 (sym c.2) refl)

-- a child is one level, and what lies below it
tallest-child : (n : ℕ) (rs : List Record) (r : Record) → Contains rs r → suc (tallest n rs (Shape r.id)) ≤ tallest (suc n) rs r.place.parent
unfolding tallest
tallest-child n rs r c =
    greatest-has (λ s. suc (tallest n rs (Shape s.id))) (filter (is_child r.place.parent) rs) r
    (Contains-filter (is_child r.place.parent) rs r c (same_parent-itself r.place.parent))

levels-some : (id j : ℕ) (up : Parent → ℕ) (o : Option Record) → levels_from id up o ≡ suc j → (r : Record) × (o ≡ Some r) × (cond (r.id == id) 1 (one_more (up r.place.parent)) ≡ suc j)
levels-some id j up None h = absurd (omega arith)
levels-some id j up (Some r) h = (r, refl, h)

-- the shape itself, or a level above it
level-cases : (b : Bool) (n j : ℕ) → cond b 1 (one_more n) ≡ suc j → b ≡ false → (i : ℕ) × (n ≡ suc i) × (j ≡ suc i)
level-cases true n j h e = absurd (true≢false e)
level-cases false n j h e = more-some n j h

level-own : (b : Bool) (n j : ℕ) → cond b 1 (one_more n) ≡ suc j → b ≡ true → j ≡ 0
level-own true n j h e = omega arith
level-own false n j h e = absurd (true≢false (sym e))

-- what lies below a parent at a level, the walk down to it finds
walk-finds : (n m j id : ℕ) (rs : List Record) (q : Parent) → levels_to n id rs q ≡ suc j → suc j + tallest m rs q ≤ suc (tallest (m + j) rs (Shape id))
unfolding levels_to
walk-finds zero m j id rs Page h = absurd (omega arith)
walk-finds zero m j id rs (Shape p) h = absurd (omega arith)
walk-finds (suc n) m j id rs Page h = absurd (omega arith)
walk-finds (suc n) m j id rs (Shape p) h =
    let s = levels-some id j (λ q. levels_to n id rs q) (record_of p rs) h in
    let r : Record = s.0 in
    let own : r.id ≡ p = eqb-true r.id p (found-has p rs r s.1) in
    let here : tallest m rs (Shape p) ≡ tallest m rs (Shape r.id) = ap (λ k. tallest m rs (Shape k)) (sym own) in
    elim (cases_Bool (r.id == id)) [
      | inl t ↦ (
          let none : j ≡ 0 = level-own (r.id == id) (levels_to n id rs r.place.parent) j s.2 t in
          let same : tallest m rs (Shape r.id) ≡ tallest (m + j) rs (Shape id) = ap (λ k. tallest m rs (Shape k)) (eqb-true r.id id t) ∙ ap (λ k. tallest k rs (Shape id)) (omega arith) in
          omega (arith, none, same, here))
      | inr f ↦ (
          let more = level-cases (r.id == id) (levels_to n id rs r.place.parent) j s.2 f in
          let i : ℕ = more.0 in
          let one : j ≡ suc i = more.2 in
          let up : suc i + tallest (suc m) rs r.place.parent ≤ suc (tallest (suc m + i) rs (Shape id)) = walk-finds n (suc m) i id rs r.place.parent more.1 in
          let child : suc (tallest m rs (Shape r.id)) ≤ tallest (suc m) rs r.place.parent = tallest-child m rs r (found-contained p rs r s.1) in
          let fuel : tallest (suc m + i) rs (Shape id) ≡ tallest (m + j) rs (Shape id) = ap (λ k. tallest k rs (Shape id)) (omega arith) in
          omega (arith, one, up, child, fuel, here))
    ]

-- a record in the subtree is no deeper than the walk goes
level-by : (l id : ℕ) (rs : List Record) (r : Record) → Contains rs r → levels_to 31 id rs r.place.parent ≡ l → one_more l ≤ suc (tallest 31 rs (Shape id))
level-by zero id rs r c e = omega arith
level-by (suc j) id rs r c e =
    let small : levels_to 31 id rs r.place.parent ≤ 31 = levels-most 31 id rs r.place.parent in
    let m : ℕ = 30 - j in
    let found : suc j + tallest (suc m) rs r.place.parent ≤ suc (tallest (suc m + j) rs (Shape id)) = walk-finds 31 (suc m) j id rs r.place.parent e in
    let child : suc (tallest m rs (Shape r.id)) ≤ tallest (suc m) rs r.place.parent = tallest-child m rs r c in
    let sum : suc m + j ≡ 31 = omega (arith, small, e) in
    let fuel : tallest (suc m + j) rs (Shape id) ≡ tallest 31 rs (Shape id) = ap (λ k. tallest k rs (Shape id)) sum in
    omega (arith, found, child, fuel)

level-within : (id : ℕ) (rs : List Record) (r : Record) → Contains rs r → levels_of id rs r ≤ suc (tallest 31 rs (Shape id))
level-within id rs r c =
    let l : ℕ = levels_to 31 id rs r.place.parent in
    let below : one_more l ≤ suc (tallest 31 rs (Shape id)) = level-by l id rs r c refl in
    elim (r.id == id) as (λ b. cond b 1 (one_more l) ≤ suc (tallest 31 rs (Shape id))) [ true ↦ omega arith | false ↦ below ]

-- from a parent on the way up to the shape, the page lies a step further than from the shape's own parent
around : (m n j id : ℕ) (rs : List Record) (q : Parent) (x : Record) → reaches_page (suc n) rs q ≡ true → levels_to m id rs q ≡ suc j → record_of id rs ≡ Some x → reaches_page n rs x.place.parent ≡ true
unfolding levels_to
around zero n j id rs Page x h l e = absurd (omega arith)
around zero n j id rs (Shape p) x h l e = absurd (omega arith)
around (suc m) n j id rs Page x h l e = absurd (omega arith)
around (suc m) n j id rs (Shape p) x h l e =
    let s = levels-some id j (λ q. levels_to m id rs q) (record_of p rs) l in
    let r : Record = s.0 in
    let less : n ≡ suc n - 1 = omega arith in
    let up : reaches_page n rs r.place.parent ≡ true = ap (λ k. reaches_page k rs r.place.parent) less ∙ reaches-up (suc n) p rs r h s.1 in
    elim (cases_Bool (r.id == id)) [
      | inl t ↦ (
          let same : p ≡ id = sym (eqb-true r.id p (found-has p rs r s.1)) ∙ eqb-true r.id id t in
          let both : Some r ≡ Some x = sym s.1 ∙ ap (λ k. record_of k rs) same ∙ e in
          subst (λ (y : Record). reaches_page n rs y.place.parent ≡ true) (some-same r x both) up)
      | inr f ↦ (
          let more = level-cases (r.id == id) (levels_to m id rs r.place.parent) j s.2 f in
          let sum : suc n ≡ n + 1 = omega arith in
          let far : reaches_page (suc n) rs r.place.parent ≡ true = ap (λ k. reaches_page k rs r.place.parent) sum ∙ reaches-more n 1 rs r.place.parent up in
          around m n more.0 id rs r.place.parent x far more.1 e)
    ]
  where
    some-same : (a b : Record) → Some a ≡ Some b → a ≡ b
    some-same a b h = cc

stuck : (m j id : ℕ) (rs : List Record) (q : Parent) → reaches_page 0 rs q ≡ true → levels_to m id rs q ≡ suc j → ⊥
stuck m j id rs Page h l = let none : levels_to m id rs Page ≡ 0 = levels-page m id rs in omega arith
stuck m j id rs (Shape p) h l = true≢false (sym h ∙ reaches-none 0 p rs refl)

-- no shape lies below itself
no-way-round : (n m j id : ℕ) (rs : List Record) (x : Record) → record_of id rs ≡ Some x → levels_to m id rs x.place.parent ≡ suc j → reaches_page n rs x.place.parent ≡ true → ⊥
no-way-round zero m j id rs x e l h = stuck m j id rs x.place.parent h l
no-way-round (suc n) m j id rs x e l h = no-way-round n m j id rs x e l (around m n j id rs x.place.parent x h l e)

-- a child of a record in the subtree lies one level deeper
deeper : (id k : ℕ) (rs : List Record) (r x : Record) → AreRising rs → AllGrounded rs → Contains rs r → Contains rs x → x.place.parent ≡ Shape r.id → levels_of id rs r ≡ suc k → levels_of id rs x ≡ suc (suc k)
deeper id k rs r x w g c d parent h =
    let found : record_of r.id rs ≡ Some r = member-found rs r w c in
    let reached : reaches_page 31 rs x.place.parent ≡ true = All-contains (λ (s : Record). reaches_page 31 rs s.place.parent ≡ true) rs x g d in
    let reached_shape : reaches_page 31 rs (Shape r.id) ≡ true = ap (reaches_page 31 rs) (sym parent) ∙ reached in
    let levels : levels_to 31 id rs x.place.parent ≡ suc k = ap (levels_to 31 id rs) parent ∙ levels-up 31 r.id id rs r (omega arith) reached_shape found ∙ h in
    let other : (x.id == id) ≡ false = other-id x.id id (λ e. no-way-round 31 31 k id rs x (sym (ap (λ i. record_of i rs) e) ∙ member-found rs x w d) levels reached) in
    sym (level-below 31 r.id id rs x r (suc k) (omega arith) other parent reached found (sym h))

-- what the walk finds lies in the subtree
walk-within : (n k id : ℕ) (rs : List Record) (r : Record) → AreRising rs → AllGrounded rs → Contains rs r → levels_of id rs r ≡ suc k → suc k + tallest n rs (Shape r.id) ≤ height_of id rs
unfolding tallest
walk-within zero k id rs r w g c h =
    let here : levels_of id rs r ≤ height_of id rs = greatest-has (levels_of id rs) rs r c in
    omega (arith, here, h)
walk-within (suc n) k id rs r w g c h =
    let here : levels_of id rs r ≤ height_of id rs = greatest-has (levels_of id rs) rs r c in
    greatest-under (λ s. suc (tallest n rs (Shape s.id))) (suc k) (height_of id rs) (filter (is_child (Shape r.id)) rs) (omega (arith, here, h))
    (λ i d l.
    let x : Record = get_or (filter (is_child (Shape r.id)) rs) i d in
    let there : Contains rs x = All-filter (is_child (Shape r.id)) (Contains rs) rs (All-contains_itself rs) i d l in
    let parent : x.place.parent ≡ Shape r.id = same_parent-is x.place.parent (Shape r.id) (filter_passes (is_child (Shape r.id)) rs i d l) in
    let below : suc (suc k) + tallest n rs (Shape x.id) ≤ height_of id rs = walk-within n (suc k) id rs x w g there (deeper id k rs r x w g c there parent h) in
    omega (arith, below))

-- the height of a subtree
pub height-walked : (id : ℕ) (rs : List Record) (r : Record) → AreRising rs → AllGrounded rs → record_of id rs ≡ Some r → suc (tallest 31 rs (Shape id)) ≡ height_of id rs
height-walked id rs r w g e =
    let own : r.id ≡ id = eqb-true r.id id (found-has id rs r e) in
    let one : levels_of id rs r ≡ 1 = ap (λ b. cond b 1 (one_more (levels_to 31 id rs r.place.parent))) (found-has id rs r e) in
    let low : 1 + tallest 31 rs (Shape r.id) ≤ height_of id rs = walk-within 31 0 id rs r w g (found-contained id rs r e) one in
    let same : tallest 31 rs (Shape r.id) ≡ tallest 31 rs (Shape id) = ap (λ k. tallest 31 rs (Shape k)) own in
    let high : 0 + height_of id rs ≤ suc (tallest 31 rs (Shape id)) = greatest-under (levels_of id rs) 0 (suc (tallest 31 rs (Shape id))) rs (omega arith) (λ i d l. (let within : levels_of id rs (get_or rs i d) ≤ suc (tallest 31 rs (Shape id)) = level-within id rs (get_or rs i d) (All-contains_itself rs i d l) in omega (arith, within))) in
    omega (arith, low, same, high)

-- nothing hangs under what does not reach the page
nothing-under : (id : ℕ) (rs : List Record) → AllGrounded rs → reaches_page 31 rs (Shape id) ≡ false → IsChildless id rs
nothing-under id rs g h i d l =
    let x : Record = get_or rs i d in
    elim (cases_Bool (is_child (Shape id) x)) [
      | inl t ↦ absurd (true≢false (sym (g i d l) ∙ ap (reaches_page 31 rs) (same_parent-is x.place.parent (Shape id) t) ∙ h))
      | inr f ↦ f
    ]

leaf-blocked : (id : ℕ) (rs : List Record) (r : Record) → record_of id rs ≡ Some r → is_container r.kind ≡ false → reaches_page 31 rs (Shape id) ≡ false
leaf-blocked id rs r e h =
    reaches-step 31 id rs (Some r) (omega arith) (sym e) ∙ ap (λ b. b && reaches_page (31 - 1) rs r.place.parent) h

none-kept : (t : Record → Bool) (rs : List Record) → All (λ (r : Record). t r ≡ false) rs → filter t rs ≡ []
none-kept t [] a = refl
none-kept t (r ∷ rs) a =
    let here : t r ≡ false = All-head (λ (s : Record). t s ≡ false) r rs a in
    rw here (none-kept t rs (All-tail (λ (s : Record). t s ≡ false) r rs a))

tallest-childless : (n id : ℕ) (rs : List Record) → IsChildless id rs → tallest n rs (Shape id) ≡ 0
unfolding tallest
tallest-childless zero id rs a = refl
tallest-childless (suc n) id rs a = ap (greatest (λ s. suc (tallest n rs (Shape s.id)))) (none-kept (is_child (Shape id)) rs a)

-- nothing lies below a shape that is no container
pub tallest-leaf : (n : ℕ) (rs : List Record) (r : Record) → AllGrounded rs → record_of r.id rs ≡ Some r → is_container r.kind ≡ false → 0 ≡ tallest n rs (Shape r.id)
tallest-leaf n rs r g e h = sym (tallest-childless n r.id rs (nothing-under r.id rs g (leaf-blocked r.id rs r e h)))

-- what was found by one id has it
pub found-own : (id : ℕ) (rs : List Record) (r : Record) → record_of id rs ≡ Some r → record_of r.id rs ≡ Some r
found-own id rs r e = ap (λ k. record_of k rs) (eqb-true r.id id (found-has id rs r e)) ∙ e

-- the height of the shape that was found
pub height-found : (id : ℕ) (rs : List Record) (r : Record) → AreRising rs → AllGrounded rs → record_of id rs ≡ Some r → suc (tallest 31 rs (Shape r.id)) ≡ height_of id rs
height-found id rs r w g e =
    ap (λ k. suc (tallest 31 rs (Shape k))) (eqb-true r.id id (found-has id rs r e)) ∙ height-walked id rs r w g e

pub tallest-none : (n : ℕ) (rs : List Record) (p : Parent) → n ≡ 0 → 0 ≡ tallest n rs p
unfolding tallest
tallest-none n rs p h = rw h refl

tallest-children : (n : ℕ) (rs : List Record) (p : Parent) → 0 < n → tallest n rs p ≡ greatest (λ r. suc (tallest (n - 1) rs (Shape r.id))) (filter (is_child p) rs)
unfolding tallest
tallest-children zero rs p h = absurd (omega arith)
tallest-children (suc n) rs p h = let e : suc n - 1 ≡ n = omega arith in rw e refl

max-turn : (a b c : ℕ) → max a (max b c) ≡ max b (max a c)
max-turn a b c = grind arith

max-twice : (a b : ℕ) → max a (max a b) ≡ max a b
max-twice a b = grind arith

max-none : (a : ℕ) → max 0 a ≡ a
max-none a = grind arith

max-end : (a : ℕ) → max a 0 ≡ a
max-end a = grind arith

max-over : (a b c : ℕ) → max (max a b) c ≡ max a (max b c)
max-over a b c = grind arith

-- the greatest so far, with what is left to look at
pub greatest-init : (f : Record → ℕ) (all : List Record) → max 0 (greatest f all) ≡ greatest f all
greatest-init f all = max-none (greatest f all)

pub greatest-next : (f : Record → ℕ) (left rest : List Record) (r : Record) (old now whole : ℕ) → left ≡ r ∷ rest → now ≡ f r → max old (greatest f left) ≡ whole → max (max old now) (greatest f rest) ≡ whole
greatest-next f left rest r old now whole e n h =
    max-over old now (greatest f rest)
    ∙ ap (λ x. max old (max x (greatest f rest))) n
    ∙ ap (λ l. max old (greatest f l)) (sym e)
    ∙ h

pub greatest-end : (f : Record → ℕ) (left : List Record) (old whole : ℕ) → left ≡ [] → max old (greatest f left) ≡ whole → old ≡ whole
greatest-end f left old whole e h = sym (max-end old) ∙ ap (λ l. max old (greatest f l)) (sym e) ∙ h

-- the children in the order are records
pub children-listed : (p : Parent) (order rs left : List Record) (low high : ℕ) → IsInPlaceOrder order rs → AreChildrenWithin p order low high → left ≡ take (high - low) (drop low order) → All (Contains rs) left
children-listed p order rs left low high o within e =
    subst (All (Contains rs)) (sym (e ∙ within.are)) (All-filter (is_child p) (Contains rs) order o.listed)

-- the next of them is found by its id
pub next-found : (rs left rest : List Record) (r : Record) → AreRising rs → All (Contains rs) left → left ≡ r ∷ rest → record_of r.id rs ≡ Some r
next-found rs left rest r w a e = member-found rs r w (All-head (Contains rs) r rest (subst (All (Contains rs)) e a))

pub rest-listed : (rs left rest : List Record) (r : Record) → All (Contains rs) left → left ≡ r ∷ rest → All (Contains rs) rest
rest-listed rs left rest r a e = All-tail (Contains rs) r rest (subst (All (Contains rs)) e a)

-- all children looked at, in the order by place
pub tallest-done : (n : ℕ) (order rs : List Record) (p : Parent) (low high found : ℕ) → 0 < n → IsInPlaceOrder order rs → AreChildrenWithin p order low high → found ≡ greatest (λ r. suc (tallest (n - 1) rs (Shape r.id))) (take (high - low) (drop low order)) → found ≡ tallest n rs p
tallest-done n order rs p low high found h o within e =
    let f : Record → ℕ = λ r. suc (tallest (n - 1) rs (Shape r.id)) in
    let both : greatest f (filter (is_child p) order) ≡ greatest f (filter (is_child p) rs) =
    same-members (greatest f) (λ r m. max (f r) m) (λ r xs. refl) (λ r s m. max-turn (f r) (f s) m) (λ r m. max-twice (f r) m)
    (filter (is_child p) order) (filter (is_child p) rs) (filter-members (is_child p) order rs o.listed) (filter-members (is_child p) rs order o.complete) in
    e ∙ ap (greatest f) within.are ∙ both ∙ sym (tallest-children n rs p h)
