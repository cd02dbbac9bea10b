-- Where the items that pass a test end in a list in chunks.
use Rattle.std.proofs.Common.{◌≡◌, ◌∙◌, ℕ, ◌+◌, ◌-◌, ◌<◌, ◌≤◌, Bool, true, false, List, [], ◌∷◌, ◌++◌, take, drop, refl, sym, ap, subst, inl, inr, arith, length, get_or, Some, IfSome, None, Option}
use Rattle.std.specs.Fn.{AlwaysReturns, Called, Mut}
use Rattle.std.specs.List.{slice_get, sum_by, All}
use Rattle.std.specs.List.Sorted.{IsPartitionPoint, IsPartitionedBy}
use Rattle.std.proofs.lemmas.Bool.{both_ways, cases_lt}
use Rattle.std.proofs.lemmas.List.{get_or-append-add, get_or_append_left, length-append, take_all}
use Rattle.canvas_list.specs.Chunks.{first_passes, joined, IsEnd, IsTable}
use Rattle.canvas_list.proofs.Joined.{fewer, joined_more, some-chunk, split_at, start-read, take-fewer}

-- the items before a place pass a test, and those from it on fail it
abbrev pub IsPoint : {X : Type 0} → (X → Bool) → List X → ℕ → Type 0
IsPoint p = IsPartitionPoint (λ x. p x ≡ true) (λ x. p x ≡ false)

-- where a chunk starts
abbrev pub start : {X : Type 0} → List (List X) → ℕ → ℕ
start cs k = length (joined (take k cs))

-- an item, by its chunk and its place there
item-at : {X : Type 0} (cs : List (List X)) (k o : ℕ) (c : List X) (x : X) → k < length cs → o < length (get_or cs k c) → get_or (joined cs) (start cs k + o) x ≡ get_or (get_or cs k c) o x
item-at cs k o c x h l =
    ap (λ l. get_or l (start cs k + o) x) (split_at cs k c h)
    ∙ get_or-append-add (joined (take k cs)) (get_or cs k c ++ joined (drop (k + 1) cs)) o x
    ∙ get_or_append_left (get_or cs k c) (joined (drop (k + 1) cs)) x o l

-- the next chunk starts behind the items of a chunk
chunk-end : {X : Type 0} (cs : List (List X)) (k : ℕ) (c : List X) → k < length cs → start cs (k + 1) ≡ start cs k + length (get_or cs k c)
chunk-end cs k c h = ap length (joined_more cs k c h) ∙ length-append (joined (take k cs)) (get_or cs k c)

-- an item of a chunk stands before the end
item-within : {X : Type 0} (cs : List (List X)) (k o : ℕ) (c : List X) → k < length cs → o < length (get_or cs k c) → start cs k + o < length (joined cs)
item-within cs k o c h l = omega (arith, chunk-end cs k c h, take-fewer cs (k + 1))

-- an item of a chunk that has one
some-item : {X : Type 0} (c : List X) → 0 < length c → X
some-item [] h = absurd (omega arith)
some-item (x ∷ c) h = x

passes : {X : Type 0} (p : X → Bool) (c : List X) (x : X) → 0 < length c → first_passes p c ≡ p (get_or c 0 x)
passes p [] x h = absurd (omega arith)
passes p (y ∷ c) x h = refl

-- a test of the first item
pub passes-first : {X : Type 0} (p : X → Bool) (c : List X) (x : X) → slice_get c 0 ≡ Some x → p x ≡ first_passes p c
passes-first p [] x h = cc
passes-first p (y ∷ c) x h = let same : y ≡ x = cc in ap p (sym same)

-- what a call of a test answers
pub answers : {F A R : Type 0} (g : Mut F A R) (P : A → R → Type 0) (f : F) (a : A) (r : R) (f' : F) → Called g f a r f' → AlwaysReturns g P f → P a r
answers g P f a r f' called h = (h.at (a ∷ []) r f' called).0

fails : (b : Bool) → (b ≡ true → ⊥) → b ≡ false
fails true h = absurd (h refl)
fails false h = refl

-- a list where the items that pass come first, in chunks that have an item each
module _ {X : Type 0} (p : X → Bool) (cs : List (List X)) (some : All (λ c. 0 < length c) cs) (parted : IsPartitionedBy p (joined cs)) where
  first-at : (k : ℕ) (c : List X) (x : X) → k < length cs → first_passes p (get_or cs k c) ≡ p (get_or (joined cs) (start cs k + 0) x)
  first-at k c x h = passes p (get_or cs k c) x (some k c h) ∙ ap p (sym (item-at cs k 0 c x h (some k c h)))

  -- so do the chunks whose first items pass
  pub parted-firsts : IsPartitionedBy (first_passes p) cs
  parted-firsts i j c le h t =
      let x : X = some-item (get_or cs j c) (some j c h) in
      let low : i < length cs = omega arith in
      let order : start cs i + 0 ≤ start cs j + 0 = omega (arith, fewer cs i j le) in
      first-at i c x low ∙ parted (start cs i + 0) (start cs j + 0) x order (item-within cs j 0 c h (some j c h)) (sym (first-at j c x h) ∙ t)

  -- and the items of a chunk
  pub parted-chunk : (k : ℕ) (c : List X) → k < length cs → IsPartitionedBy p (get_or cs k c)
  parted-chunk k c h i j x le l t =
      let low : i < length (get_or cs k c) = omega arith in
      ap p (sym (item-at cs k i c x h low))
      ∙ parted (start cs k + i) (start cs k + j) x (omega arith) (item-within cs k j c h l) (ap p (item-at cs k j c x h l) ∙ t)

  -- if the first item of the first chunk fails, all do
  pub none-pass : IsPoint (first_passes p) cs 0 → IsPoint p (joined cs) 0
  none-pass f = (
    (λ i x l m. absurd (omega arith)),
    (λ i x l m.
        let h : 0 < length cs = some-chunk cs i m in
        fails (p (get_or (joined cs) i x)) (λ t. both_ways (p (get_or (joined cs) 0 x)) (sym (first-at 0 [] x h) ∙ f.1 0 [] (omega arith) h) (parted 0 i x (omega arith) m t))),
  )

  -- the last chunk whose first item passes, and the place in it
  module _ (k q : ℕ) (c : List X) (first : IsPoint (first_passes p) cs (k + 1)) (h : k < length cs) (place : IsPoint p (get_or cs k c) q) (bound : q ≤ length (get_or cs k c)) where
    -- an item passes, since the first one does
    some-pass : 0 < q
    some-pass =
        let x : X = some-item (get_or cs k c) (some k c h) in
        elim (cases_lt 0 q) [
          | inl more ↦ more
          | inr none ↦ absurd (both_ways (p (get_or (get_or cs k c) 0 x)) (place.1 0 x (omega arith) (some k c h)) (sym (passes p (get_or cs k c) x (some k c h)) ∙ first.0 k c (omega arith) (omega arith)))
        ]

    -- the item before the place passes
    last-passes : (x : X) → p (get_or (joined cs) (start cs k + (q - 1)) x) ≡ true
    last-passes x =
        let some_here : 0 < q = some-pass in
        let inside : q - 1 < length (get_or cs k c) = omega arith in
        ap p (item-at cs k (q - 1) c x h inside) ∙ place.0 (q - 1) x (omega arith) (omega arith)

    -- and the one there fails
    next-fails : (x : X) → start cs k + q < length (joined cs) → p (get_or (joined cs) (start cs k + q) x) ≡ false
    next-fails x m =
        let end : start cs (k + 1) ≡ start cs k + length (get_or cs k c) = chunk-end cs k c h in
        elim (cases_lt q (length (get_or cs k c))) [
          | inl inside ↦ ap p (item-at cs k q c x h inside) ∙ place.1 q x (omega arith) inside
          | inr past ↦
              elim (cases_lt (k + 1) (length cs)) [
                | inl more ↦
                    (let next : start cs k + q ≡ start cs (k + 1) + 0 = omega arith in
                    ap (λ i. p (get_or (joined cs) i x)) next ∙ sym (first-at (k + 1) c x more) ∙ first.1 (k + 1) c (omega arith) more)
                | inr last ↦
                    (let all : start cs (k + 1) ≡ length (joined cs) = ap (λ l. length (joined l)) (take_all (k + 1) cs (omega arith)) in
                    absurd (omega arith))
              ]
        ]

    pub point : IsPoint p (joined cs) (start cs k + q)
    point =
        let some_here : 0 < q = some-pass in (
          (λ i x l m. parted i (start cs k + (q - 1)) x (omega arith) (item-within cs k (q - 1) c h (omega arith)) (last-passes x)),
          (λ i x l m. fails (p (get_or (joined cs) i x)) (λ t. both_ways (p (get_or (joined cs) (start cs k + q) x)) (next-fails x (omega arith)) (parted (start cs k + q) i x l m t))),
        )

-- a list, by the table that has it, and what a search among its chunks requires and finds
module _ {X : Type 0} (p : X → Bool) (cs ds : List (List X)) (n : ℕ) (xs : List X) (t : IsTable cs n) (all : joined cs ≡ xs) (e : ds ≡ cs) (m : ℕ) (found : IsPartitionedBy (first_passes p) ds → IsPoint (first_passes p) ds m) (parted : IsPartitionedBy p xs) where
  parted-joined : IsPartitionedBy p (joined cs)
  parted-joined = subst (IsPartitionedBy p) (sym all) parted

  found-firsts : IsPoint (first_passes p) cs m
  found-firsts =
      let P : List (List X) → Type 0 = λ l. IsPoint (first_passes p) l m in
      subst P e (found (subst (IsPartitionedBy (first_passes p)) (sym e) (parted-firsts p cs t.some parted-joined)))

  pub no-point : m ≡ 0 → IsPoint p xs 0
  no-point zero_found =
      let P : List X → Type 0 = λ l. IsPoint p l 0 in
      let Q : ℕ → Type 0 = λ i. IsPoint (first_passes p) cs i in
      subst P all (none-pass p cs t.some parted-joined (subst Q zero_found found-firsts))

  pub has-point : (k q s : ℕ) (bs : List (List X)) (c items : List X) → m ≡ k + 1 → m ≤ length ds → bs ≡ cs → s ≡ sum_by length (take k bs) → c ≡ get_or cs k c → items ≡ c → (IsPartitionedBy p items → IsPoint p items q) → q ≤ length items → IsPoint p xs (s + q)
  has-point k q s bs c items next within b read is same place bound =
      let P : List X → Type 0 = λ l. IsPoint p l (s + q) in
      let Q : ℕ → Type 0 = λ i. IsPoint (first_passes p) cs i in
      let R : List X → Type 0 = λ l. IsPoint p l q in
      let S : ℕ → Type 0 = λ i. IsPoint p (joined cs) (i + q) in
      let here : items ≡ get_or cs k c = same ∙ is in
      let h : k < length cs = omega (arith, ap length e) in
      let from : s ≡ start cs k = start-read cs bs k s b read in
      let inside : IsPoint p (get_or cs k c) q = subst R here (place (subst (IsPartitionedBy p) (sym here) (parted-chunk p cs t.some parted-joined k c h))) in
      subst P all (subst S (sym from) (point p cs t.some parted-joined k q c (subst Q next found-firsts) h inside (omega (arith, ap length here))))

pub point-bound : {X : Type 0} (cs ds : List (List X)) (n : ℕ) (xs : List X) (k q s : ℕ) (bs : List (List X)) (c items : List X) → IsTable cs n → joined cs ≡ xs → ds ≡ cs → k < length ds → bs ≡ cs → s ≡ sum_by length (take k bs) → c ≡ get_or cs k c → items ≡ c → q ≤ length items → s + q ≤ length xs
point-bound cs ds n xs k q s bs c items t all e within b read is same bound =
    let h : k < length cs = omega (arith, ap length e) in
    omega (arith, start-read cs bs k s b read, ap length all, ap length (same ∙ is), chunk-end cs k c h, take-fewer cs (k + 1))

-- where the items that pass end in a list in which these come first
pub point-is : {X : Type 0} (p : X → Bool) (xs : List X) (at : ℕ) → IsPartitionedBy p xs → IsEnd p xs at → at ≤ length xs → IsPoint p xs at
point-is {X} p xs at parted end within = (
  (λ i x l m.
      let last : ℕ = at - 1 in
      let before : p (get_or xs last x) ≡ true = end.before last x (omega arith) in
      parted i last x (omega arith) (omega arith) before),
  (λ i x l m.
      let here : p (get_or xs at x) ≡ false = end.there x (omega arith) in
      fails (p (get_or xs i x)) (λ t. both_ways (p (get_or xs at x)) here (parted at i x l m t))),
)

pub point-ends : {X : Type 0} (p : X → Bool) (xs : List X) (at : ℕ) → IsPoint p xs at → at ≤ length xs → IsEnd p xs at
point-ends p xs at point within = record {
  before = λ i x e. point.0 i x (omega arith) (omega arith);
  there = λ x h. point.1 at x (omega arith) h;
}

-- what follows from two facts of a value, if there is one
pub if-both : {A : Type 0} (o : Option A) (P Q R : A → Type 0) → ((a : A) → P a → Q a → R a) → IfSome o P → IfSome o Q → IfSome o R
if-both None P Q R f p q = tt
if-both (Some a) P Q R f p q = f a p q
