-- Lists in chunks: what a search finds, and edits of some chunks.
use Rattle.std.proofs.Common.{◌≡◌, ◌∙◌, ℕ, zero, suc, All, ◌+◌, ◌-◌, ◌<◌, ◌≤◌, List, [], ◌∷◌, ◌++◌, take, drop, inl, inr, refl, sym, ap, subst, arith, length, get_or, ◌^◌}
use Rattle.std.proofs.lemmas.Bool.{cases_lt}
use Rattle.std.proofs.lemmas.List.{append-nil, append_assoc, drop_more, get_or-append-add, get_or_append_left, length-append, take-append-drop, take-take, take_all, take_more}
use Rattle.std.specs.List.{sum_by}
use Rattle.std.proofs.lemmas.List.Elements.{All-get_or, All-push}
use Rattle.std.proofs.lemmas.List.Sums.{sum_by-cons}
use Rattle.canvas_list.specs.Chunks.{joined, IsSpot, IsTable}

pub joined-append : {X : Type 0} (cs ds : List (List X)) → joined (cs ++ ds) ≡ joined cs ++ joined ds
joined-append [] ds = refl
joined-append (c ∷ cs) ds = ap (λ l. c ++ l) (joined-append cs ds) ∙ sym (append_assoc c (joined cs) (joined ds))

pub joined-push : {X : Type 0} (cs : List (List X)) (c : List X) → joined (cs ++ c ∷ []) ≡ joined cs ++ c
joined-push cs c = joined-append cs (c ∷ []) ∙ ap (λ l. joined cs ++ l) (append-nil c)

pub joined_more : {X : Type 0} (cs : List (List X)) (i : ℕ) (c : List X) → i < length cs → joined (take (i + 1) cs) ≡ joined (take i cs) ++ get_or cs i c
joined_more cs i c h = ap joined (take_more cs i c h) ∙ joined-push (take i cs) (get_or cs i c)

-- so many items are there in all chunks
pub sum-joined : {X : Type 0} (cs : List (List X)) → sum_by length cs ≡ length (joined cs)
sum-joined [] = refl
sum-joined (c ∷ cs) = sum_by-cons length c cs ∙ ap (λ n. length c + n) (sum-joined cs) ∙ sym (length-append c (joined cs))

-- a table with one more chunk
pub table-push : {X : Type 0} (cs : List (List X)) (n : ℕ) (c : List X) → IsTable cs n → 0 < length c → n + length c < 2 ^ 32 → IsTable (cs ++ c ∷ []) (n + length c)
table-push {X} cs n c t some h =
    let long : length (joined (cs ++ c ∷ [])) ≡ length (joined cs) + length c = ap length (joined-push cs c) ∙ length-append (joined cs) c in
    let has : List X → Type 0 = λ d. 0 < length d in
    record {
      some = All-push has cs c t.some some;
      has_len = omega (arith, long, t.has_len);
      is_small = h;
    }

-- the chunks before one, that one, and the rest
pub split_at : {X : Type 0} (cs : List (List X)) (k : ℕ) (c : List X) → k < length cs → joined cs ≡ joined (take k cs) ++ (get_or cs k c ++ joined (drop (k + 1) cs))
split_at cs k c h =
    ap joined (sym (take-append-drop k cs))
    ∙ joined-append (take k cs) (drop k cs)
    ∙ ap (λ l. joined (take k cs) ++ joined l) (drop_more cs k c h)

-- the items of the first chunks and those of the others are all
pub sum-parted : {X : Type 0} (cs : List (List X)) (j : ℕ) → length (joined cs) ≡ length (joined (take j cs)) + length (joined (drop j cs))
sum-parted cs j = ap (λ l. length (joined l)) (sym (take-append-drop j cs)) ∙ ap length (joined-append (take j cs) (drop j cs)) ∙ length-append (joined (take j cs)) (joined (drop j cs))

-- the first chunks have no more items than all
pub take-fewer : {X : Type 0} (cs : List (List X)) (j : ℕ) → length (joined (take j cs)) ≤ length (joined cs)
take-fewer cs j = omega (arith, sum-parted cs j)

-- and so do the last ones
pub drop-fewer : {X : Type 0} (cs : List (List X)) (j : ℕ) → length (joined (drop j cs)) ≤ length (joined cs)
drop-fewer cs j = omega (arith, sum-parted cs j)

-- fewer chunks have no more items
pub fewer : {X : Type 0} (cs : List (List X)) (i j : ℕ) → i ≤ j → length (joined (take i cs)) ≤ length (joined (take j cs))
fewer cs i j h = subst (λ l. length (joined l) ≤ length (joined (take j cs))) (take-take i j cs h) (take-fewer (take j cs) i)

-- a table has a chunk, if it has an item
pub some-chunk : {X : Type 0} (cs : List (List X)) (at : ℕ) → at < length (joined cs) → 0 < length cs
some-chunk [] at h = absurd (omega arith)
some-chunk (c ∷ cs) at h = omega arith

-- how many items a table has
pub len-is : {X : Type 0} (cs : List (List X)) (n : ℕ) (xs : List X) → IsTable cs n → joined cs ≡ xs → n ≡ length xs
len-is cs n xs t e = t.has_len ∙ ap length e

-- a position of n ones stands in a chunk, or behind the last one
pub record IsFound {X : Type 0} (cs : List (List X)) (n k s at : ℕ) : Type 0 where
  pub within : k < length cs
  pub start : s ≡ length (joined (take k cs))
  pub from : s ≤ at
  pub next : k + 1 < length cs → at < length (joined (take (k + 1) cs))
  pub before : at < n → at < length (joined (take (k + 1) cs))
  pub behind : at ≤ n → at ≤ length (joined (take (k + 1) cs))

-- what a search among the chunks finds
pub found : {X : Type 0} (cs ds : List (List X)) (n k s at : ℕ) → IsTable cs n → ds ≡ cs → IsSpot length ds at k s → IsFound cs n k s at
found cs ds n k s at t e spot =
    let sum_at : (i : ℕ) → sum_by length (take i ds) ≡ length (joined (take i cs)) = λ i. sum-joined (take i ds) ∙ ap (λ l. length (joined (take i l))) e in
    let many : length ds ≡ length cs = ap length e in
    let inside : k < length ds = spot.within in
    let here : s ≡ length (joined (take k cs)) = spot.is ∙ sum_at k in
    let all_items : n ≡ length (joined cs) = t.has_len in
    elim (cases_lt (k + 1) (length ds)) [
      | inl more ↦
          (let next : at < length (joined (take (k + 1) cs)) = subst (λ m. at < m) (sum_at (k + 1)) (spot.upto more) in
          record { within = omega arith; start = here; from = spot.from; next = λ _. next; before = λ h. next; behind = λ h. omega arith })
      | inr none ↦
          (let all : length (joined (take (k + 1) cs)) ≡ length (joined cs) = ap (λ l. length (joined l)) (take_all (k + 1) cs (omega arith)) in
          record { within = omega arith; start = here; from = spot.from; next = λ h. absurd (omega arith); before = λ h. omega arith; behind = λ h. omega arith })
    ]

-- a search among the chunks may be made
pub search-some : {X : Type 0} (cs ds : List (List X)) → ds ≡ cs → 0 < length cs → 0 < length ds
search-some cs ds e h = omega (arith, ap length e)

-- the first chunks have few items
pub few-before : {X : Type 0} (cs ds : List (List X)) (n i : ℕ) → IsTable cs n → ds ≡ cs → sum_by length (take i ds) < 2 ^ 32
few-before cs ds n i t e =
    let sum_at : sum_by length (take i ds) ≡ length (joined (take i cs)) = sum-joined (take i ds) ∙ ap (λ l. length (joined (take i l))) e in
    omega (arith, t.has_len, t.is_small, take-fewer cs i)

-- all chunks have few items
pub few-all : {X : Type 0} (cs ds : List (List X)) (n : ℕ) → IsTable cs n → ds ≡ cs → sum_by length ds < 2 ^ 32
few-all cs ds n t e = omega (arith, sum-joined ds, ap (λ l. length (joined l)) e, t.has_len, t.is_small)

-- how many items the first chunks have
pub start-read : {X : Type 0} (cs ds : List (List X)) (i s : ℕ) → ds ≡ cs → s ≡ sum_by length (take i ds) → s ≡ length (joined (take i cs))
start-read cs ds i s e is = is ∙ sum-joined (take i ds) ∙ ap (λ l. length (joined (take i l))) e

-- a table has a chunk, if it has an item at a position
pub has-chunk : {X : Type 0} (cs : List (List X)) (xs : List X) (at : ℕ) → joined cs ≡ xs → at < length xs → 0 < length cs
has-chunk cs xs at e h = some-chunk cs at (omega (arith, ap length e))

-- a position stands in the items of its chunk
pub offset-in : {X : Type 0} (cs : List (List X)) (xs : List X) (n k s at : ℕ) (c items : List X) → IsTable cs n → IsFound cs n k s at → joined cs ≡ xs → c ≡ get_or cs k c → items ≡ c → at < length xs → at - s < length items
offset-in cs xs n k s at c items t f e is same h =
    omega (arith, f.before, f.from, f.start, len-is cs n xs t e, ap length (joined_more cs k c f.within), length-append (joined (take k cs)) (get_or cs k c), ap length (same ∙ is))

-- the items of a chunk
pub chunk-read : {X : Type 0} (cs : List (List X)) (k : ℕ) (c items : List X) → k < length cs → c ≡ get_or cs k c → items ≡ c → length (joined (take (k + 1) cs)) ≡ length (joined (take k cs)) + length items
chunk-read cs k c items h e same =
    ap length (joined_more cs k c h) ∙ length-append (joined (take k cs)) (get_or cs k c) ∙ ap (λ l. length (joined (take k cs)) + length l) (sym (same ∙ e))

-- the item at a position, as it is read from a chunk
pub item-read : {X : Type 0} (cs : List (List X)) (xs : List X) (n k s at : ℕ) (c items : List X) (x : X) → IsFound cs n k s at → joined cs ≡ xs → c ≡ get_or cs k c → items ≡ c → at - s < length items → x ≡ get_or items (at - s) x → x ≡ get_or xs at x
item-read {X} cs xs n k s at c items x f all e same within is =
    let rest : List X = joined (drop (k + 1) cs) in
    let parts : joined cs ≡ joined (take k cs) ++ (items ++ rest) = split_at cs k c f.within ∙ ap (λ l. joined (take k cs) ++ (l ++ rest)) (sym (same ∙ e)) in
    let place : at ≡ length (joined (take k cs)) + (at - s) = omega (arith, f.start, f.from) in
    is
    ∙ sym (get_or_append_left items rest x (at - s) within)
    ∙ sym (get_or-append-add (joined (take k cs)) (items ++ rest) (at - s) x)
    ∙ ap (λ i. get_or (joined (take k cs) ++ (items ++ rest)) i x) (sym place)
    ∙ ap (λ l. get_or l at x) (sym parts ∙ all)

-- one more chunk of others behind a table
pub grown : {X : Type 0} (cs more : List (List X)) (xs : List X) (i : ℕ) (c : List X) → i < length more → c ≡ get_or more i c → joined cs ≡ xs ++ joined (take i more) → joined (cs ++ c ∷ []) ≡ xs ++ joined (take (i + 1) more)
grown cs more xs i c h e is =
    joined-push cs c ∙ ap (λ l. l ++ c) is ∙ append_assoc xs (joined (take i more)) c
    ∙ ap (λ l. xs ++ l) (ap (λ l. joined (take i more) ++ l) e ∙ sym (joined_more more i c h))

pub still-small : {X : Type 0} (cs more : List (List X)) (xs : List X) (n m i : ℕ) (c : List X) → i < length more → c ≡ get_or more i c → joined cs ≡ xs ++ joined (take i more) → n ≡ length (joined cs) → length xs + length (joined more) < m → n + length c < m
still-small cs more xs n m i c h e is len few =
    let long : length (joined cs) ≡ length xs + length (joined (take i more)) = ap length is ∙ length-append xs (joined (take i more)) in
    let next : length (joined (take (i + 1) more)) ≡ length (joined (take i more)) + length c = chunk-read more i c c h e refl in
    let all : length (joined (take (i + 1) more)) ≤ length (joined more) = take-fewer more (i + 1) in
    omega arith

-- a table that is cut in two
module _ {X : Type 0} (cs ds : List (List X)) (xs : List X) (n at : ℕ) (t : IsTable cs n) (is : joined cs ≡ xs) (same : ds ≡ cs) where
  pub cut-both : (none more first last : List X) (front back : List (List X)) → none ≡ [] → front ≡ take at ds → first ≡ none ++ joined front → more ≡ [] → back ≡ drop at ds → last ≡ more ++ joined back → first ++ last ≡ xs
  cut-both none more first last front back e is_front is_first d is_back is_last =
      ap (λ l. l ++ last) (is_first ∙ ap (λ l. l ++ joined front) e ∙ ap joined is_front)
      ∙ ap (λ l. joined (take at ds) ++ l) (is_last ∙ ap (λ l. l ++ joined back) d ∙ ap joined is_back)
      ∙ sym (joined-append (take at ds) (drop at ds))
      ∙ ap joined (take-append-drop at ds ∙ same)
      ∙ is

  pub cut-few : (none : List X) (part : List (List X)) → none ≡ [] → part ≡ take at ds → length none + length (joined part) < 2 ^ 32
  cut-few none part e front = omega (arith, ap length e, ap (λ l. length (joined l)) front, take-fewer ds at, ap (λ l. length (joined l)) same, t.has_len, t.is_small)

  pub cut-rest : (none : List X) (part : List (List X)) → none ≡ [] → part ≡ drop at ds → length none + length (joined part) < 2 ^ 32
  cut-rest none part e back = omega (arith, ap length e, ap (λ l. length (joined l)) back, drop-fewer ds at, ap (λ l. length (joined l)) same, t.has_len, t.is_small)

-- the first parts have an item
some-taken : {X : Type 0} (cs : List (List X)) (at : ℕ) → All (λ c. 0 < length c) cs → 0 < length cs → 0 < at → 0 < length (joined (take at cs))
some-taken [] at some h k = absurd (omega arith)
some-taken (c ∷ cs) zero some h k = absurd (omega arith)
some-taken (c ∷ cs) (suc n) some h k = omega (arith, All-get_or (λ l. 0 < length l) (c ∷ cs) 0 c (omega arith) some, length-append c (joined (take n cs)))

pub cut-some : {X : Type 0} (cs ds : List (List X)) (xs none first : List X) (n at len : ℕ) (front : List (List X)) → IsTable cs n → joined cs ≡ xs → ds ≡ cs → length ds ≡ len → (0 < len → 0 < at) → none ≡ [] → front ≡ take at ds → first ≡ none ++ joined front → 0 < length xs → 0 < length first
cut-some cs ds xs none first n at len front t is same long some e is_front is_first h =
    let there : 0 < length cs = some-chunk cs 0 (omega (arith, ap length is)) in
    omega (
      arith,
      some-taken cs at t.some there (some (omega (arith, ap length same))),
      ap length is_first,
      ap length e,
      length-append none (joined front),
      ap (λ l. length (joined l)) is_front,
      ap (λ l. length (joined (take at l))) same,
    )
