-- Going over a list in chunks.
use Rattle.std.proofs.Common.{◌≡◌, ◌∙◌, ℕ, ◌+◌, ◌-◌, ◌<◌, ◌≤◌, List, ◌++◌, take, drop, inl, inr, sym, ap, arith, length, get_or}
use Rattle.std.proofs.lemmas.Bool.{cases_lt}
use Rattle.std.proofs.lemmas.List.{append_assoc, drop-append-le, drop-drop, drop-take, drop_at, get_or-take, length-drop, length-take-le, take-append-le, take-take, take_at}
use Rattle.std.proofs.Math.Seq.{take-add}
use Rattle.canvas_list.specs.Chunks.{joined}
use Rattle.canvas_list.proofs.Joined.{chunk-read, fewer, split_at, IsFound}

-- the place of a position in its chunk
pub place-in : {X : Type 0} (cs : List (List X)) (xs : List X) (n k s at : ℕ) (c items : List X) → IsFound cs n k s at → n ≡ length xs → c ≡ get_or cs k c → items ≡ c → at ≤ length xs → at - s ≤ length items
place-in cs xs n k s at c items f len is same h =
    omega (arith, f.behind, f.from, f.start, chunk-read cs k c items f.within is same)

-- the items from a position on
pub items-from : {X : Type 0} (cs : List (List X)) (xs : List X) (n k s at : ℕ) (c items : List X) → IsFound cs n k s at → joined cs ≡ xs → c ≡ get_or cs k c → items ≡ c → at - s ≤ length items → drop (at - s) items ++ joined (drop (k + 1) cs) ≡ drop at xs
items-from {X} cs xs n k s at c items f all is same le =
    let first : List X = joined (take k cs) in
    let rest : List X = joined (drop (k + 1) cs) in
    let parts : xs ≡ first ++ (items ++ rest) = sym all ∙ split_at cs k c f.within ∙ ap (λ l. first ++ (l ++ rest)) (sym (same ∙ is)) in
    let place : s + (at - s) ≡ at = omega (arith, f.from) in
    sym (
    ap (λ i. drop i xs) (sym place)
    ∙ sym (drop-drop (at - s) s xs)
    ∙ ap (λ l. drop (at - s) (drop s l)) parts
    ∙ ap (drop (at - s)) (drop_at first (items ++ rest) s (sym f.start))
    ∙ drop-append-le (at - s) items rest le)

-- the items before a position
pub items-before : {X : Type 0} (cs : List (List X)) (xs : List X) (n k s at : ℕ) (c items : List X) → IsFound cs n k s at → joined cs ≡ xs → c ≡ get_or cs k c → items ≡ c → at - s ≤ length items → joined (take k cs) ++ take (at - s) items ≡ take at xs
items-before {X} cs xs n k s at c items f all is same le =
    let first : List X = joined (take k cs) in
    let rest : List X = joined (drop (k + 1) cs) in
    let parts : xs ≡ first ++ (items ++ rest) = sym all ∙ split_at cs k c f.within ∙ ap (λ l. first ++ (l ++ rest)) (sym (same ∙ is)) in
    let place : s + (at - s) ≡ at = omega (arith, f.from) in
    sym (
    ap (λ i. take i xs) (sym place)
    ∙ take-add s (at - s) xs
    ∙ ap (λ l. take s l ++ take (at - s) (drop s l)) parts
    ∙ ap (λ l. l ++ take (at - s) (drop s (first ++ (items ++ rest)))) (take_at first (items ++ rest) s (sym f.start))
    ∙ ap (λ l. first ++ take (at - s) l) (drop_at first (items ++ rest) s (sym f.start))
    ∙ ap (λ l. first ++ l) (take-append-le (at - s) items rest le))

-- a position stands in no chunk before that of an earlier one
pub chunks-rise : {X : Type 0} (cs : List (List X)) (n k s from k2 s2 to : ℕ) → IsFound cs n k s from → IsFound cs n k2 s2 to → from ≤ to → k ≤ k2
chunks-rise cs n k s from k2 s2 to f l h =
    elim (cases_lt k2 k) [
      | inl less ↦
          (let end : to < length (joined (take (k2 + 1) cs)) = l.next (omega (arith, f.within)) in
          absurd (omega (arith, f.start, f.from, fewer cs (k2 + 1) k (omega arith))))
      | inr more ↦ more
    ]

-- the place of a later position in the same chunk
pub place-same : {X : Type 0} (cs : List (List X)) (xs : List X) (n k s from k2 s2 to : ℕ) (c items : List X) → IsFound cs n k s from → IsFound cs n k2 s2 to → k ≡ k2 → n ≡ length xs → c ≡ get_or cs k c → items ≡ c → to ≤ length xs → to - s ≤ length items
place-same cs xs n k s from k2 s2 to c items f l one len is same h =
    omega (arith, l.behind, f.start, ap (λ i. length (joined (take (i + 1) cs))) one, chunk-read cs k c items f.within is same)

-- the items between two positions of one chunk
pub items-within : {X : Type 0} (cs : List (List X)) (xs : List X) (n k s from to : ℕ) (c items : List X) → IsFound cs n k s from → joined cs ≡ xs → c ≡ get_or cs k c → items ≡ c → from ≤ to → to - s ≤ length items → take (to - s - (from - s)) (drop (from - s) items) ≡ take (to - from) (drop from xs)
items-within {X} cs xs n k s from to c items f all is same order le =
    let rest : List X = joined (drop (k + 1) cs) in
    let many : to - s - (from - s) ≡ to - from = omega (arith, f.from) in
    let few : to - from ≤ length (drop (from - s) items) = omega (arith, f.from, length-drop (from - s) items) in
    ap (λ i. take i (drop (from - s) items)) many
    ∙ sym (take-append-le (to - from) (drop (from - s) items) rest few)
    ∙ ap (take (to - from)) (items-from cs xs n k s from c items f all is same (omega (arith, f.from)))

-- the items between two positions of two chunks
pub items-between : {X : Type 0} (cs : List (List X)) (xs : List X) (n k s from k2 s2 to : ℕ) (c items c2 items2 : List X) → IsFound cs n k s from → IsFound cs n k2 s2 to → joined cs ≡ xs → k < k2 → c ≡ get_or cs k c → items ≡ c → from - s ≤ length items → c2 ≡ get_or cs k2 c2 → items2 ≡ c2 → to - s2 ≤ length items2 → from ≤ to → drop (from - s) items ++ joined (take (k2 - (k + 1)) (drop (k + 1) cs)) ++ take (to - s2) items2 ≡ take (to - from) (drop from xs)
items-between {X} cs xs n k s from k2 s2 to c items c2 items2 f l all less is same le is2 same2 le2 order =
    let first : List X = joined (take k cs) in
    let middle : List X = joined (take (k2 - (k + 1)) (drop (k + 1) cs)) in
    let last : List X = take (to - s2) items2 in
    let place : s + (from - s) ≡ from = omega (arith, f.from) in
    let upto : from + (to - from) ≡ to = omega arith in
    let chunks : k + 1 + (k2 - (k + 1)) ≡ k2 = omega arith in
    let inside : k < length (take k2 cs) = omega (arith, length-take-le k2 cs (omega (arith, l.within)), l.within) in
    let between : drop (k + 1) (take k2 cs) ≡ take (k2 - (k + 1)) (drop (k + 1) cs) = ap (λ i. drop (k + 1) (take i cs)) (sym chunks) ∙ drop-take (k + 1) (k2 - (k + 1)) cs in
    let here : get_or (take k2 cs) k c ≡ items = get_or-take k2 cs k c less ∙ sym (same ∙ is) in
    let parts : joined (take k2 cs) ≡ first ++ (items ++ middle) =
    split_at (take k2 cs) k c inside
    ∙ ap (λ l. joined l ++ (get_or (take k2 cs) k c ++ joined (drop (k + 1) (take k2 cs)))) (take-take k k2 cs (omega arith))
    ∙ ap (λ l. first ++ (l ++ joined (drop (k + 1) (take k2 cs)))) here
    ∙ ap (λ l. first ++ (items ++ joined l)) between in
    let whole : take to xs ≡ first ++ (items ++ (middle ++ last)) =
    sym (items-before cs xs n k2 s2 to c2 items2 l all is2 same2 le2)
    ∙ ap (λ l. l ++ last) parts
    ∙ append_assoc first (items ++ middle) last
    ∙ ap (λ l. first ++ l) (append_assoc items middle last) in
    append_assoc (drop (from - s) items) middle last
    ∙ sym (drop-append-le (from - s) items (middle ++ last) le)
    ∙ ap (drop (from - s)) (sym (drop_at first (items ++ (middle ++ last)) s (sym f.start)))
    ∙ ap (λ l. drop (from - s) (drop s l)) (sym whole)
    ∙ drop-drop (from - s) s (take to xs)
    ∙ ap (λ i. drop i (take to xs)) place
    ∙ ap (λ i. drop from (take i xs)) (sym upto)
    ∙ drop-take from (to - from) xs
