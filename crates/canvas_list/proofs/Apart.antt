-- Items from a position up to another, of each of which something holds.
use Rattle.std.proofs.Common.{◌≡◌, ◌∙◌, ℕ, ◌+◌, ◌-◌, ◌<◌, ◌≤◌, ◌++◌, All, List, ap, arith, drop, get_or, inl, inr, length, max, refl, subst, sym, take}
use Rattle.std.proofs.lemmas.Bool.{cases_lt}
use Rattle.std.proofs.lemmas.List.{length-append, take_rest}
use Rattle.std.proofs.lemmas.List.Elements.{All-append, All-get_or}
use Rattle.canvas_list.specs.Chunks.{joined, AllBetween, IsRun, IsTable}
use Rattle.canvas_list.proofs.Joined.{joined_more, IsFound}
use Rattle.canvas_list.proofs.Runs.{run-from, run-of-part}

-- what holds of all holds of those between
pub all-between : {X : Type 0} (P : X → Type 0) (xs : List X) (from end : ℕ) → All P xs → end ≤ length xs → AllBetween P xs from end
all-between P xs from end all within = λ i x low high. All-get_or P xs i x (omega arith) all

-- there are none
pub none-between : {X : Type 0} (P : X → Type 0) (xs : List X) (from end : ℕ) → end ≤ from → AllBetween P xs from end
none-between P xs from end h = λ i x low high. absurd (omega arith)

-- those up to the end, or none, where that stands behind it
pub between-max : {X : Type 0} (P : X → Type 0) (xs : List X) (from end upto : ℕ) → upto ≡ max from end → AllBetween P xs from end → AllBetween P xs from upto
between-max P xs from end upto is all = λ i x low high. all i x low (omega (arith, is))

-- those up to a position, and those from there on
pub between-join : {X : Type 0} (P : X → Type 0) (xs : List X) (from at end : ℕ) → AllBetween P xs from at → AllBetween P xs at end → AllBetween P xs from end
between-join P xs from at end first second = λ i x low high. elim (cases_lt i at) [
  | inl h ↦ first i x low h
  | inr h ↦ second i x (omega arith) high
]

-- those of a part, in the list
pub between-run : {X : Type 0} (P : X → Type 0) (xs items : List X) (s from end : ℕ) → IsRun xs items s → end ≤ length items → AllBetween P items from end → AllBetween P xs (s + from) (s + end)
between-run P xs items s from end run within all = λ i x low high.
    let inside : i - s < length items = omega arith in
    let place : s + (i - s) ≡ i = omega arith in
    subst P (run.same (i - s) x inside ∙ ap (λ j. get_or xs j x) place) (all (i - s) x (omega arith) (omega arith))

-- what holds of one more chunk, too
pub all-joined : {X : Type 0} (P : X → Type 0) (cs : List (List X)) (i : ℕ) (c : List X) → i < length cs → c ≡ get_or cs i c → All P (joined (take i cs)) → All P c → All P (joined (take (i + 1) cs))
all-joined P cs i c within is before here = subst (All P) (ap (λ l. joined (take i cs) ++ l) is ∙ sym (joined_more cs i c within)) (All-append P (joined (take i cs)) c before here)

-- the items of one more chunk come behind those of the chunks before it
pub count-more : {X : Type 0} (cs : List (List X)) (i n m : ℕ) (c : List X) → i < length cs → c ≡ get_or cs i c → n ≡ length (joined (take i cs)) → m ≡ length c → n + m ≡ length (joined (take (i + 1) cs))
count-more cs i n m c within is before here = omega (arith, before, here, ap length is, ap length (joined_more cs i c within), length-append (joined (take i cs)) (get_or cs i c))

-- and what holds of the items before a chunk and of its own, up to its end
pub between-more : {X : Type 0} (P : X → Type 0) (cs : List (List X)) (i n m : ℕ) (c : List X) → i < length cs → c ≡ get_or cs i c → n ≡ length (joined (take i cs)) → m ≡ length c → AllBetween P (joined cs) 0 n → All P c → AllBetween P (joined cs) 0 (n + m)
between-more P cs i n m c within is before here all own =
    between-join P (joined cs) 0 n (n + m) all
    (subst (λ a. AllBetween P (joined cs) a (n + m)) (omega arith)
    (between-run P (joined cs) c n 0 m (run-of-part cs (joined cs) i n c c within before refl is refl) (omega (arith, here)) (all-between P c 0 m own (omega (arith, here)))))

-- the parts from one on that lie apart, in the list
pub apart-from : {X : Type 0} (P : X → Type 0) (cs ds : List (List X)) (xs : List X) (n k s at count : ℕ) → IsTable cs n → ds ≡ cs → IsFound cs n k s at → joined cs ≡ xs → count ≤ length (joined (take (length ds - k) (drop k ds))) → AllBetween P (joined (take (length ds - k) (drop k ds))) 0 count → (s + count ≤ length xs) × AllBetween P xs at (s + count)
apart-from {X} P cs ds xs n k s at count t e f is within apart =
    let rest : List X = joined (drop k cs) in
    let same : joined (take (length ds - k) (drop k ds)) ≡ rest = ap joined (take_rest ds k ∙ ap (drop k) e) in
    let run : IsRun xs rest s = run-from cs xs k s f.start is in
    let few : count ≤ length rest = subst (λ l. count ≤ length l) same within in
    let all : AllBetween P xs (s + 0) (s + count) = between-run P xs rest s 0 count run few (subst (λ l. AllBetween P l 0 count) same apart) in
    (omega (arith, run.within), λ i x low high. all i x (omega (arith, f.from)) high)
