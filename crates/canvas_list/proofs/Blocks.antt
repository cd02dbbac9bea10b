-- A block, as one chunk of a list in blocks.
use Rattle.std.proofs.Common.{◌≡◌, ◌∙◌, ℕ, ◌+◌, ◌-◌, ◌<◌, List, [], ◌∷◌, take, drop, slice_range, ◌++◌, Some, refl, sym, ap, arith, length, get_or}
use Rattle.std.specs.List.{slice_get}
use Rattle.std.proofs.lemmas.List.{append-nil, drop_more}
use Rattle.canvas_list.specs.Chunks.{joined, IsSpot, IsTable}
use Rattle.canvas_list.proofs.Joined.{found}
use Rattle.canvas_list.proofs.Spliced.{of-spot, IsOfSpot}

pub one-part : {X : Type 0} (cs : List (List X)) (k : ℕ) (c : List X) → k < length cs → joined (slice_range cs k (k + 1)) ≡ get_or cs k c
one-part cs k c h =
    let one : k + 1 - k ≡ 1 = omega arith in
    ap (λ n. joined (take n (drop k cs))) one ∙ ap (λ l. joined (take 1 l)) (drop_more cs k c h) ∙ append-nil (get_or cs k c)

-- the items of the block of a position
pub of-block : {X : Type 0} (cs rs : List (List X)) (xs : List X) (n k s at : ℕ) (c items : List X) → IsTable cs n → rs ≡ cs → IsSpot length rs at k s → joined cs ≡ xs → c ≡ get_or cs k c → items ≡ c → IsOfSpot cs xs k s at items
of-block cs rs xs n k s at c items t e last all is same =
    let f = found cs rs n k s at t e last in
    of-spot cs cs rs xs n k s at items t e last all refl (same ∙ is ∙ sym (one-part cs k c f.within))

-- the first item of a list
pub first-joined : {X : Type 0} (cs : List (List X)) (xs c : List X) (x : X) → joined cs ≡ xs → 0 < length cs → c ≡ get_or cs 0 c → slice_get c 0 ≡ Some x → slice_get xs 0 ≡ Some x
first-joined [] xs c x all h is e = absurd (omega arith)
first-joined (d ∷ cs) xs [] x all h is e = cc
first-joined (d ∷ cs) xs (y ∷ c) x all h is e = ap (λ l. slice_get l 0) (sym all) ∙ ap (λ l. slice_get (l ++ joined cs) 0) (sym is) ∙ e
