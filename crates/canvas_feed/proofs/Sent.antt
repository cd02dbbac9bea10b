-- What a writer was handed, piece by piece.
use Rattle.std.proofs.Common.{◌≡◌, ℕ, ◌+◌, ◌-◌, ◌<◌, ◌≤◌, ◌⊎◌, inl, inr, List, ◌++◌, Option, take, drop, sym, subst, ap, ◌∙◌, arith}
use Rattle.std.proofs.KnownBytes.{Appends-trans}
use Rattle.std.proofs.Math.Seq.{take-add}
use Rattle.std.proofs.lemmas.Bool.{cases_lt}
use Rattle.std.proofs.lemmas.List.{take-take, take_all, drop-drop, length-take}
use Rattle.std.specs.Io.KnownBytes.{Appends}
use Rattle.canvas_feed.specs.Sending.{AppendsBeginning, between}

-- some more of the bytes were handed over
pub sent_more : (a b c : Option (List ℕ)) (bytes : List ℕ) (at n : ℕ) → Appends a b (take at bytes) → Appends b c (take n (drop at bytes)) → Appends a c (take (at + n) bytes)
sent_more a b c bytes at n first second = rw (take-add at n bytes) (Appends-trans a b c (take at bytes) (take n (drop at bytes)) first second)

-- a beginning of a beginning
record Taken (k m : ℕ) (bytes : List ℕ) : Type 0 where
  count : ℕ
  within : count ≤ m
  same : take k (take m bytes) ≡ take count bytes

taken_by : (k m : ℕ) (bytes : List ℕ) → (k < m) ⊎ (m ≤ k) → Taken k m bytes
taken_by k m bytes (inl less) = record { count = k; within = omega arith; same = take-take k m bytes (omega arith) }
taken_by k m bytes (inr more) = record { count = m; within = omega arith; same = take_all k (take m bytes) (omega (arith, length-take m bytes)) }

taken : (k m : ℕ) (bytes : List ℕ) → Taken k m bytes
taken k m bytes = taken_by k m bytes (cases_lt k m)

-- some bytes, and then a beginning of those that are left
pub sent_then_part : (a b c : Option (List ℕ)) (bytes : List ℕ) (from at to : ℕ) → from ≤ at → at ≤ to → Appends a b (take (at - from) (drop from bytes)) → AppendsBeginning b c (between at to bytes)
    → AppendsBeginning a c (between from to bytes)
sent_then_part a b c bytes from at to behind within first (k, second) =
    let t = taken k (to - at) (drop at bytes) in
    let n = at - from in
    let there : drop n (drop from bytes) ≡ drop at bytes = drop-drop n from bytes ∙ ap (λ j. drop j bytes) (omega arith) in
    let more : Appends b c (take t.count (drop n (drop from bytes))) = subst (λ (l : List ℕ). Appends b c l) (t.same ∙ ap (take t.count) (sym there)) second in
    let all : Appends a c (take (n + t.count) (drop from bytes)) = sent_more a b c (drop from bytes) n t.count first more in
    let less : n + t.count ≤ to - from = omega (arith, t.within) in
    (n + t.count, subst (λ (l : List ℕ). Appends a c l) (sym (take-take (n + t.count) (to - from) (drop from bytes) less)) all)

-- some bytes, and then some more
pub sent_then_more : (a b c : Option (List ℕ)) (bytes : List ℕ) (from at count : ℕ) → from ≤ at → Appends a b (take (at - from) (drop from bytes)) → Appends b c (take count (drop at bytes))
    → Appends a c (take (at + count - from) (drop from bytes))
sent_then_more a b c bytes from at count behind first second =
    let n = at - from in
    let there : drop n (drop from bytes) ≡ drop at bytes = drop-drop n from bytes ∙ ap (λ j. drop j bytes) (omega arith) in
    let more : Appends b c (take count (drop n (drop from bytes))) = subst (λ (l : List ℕ). Appends b c (take count l)) (sym there) second in
    subst (λ j. Appends a c (take j (drop from bytes))) (omega arith) (sent_more a b c (drop from bytes) n count first more)
