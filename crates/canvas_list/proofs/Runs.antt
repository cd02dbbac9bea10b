-- The items of a chunk, as a part of a list.
use Rattle.std.proofs.Common.{◌≡◌, ◌∙◌, ℕ, ◌+◌, ◌-◌, ◌<◌, ◌≤◌, Bool, false, List, [], ◌++◌, take, drop, Some, sym, ap, inl, inr, arith, length, get_or}
use Rattle.std.specs.List.{slice_get}
use Rattle.std.specs.List.Sorted.{IsPartitionedBy}
use Rattle.std.proofs.lemmas.Bool.{cases_lt}
use Rattle.std.proofs.lemmas.List.{get_or-append-add, get_or-drop, get_or-take, get_or_append_left, length-append, length-drop, length-take, take-append-drop, take_rest}
use Rattle.std.proofs.lemmas.Option.{slice_get-get_or}
use Rattle.canvas_list.specs.Chunks.{joined, IsEnd, IsRun}
use Rattle.canvas_list.proofs.Joined.{chunk-read, joined-append, split_at, take-fewer, IsFound}

-- the items of a chunk, where it starts
pub run-of-part : {X : Type 0} (cs : List (List X)) (xs : List X) (k s : ℕ) (c items : List X) → k < length cs → s ≡ length (joined (take k cs)) → joined cs ≡ xs → c ≡ get_or cs k c → items ≡ c → IsRun xs items s
run-of-part {X} cs xs k s c items within start all is same =
    let front : List X = joined (take k cs) in
    let rest : List X = joined (drop (k + 1) cs) in
    let parts : joined cs ≡ front ++ (items ++ rest) = split_at cs k c within ∙ ap (λ l. front ++ (l ++ rest)) (sym (same ∙ is)) in
    record {
      within = omega (arith, start, chunk-read cs k c items within is same, take-fewer cs (k + 1), ap length all);
      same =
          λ i x h.
          sym (get_or_append_left items rest x i h)
          ∙ sym (get_or-append-add front (items ++ rest) i x)
          ∙ ap (λ j. get_or (front ++ (items ++ rest)) (j + i) x) (sym start)
          ∙ ap (λ l. get_or l (s + i) x) (sym parts ∙ all);
    }

-- a position stands in the items of its chunk
pub chunk-holds : {X : Type 0} (cs : List (List X)) (n k s at : ℕ) (c items : List X) → IsFound cs n k s at → c ≡ get_or cs k c → items ≡ c → at < n → at < s + length items
chunk-holds cs n k s at c items f is same h =
    omega (arith, f.start, f.before, chunk-read cs k c items f.within is same)

-- a part of a part
pub run-of-run : {X : Type 0} (xs block items : List X) (s t : ℕ) → IsRun xs block s → IsRun block items t → IsRun xs items (s + t)
run-of-run xs block items s t outer inner = record {
  within = omega (arith, outer.within, inner.within);
  same =
      λ i x h.
      let there : t + i < length block = omega (arith, inner.within) in
      let place : s + (t + i) ≡ s + t + i = omega arith in
      inner.same i x h ∙ outer.same (t + i) x there ∙ ap (λ j. get_or xs j x) place;
}

-- in a part of a list those that pass a test come first, too
pub parted-run : {X : Type 0} (p : X → Bool) (xs items : List X) (start : ℕ) → IsRun xs items start → IsPartitionedBy p xs → IsPartitionedBy p items
parted-run p xs items start run parted = λ i j d low high passed.
    let fits : start + length items ≤ length xs = run.within in
    ap p (run.same i d (omega arith)) ∙ parted (start + i) (start + j) d (omega arith) (omega arith) (ap p (sym (run.same j d high)) ∙ passed)

-- an item of a part, in the list
pub read-run : {X : Type 0} (xs items : List X) (start i : ℕ) (x : X) → IsRun xs items start → i < length items → Some (get_or items i x) ≡ slice_get xs (start + i)
read-run xs items start i x run h = ap Some (run.same i x h) ∙ sym (slice_get-get_or xs (start + i) x (omega (arith, run.within)))

-- where the items of a part that pass a test end, those of the list do, where the one before stands in the part, and the one there fails, too, or there is none
pub end-of-run : {X : Type 0} (p : X → Bool) (xs items : List X) (start passed : ℕ) → IsRun xs items start → passed ≤ length items → (passed ≡ 0 → start ≡ 0) → ((x : X) → passed ≡ length items → start + passed < length xs → p (get_or xs (start + passed) x) ≡ false) → IsEnd p items passed → IsEnd p xs (start + passed)
end-of-run p xs items start passed run within first behind end = record {
  before =
      λ i x e.
      let some : 0 < passed = elim (cases_lt 0 passed) [ inl h ↦ h | inr h ↦ (let none : start ≡ 0 = first (omega arith) in absurd (omega arith)) ] in
      let place : i ≡ start + (passed - 1) = omega arith in
      ap (λ n. p (get_or xs n x)) place ∙ ap p (sym (run.same (passed - 1) x (omega arith))) ∙ end.before (passed - 1) x (omega arith);
  there = λ x h. elim (cases_lt passed (length items)) [
    | inl inside ↦ ap p (sym (run.same passed x inside)) ∙ end.there x inside
    | inr past ↦ behind x (omega arith) h
  ];
}

-- what comes behind the first items of a part
pub run-rest : {X : Type 0} (xs items rest : List X) (s : ℕ) → IsRun xs (items ++ rest) s → IsRun xs rest (s + length items)
run-rest xs items rest s run = record {
  within = omega (arith, run.within, length-append items rest);
  same =
      λ i x h.
      let there : length items + i < length (items ++ rest) = omega (arith, length-append items rest) in
      let place : s + (length items + i) ≡ s + length items + i = omega arith in
      sym (get_or-append-add items rest i x) ∙ run.same (length items + i) x there ∙ ap (λ j. get_or xs j x) place;
}

-- the items of the chunks behind one, where it ends
pub run-behind : {X : Type 0} (cs : List (List X)) (xs : List X) (k s : ℕ) (c items : List X) → k < length cs → s ≡ length (joined (take k cs)) → joined cs ≡ xs → c ≡ get_or cs k c → items ≡ c → IsRun xs (joined (drop (k + 1) cs)) (s + length items)
run-behind {X} cs xs k s c items within start all is same =
    let front : List X = joined (take k cs) in
    let rest : List X = joined (drop (k + 1) cs) in
    let parts : joined cs ≡ front ++ (items ++ rest) = split_at cs k c within ∙ ap (λ l. front ++ (l ++ rest)) (sym (same ∙ is)) in
    run-rest xs items rest s
    (record {
      within = omega (arith, start, ap length (sym parts ∙ all), length-append front (items ++ rest));
      same =
          λ i x h.
          sym (get_or-append-add front (items ++ rest) i x)
          ∙ ap (λ j. get_or (front ++ (items ++ rest)) (j + i) x) (sym start)
          ∙ ap (λ l. get_or l (s + i) x) (sym parts ∙ all);
    })

-- the items of all chunks from one on, as a slice of them has it
pub rest-joined : {X : Type 0} (cs ds : List (List X)) (k : ℕ) → ds ≡ cs → joined (take (length ds - k) (drop k ds)) ≡ joined (drop k cs)
rest-joined cs ds k e = ap joined (take_rest ds k) ∙ ap (λ l. joined (drop k l)) e

-- no items, where a list ends or before
pub run-none : {X : Type 0} (xs : List X) (s : ℕ) → s ≤ length xs → IsRun xs [] s
run-none xs s within = record {
  within = omega arith;
  same = λ i x h. absurd (omega arith);
}

-- the items of all chunks from one on
pub run-from : {X : Type 0} (cs : List (List X)) (xs : List X) (k s : ℕ) → s ≡ length (joined (take k cs)) → joined cs ≡ xs → IsRun xs (joined (drop k cs)) s
run-from {X} cs xs k s start all =
    let front : List X = joined (take k cs) in
    let rest : List X = joined (drop k cs) in
    let parts : joined cs ≡ front ++ rest = ap joined (sym (take-append-drop k cs)) ∙ joined-append (take k cs) (drop k cs) in
    record {
      within = omega (arith, start, ap length (sym parts ∙ all), length-append front rest);
      same =
          λ i x h.
          sym (get_or-append-add front rest i x)
          ∙ ap (λ j. get_or (front ++ rest) (j + i) x) (sym start)
          ∙ ap (λ l. get_or l (s + i) x) (sym parts ∙ all);
    }

-- some items of a list, from one on
pub run-of-slice : {X : Type 0} (xs : List X) (m n : ℕ) → m + n ≤ length xs → IsRun xs (take n (drop m xs)) m
run-of-slice xs m n h = record {
  within = omega (arith, length-take n (drop m xs), length-drop m xs);
  same = λ i x inside. get_or-take n (drop m xs) i x (omega (arith, length-take n (drop m xs), length-drop m xs)) ∙ get_or-drop m xs i x;
}
