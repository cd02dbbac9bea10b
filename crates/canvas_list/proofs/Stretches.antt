-- What a reader or a search holds of a list.
use Rattle.std.proofs.Common.{◌≡◌, ℕ, ◌+◌, ◌-◌, ◌<◌, ◌≤◌, ◌^◌, List, [], ap, arith, drop, get_or, length, refl, subst, sym, take}
use Rattle.canvas_list.specs.Chunks.{joined, IsRun, IsStretch}
use Rattle.canvas_list.proofs.Held.{run-on}
use Rattle.canvas_list.proofs.Runs.{rest-joined, run-behind, run-none, run-of-part, run-of-run}

-- nothing, where a search ended
pub stretch-none : {X : Type 0} (xs : List X) (start : ℕ) → start ≤ length xs → IsStretch xs [] [] [] start 0
stretch-none xs start within = record {
  run = run-none xs start within;
  rest = run-none xs (start + 0) (omega arith);
  more = run-none xs 0 (omega arith);
}

-- a chunk, and those behind it
pub stretch-of-chunk : {X : Type 0} (chunks : List (List X)) (k start : ℕ) (chunk items : List X) → k < length chunks → start ≡ length (joined (take k chunks)) → chunk ≡ get_or chunks k chunk → items ≡ chunk → IsStretch (joined chunks) items (joined (take (length chunks - (k + 1)) (drop (k + 1) chunks))) [] start 0
stretch-of-chunk {X} chunks k start chunk items within is here same = record {
  run = run-of-part chunks (joined chunks) k start chunk items within is refl here same;
  rest =
      subst (λ (l : List X). IsRun (joined chunks) l (start + length items)) (sym (rest-joined chunks chunks (k + 1) refl))
      (run-behind chunks (joined chunks) k start chunk items within is refl here same);
  more = run-none (joined chunks) 0 (omega arith);
}

-- what is held of a block is held of all blocks, with those behind it
pub stretch-of-block : {X : Type 0} (blocks : List (List X)) (k start at many next : ℕ) (block inside items behind others : List X) → k < length blocks → start ≡ length (joined (take k blocks)) → block ≡ get_or blocks k block → inside ≡ block → many ≡ length block → IsStretch inside items behind others at next → IsStretch (joined blocks) items behind (joined (take (length blocks - (k + 1)) (drop (k + 1) blocks))) (start + at) (start + many)
stretch-of-block {X} blocks k start at many next block inside items behind others within is here same count held =
    let outer : IsRun (joined blocks) inside start = run-of-part blocks (joined blocks) k start block inside within is refl here same in
    let ends : start + length inside ≡ start + many = omega (arith, ap length same) in
    record {
      run = run-of-run (joined blocks) inside items start at outer held.run;
      rest = run-on (joined blocks) inside behind start at (length items) outer held.rest;
      more =
          subst (λ (n : ℕ). IsRun (joined blocks) (joined (take (length blocks - (k + 1)) (drop (k + 1) blocks))) n) ends
          (subst (λ (l : List X). IsRun (joined blocks) l (start + length inside)) (sym (rest-joined blocks blocks (k + 1) refl))
          (run-behind blocks (joined blocks) k start block inside within is refl here same));
    }

-- what is held of the items from a position on is held of the list, where others are held beside it
pub stretch-beside : {X : Type 0} (xs part items behind others besides : List X) (at start next from : ℕ) → IsRun xs part at → IsRun xs besides from → IsStretch part items behind others start next → IsStretch xs items behind besides (at + start) from
stretch-beside xs part items behind others besides at start next from outer more held = record {
  run = run-of-run xs part items at start outer held.run;
  rest = run-on xs part behind at start (length items) outer held.rest;
  more = more;
}

-- of a list that is the same
pub stretch-same : {X : Type 0} (xs ys items behind others : List X) (start next : ℕ) → xs ≡ ys → IsStretch xs items behind others start next → IsStretch ys items behind others start next
stretch-same xs ys items behind others start next e held = subst (λ l. IsStretch l items behind others start next) e held

-- few items come before what is held
pub held-few : {X : Type 0} (xs items behind others : List X) (start next : ℕ) → length xs < 2 ^ 32 → IsStretch xs items behind others start next → start + length items < 2 ^ 32
held-few xs items behind others start next few held = omega (arith, held.run.within)
