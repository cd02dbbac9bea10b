-- The next part of what a reader holds.
use Rattle.std.proofs.Common.{◌≡◌, ◌∙◌, ◌^◌, ℕ, ◌+◌, ◌-◌, ◌<◌, ◌≤◌, List, ◌∷◌, ◌++◌, sym, ap, subst, arith, length}
use Rattle.std.proofs.lemmas.List.{get_or_append_left, length-append}
use Rattle.canvas_list.specs.Chunks.{joined, AllBetween, IsRun}
use Rattle.canvas_list.proofs.Apart.{between-run}
use Rattle.canvas_list.proofs.Runs.{run-of-run}

-- the first items of a part
pub run-first : {X : Type 0} (xs items rest : List X) (s : ℕ) → IsRun xs (items ++ rest) s → IsRun xs items s
run-first xs items rest s run = record {
  within = omega (arith, run.within, length-append items rest);
  same = λ i x h. sym (get_or_append_left items rest x i h) ∙ run.same i x (omega (arith, length-append items rest));
}

-- the items behind those that it holds
pub run-next : {X : Type 0} (list xs held : List X) (start at : ℕ) (chunks : List (List X)) → list ≡ xs → IsRun list (joined chunks) (start + length held) → start ≤ at → at - start ≡ length held → IsRun xs (joined chunks) at
run-next list xs held start at chunks e run low here =
    let place : start + length held ≡ at = omega arith in
    subst (λ n. IsRun xs (joined chunks) n) place (subst (λ l. IsRun l (joined chunks) (start + length held)) e run)

-- those of the next chunk, and the others
pub run-chunk : {X : Type 0} (xs : List X) (at : ℕ) (chunks others : List (List X)) (chunk items : List X) → IsRun xs (joined chunks) at → chunks ≡ chunk ∷ others → items ≡ chunk → IsRun xs (items ++ joined others) at
run-chunk xs at chunks others chunk items run e is =
    subst (λ l. IsRun xs (l ++ joined others) at) (sym is) (subst (λ l. IsRun xs (joined l) at) e run)

pub some-here : {X : Type 0} (chunk items : List X) (at : ℕ) → items ≡ chunk → 0 < length chunk → at < at + length items
some-here chunk items at e h = omega (arith, ap length e)

-- the items behind a part of a part
pub run-on : {X : Type 0} (xs block items : List X) (at start len : ℕ) → IsRun xs block at → IsRun block items (start + len) → IsRun xs items (at + start + len)
run-on xs block items at start len outer inner =
    let place : at + (start + len) ≡ at + start + len = omega arith in
    subst (λ n. IsRun xs items n) place (run-of-run xs block items at (start + len) outer inner)

pub further : (at start len : ℕ) → 0 < start + len → at < at + start + len
further at start len h = omega arith

pub apart-on : {X : Type 0} (P : X → Type 0) (xs block : List X) (at start : ℕ) → IsRun xs block at → start ≤ length block → AllBetween P block 0 start → AllBetween P xs at (at + start)
apart-on P xs block at start run within apart =
    let all = between-run P xs block at 0 start run within apart in
    λ i x low high. all i x (omega arith) high

pub few-behind : {X : Type 0} (list block : List X) (s : ℕ) → length list < 2 ^ 32 → IsRun list block s → length block < 2 ^ 32
few-behind list block s few run = omega (arith, run.within)

pub place-fits : {X : Type 0} (list xs block items : List X) (at start : ℕ) → list ≡ xs → length list < 2 ^ 32 → IsRun xs block at → IsRun block items start → at + start < 2 ^ 64
place-fits list xs block items at start e few run inner = omega (arith, ap length e, run.within, inner.within)

pub run-starts : {X : Type 0} (block items : List X) (start : ℕ) → IsRun block items start → start ≤ length block
run-starts block items start run = omega (arith, run.within)
