use Rattle.std.proofs.Common.{◌≡◌, ◌+◌, ◌-◌, ◌<◌, ◌≤◌, ℕ, List, ap, arith, get_or, length, take}
use Rattle.std.specs.List.{sum_by}
use Rattle.std.proofs.lemmas.List.Sums.{sum_by_more}
use Rattle.canvas_list.specs.Chunks.{IsSpot}
use Rattle.canvas_list.proofs.Counts.{one-behind}
use Rattle.canvas_list.proofs.counted.spot_of.Goals as goal
use Rattle.canvas_list.proofs.counted.spot_of.Goals.{then-pass-test+else-count-offset, else-pass-test}

-- a part is passed
passed-one : {P : Type 0} (size : P → ℕ) (parts : List P) (k offset at n m : ℕ) (x y : P) → k < length parts → offset + sum_by size (take k parts) ≡ at → n ≡ size x → x ≡ get_or parts k x → n ≤ offset → m ≡ size y → y ≡ get_or parts k y → (m ≤ offset) × ((offset - m) + sum_by size (take (k + 1) parts) ≡ at)
passed-one size parts k offset at n m x y h passed a x_is le b y_is =
    let first : sum_by size (take (k + 1) parts) ≡ sum_by size (take k parts) + size (get_or parts k x) = sum_by_more size parts k x h in
    let second : sum_by size (take (k + 1) parts) ≡ sum_by size (take k parts) + size (get_or parts k y) = sum_by_more size parts k y h in
    let x_size : size x ≡ size (get_or parts k x) = ap size x_is in
    let y_size : size y ≡ size (get_or parts k y) = ap size y_is in
    (omega arith, omega arith)

-- the search ends in front of a part, or at the last one
spot-before : {P : Type 0} (size : P → ℕ) (parts : List P) (k offset at n : ℕ) (x : P) → k < length parts → offset + sum_by size (take k parts) ≡ at → n ≡ size x → x ≡ get_or parts k x → offset < n → IsSpot size parts at k (at - offset)
spot-before size parts k offset at n x h passed a x_is short =
    let next : sum_by size (take (k + 1) parts) ≡ sum_by size (take k parts) + size (get_or parts k x) = sum_by_more size parts k x h in
    let x_size : size x ≡ size (get_or parts k x) = ap size x_is in
    record { within = h; is = omega arith; from = omega arith; upto = λ more. omega arith }

spot-last : {P : Type 0} (size : P → ℕ) (parts : List P) (k offset at : ℕ) → k < length parts → offset + sum_by size (take k parts) ≡ at → length parts - 1 ≤ k → IsSpot size parts at k (at - offset)
spot-last size parts k offset at h passed last = record { within = h; is = omega arith; from = omega arith; upto = λ more. absurd (omega arith) }

falls : (k n : ℕ) → k < n → n - (k + 1) < n - k
falls k n h = omega arith

none : (at : ℕ) → at + 0 ≡ at
none at = omega arith

left : (offset sum at : ℕ) → offset + sum ≡ at → offset ≤ at
left offset sum at e = omega arith

pub pass-init : goal.pass-init
pass-init g c = record { within = c.requires; passed = none c.args.at }

pub overflow_sub-offset : goal.overflow_sub-offset
overflow_sub-offset g c = (passed-one g.P.Counted.size c.args.parts.now c.pass.chunk c.pass.offset c.args.at c.count.result c.count-offset.result c.index-parts-chunk.result c.index-parts-chunk-in-pass.result c.pass.invariant.within c.pass.invariant.passed c.count.ensures.count c.index-parts-chunk.is c.if-count-offset.true c.count-offset.ensures.count c.index-parts-chunk-in-pass.is).0

pub pass-preserved : goal.pass-preserved
pass-preserved g c = record {
  within = one-behind c.pass.chunk (length c.args.parts.now) c.pass-test.true;
  passed = (passed-one g.P.Counted.size c.args.parts.now c.pass.chunk c.pass.offset c.args.at c.count.result c.count-offset.result c.index-parts-chunk.result c.index-parts-chunk-in-pass.result c.pass.invariant.within c.pass.invariant.passed c.count.ensures.count c.index-parts-chunk.is c.if-count-offset.true c.count-offset.ensures.count c.index-parts-chunk-in-pass.is).1;
}

pub pass-smaller : goal.pass-smaller
pass-smaller g c = falls c.pass.chunk (length c.args.parts.now) c.pass.invariant.within

pub overflow_sub-result : goal.overflow_sub-result
overflow_sub-result g c = left c.pass.offset (sum_by g.P.Counted.size (take c.pass.chunk c.args.parts.now)) c.args.at c.pass.invariant.passed

pub returns : goal.returns
returns g c = elim c.pass-test.branch [
  | then-pass-test+else-count-offset w ↦ spot-before g.P.Counted.size c.args.parts.now c.pass.chunk c.pass.offset c.args.at w.count.result w.index-parts-chunk.result c.pass.invariant.within c.pass.invariant.passed w.count.ensures.count w.index-parts-chunk.is w.if-count-offset.false
  | else-pass-test w ↦ spot-last g.P.Counted.size c.args.parts.now c.pass.chunk c.pass.offset c.args.at c.pass.invariant.within c.pass.invariant.passed w.pass-test.false
]
