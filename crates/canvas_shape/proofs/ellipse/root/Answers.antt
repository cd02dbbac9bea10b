use Rattle.std.proofs.Common.{◌≡◌, ℕ, ◌≤◌, ◌<◌, ◌*◌, ◌+◌, ◌-◌, ◌/◌, arith, sym, subst}
use Rattle.std.proofs.Math.Nat.{mul-le-mul}
use Rattle.canvas_shape.proofs.ellipse.root.Goals as goal
use Rattle.canvas_shape.proofs.ellipse.root.Goals.{then-middle-n, else-middle-n}

above : (n low size half new : ℕ) → new ≡ low + half → half ≤ size → n < (low + size) * (low + size) → n < (new + (size - half)) * (new + (size - half))
above n low size half new e le h = let s : low + size ≡ new + (size - half) = omega arith in subst (λ k. n < k * k) s h

below : (n low size half new : ℕ) → new ≡ low → half ≤ size - half → n < (low + half) * (low + half) → n < (new + (size - half)) * (new + (size - half))
below n low size half new e le h =
    let s : low + half ≤ new + (size - half) = omega arith in
    omega (arith, mul-le-mul s s)

reached : (n low new half : ℕ) → new ≡ low + half → (low + half) * (low + half) ≤ n → new * new ≤ n
reached n low new half e h = subst (λ k. k * k ≤ n) (sym e) h

kept : (n low new : ℕ) → new ≡ low → low * low ≤ n → new * new ≤ n
kept n low new e h = subst (λ k. k * k ≤ n) (sym e) h

pub loop-size-preserved : goal.loop-size-preserved
loop-size-preserved c =
    let half = c.loop-size.size / 2 in
    record {
      some = omega arith;
      bound = elim c.if-middle-n.branch [ then-middle-n w ↦ omega arith | else-middle-n w ↦ omega arith ];
      square = elim c.if-middle-n.branch [ then-middle-n w ↦ reached c.args.n c.loop-size.low c.if-middle-n.low half w.low-is w.if-middle-n.true | else-middle-n w ↦ kept c.args.n c.loop-size.low c.if-middle-n.low w.low-is c.loop-size.invariant.square ];
      next = elim c.if-middle-n.branch [ then-middle-n w ↦ above c.args.n c.loop-size.low c.loop-size.size half c.if-middle-n.low w.low-is (omega arith) c.loop-size.invariant.next | else-middle-n w ↦ below c.args.n c.loop-size.low c.loop-size.size half c.if-middle-n.low w.low-is (omega arith) w.if-middle-n.false ];
    }

pub returns-clause-next : goal.returns-clause-next
returns-clause-next c =
    let one : c.loop-size.size ≡ 1 = omega arith in
    subst (λ s. c.args.n < (c.loop-size.low + s) * (c.loop-size.low + s)) one c.loop-size.invariant.next
