-- The line of an edge from row to row.
use Rattle.std.proofs.Common.{◌≡◌, ℕ, suc, ◌+◌, ◌*◌, ◌≤◌, ◌<◌, ℤ, pos, negsuc, ◌+ℤ◌, ◌-ℤ◌, ◌*ℤ◌, ◌≤ℤ◌, ◌<ℤ◌, Bool, true, false, ◌&&◌, cond, refl, sym, ap, ◌∙◌, subst, arith, inl, inr, FitsSigned, to_z, of_z}
use Rattle.std.specs.Prelude.{int_lt}
use Rattle.std.specs.Int.{w64}
use Rattle.std.proofs.lemmas.Int.{ints, to_z-of_z}
use Rattle.std.proofs.lemmas.Bool.{cases_Bool}
use lib.IntN.{neg_ℤ, *ℤ-negsuc}
use Rattle.canvas_plane.specs.declared.Point.{Point}
use Rattle.canvas_shape.specs.declared.line.Line.{Line}
use Rattle.canvas_shape.specs.Edges.{counts, crosses_row, is_right_of}
use Rattle.canvas_shape.specs.Lines.{IsDivided, downward, lean_of, lean_over, Follows}
use Rattle.canvas_shape.proofs.Edge.{times-add, first-past, down-edge, up-edge, lt_test-true, lt_test-false, lt-lt_test, le-lt_test}

neg-sum : (a b : ℤ) → neg_ℤ (a +ℤ b) ≡ neg_ℤ a +ℤ neg_ℤ b
neg-sum a b = omega (arith, ints)

-- products over sums
times-sum : (a b d : ℤ) → (a +ℤ b) *ℤ d ≡ a *ℤ d +ℤ b *ℤ d
times-sum a b (pos n) = times-add a b n
times-sum a b (negsuc n) =
    *ℤ-negsuc (a +ℤ b) n ∙ ap neg_ℤ (times-add a b (suc n)) ∙ neg-sum (a *ℤ pos (suc n)) (b *ℤ pos (suc n))
    ∙ ap (λ u. u +ℤ neg_ℤ (b *ℤ pos (suc n))) (sym (*ℤ-negsuc a n)) ∙ ap (λ u. a *ℤ negsuc n +ℤ u) (sym (*ℤ-negsuc b n))

row-more : (y py a : ℤ) → pos 2 *ℤ (y +ℤ a) +ℤ pos 1 -ℤ pos 2 *ℤ py ≡ (pos 2 *ℤ y +ℤ pos 1 -ℤ pos 2 *ℤ py) +ℤ pos 2 *ℤ a
row-more y py a = omega (arith, ints)

lean-next : (p q : Point) (apart : ℕ) (y : ℤ) → lean_of p q (y +ℤ pos apart) ≡ lean_of p q y +ℤ lean_over p q apart
lean-next p q apart y =
    ap (λ u. u *ℤ (q.x -ℤ p.x)) (row-more y p.y (pos apart)) ∙ times-sum (pos 2 *ℤ y +ℤ pos 1 -ℤ pos 2 *ℤ p.y) (pos 2 *ℤ pos apart) (q.x -ℤ p.x)

cond-sum : (b : Bool) (m n : ℤ) → cond b (m +ℤ n) (neg_ℤ (m +ℤ n)) ≡ cond b m (neg_ℤ m) +ℤ cond b n (neg_ℤ n)
cond-sum true m n = refl
cond-sum false m n = neg-sum m n

down-sum : (p q : Point) (m n : ℤ) → downward p q (m +ℤ n) ≡ downward p q m +ℤ downward p q n
down-sum p q m n = cond-sum (int_lt p.y q.y) m n

-- ---- quotients
sum-whole : (u v n m : ℤ) (r s : ℕ) → (u +ℤ u) +ℤ pos r ≡ n → (v +ℤ v) +ℤ pos s ≡ m → ((u +ℤ v) +ℤ (u +ℤ v)) +ℤ pos (r + s) ≡ n +ℤ m
sum-whole u v n m r s e f = omega (arith, ints)

turn-sum : (w a b : ℤ) → w ≡ b +ℤ a → w ≡ a +ℤ b
turn-sum w a b e = omega (arith, ints)

pub sum-below : (n m w a b : ℤ) (h r s : ℕ) → w ≡ b +ℤ a → r + s < 2 * h → IsDivided n h a r → IsDivided m h b s → IsDivided (n +ℤ m) h w (r + s)
sum-below n m w a b h r s ew lt f g = record {
  value = ap (λ u. (u *ℤ pos h +ℤ u *ℤ pos h) +ℤ pos (r + s)) (turn-sum w a b ew) ∙ ap (λ u. (u +ℤ u) +ℤ pos (r + s)) (times-add a b h) ∙ sum-whole (a *ℤ pos h) (b *ℤ pos h) n m r s f.value g.value;
  small = omega arith;
}

one-times : (h : ℕ) → pos 1 *ℤ pos h ≡ pos h
one-times h = omega (arith, ints)

sum-more : (u v n m : ℤ) (h r s rest : ℕ) → rest + 2 * h ≡ r + s → (u +ℤ u) +ℤ pos r ≡ n → (v +ℤ v) +ℤ pos s ≡ m → (((u +ℤ v) +ℤ pos h) +ℤ ((u +ℤ v) +ℤ pos h)) +ℤ pos rest ≡ n +ℤ m
sum-more u v n m h r s rest er e f = omega (arith, ints)

turn-more : (v w a b : ℤ) → v ≡ pos 1 +ℤ w → w ≡ b +ℤ a → v ≡ (a +ℤ b) +ℤ pos 1
turn-more v w a b e f = omega (arith, ints)

pub sum-above : (n m v w a b : ℤ) (h r s rest : ℕ) → v ≡ pos 1 +ℤ w → w ≡ b +ℤ a → rest + 2 * h ≡ r + s → IsDivided n h a r → IsDivided m h b s → IsDivided (n +ℤ m) h v rest
sum-above n m v w a b h r s rest ev ew er f g =
    let rs = f.small in let ss = g.small in
    let e : ((a +ℤ b) +ℤ pos 1) *ℤ pos h ≡ (a *ℤ pos h +ℤ b *ℤ pos h) +ℤ pos h = times-add (a +ℤ b) (pos 1) h ∙ ap (λ u. u +ℤ pos 1 *ℤ pos h) (times-add a b h) ∙ ap (λ u. (a *ℤ pos h +ℤ b *ℤ pos h) +ℤ u) (one-times h) in
    record {
      value = ap (λ u. (u *ℤ pos h +ℤ u *ℤ pos h) +ℤ pos rest) (turn-more v w a b ev ew) ∙ ap (λ u. (u +ℤ u) +ℤ pos rest) e ∙ sum-more (a *ℤ pos h) (b *ℤ pos h) n m h r s rest er f.value g.value;
      small = omega arith;
    }

left-over : (n u held : ℤ) (r h : ℕ) → held ≡ u → pos r ≡ n -ℤ held -ℤ held → n <ℤ ((u +ℤ u) +ℤ (pos h +ℤ pos h)) → ((u +ℤ u) +ℤ pos r ≡ n) × (r < h + h)
left-over n u held r h e er lt = (omega (arith, ints), omega (arith, ints))

pub divided-is : (n w held : ℤ) (h r : ℕ) → held ≡ w *ℤ pos h → pos r ≡ n -ℤ held -ℤ held → n <ℤ ((w *ℤ pos h +ℤ w *ℤ pos h) +ℤ (pos h +ℤ pos h)) → IsDivided n h w r
divided-is n w held h r e er lt = let k = left-over n (w *ℤ pos h) held r h e er lt in record { value = k.0; small = k.1 }

-- ---- lines
next-here : (a b l : ℤ) (h : ℕ) → l ≡ a +ℤ b → ((a +ℤ pos h) -ℤ pos 1) +ℤ b ≡ (l +ℤ pos h) -ℤ pos 1
next-here a b l h e = omega (arith, ints)

pub next-follows : (p q : Point) (apart : ℕ) (y : ℤ) (line next : Line) → next.x ≡ line.x → next.height ≡ line.height → next.step.whole ≡ line.step.whole → next.step.rest ≡ line.step.rest → ((n m : ℤ) → IsDivided n line.height line.here.whole line.here.rest → IsDivided m line.height line.step.whole line.step.rest → IsDivided (n +ℤ m) line.height next.here.whole next.here.rest) → Follows p q apart y line → Follows p q apart (y +ℤ pos apart) next
next-follows p q apart y line next ex eh ew er sum f =
    let h = line.height in
    let l = downward p q (lean_of p q y) in
    let s = downward p q (lean_over p q apart) in
    let e : downward p q (lean_of p q (y +ℤ pos apart)) ≡ l +ℤ s = ap (downward p q) (lean-next p q apart y) ∙ down-sum p q (lean_of p q y) (lean_over p q apart) in
    let here : IsDivided ((downward p q (lean_of p q (y +ℤ pos apart)) +ℤ pos h) -ℤ pos 1) h next.here.whole next.here.rest =
    subst (λ n. IsDivided n h next.here.whole next.here.rest) (next-here l s (downward p q (lean_of p q (y +ℤ pos apart))) h e) (sum ((l +ℤ pos h) -ℤ pos 1) s f.here f.step) in
    record {
      x = ex ∙ f.x;
      height = ap pos eh ∙ f.height;
      positive = omega (arith, f.positive);
      low = omega (arith, f.low);
      here = subst (λ k. IsDivided ((downward p q (lean_of p q (y +ℤ pos apart)) +ℤ pos k) -ℤ pos 1) k next.here.whole next.here.rest) (sym eh) here;
      step = subst (λ k. IsDivided s k next.step.whole next.step.rest) (sym eh) (subst (λ w. IsDivided s h w next.step.rest) (sym ew) (subst (λ r. IsDivided s h line.step.whole r) (sym er) f.step));
    }

least-of : (u n : ℤ) (r : ℕ) → (u +ℤ u) +ℤ pos r ≡ n → (u +ℤ u) ≤ℤ n
least-of u n r e = omega (arith, ints)

most-of : (u n : ℤ) (r h : ℕ) → r < h + h → (u +ℤ u) +ℤ pos r ≡ n → n <ℤ ((u +ℤ u) +ℤ (pos h +ℤ pos h))
most-of u n r h lt e = omega (arith, ints)

-- where a quotient holds the lean, less one, of a height
past-of : (x z lean w : ℤ) (h r : ℕ) → IsDivided ((lean +ℤ pos h) -ℤ pos 1) h w r → int_lt z (x +ℤ w) ≡ int_lt (pos 0) ((pos 2 *ℤ x -ℤ pos 2 *ℤ z -ℤ pos 1) *ℤ pos h +ℤ lean)
past-of x z lean w h r f = first-past x z lean w h (least-of (w *ℤ pos h) ((lean +ℤ pos h) -ℤ pos 1) r f.value) (most-of (w *ℤ pos h) ((lean +ℤ pos h) -ℤ pos 1) r h f.small f.value)

turned-rise : (a b d : ℤ) → d ≡ neg_ℤ (b -ℤ a) → d ≡ a -ℤ b
turned-rise a b d e = omega (arith, ints)

turn-rise : (a b : ℤ) → a -ℤ b ≡ neg_ℤ (b -ℤ a)
turn-rise a b = omega (arith, ints)

right-of-line : (p q : Point) (apart : ℕ) (x y : ℤ) (line : Line) → Follows p q apart y line → is_right_of p q x y ≡ int_lt x (line.x +ℤ line.here.whole)
right-of-line p q apart x y line f = elim (cases_Bool (int_lt p.y q.y)) [
  | inl t ↦
      let lean = lean_of p q y in
      let down : (n : ℤ) → downward p q n ≡ n = λ n. ap (λ b. cond b n (neg_ℤ n)) t in
      let here : IsDivided ((lean +ℤ pos line.height) -ℤ pos 1) line.height line.here.whole line.here.rest = subst (λ l. IsDivided ((l +ℤ pos line.height) -ℤ pos 1) line.height line.here.whole line.here.rest) (down lean) f.here in
      down-edge p q x y lean (line.x +ℤ line.here.whole) line.height (lt_test-true p.y q.y t) (f.height ∙ down (q.y -ℤ p.y)) refl
      (past-of line.x x lean line.here.whole line.height line.here.rest here ∙ ap (λ z. int_lt (pos 0) ((pos 2 *ℤ z -ℤ pos 2 *ℤ x -ℤ pos 1) *ℤ pos line.height +ℤ lean)) f.x)
  | inr t ↦
      let lean = lean_of p q y in
      let up : (n : ℤ) → downward p q n ≡ neg_ℤ n = λ n. ap (λ b. cond b n (neg_ℤ n)) t in
      let here : IsDivided ((neg_ℤ lean +ℤ pos line.height) -ℤ pos 1) line.height line.here.whole line.here.rest = subst (λ l. IsDivided ((l +ℤ pos line.height) -ℤ pos 1) line.height line.here.whole line.here.rest) (up lean) f.here in
      up-edge p q x y lean (line.x +ℤ line.here.whole) line.height (lt_test-false p.y q.y t) (turned-rise p.y q.y (pos line.height) (f.height ∙ up (q.y -ℤ p.y))) refl
      (past-of line.x x (neg_ℤ lean) line.here.whole line.height line.here.rest here ∙ ap (λ z. int_lt (pos 0) ((pos 2 *ℤ z -ℤ pos 2 *ℤ x -ℤ pos 1) *ℤ pos line.height +ℤ neg_ℤ lean)) f.x)
]

pub line-counts : (p q : Point) (apart : ℕ) (x y t : ℤ) (line : Line) → t ≡ line.x +ℤ line.here.whole → Follows p q apart y line → crosses_row p q y ≡ true → counts p q x y ≡ int_lt x t
line-counts p q apart x y t line et f c = ap (λ b. b && is_right_of p q x y) c ∙ right-of-line p q apart x y line f ∙ ap (int_lt x) (sym et)

-- the line of an edge that runs upward, in its first row
pub up-follows : (p q : Point) (apart : ℕ) (y lean step : ℤ) (h : ℕ) (line : Line) → q.y ≤ℤ p.y → line.x ≡ p.x → line.height ≡ h → pos h ≡ p.y -ℤ q.y → 0 < h → h ≤ 268435456 → lean ≡ neg_ℤ (lean_of p q y) → step ≡ neg_ℤ (lean_over p q apart) → IsDivided ((lean +ℤ pos h) -ℤ pos 1) h line.here.whole line.here.rest → IsDivided step h line.step.whole line.step.rest → Follows p q apart y line
up-follows p q apart y lean step h line above ex eh er some low el es here next =
    let t = le-lt_test p.y q.y above in
    let up : (n : ℤ) → neg_ℤ n ≡ downward p q n = λ n. sym (ap (λ b. cond b n (neg_ℤ n)) t) in
    record {
      x = ex;
      height = ap pos eh ∙ er ∙ turn-rise p.y q.y ∙ up (q.y -ℤ p.y);
      positive = omega arith;
      low = omega arith;
      here = subst (λ k. IsDivided ((downward p q (lean_of p q y) +ℤ pos k) -ℤ pos 1) k line.here.whole line.here.rest) (sym eh) (subst (λ l. IsDivided ((l +ℤ pos h) -ℤ pos 1) h line.here.whole line.here.rest) (el ∙ up (lean_of p q y)) here);
      step = subst (λ k. IsDivided (downward p q (lean_over p q apart)) k line.step.whole line.step.rest) (sym eh) (subst (λ n. IsDivided n h line.step.whole line.step.rest) (es ∙ up (lean_over p q apart)) next);
    }

-- the same of one that runs downward
pub down-follows : (p q : Point) (apart : ℕ) (y lean step : ℤ) (h : ℕ) (line : Line) → p.y <ℤ q.y → line.x ≡ p.x → line.height ≡ h → pos h ≡ q.y -ℤ p.y → 0 < h → h ≤ 268435456 → lean ≡ lean_of p q y → step ≡ lean_over p q apart → IsDivided ((lean +ℤ pos h) -ℤ pos 1) h line.here.whole line.here.rest → IsDivided step h line.step.whole line.step.rest → Follows p q apart y line
down-follows p q apart y lean step h line below ex eh er some low el es here next =
    let t = lt-lt_test p.y q.y below in
    let down : (n : ℤ) → n ≡ downward p q n = λ n. sym (ap (λ b. cond b n (neg_ℤ n)) t) in
    record {
      x = ex;
      height = ap pos eh ∙ er ∙ down (q.y -ℤ p.y);
      positive = omega arith;
      low = omega arith;
      here = subst (λ k. IsDivided ((downward p q (lean_of p q y) +ℤ pos k) -ℤ pos 1) k line.here.whole line.here.rest) (sym eh) (subst (λ l. IsDivided ((l +ℤ pos h) -ℤ pos 1) h line.here.whole line.here.rest) (el ∙ down (lean_of p q y)) here);
      step = subst (λ k. IsDivided (downward p q (lean_over p q apart)) k line.step.whole line.step.rest) (sym eh) (subst (λ n. IsDivided n h line.step.whole line.step.rest) (es ∙ down (lean_over p q apart)) next);
    }

-- ---- what a quotient leaves over, in words
held-words : (w held : ℤ) (h : ℕ) → FitsSigned w64 w → FitsSigned w64 held → held ≡ to_z w64 (of_z w64 w) *ℤ pos h → w *ℤ pos h ≡ to_z w64 (of_z w64 held)
held-words w held h fw fh e = sym (to_z-of_z w64 held fh ∙ e ∙ ap (λ z. z *ℤ pos h) (to_z-of_z w64 w fw))

pub left-least : (v w held : ℤ) (h : ℕ) → FitsSigned w64 w → FitsSigned w64 held → held ≡ to_z w64 (of_z w64 w) *ℤ pos h → ((w *ℤ pos h) +ℤ (w *ℤ pos h)) ≤ℤ v → (to_z w64 (of_z w64 held) +ℤ to_z w64 (of_z w64 held)) ≤ℤ v
left-least v w held h fw fh e le = subst (λ u. (u +ℤ u) ≤ℤ v) (held-words w held h fw fh e) le

left-room : (v u : ℤ) (h : ℕ) → h ≤ 268435456 → v <ℤ ((u +ℤ u) +ℤ (pos h +ℤ pos h)) → v <ℤ ((u +ℤ u) +ℤ pos 536870912)
left-room v u h low lt = omega (arith, ints)

pub left-most : (v w held : ℤ) (h : ℕ) → FitsSigned w64 w → FitsSigned w64 held → held ≡ to_z w64 (of_z w64 w) *ℤ pos h → h ≤ 268435456 → v <ℤ (((w *ℤ pos h) +ℤ (w *ℤ pos h)) +ℤ (pos h +ℤ pos h)) → v <ℤ ((to_z w64 (of_z w64 held) +ℤ to_z w64 (of_z w64 held)) +ℤ pos 536870912)
left-most v w held h fw fh e low lt = subst (λ u. v <ℤ ((u +ℤ u) +ℤ pos 536870912)) (held-words w held h fw fh e) (left-room v (w *ℤ pos h) h low lt)
