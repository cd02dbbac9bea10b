use Rattle.canvas_list.specs.declared.reader.Reader.TheInside.{Inside}
use Rattle.std.proofs.Common.{◌^◌, ◌≡◌, ◌∙◌, ◌+◌, ◌-◌, ◌<◌, ◌≤◌, ℕ, List, ap, arith, get_or, length, subst, sym}
use Rattle.canvas_list.specs.Chunks.{joined, IsRun, IsStretch}
use Rattle.canvas_list.proofs.Stretches.{stretch-same}
use Rattle.canvas_list.proofs.reader.Reader.at.Goals as goal
use Rattle.canvas_list.proofs.reader.Reader.at.Goals.{then-at-self, else-at-self+else-at-self-2}

-- items that have the one at a position
record HasItem {X : Type 0} (xs items : List X) (start at : ℕ) : Type 0 where
  run : IsRun xs items start
  from : start ≤ at
  upto : at - start < length items

found-one : {X : Type 0} (xs items got : List X) (start there at : ℕ) → items ≡ got → start ≡ there → IsRun xs got there → there ≤ at → at < there + length got → HasItem xs items start at
found-one xs items got start there at e is run low high =
    record { run = subst (λ n. IsRun xs items n) (sym is) (subst (λ l. IsRun xs l there) (sym e) run); from = omega arith; upto = omega (arith, ap length e) }

held-one : {X : Type 0} (list xs items got : List X) (start there at : ℕ) → items ≡ got → start ≡ there → list ≡ xs → IsRun list got there → there ≤ at → at - there < length got → HasItem xs items start at
held-one list xs items got start there at e is all run low high = found-one xs items got start there at e is (subst (λ l. IsRun l got there) all run) low (omega arith)

item-of : {X : Type 0} (xs items : List X) (start at : ℕ) (x : X) → HasItem xs items start at → get_or items (at - start) x ≡ get_or xs at x
item-of xs items start at x h =
    let place : start + (at - start) ≡ at = omega (arith, h.from) in
    h.run.same (at - start) x h.upto ∙ ap (λ i. get_or xs i x) place

pub overflow_sub-at : goal.overflow_sub-at
overflow_sub-at g c = c.if-at-self.false

pub overflow_sub-result : goal.overflow_sub-result
overflow_sub-result g c =
    let h : HasItem c.args.self.now c.if-at-self.self-inside.held.items.now c.if-at-self.self-inside.held.start c.args.at = elim c.if-at-self.branch [
      | then-at-self w ↦ found-one c.args.self.now c.if-at-self.self-inside.held.items.now w.stretch_at-self-inside.result.items.now c.if-at-self.self-inside.held.start w.stretch_at-self-inside.result.start c.args.at (ap (λ r. r.held.items.now) w.self-inside-is) (ap (λ r. r.held.start) w.self-inside-is) w.stretch_at-self-inside.ensures.held.run w.stretch_at-self-inside.ensures.from w.stretch_at-self-inside.ensures.upto
      | else-at-self+else-at-self-2 w ↦ held-one c.self.inside.list.now c.args.self.now c.if-at-self.self-inside.held.items.now c.self.inside.held.items.now c.if-at-self.self-inside.held.start c.self.inside.held.start c.args.at (ap (λ r. r.held.items.now) w.self-inside-is) (ap (λ r. r.held.start) w.self-inside-is) c.self.view_is c.self.invariant.1.run w.if-at-self.false w.if-at-self-2.false
    ] in
    h.from

pub bounds-self-inside-at : goal.bounds-self-inside-at
bounds-self-inside-at g c =
    let h : HasItem c.args.self.now c.if-at-self.self-inside.held.items.now c.if-at-self.self-inside.held.start c.args.at = elim c.if-at-self.branch [
      | then-at-self w ↦ found-one c.args.self.now c.if-at-self.self-inside.held.items.now w.stretch_at-self-inside.result.items.now c.if-at-self.self-inside.held.start w.stretch_at-self-inside.result.start c.args.at (ap (λ r. r.held.items.now) w.self-inside-is) (ap (λ r. r.held.start) w.self-inside-is) w.stretch_at-self-inside.ensures.held.run w.stretch_at-self-inside.ensures.from w.stretch_at-self-inside.ensures.upto
      | else-at-self+else-at-self-2 w ↦ held-one c.self.inside.list.now c.args.self.now c.if-at-self.self-inside.held.items.now c.self.inside.held.items.now c.if-at-self.self-inside.held.start c.self.inside.held.start c.args.at (ap (λ r. r.held.items.now) w.self-inside-is) (ap (λ r. r.held.start) w.self-inside-is) c.self.view_is c.self.invariant.1.run w.if-at-self.false w.if-at-self-2.false
    ] in
    h.upto

pub returns-clause-item : goal.returns-clause-item
returns-clause-item g c =
    let h : HasItem c.args.self.now c.if-at-self.self-inside.held.items.now c.if-at-self.self-inside.held.start c.args.at = elim c.if-at-self.branch [
      | then-at-self w ↦ found-one c.args.self.now c.if-at-self.self-inside.held.items.now w.stretch_at-self-inside.result.items.now c.if-at-self.self-inside.held.start w.stretch_at-self-inside.result.start c.args.at (ap (λ r. r.held.items.now) w.self-inside-is) (ap (λ r. r.held.start) w.self-inside-is) w.stretch_at-self-inside.ensures.held.run w.stretch_at-self-inside.ensures.from w.stretch_at-self-inside.ensures.upto
      | else-at-self+else-at-self-2 w ↦ held-one c.self.inside.list.now c.args.self.now c.if-at-self.self-inside.held.items.now c.self.inside.held.items.now c.if-at-self.self-inside.held.start c.self.inside.held.start c.args.at (ap (λ r. r.held.items.now) w.self-inside-is) (ap (λ r. r.held.start) w.self-inside-is) c.self.view_is c.self.invariant.1.run w.if-at-self.false w.if-at-self-2.false
    ] in
    item-of c.args.self.now c.if-at-self.self-inside.held.items.now c.if-at-self.self-inside.held.start c.args.at c.index-self-at.result h ∙ ap (λ (x : g.row.T.Denot). get_or c.args.self.now c.args.at x) c.index-self-at.is

pub invariant_of-self : goal.invariant_of-self
invariant_of-self g c =
    let holds : Inside g.row.T.Denot g.row.T-Summary.Denot → Type 0 = λ r. (length r.list.now < 2 ^ 32) × IsStretch r.list.now r.held.items.now (joined r.held.behind.now) (joined r.held.beyond.now) r.held.start r.held.beyond_start in
    elim c.if-at-self.branch [
      | then-at-self w ↦
          subst holds (sym w.self-inside-is) (
            c.self.invariant.0,
            stretch-same c.args.self.now c.self.inside.list.now w.stretch_at-self-inside.result.items.now (joined w.stretch_at-self-inside.result.behind.now) (joined w.stretch_at-self-inside.result.beyond.now) w.stretch_at-self-inside.result.start w.stretch_at-self-inside.result.beyond_start (sym c.self.view_is) w.stretch_at-self-inside.ensures.held,
          )
      | else-at-self+else-at-self-2 w ↦ subst holds (sym w.self-inside-is) c.self.invariant
    ]
