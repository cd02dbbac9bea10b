use Rattle.canvas_list.specs.declared.reader.Reader.TheInside.{Inside}
use Rattle.std.proofs.Common.{◌<◌, ◌^◌, ◌+◌, ◌-◌, ◌≤◌, ℕ, List, ap, arith, drop, inl, inr, length, subst, sym, take}
use Rattle.std.proofs.lemmas.Bool.{cases_lt}
use Rattle.canvas_list.specs.Chunks.{joined, AllBetween, IsRun, IsStretch}
use Rattle.canvas_list.proofs.Apart.{between-max, between-run, none-between}
use Rattle.canvas_list.proofs.Runs.{run-of-run, run-of-slice}
use Rattle.canvas_list.proofs.Stretches.{stretch-same}
use Rattle.canvas_list.proofs.reader.Reader.look_on.Goals as goal
use Rattle.canvas_list.proofs.reader.Reader.look_on.Goals.{then-at-self, else-at-self+else-at-self-2}

pub returns-clause-apart : goal.returns-clause-apart
returns-clause-apart g c =
    let items : List g.row.T.Denot = c.if-at-self.self-inside.held.items.now in
    let start : ℕ = c.if-at-self.self-inside.held.start in
    let at : ℕ = c.args.at in
    let from : ℕ = c.max-from.result in
    let first : ℕ = from - start in
    let count : ℕ = c.min-upto.result - start - first in
    let place : ℕ = c.place_meeting.result in
    let before : AllBetween (g.T.Share.lies_apart c.args.sought.now) c.args.self.now at start = elim c.if-at-self.branch [
      | then-at-self w ↦ subst (λ (n : ℕ). AllBetween (g.T.Share.lies_apart c.args.sought.now) c.args.self.now at n) (sym (ap (λ r. r.held.start) w.self-inside-is)) w.stretch_meeting-self-inside.ensures.apart
      | else-at-self+else-at-self-2 w ↦ none-between (g.T.Share.lies_apart c.args.sought.now) c.args.self.now at start (omega (arith, ap (λ r. r.held.start) w.self-inside-is, w.if-at-self.false))
    ] in
    let held : IsRun c.args.self.now items start = elim c.if-at-self.branch [
      | then-at-self w ↦ subst (λ (r : Inside g.row.T.Denot g.row.T-Summary.Denot). IsRun c.args.self.now r.held.items.now r.held.start) (sym w.self-inside-is) w.stretch_meeting-self-inside.ensures.held.run
      | else-at-self+else-at-self-2 w ↦ subst (λ (r : Inside g.row.T.Denot g.row.T-Summary.Denot). IsRun c.args.self.now r.held.items.now r.held.start) (sym w.self-inside-is) (subst (λ (l : List g.row.T.Denot). IsRun l c.self.inside.held.items.now c.self.inside.held.start) c.self.view_is c.self.invariant.1.run)
    ] in
    let low : start ≤ from = omega (arith, c.max-from.ensures) in
    let inside : first + count ≤ length items = omega (arith, c.min-upto.ensures) in
    let seen : IsRun c.args.self.now (take count (drop first items)) (start + first) = run-of-run c.args.self.now items (take count (drop first items)) start first held (run-of-slice items first count inside) in
    let behind = between-run (g.T.Share.lies_apart c.args.sought.now) c.args.self.now (take count (drop first items)) (start + first) 0 place seen c.place_meeting.ensures.within c.place_meeting.ensures.apart in
    λ i x l h. elim (cases_lt i from) [
      | inl short ↦ before i x l (omega (arith, c.max-from.ensures))
      | inr long ↦ behind i x (omega arith) (omega arith)
    ]

pub invariant_of-self : goal.invariant_of-self
invariant_of-self g c =
    let holds : Inside g.row.T.Denot g.row.T-Summary.Denot → Type 0 = λ r. (length r.list.now < 2 ^ 32) × IsStretch r.list.now r.held.items.now (joined r.held.behind.now) (joined r.held.beyond.now) r.held.start r.held.beyond_start in
    elim c.if-at-self.branch [
      | then-at-self w ↦
          subst holds (sym w.self-inside-is) (
            c.self.invariant.0,
            stretch-same c.args.self.now c.self.inside.list.now w.stretch_meeting-self-inside.result.items.now (joined w.stretch_meeting-self-inside.result.behind.now) (joined w.stretch_meeting-self-inside.result.beyond.now) w.stretch_meeting-self-inside.result.start w.stretch_meeting-self-inside.result.beyond_start (sym c.self.view_is) w.stretch_meeting-self-inside.ensures.held,
          )
      | else-at-self+else-at-self-2 w ↦ subst holds (sym w.self-inside-is) c.self.invariant
    ]

pub invariant_of-self-2 : goal.invariant_of-self-2
invariant_of-self-2 g c =
    let holds : Inside g.row.T.Denot g.row.T-Summary.Denot → Type 0 = λ r. (length r.list.now < 2 ^ 32) × IsStretch r.list.now r.held.items.now (joined r.held.behind.now) (joined r.held.beyond.now) r.held.start r.held.beyond_start in
    elim c.if-at-self.branch [
      | then-at-self w ↦
          subst holds (sym w.self-inside-is) (
            c.self.invariant.0,
            stretch-same c.args.self.now c.self.inside.list.now w.stretch_meeting-self-inside.result.items.now (joined w.stretch_meeting-self-inside.result.behind.now) (joined w.stretch_meeting-self-inside.result.beyond.now) w.stretch_meeting-self-inside.result.start w.stretch_meeting-self-inside.result.beyond_start (sym c.self.view_is) w.stretch_meeting-self-inside.ensures.held,
          )
      | else-at-self+else-at-self-2 w ↦ subst holds (sym w.self-inside-is) c.self.invariant
    ]

pub returns-then-from-upto-clause-apart : goal.returns-then-from-upto-clause-apart
returns-then-from-upto-clause-apart g c =
    let start : ℕ = c.if-at-self.self-inside.held.start in
    elim c.if-at-self.branch [
      | then-at-self w ↦
          between-max (g.T.Share.lies_apart c.args.sought.now) c.args.self.now c.args.at start c.max-from.result c.max-from.ensures
          (subst (λ (n : ℕ). AllBetween (g.T.Share.lies_apart c.args.sought.now) c.args.self.now c.args.at n) (sym (ap (λ r. r.held.start) w.self-inside-is)) w.stretch_meeting-self-inside.ensures.apart)
      | else-at-self+else-at-self-2 w ↦
          between-max (g.T.Share.lies_apart c.args.sought.now) c.args.self.now c.args.at start c.max-from.result c.max-from.ensures
          (none-between (g.T.Share.lies_apart c.args.sought.now) c.args.self.now c.args.at start (subst (λ (n : ℕ). n ≤ c.args.at) (sym (ap (λ r. r.held.start) w.self-inside-is)) w.if-at-self.false))
    ]
