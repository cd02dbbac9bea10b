use Rattle.std.proofs.Common.{rules, ◌≡◌, List, All, subst, sym, ◌∙◌, ◌<◌, ℕ, ap, arith, length}
use Rattle.std.specs.List.{insert, remove}
use Rattle.canvas_list.proofs.Kept.{all-moved}
use Rattle.canvas_list.proofs.Parted.{if-both}
use Rattle.std.proofs.lemmas.List.Edits.{length-insert, length-remove}
use Rattle.canvas_list.proofs.part.Part.shift.Goals as goal

-- a move leaves as many items as there were
moved-many : {X : Type 0} (xs : List X) (from to : ℕ) (item : X) → from < length xs → to < length xs → length (insert (remove xs from) to item) ≡ length xs
moved-many xs from to item h k = omega (arith, length-insert (remove xs from) to item (omega (arith, k, length-remove xs from h)), length-remove xs from h, h)

pub noted_after-self-inside-requires-clause-some : goal.noted_after-self-inside-requires-clause-some
noted_after-self-inside-requires-clause-some g c =
    let new : g.C.Contents.list c.shift.new.self ≡ insert (remove c.args.self.now c.args.from) c.args.to c.args.item = c.in_ok-shift.ensures ∙ ap (λ (l : List g.row.T.Denot). insert (remove l c.args.from) c.args.to c.args.item) (ap g.C.Contents.list c.in-Some.ensures.value ∙ c.own.ensures ∙ c.self.view_is) in
    omega (arith, ap length new, moved-many c.args.self.now c.args.from c.args.to c.args.item c.requires.from c.requires.to, c.requires.from)

pub noted_after-self-inside-requires-clause-fits : goal.noted_after-self-inside-requires-clause-fits
noted_after-self-inside-requires-clause-fits g c =
    let new : g.C.Contents.list c.shift.new.self ≡ insert (remove c.args.self.now c.args.from) c.args.to c.args.item = c.in_ok-shift.ensures ∙ ap (λ (l : List g.row.T.Denot). insert (remove l c.args.from) c.args.to c.args.item) (ap g.C.Contents.list c.in-Some.ensures.value ∙ c.own.ensures ∙ c.self.view_is) in
    let many = ap length new ∙ moved-many c.args.self.now c.args.from c.args.to c.args.item c.requires.from c.requires.to ∙ sym (ap length c.self.view_is) in
    subst g.C.Contents.fits (sym many) c.self.invariant.1

pub summary_or-self-inside-requires-clause-some : goal.summary_or-self-inside-requires-clause-some
summary_or-self-inside-requires-clause-some g c =
    let new : g.C.Contents.list c.shift.new.self ≡ insert (remove c.args.self.now c.args.from) c.args.to c.args.item = c.in_ok-shift.ensures ∙ ap (λ (l : List g.row.T.Denot). insert (remove l c.args.from) c.args.to c.args.item) (ap g.C.Contents.list c.in-Some.ensures.value ∙ c.own.ensures ∙ c.self.view_is) in
    omega (arith, ap length new, moved-many c.args.self.now c.args.from c.args.to c.args.item c.requires.from c.requires.to, c.requires.from)

pub invariant_of-self-2 : goal.invariant_of-self-2
invariant_of-self-2 g c =
    let new : g.C.Contents.list c.shift.new.self ≡ insert (remove c.args.self.now c.args.from) c.args.to c.args.item = c.in_ok-shift.ensures ∙ ap (λ (l : List g.row.T.Denot). insert (remove l c.args.from) c.args.to c.args.item) (ap g.C.Contents.list c.in-Some.ensures.value ∙ c.own.ensures ∙ c.self.view_is) in
    let many : length (g.C.Contents.list c.shift.new.self) ≡ length c.args.self.now = ap length new ∙ moved-many c.args.self.now c.args.from c.args.to c.args.item c.requires.from c.requires.to in (
      omega (arith, many, c.requires.from),
      subst g.C.Contents.fits (sym (many ∙ sym (ap length c.self.view_is))) c.self.invariant.1,
      c.noted_after-self-inside.ensures,
      c.summary_or-self-inside.ensures,
    )

pub invariant_of-self-in_err-shift : goal.invariant_of-self-in_err-shift
invariant_of-self-in_err-shift g c =
    subst (λ (l : List g.row.T.Denot). (0 < length l) × g.C.Contents.fits (length l) × (c.self.inside.noted.count ≡ length l) × All (g.T.Share.covers c.self.inside.summary) l)
    (sym (c.in_err-shift.ensures ∙ ap g.C.Contents.list c.in-Some.ensures.value ∙ c.own.ensures)) c.self.invariant

pub summary_or-self-inside-requires-clause-all : goal.summary_or-self-inside-requires-clause-all
summary_or-self-inside-requires-clause-all g c =
    let items : List g.row.T.Denot = c.args.self.now in
    let old : All (g.T.Share.covers c.self.inside.summary) items = search rules in
    let new : g.C.Contents.list c.shift.new.self ≡ insert (remove items c.args.from) c.args.to c.args.item = search rules in
    if-both c.summary_covering-summary.result (λ s. s ≡ c.self.inside.summary) (λ s. g.T.Share.covers s c.args.item) (λ s. All (g.T.Share.covers s) (g.C.Contents.list c.shift.new.self))
    (λ s same here. subst (All (g.T.Share.covers s)) (sym new)
    (all-moved (g.T.Share.covers s) items c.args.from c.args.to c.args.item (subst (λ z. All (g.T.Share.covers z) items) (sym same) old) here))
    c.summary_covering-summary.ensures.same c.summary_covering-summary.ensures.item
