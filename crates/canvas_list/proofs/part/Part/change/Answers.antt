use Rattle.std.proofs.Common.{◌≡◌, ◌∙◌, ◌+◌, ◌<◌, ℕ, List, All, ap, arith, length, subst, sym}
use Rattle.std.proofs.lemmas.List.Edits.{length-insert, length-remove}
use Rattle.std.proofs.Math.ListN.{length-set}
use Rattle.canvas_list.specs.declared.in_place.ItemChange.{ItemChange}
use Rattle.canvas_list.specs.declared.in_place.ItemChange.TheVariants.{Replace, Remove, Insert}
use Rattle.canvas_list.specs.Changed.{changed, IsKept, IsPositionOf}
use Rattle.canvas_list.proofs.part.Part.change.Goals as goal

-- a part that keeps an item has one after the change
keeps-one : {X : Type 0} (change : ItemChange X) (at : ℕ) (xs : List X) (Room : Type 0) → IsPositionOf change at xs → IsKept change (length xs) Room → 0 < length (changed change at xs)
keeps-one (Replace item) at xs Room place kept = omega (arith, length-set xs at item, place)
keeps-one Remove at xs Room place kept = omega (arith, length-remove xs at place, kept)
keeps-one (Insert item) at xs Room place kept = omega (arith, length-insert xs at item place.0)

pub noted_after-self-inside-requires-clause-some : goal.noted_after-self-inside-requires-clause-some
noted_after-self-inside-requires-clause-some g c =
    let new : g.C.Contents.list c.change.new.self ≡ changed c.args.change c.args.at c.args.self.now = c.in_ok-change.ensures.items ∙ ap (λ (l : List g.row.T.Denot). changed c.args.change c.args.at l) (ap g.C.Contents.list c.in-Some.ensures.value ∙ c.own.ensures ∙ c.self.view_is) in
    subst (λ (l : List g.row.T.Denot). 0 < length l) (sym new) (keeps-one c.args.change c.args.at c.args.self.now (g.C.Contents.fits (length c.args.self.now + 1)) c.requires.place c.requires.kept)

pub summary_or-self-inside-requires-clause-some : goal.summary_or-self-inside-requires-clause-some
summary_or-self-inside-requires-clause-some g c =
    let new : g.C.Contents.list c.change.new.self ≡ changed c.args.change c.args.at c.args.self.now = c.in_ok-change.ensures.items ∙ ap (λ (l : List g.row.T.Denot). changed c.args.change c.args.at l) (ap g.C.Contents.list c.in-Some.ensures.value ∙ c.own.ensures ∙ c.self.view_is) in
    subst (λ (l : List g.row.T.Denot). 0 < length l) (sym new) (keeps-one c.args.change c.args.at c.args.self.now (g.C.Contents.fits (length c.args.self.now + 1)) c.requires.place c.requires.kept)

pub invariant_of-self-2 : goal.invariant_of-self-2
invariant_of-self-2 g c =
    let held : g.C.Contents.list c.in-Some.contents.now ≡ c.args.self.now = ap g.C.Contents.list c.in-Some.ensures.value ∙ c.own.ensures ∙ c.self.view_is in
    let new : g.C.Contents.list c.change.new.self ≡ changed c.args.change c.args.at c.args.self.now = c.in_ok-change.ensures.items ∙ ap (λ (l : List g.row.T.Denot). changed c.args.change c.args.at l) held in (
      subst (λ (l : List g.row.T.Denot). 0 < length l) (sym new) (keeps-one c.args.change c.args.at c.args.self.now (g.C.Contents.fits (length c.args.self.now + 1)) c.requires.place c.requires.kept),
      c.change.ensures.fits (subst (λ (l : List g.row.T.Denot). IsKept c.args.change (length l) (g.C.Contents.fits (length l + 1))) (sym held) c.requires.kept) (subst (λ (l : List g.row.T.Denot). g.C.Contents.fits (length l)) (c.self.view_is ∙ sym held) c.self.invariant.1),
      c.noted_after-self-inside.ensures,
      c.summary_or-self-inside.ensures,
    )

pub returns-clause-items : goal.returns-clause-items
returns-clause-items g c = c.in_ok-change.ensures.items ∙ ap (λ (l : List g.row.T.Denot). changed c.args.change c.args.at l) (ap g.C.Contents.list c.in-Some.ensures.value ∙ c.own.ensures ∙ c.self.view_is)

pub returns-clause-some : goal.returns-clause-some
returns-clause-some g c =
    let new : g.C.Contents.list c.change.new.self ≡ changed c.args.change c.args.at c.args.self.now = c.in_ok-change.ensures.items ∙ ap (λ (l : List g.row.T.Denot). changed c.args.change c.args.at l) (ap g.C.Contents.list c.in-Some.ensures.value ∙ c.own.ensures ∙ c.self.view_is) in
    subst (λ (l : List g.row.T.Denot). 0 < length l) (sym new) (keeps-one c.args.change c.args.at c.args.self.now (g.C.Contents.fits (length c.args.self.now + 1)) c.requires.place c.requires.kept)

pub invariant_of-self-in_err-change : goal.invariant_of-self-in_err-change
invariant_of-self-in_err-change g c =
    subst (λ (l : List g.row.T.Denot). (0 < length l) × g.C.Contents.fits (length l) × (c.self.inside.noted.count ≡ length l) × All (g.T.Share.covers c.self.inside.summary) l)
    (sym (c.in_err-change.ensures.items ∙ ap g.C.Contents.list c.in-Some.ensures.value ∙ c.own.ensures)) c.self.invariant
