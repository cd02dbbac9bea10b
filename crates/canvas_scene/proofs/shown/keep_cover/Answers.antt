use Rattle.std.proofs.Common.{◌-◌, All, List, subst, sym}
use Rattle.std.proofs.lemmas.List.Elements.{All-push, All-take}
use Rattle.canvas_plane.specs.declared.PageBox.{PageBox}
use Rattle.canvas_scene.specs.Covers.{IsHidden}
use Rattle.canvas_scene.specs.declared.shown.TheConstants.{MOST_COVERS}
use Rattle.canvas_scene.proofs.shown.keep_cover.Goals as goal

pub returns : goal.returns
returns c = λ items all hidden.
    let P : List PageBox → Type 0 = λ l. All (IsHidden items) l in
    let left = subst P (sym c.truncate.ensures.items) (All-take (IsHidden items) (MOST_COVERS - 1) c.args.covers.now.items all) in
    subst P (sym c.in_ok-push.ensures.items) (All-push (IsHidden items) c.truncate.new.self.items c.args.part left hidden)

pub returns-in_err-push : goal.returns-in_err-push
returns-in_err-push c = λ items all hidden.
    let P : List PageBox → Type 0 = λ l. All (IsHidden items) l in
    let left = subst P (sym c.truncate.ensures.items) (All-take (IsHidden items) (MOST_COVERS - 1) c.args.covers.now.items all) in
    subst P (sym c.in_err-push.ensures.items) left
