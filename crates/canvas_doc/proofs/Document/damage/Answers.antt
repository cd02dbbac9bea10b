use Rattle.std.proofs.Common.{◌≡◌, ◌∙◌, ℤ, false, sym, ap, subst}
use Rattle.canvas_plane.specs.declared.PageBox.{PageBox}
use Rattle.canvas_plane.specs.Motion.{carry}
use Rattle.canvas_plane.specs.Page.{empty_box, hull_of, is_in}
use Rattle.canvas_record.specs.declared.edits.Change.{Change}
use Rattle.canvas_record.specs.declared.edits.Change.TheVariants as change
use Rattle.canvas_record.specs.Contents.{Contents, IsWellFormed}
use Rattle.canvas_record.specs.Damage.{damage_of, own_extent, to_page}
use Rattle.canvas_record.specs.Effect.{effect_of, Fits}
use Rattle.canvas_record.specs.Picture.{colour}
use Rattle.canvas_doc.proofs.extents.BothExtents.{create-damage, delete-damage, kind-sound, move-damage, pose-damage, pose-limits, reshape-damage, respace-damage, show-damage}
use Rattle.canvas_doc.proofs.extents.Damaged.{damage-keeps}
use Rattle.canvas_doc.proofs.Document.damage.Goals as goal

-- outside a box that is the damage
keeps : (ch : Change) (d : Contents) → IsWellFormed d → Fits ch d → (box : PageBox) → box ≡ damage_of ch d → (x y : ℤ) → is_in box x y ≡ false → colour (effect_of ch d).records x y ≡ colour d.records x y
keeps ch d well fits box value x y h = damage-keeps ch d well fits x y (ap (λ b. is_in b x y) (sym value) ∙ h)

pub posed_extents-requires-clause-quarter : goal.posed_extents-requires-clause-quarter
posed_extents-requires-clause-quarter c =
    let d : Contents = c.args.self.now in
    let fits : Fits (change.Pose c.in-Pose.id c.in-Pose.pose) d = subst (λ (ch : Change). Fits ch d) c.in-Pose.is c.requires in
    (pose-limits c.in-Pose.id c.in-Pose.pose d fits).0

pub posed_extents-requires-clause-reach : goal.posed_extents-requires-clause-reach
posed_extents-requires-clause-reach c =
    let d : Contents = c.args.self.now in
    let fits : Fits (change.Pose c.in-Pose.id c.in-Pose.pose) d = subst (λ (ch : Change). Fits ch d) c.in-Pose.is c.requires in
    (pose-limits c.in-Pose.id c.in-Pose.pose d fits).1

pub reshaped_extents-requires : goal.reshaped_extents-requires
reshaped_extents-requires c =
    let d : Contents = c.args.self.now in
    let fits : Fits (change.Reshape c.in-Reshape.id c.in-Reshape.kind) d = subst (λ (ch : Change). Fits ch d) c.in-Reshape.is c.requires in
    kind-sound c.in-Reshape.id c.in-Reshape.kind d fits

pub returns-in-Create-clause-value : goal.returns-in-Create-clause-value
returns-in-Create-clause-value c =
    let d : Contents = c.args.self.now in
    let well : IsWellFormed d = subst IsWellFormed c.self.view_is c.self.invariant.well_formed in
    let fits : Fits (change.Create c.in-Create.id c.in-Create.kind c.in-Create.pose c.in-Create.hidden c.in-Create.place) d = subst (λ (ch : Change). Fits ch d) c.in-Create.is c.requires in
    let alone : c.extent_alone.result ≡ hull_of (own_extent c.in-Create.kind (λ q. to_page 31 d.records c.in-Create.place.parent (carry c.in-Create.pose q))) empty_box =
    c.extent_alone.ensures ∙ ap (λ (e : Contents). hull_of (own_extent c.in-Create.kind (λ q. to_page 31 e.records c.in-Create.place.parent (carry c.in-Create.pose q))) empty_box) c.self.view_is in
    create-damage c.in-Create.id c.in-Create.kind c.in-Create.pose c.in-Create.hidden c.in-Create.place d well fits c.extent_alone.result alone ∙ ap (λ (ch : Change). damage_of ch d) (sym c.in-Create.is)

pub returns-in-Create-clause-outside : goal.returns-in-Create-clause-outside
returns-in-Create-clause-outside c = keeps c.args.change.now c.args.self.now (subst IsWellFormed c.self.view_is c.self.invariant.well_formed) c.requires c.extent_alone.result (returns-in-Create-clause-value c)

pub returns-in-Move-clause-value : goal.returns-in-Move-clause-value
returns-in-Move-clause-value c =
    let d : Contents = c.args.self.now in
    let well : IsWellFormed d = subst IsWellFormed c.self.view_is c.self.invariant.well_formed in
    let fits : Fits (change.Move c.in-Move.id c.in-Move.place) d = subst (λ (ch : Change). Fits ch d) c.in-Move.is c.requires in
    move-damage c.in-Move.id c.in-Move.place d well fits c.moved_extents.result c.moved_extents.ensures ∙ ap (λ (ch : Change). damage_of ch d) (sym c.in-Move.is)

pub returns-in-Move-clause-outside : goal.returns-in-Move-clause-outside
returns-in-Move-clause-outside c = keeps c.args.change.now c.args.self.now (subst IsWellFormed c.self.view_is c.self.invariant.well_formed) c.requires c.moved_extents.result (returns-in-Move-clause-value c)

pub returns-in-Pose-clause-value : goal.returns-in-Pose-clause-value
returns-in-Pose-clause-value c =
    let d : Contents = c.args.self.now in
    let well : IsWellFormed d = subst IsWellFormed c.self.view_is c.self.invariant.well_formed in
    let fits : Fits (change.Pose c.in-Pose.id c.in-Pose.pose) d = subst (λ (ch : Change). Fits ch d) c.in-Pose.is c.requires in
    pose-damage c.in-Pose.id c.in-Pose.pose d well fits c.posed_extents.result c.posed_extents.ensures ∙ ap (λ (ch : Change). damage_of ch d) (sym c.in-Pose.is)

pub returns-in-Pose-clause-outside : goal.returns-in-Pose-clause-outside
returns-in-Pose-clause-outside c = keeps c.args.change.now c.args.self.now (subst IsWellFormed c.self.view_is c.self.invariant.well_formed) c.requires c.posed_extents.result (returns-in-Pose-clause-value c)

pub returns-in-Reshape-clause-value : goal.returns-in-Reshape-clause-value
returns-in-Reshape-clause-value c =
    let d : Contents = c.args.self.now in
    let well : IsWellFormed d = subst IsWellFormed c.self.view_is c.self.invariant.well_formed in
    let fits : Fits (change.Reshape c.in-Reshape.id c.in-Reshape.kind) d = subst (λ (ch : Change). Fits ch d) c.in-Reshape.is c.requires in
    reshape-damage c.in-Reshape.id c.in-Reshape.kind d well fits c.reshaped_extents.result c.reshaped_extents.ensures ∙ ap (λ (ch : Change). damage_of ch d) (sym c.in-Reshape.is)

pub returns-in-Reshape-clause-outside : goal.returns-in-Reshape-clause-outside
returns-in-Reshape-clause-outside c = keeps c.args.change.now c.args.self.now (subst IsWellFormed c.self.view_is c.self.invariant.well_formed) c.requires c.reshaped_extents.result (returns-in-Reshape-clause-value c)

pub returns-in-Show-clause-value : goal.returns-in-Show-clause-value
returns-in-Show-clause-value c =
    let d : Contents = c.args.self.now in
    let well : IsWellFormed d = subst IsWellFormed c.self.view_is c.self.invariant.well_formed in
    let fits : Fits (change.Show c.in-Show.id c.in-Show.hidden) d = subst (λ (ch : Change). Fits ch d) c.in-Show.is c.requires in
    show-damage c.in-Show.id c.in-Show.hidden d well fits c.extent_at.result c.extent_at.ensures ∙ ap (λ (ch : Change). damage_of ch d) (sym c.in-Show.is)

pub returns-in-Show-clause-outside : goal.returns-in-Show-clause-outside
returns-in-Show-clause-outside c = keeps c.args.change.now c.args.self.now (subst IsWellFormed c.self.view_is c.self.invariant.well_formed) c.requires c.extent_at.result (returns-in-Show-clause-value c)

pub returns-in-Delete-clause-value : goal.returns-in-Delete-clause-value
returns-in-Delete-clause-value c =
    let d : Contents = c.args.self.now in
    let well : IsWellFormed d = subst IsWellFormed c.self.view_is c.self.invariant.well_formed in
    delete-damage c.in-Delete.id d well c.extent_at-in-Delete.result c.extent_at-in-Delete.ensures ∙ ap (λ (ch : Change). damage_of ch d) (sym c.in-Delete.is)

pub returns-in-Delete-clause-outside : goal.returns-in-Delete-clause-outside
returns-in-Delete-clause-outside c = keeps c.args.change.now c.args.self.now (subst IsWellFormed c.self.view_is c.self.invariant.well_formed) c.requires c.extent_at-in-Delete.result (returns-in-Delete-clause-value c)

pub returns-in-Respace-clause-value : goal.returns-in-Respace-clause-value
returns-in-Respace-clause-value c =
    let d : Contents = c.args.self.now in
    respace-damage c.in-Respace.parent d ∙ ap (λ (ch : Change). damage_of ch d) (sym c.in-Respace.is)

pub returns-in-Respace-clause-outside : goal.returns-in-Respace-clause-outside
returns-in-Respace-clause-outside c = keeps c.args.change.now c.args.self.now (subst IsWellFormed c.self.view_is c.self.invariant.well_formed) c.requires empty_box (returns-in-Respace-clause-value c)
