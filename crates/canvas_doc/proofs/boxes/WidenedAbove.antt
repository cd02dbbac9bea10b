-- The bounds of a group made wider, where those above hold them.
use Rattle.std.proofs.Common.{◌≡◌, ◌∙◌, ◌≤◌, ℕ, Bool, true, false, cond, List, Some, ap, arith, get_or, length, refl, set, subst, sym}
use Rattle.std.specs.List.{slice_get}
use Rattle.std.proofs.lemmas.List.{set-get_or}
use Rattle.std.proofs.lemmas.Option.{slice_get_read, slice_get_within, get_or_from_slice_get}
use Rattle.canvas_doc.specs.declared.bounds.Bounds.{Bounds}
use Rattle.canvas_record.specs.declared.records.Parent.TheVariants.{Shape}
use Rattle.canvas_record.specs.declared.records.Record.{Record}
use Rattle.canvas_doc.specs.Bounds.{AreBounds, IsHeldAbove, IsWithinBounds}
use Rattle.canvas_record.specs.Children.{is_child}
use Rattle.canvas_doc.proofs.boxes.BoundsLaws.{carried-within, own-within, within-itself}
use Rattle.canvas_doc.proofs.boxes.Rebounded.{changed-held, Suits}

-- an item is put where it stands, or not
pub stays-if : {X : Type 0} (made : Bool) (xs : List X) (at : ℕ) (x : X) → x ≡ get_or xs at x → cond made (set xs at x) xs ≡ xs
stays-if true xs at x e = ap (set xs at) e ∙ set-get_or xs at x
stays-if false xs at x e = refl

-- the bounds of a record that stands at a position, which are wider than before and held above
wider-kept : (order : List Record) (bounds : List Bounds) (k : ℕ) (g : Record) (h w : Bounds) → AreBounds order bounds → slice_get order k ≡ Some g → h ≡ get_or bounds k h → IsWithinBounds h w → g.pose.quarter ≤ 3 → is_child (Shape g.id) g ≡ false → IsHeldAbove order bounds g w → AreBounds order (set bounds k w)
wider-kept order bounds k g h w kept there here wider quarter alone above =
    let within = slice_get_within order k g there in
    let long : length bounds ≡ length order = kept.long in
    let held : slice_get bounds k ≡ Some h = slice_get_read bounds (length bounds) k h refl (omega (arith, within)) here in
    let suits : Suits order bounds g w = record {
      own = λ shown. own-within g.kind g.pose h w (kept.own k g h there held shown) wider;
      below = λ j s c ej ec child shown group. carried-within g.pose c c h w quarter (within-itself c) (kept.below k j g s h c there ej held ec child shown group) wider;
    } in
    subst (λ l. AreBounds l (set bounds k w)) (ap (set order k) (sym (get_or_from_slice_get order k g g there)) ∙ set-get_or order k g)
    (changed-held order bounds k g w kept within suits alone above)

-- the same, if they were changed
pub wider-if : (made : Bool) (order new : List Record) (bounds boxes : List Bounds) (k : ℕ) (g : Record) (h w : Bounds) → new ≡ order → boxes ≡ cond made (set bounds k w) bounds → AreBounds order bounds → slice_get order k ≡ Some g → h ≡ get_or bounds k h → IsWithinBounds h w → g.pose.quarter ≤ 3 → is_child (Shape g.id) g ≡ false → IsHeldAbove order bounds g w → AreBounds new boxes
wider-if true order new bounds boxes k g h w same is kept there here wider quarter alone above =
    subst (λ l. AreBounds l boxes) (sym same) (subst (AreBounds order) (sym is) (wider-kept order bounds k g h w kept there here wider quarter alone above))
wider-if false order new bounds boxes k g h w same is kept there here wider quarter alone above =
    subst (λ l. AreBounds l boxes) (sym same) (subst (AreBounds order) (sym is) kept)
