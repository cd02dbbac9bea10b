use Rattle.std.proofs.Common.{◌^◌, ◌≤◌, ◌∙◌, ◌++◌, All, List, ap, map, subst, sym}
use Rattle.canvas_plane.specs.declared.Point.{Point}
use Rattle.canvas_plane.specs.Motion.{carry, size_of}
use Rattle.canvas_scene.proofs.Carrying.{all-written}
use Rattle.canvas_scene.proofs.walk.carried.Goals as goal

pub returns-clause-value : goal.returns-clause-value
returns-clause-value c =
    let points = c.args.points.now in
    c.into_bump_slice.ensures
    ∙ all-written c.extend_from_slice.new.self.len c.deref_mut.result.now c.extend_from_slice.new.self.items c.carry_all.new.vertices _ c.extend_from_slice.new.self.ok.0 c.carry_all.auto.vertices c.deref_mut.ensures.value
    ∙ c.carry_all.ensures.value
    ∙ ap (map (carry c.args.page.now)) (c.deref_mut.ensures.value ∙ c.in_ok-extend_from_slice.ensures.items ∙ ap (λ l. l ++ points) c.in_ok-vertices.ensures.items)

pub returns-clause-near : goal.returns-clause-near
returns-clause-near c =
    let P : List Point → Type 0 = λ l. All (λ p. size_of p ≤ 2 ^ 27) l in
    let written = all-written c.extend_from_slice.new.self.len c.deref_mut.result.now c.extend_from_slice.new.self.items c.carry_all.new.vertices _ c.extend_from_slice.new.self.ok.0 c.carry_all.auto.vertices c.deref_mut.ensures.value in
    subst P (sym (c.into_bump_slice.ensures ∙ written)) c.carry_all.ensures.near
