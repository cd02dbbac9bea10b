use Rattle.std.proofs.Common.{◌≡◌, ◌∙◌, ◌-◌, ◌++◌, ◌<◌, ◌^◌, List, IfOk, arith, drop, length, refl, slice_range, subst, take}
use Rattle.canvas_list.specs.Changed.{changed}
use Rattle.canvas_list.specs.Chunks.{joined}
use Rattle.canvas_list.proofs.Joined.{few-all, len-is}
use Rattle.canvas_list.proofs.Kept.{few-changed}
use Rattle.canvas_list.proofs.Spliced.{changed-in, few-ends, of-about, part-small, place-of, same-ends}
use Rattle.canvas_list.proofs.table.Table.remade.Goals as goal

pub part_about-span-requires : goal.part_about-span-requires
part_about-span-requires g c = few-all c.self.inside.parts.items c.deref.result.now c.self.inside.count c.self.invariant c.deref.ensures.value

pub merged-requires : goal.merged-requires
merged-requires g c =
    let p = of-about c.self.inside.parts.items c.deref-2.result.now c.deref.result.now c.args.self.now c.self.inside.count c.part_about-span.result.first c.part_about-span.result.end c.part_about-span.result.start c.args.at (joined (slice_range c.deref-2.result.now c.part_about-span.result.first c.part_about-span.result.end)) c.self.invariant c.deref.ensures.value c.part_about-span.ensures c.self.view_is c.deref-2.ensures.value refl in
    let few : length c.args.self.now < 2 ^ 32 = omega (arith, len-is c.self.inside.parts.items c.self.inside.count c.args.self.now c.self.invariant c.self.view_is, c.self.invariant.is_small) in
    omega (arith, few, part-small c.self.inside.parts.items c.deref-2.result.now c.args.self.now c.part_about-span.result.first c.part_about-span.result.end c.part_about-span.result.start c.args.at (joined (slice_range c.deref-2.result.now c.part_about-span.result.first c.part_about-span.result.end)) p c.deref-2.ensures.value)

pub after-requires : goal.after-requires
after-requires g c =
    let p = of-about c.self.inside.parts.items c.deref-2.result.now c.deref.result.now c.args.self.now c.self.inside.count c.part_about-span.result.first c.part_about-span.result.end c.part_about-span.result.start c.args.at (g.C.Contents.list c.in_ok-old.old) c.self.invariant c.deref.ensures.value c.part_about-span.ensures c.self.view_is c.deref-2.ensures.value c.in_ok-old.ensures in
    place-of c.self.inside.parts.items c.deref-2.result.now c.args.self.now c.part_about-span.result.first c.part_about-span.result.end c.part_about-span.result.start c.args.at (g.C.Contents.list c.in_ok-old.old) p c.deref-2.ensures.value (g.C.Contents.list c.in_ok-old.old) c.args.change refl c.requires

pub spliced-requires : goal.spliced-requires
spliced-requires g c =
    let p = of-about c.self.inside.parts.items c.deref-2.result.now c.deref.result.now c.args.self.now c.self.inside.count c.part_about-span.result.first c.part_about-span.result.end c.part_about-span.result.start c.args.at (g.C.Contents.list c.in_ok-old.old) c.self.invariant c.deref.ensures.value c.part_about-span.ensures c.self.view_is c.deref-2.ensures.value c.in_ok-old.ensures in
    let whole : joined (take c.part_about-span.result.first c.deref-3.result.now) ++ g.C.Contents.list c.in_ok-new.new ++ joined (take (length c.deref-4.result.now - c.part_about-span.result.end) (drop c.part_about-span.result.end c.deref-4.result.now)) ≡ changed c.args.change c.args.at c.args.self.now =
    same-ends c.self.inside.parts.items c.deref-3.result.now c.deref-4.result.now c.part_about-span.result.first c.part_about-span.result.end (g.C.Contents.list c.in_ok-new.new) c.deref-3.ensures.value c.deref-4.ensures.value
    ∙ changed-in c.self.inside.parts.items c.self.inside.parts.items c.args.self.now c.part_about-span.result.first c.part_about-span.result.end c.part_about-span.result.start c.args.at (g.C.Contents.list c.in_ok-old.old) p refl (g.C.Contents.list c.in_ok-old.old) (g.C.Contents.list c.in_ok-new.new) c.args.change refl c.in_ok-new.ensures c.requires in
    let few : length c.args.self.now < 2 ^ 32 = omega (arith, len-is c.self.inside.parts.items c.self.inside.count c.args.self.now c.self.invariant c.self.view_is, c.self.invariant.is_small) in
    few-ends (joined (take c.part_about-span.result.first c.deref-3.result.now)) (g.C.Contents.list c.in_ok-new.new) (joined (take (length c.deref-4.result.now - c.part_about-span.result.end) (drop c.part_about-span.result.end c.deref-4.result.now))) (changed c.args.change c.args.at c.args.self.now) (2 ^ 32) whole (few-changed c.args.change c.args.at c.args.self.now c.requires few)

pub returns : goal.returns
returns g c =
    let p = of-about c.self.inside.parts.items c.deref-2.result.now c.deref.result.now c.args.self.now c.self.inside.count c.part_about-span.result.first c.part_about-span.result.end c.part_about-span.result.start c.args.at (g.C.Contents.list c.in_ok-old.old) c.self.invariant c.deref.ensures.value c.part_about-span.ensures c.self.view_is c.deref-2.ensures.value c.in_ok-old.ensures in
    let whole : joined (take c.part_about-span.result.first c.deref-3.result.now) ++ g.C.Contents.list c.in_ok-new.new ++ joined (take (length c.deref-4.result.now - c.part_about-span.result.end) (drop c.part_about-span.result.end c.deref-4.result.now)) ≡ changed c.args.change c.args.at c.args.self.now =
    same-ends c.self.inside.parts.items c.deref-3.result.now c.deref-4.result.now c.part_about-span.result.first c.part_about-span.result.end (g.C.Contents.list c.in_ok-new.new) c.deref-3.ensures.value c.deref-4.ensures.value
    ∙ changed-in c.self.inside.parts.items c.self.inside.parts.items c.args.self.now c.part_about-span.result.first c.part_about-span.result.end c.part_about-span.result.start c.args.at (g.C.Contents.list c.in_ok-old.old) p refl (g.C.Contents.list c.in_ok-old.old) (g.C.Contents.list c.in_ok-new.new) c.args.change refl c.in_ok-new.ensures c.requires in
    subst (λ (l : List g.row.T.Denot). IfOk c.spliced.result (λ (list : List g.row.T.Denot). list ≡ l)) whole c.spliced.ensures
