use Rattle.std.proofs.Common.{◌∙◌, ◌<◌, ◌-◌, List, ap, get_or, length, refl, subst, sym}
use Rattle.std.specs.List.{insert}
use Rattle.std.specs.Result.{is_ok}
use Rattle.canvas_list.specs.Chunks.{joined, IsTable}
use Rattle.canvas_list.proofs.Joined.{has-chunk, search-some}
use Rattle.canvas_list.proofs.Kept.{if-made}
use Rattle.canvas_list.proofs.Moved.{as-many, goal-fits, is-move, items-changed, items-within, same-part, table-changed, table-within, to-small}
use Rattle.canvas_list.proofs.block.TableContents.shift.Goals as goal

pub spots_of-place-requires-clause-some : goal.spots_of-place-requires-clause-some
spots_of-place-requires-clause-some g c = search-some c.self.inside.parts.items c.deref.result.now c.deref.ensures.value (has-chunk c.self.inside.parts.items c.args.self.now c.args.from c.self.view_is c.requires.from)

pub spots_of-place-requires-clause-to : goal.spots_of-place-requires-clause-to
spots_of-place-requires-clause-to g c = to-small c.self.inside.parts.items c.self.inside.count c.args.self.now c.args.to c.self.invariant c.self.view_is c.requires.to

pub shift-requires-clause-from : goal.shift-requires-clause-from
shift-requires-clause-from g c =
    let move = is-move c.self.inside.parts.items c.deref.result.now c.deref.result.now c.args.self.now c.self.inside.count c.spots_of-place.result.0.chunk c.spots_of-place.result.0.start c.spots_of-place.result.1.chunk c.spots_of-place.result.1.start c.args.from c.args.to c.spots_of-place.result.2 c.index_mut.result.now c.index_mut.result.now
    c.self.invariant c.self.view_is c.deref.ensures.value c.spots_of-place.ensures.source c.deref.ensures.value c.spots_of-place.ensures.target
    c.index_mut.ensures.value (c.index_mut.ensures.value ∙ ap (λ i. get_or c.self.inside.parts.items i c.index_mut.result.now) c.if-source-target.true)
    c.requires.from c.requires.to c.spots_of-place.ensures.behind c.spots_of-place.ensures.before in
    move.source.place.before c.requires.from

pub shift-requires-clause-to : goal.shift-requires-clause-to
shift-requires-clause-to g c =
    let move = is-move c.self.inside.parts.items c.deref.result.now c.deref.result.now c.args.self.now c.self.inside.count c.spots_of-place.result.0.chunk c.spots_of-place.result.0.start c.spots_of-place.result.1.chunk c.spots_of-place.result.1.start c.args.from c.args.to c.spots_of-place.result.2 c.index_mut.result.now c.index_mut.result.now
    c.self.invariant c.self.view_is c.deref.ensures.value c.spots_of-place.ensures.source c.deref.ensures.value c.spots_of-place.ensures.target
    c.index_mut.ensures.value (c.index_mut.ensures.value ∙ ap (λ i. get_or c.self.inside.parts.items i c.index_mut.result.now) c.if-source-target.true)
    c.requires.from c.requires.to c.spots_of-place.ensures.behind c.spots_of-place.ensures.before in
    (same-part c.self.inside.parts.items c.args.self.now c.spots_of-place.result.0.chunk c.spots_of-place.result.0.start c.spots_of-place.result.1.chunk c.spots_of-place.result.1.start c.args.from c.args.to c.spots_of-place.result.2 c.index_mut.result.now c.index_mut.result.now move c.if-source-target.true).1

pub two_of-part-requires-clause-first : goal.two_of-part-requires-clause-first
two_of-part-requires-clause-first g c = subst (λ (l : List (List g.row.T.Denot)). c.spots_of-place.result.0.chunk < length l) (c.deref.ensures.value ∙ sym c.deref_mut.ensures.value) c.spots_of-place.ensures.source.within

pub two_of-part-requires-clause-second : goal.two_of-part-requires-clause-second
two_of-part-requires-clause-second g c = subst (λ (l : List (List g.row.T.Denot)). c.spots_of-place.result.1.chunk < length l) (c.deref.ensures.value ∙ sym c.deref_mut.ensures.value) c.spots_of-place.ensures.target.within

pub change-requires-clause-place : goal.change-requires-clause-place
change-requires-clause-place g c =
    let move = is-move c.self.inside.parts.items c.deref.result.now c.deref.result.now c.args.self.now c.self.inside.count c.spots_of-place.result.0.chunk c.spots_of-place.result.0.start c.spots_of-place.result.1.chunk c.spots_of-place.result.1.start c.args.from c.args.to c.spots_of-place.result.2 c.two_of-part.result.0.now c.two_of-part.result.1.now
    c.self.invariant c.self.view_is c.deref.ensures.value c.spots_of-place.ensures.source c.deref.ensures.value c.spots_of-place.ensures.target
    (c.two_of-part.ensures.first ∙ ap (λ l. get_or l c.spots_of-place.result.0.chunk c.two_of-part.result.0.now) c.deref_mut.ensures.value)
    (c.two_of-part.ensures.second ∙ ap (λ l. get_or l c.spots_of-place.result.1.chunk c.two_of-part.result.1.now) c.deref_mut.ensures.value)
    c.requires.from c.requires.to c.spots_of-place.ensures.behind c.spots_of-place.ensures.before in
    move.source.place.before c.requires.from

pub change-requires-clause-other : goal.change-requires-clause-other
change-requires-clause-other g c =
    let move = is-move c.self.inside.parts.items c.deref.result.now c.deref.result.now c.args.self.now c.self.inside.count c.spots_of-place.result.0.chunk c.spots_of-place.result.0.start c.spots_of-place.result.1.chunk c.spots_of-place.result.1.start c.args.from c.args.to c.spots_of-place.result.2 c.two_of-part.result.0.now c.two_of-part.result.1.now
    c.self.invariant c.self.view_is c.deref.ensures.value c.spots_of-place.ensures.source c.deref.ensures.value c.spots_of-place.ensures.target
    (c.two_of-part.ensures.first ∙ ap (λ l. get_or l c.spots_of-place.result.0.chunk c.two_of-part.result.0.now) c.deref_mut.ensures.value)
    (c.two_of-part.ensures.second ∙ ap (λ l. get_or l c.spots_of-place.result.1.chunk c.two_of-part.result.1.now) c.deref_mut.ensures.value)
    c.requires.from c.requires.to c.spots_of-place.ensures.behind c.spots_of-place.ensures.before in
    (goal-fits c.self.inside.parts.items c.args.self.now c.spots_of-place.result.0.chunk c.spots_of-place.result.0.start c.spots_of-place.result.1.chunk c.spots_of-place.result.1.start c.args.from c.args.to c.spots_of-place.result.2 c.two_of-part.result.0.now c.two_of-part.result.1.now move c.self.inside.count c.self.invariant c.if-source-target.false, c.if-not-may_pass.ensures.room refl c.two_of-part.result.1.now (c.two_of-part.ensures.second ∙ ap (λ l. get_or l c.spots_of-place.result.1.chunk c.two_of-part.result.1.now) (c.deref_mut.ensures.value ∙ sym c.deref-2.ensures.value)))

pub invariant_of-self : goal.invariant_of-self
invariant_of-self g c =
    let move = is-move c.self.inside.parts.items c.deref.result.now c.deref.result.now c.args.self.now c.self.inside.count c.spots_of-place.result.0.chunk c.spots_of-place.result.0.start c.spots_of-place.result.1.chunk c.spots_of-place.result.1.start c.args.from c.args.to c.spots_of-place.result.2 c.index_mut.result.now c.index_mut.result.now
    c.self.invariant c.self.view_is c.deref.ensures.value c.spots_of-place.ensures.source c.deref.ensures.value c.spots_of-place.ensures.target
    c.index_mut.ensures.value (c.index_mut.ensures.value ∙ ap (λ i. get_or c.self.inside.parts.items i c.index_mut.result.now) c.if-source-target.true)
    c.requires.from c.requires.to c.spots_of-place.ensures.behind c.spots_of-place.ensures.before in
    table-within c.self.inside.parts.items c.args.self.now c.spots_of-place.result.0.chunk c.spots_of-place.result.0.start c.spots_of-place.result.1.chunk c.spots_of-place.result.1.start c.args.from c.args.to c.spots_of-place.result.2 c.index_mut.result.now c.index_mut.result.now move (is_ok c.shift.result) c.self.inside.count c.shift.new.self c.args.item c.self.invariant c.if-source-target.true c.shift.ensures

pub invariant_of-self-2 : goal.invariant_of-self-2
invariant_of-self-2 g c =
    let move = is-move c.self.inside.parts.items c.deref.result.now c.deref.result.now c.args.self.now c.self.inside.count c.spots_of-place.result.0.chunk c.spots_of-place.result.0.start c.spots_of-place.result.1.chunk c.spots_of-place.result.1.start c.args.from c.args.to c.spots_of-place.result.2 c.two_of-part.result.0.now c.two_of-part.result.1.now
    c.self.invariant c.self.view_is c.deref.ensures.value c.spots_of-place.ensures.source c.deref.ensures.value c.spots_of-place.ensures.target
    (c.two_of-part.ensures.first ∙ ap (λ l. get_or l c.spots_of-place.result.0.chunk c.two_of-part.result.0.now) c.deref_mut.ensures.value)
    (c.two_of-part.ensures.second ∙ ap (λ l. get_or l c.spots_of-place.result.1.chunk c.two_of-part.result.1.now) c.deref_mut.ensures.value)
    c.requires.from c.requires.to c.spots_of-place.ensures.behind c.spots_of-place.ensures.before in
    subst (λ (l : List (List g.row.T.Denot)). IsTable l c.self.inside.count)
    (sym (as-many c.self.inside.parts.items c.deref_mut.result.now c.self.inside.parts.len c.spots_of-place.result.0.chunk c.spots_of-place.result.1.chunk c.change.new.self c.change.new.other c.self.inside.parts.ok.0 c.deref_mut.ensures.value))
    (table-changed c.self.inside.parts.items c.args.self.now c.spots_of-place.result.0.chunk c.spots_of-place.result.0.start c.spots_of-place.result.1.chunk c.spots_of-place.result.1.start c.args.from c.args.to c.spots_of-place.result.2 c.two_of-part.result.0.now c.two_of-part.result.1.now move (is_ok c.change.result) c.self.inside.count c.change.new.self c.change.new.other c.args.item c.self.invariant c.change.ensures.some c.change.ensures.items (if-made c.change.result c.change.new.other (insert c.two_of-part.result.1.now (c.spots_of-place.result.2 - c.spots_of-place.result.1.start) c.args.item) c.two_of-part.result.1.now c.change.ensures.made c.change.ensures.same) c.if-source-target.false)

pub returns-then-source-target : goal.returns-then-source-target
returns-then-source-target g c =
    let move = is-move c.self.inside.parts.items c.deref.result.now c.deref.result.now c.args.self.now c.self.inside.count c.spots_of-place.result.0.chunk c.spots_of-place.result.0.start c.spots_of-place.result.1.chunk c.spots_of-place.result.1.start c.args.from c.args.to c.spots_of-place.result.2 c.index_mut.result.now c.index_mut.result.now
    c.self.invariant c.self.view_is c.deref.ensures.value c.spots_of-place.ensures.source c.deref.ensures.value c.spots_of-place.ensures.target
    c.index_mut.ensures.value (c.index_mut.ensures.value ∙ ap (λ i. get_or c.self.inside.parts.items i c.index_mut.result.now) c.if-source-target.true)
    c.requires.from c.requires.to c.spots_of-place.ensures.behind c.spots_of-place.ensures.before in
    items-within c.self.inside.parts.items c.args.self.now c.spots_of-place.result.0.chunk c.spots_of-place.result.0.start c.spots_of-place.result.1.chunk c.spots_of-place.result.1.start c.args.from c.args.to c.spots_of-place.result.2 c.index_mut.result.now c.index_mut.result.now move (is_ok c.shift.result) c.shift.new.self c.args.item c.if-source-target.true c.shift.ensures

pub returns : goal.returns
returns g c =
    let move = is-move c.self.inside.parts.items c.deref.result.now c.deref.result.now c.args.self.now c.self.inside.count c.spots_of-place.result.0.chunk c.spots_of-place.result.0.start c.spots_of-place.result.1.chunk c.spots_of-place.result.1.start c.args.from c.args.to c.spots_of-place.result.2 c.two_of-part.result.0.now c.two_of-part.result.1.now
    c.self.invariant c.self.view_is c.deref.ensures.value c.spots_of-place.ensures.source c.deref.ensures.value c.spots_of-place.ensures.target
    (c.two_of-part.ensures.first ∙ ap (λ l. get_or l c.spots_of-place.result.0.chunk c.two_of-part.result.0.now) c.deref_mut.ensures.value)
    (c.two_of-part.ensures.second ∙ ap (λ l. get_or l c.spots_of-place.result.1.chunk c.two_of-part.result.1.now) c.deref_mut.ensures.value)
    c.requires.from c.requires.to c.spots_of-place.ensures.behind c.spots_of-place.ensures.before in
    ap joined (as-many c.self.inside.parts.items c.deref_mut.result.now c.self.inside.parts.len c.spots_of-place.result.0.chunk c.spots_of-place.result.1.chunk c.change.new.self c.change.new.other c.self.inside.parts.ok.0 c.deref_mut.ensures.value)
    ∙ items-changed c.self.inside.parts.items c.args.self.now c.spots_of-place.result.0.chunk c.spots_of-place.result.0.start c.spots_of-place.result.1.chunk c.spots_of-place.result.1.start c.args.from c.args.to c.spots_of-place.result.2 c.two_of-part.result.0.now c.two_of-part.result.1.now move (is_ok c.change.result) c.change.new.self c.change.new.other c.args.item c.change.ensures.items (if-made c.change.result c.change.new.other (insert c.two_of-part.result.1.now (c.spots_of-place.result.2 - c.spots_of-place.result.1.start) c.args.item) c.two_of-part.result.1.now c.change.ensures.made c.change.ensures.same) c.if-source-target.false
