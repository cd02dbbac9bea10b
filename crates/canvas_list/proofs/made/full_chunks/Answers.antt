use Rattle.std.proofs.Common.{◌≡◌, ◌<◌, ◌≤◌, ◌∙◌, ◌++◌, ◌^◌, List, IfOk, ap, length, subst, sym}
use Rattle.std.proofs.lemmas.Iterator.Adapters.{YieldsList-from_vec}
use Rattle.std.proofs.lemmas.Iterator.Consumers.{YieldsList-end, YieldsList-turn}
use Rattle.std.proofs.lemmas.List.{map-id}
use Rattle.canvas_list.specs.declared.sizes.TheConstants.{MOST_IN_CHUNK}
use Rattle.canvas_list.proofs.Filled.{all-few, none-fewer, one-more, put-few, put-in, read-len, room-left}
use Rattle.canvas_list.proofs.made.full_chunks.Goals as goal

pub loop-item-init : goal.loop-item-init
loop-item-init g c = record {
  same = ap (λ (l : List g.row.T.Denot). l ++ c.in_ok-fresh.fresh.items) c.in_ok-list.ensures ∙ c.in_ok-fresh.ensures.items;
  room = none-fewer c.in_ok-fresh.fresh.items c.args.sizes.per_chunk c.in_ok-fresh.ensures.items c.args.sizes.fits.some;
}

pub new-requires : goal.new-requires
new-requires g c = record {
  some = subst (λ n. 0 < n) (sym (read-len c.push.new.self.items c.len-in-loop-item.result c.push.new.self.len c.args.sizes.per_chunk c.if-len-per_chunk.true c.len-in-loop-item.ensures c.push.new.self.ok.0)) c.args.sizes.fits.some;
  fits = subst (λ n. n ≤ MOST_IN_CHUNK) (sym (read-len c.push.new.self.items c.len-in-loop-item.result c.push.new.self.len c.args.sizes.per_chunk c.if-len-per_chunk.true c.len-in-loop-item.ensures c.push.new.self.ok.0)) c.args.sizes.fits.few;
}

pub and_part-requires : goal.and_part-requires
and_part-requires g c =
    let given = YieldsList-turn (YieldsList-from_vec {s = c.into_iter-item-iterator.result} c.args.items.items c.into_iter-item-iterator.ensures.into_iter_gives.0 (c.into_iter-item-iterator.ensures.into_iter_gives.1 ∙ c.args.items.ok.0)) c.loop-item.yielded c.loop-item.item-iterator c.loop-item.yielded_by c.next.result c.next.new.self c.in-Some.item c.in-Some.is c.next.ensures.steps in
    put-few c.loop-item.list c.loop-item.fresh.items c.push.new.self.items c.loop-item.yielded c.in_ok-new.field-0 _ c.in-Some.item (length c.args.items.items) (2 ^ 32) c.in_ok-push.ensures.items c.loop-item.invariant.same c.list-in-loop-item.view_is c.in_ok-new.ensures given.0 c.requires

pub loop-item-preserved-then-len-per_chunk : goal.loop-item-preserved-then-len-per_chunk
loop-item-preserved-then-len-per_chunk g c =
    record {
      same = put-in c.loop-item.list c.loop-item.fresh.items c.push.new.self.items c.loop-item.yielded c.in_ok-list-2.list c.in_ok-fresh-2.fresh.items c.in-Some.item c.in_ok-push.ensures.items c.loop-item.invariant.same (c.in_ok-list-2.ensures ∙ ap (λ (l : List g.row.T.Denot). l ++ c.in_ok-new.field-0) c.list-in-loop-item.view_is ∙ ap (λ (l : List g.row.T.Denot). c.loop-item.list ++ l) c.in_ok-new.ensures) c.in_ok-fresh-2.ensures.items;
      room = none-fewer c.in_ok-fresh-2.fresh.items c.args.sizes.per_chunk c.in_ok-fresh-2.ensures.items c.args.sizes.fits.some;
    }

pub loop-item-preserved : goal.loop-item-preserved
loop-item-preserved g c = record {
  same = one-more c.loop-item.list c.loop-item.fresh.items c.push.new.self.items c.loop-item.yielded c.in-Some.item c.in_ok-push.ensures.items c.loop-item.invariant.same;
  room = room-left c.loop-item.fresh.items c.push.new.self.items c.in-Some.item c.len-in-loop-item.result c.push.new.self.len c.args.sizes.per_chunk c.in_ok-push.ensures.items c.loop-item.invariant.room c.if-len-per_chunk.false c.len-in-loop-item.ensures c.push.new.self.ok.0;
}

pub and_contents-requires : goal.and_contents-requires
and_contents-requires g c =
    let given = YieldsList-end (YieldsList-from_vec {s = c.into_iter-item-iterator.result} c.args.items.items c.into_iter-item-iterator.ensures.into_iter_gives.0 (c.into_iter-item-iterator.ensures.into_iter_gives.1 ∙ c.args.items.ok.0)) c.loop-item.yielded c.loop-item.item-iterator c.loop-item.yielded_by c.next.result c.next.new.self c.in-None.is c.next.ensures.steps in
    all-few c.loop-item.list c.loop-item.fresh.items c.loop-item.yielded (length c.args.items.items) (2 ^ 32) c.loop-item.invariant.same given.1 c.requires

pub returns : goal.returns
returns g c =
    let given = YieldsList-end (YieldsList-from_vec {s = c.into_iter-item-iterator.result} c.args.items.items c.into_iter-item-iterator.ensures.into_iter_gives.0 (c.into_iter-item-iterator.ensures.into_iter_gives.1 ∙ c.args.items.ok.0)) c.loop-item.yielded c.loop-item.item-iterator c.loop-item.yielded_by c.next.result c.next.new.self c.in-None.is c.next.ensures.steps in
    subst (λ (l : List g.row.T.Denot). IfOk c.and_contents.result (λ (list : List g.row.T.Denot). list ≡ l)) (c.loop-item.invariant.same ∙ sym (map-id c.loop-item.yielded) ∙ given.0) c.and_contents.ensures
