use Rattle.std.proofs.Common.{◌≡◌, ◌++◌, ◌^◌, List, IfOk, refl, subst}
use Rattle.canvas_list.specs.Chunks.{joined}
use Rattle.canvas_list.proofs.Between.{put-together, small-first, small-last, small-next}
use Rattle.canvas_list.proofs.table.spliced.Goals as goal

pub and_all-requires : goal.and_all-requires
and_all-requires g c = small-first c.in_ok-with_room.field-0 (joined c.args.front.now) (g.C.Contents.list c.args.contents) (joined c.args.back.now) (2 ^ 32) c.in_ok-with_room.ensures c.requires

pub and_contents-requires : goal.and_contents-requires
and_contents-requires g c = small-next c.in_ok-with_room.field-0 (joined c.args.front.now) (g.C.Contents.list c.args.contents) (joined c.args.back.now) c.in_ok-and_all.field-0 (2 ^ 32) c.in_ok-with_room.ensures c.in_ok-and_all.ensures c.requires

pub and_all-requires-2 : goal.and_all-requires-2
and_all-requires-2 g c =
    small-last c.in_ok-with_room.field-0 (joined c.args.front.now) (g.C.Contents.list c.args.contents) (joined c.args.back.now) (joined c.args.back.now) c.in_ok-and_all.field-0 c.in_ok-and_contents.field-0 (2 ^ 32) c.in_ok-with_room.ensures c.in_ok-and_all.ensures c.in_ok-and_contents.ensures refl c.requires

pub returns : goal.returns
returns g c =
    let same : c.in_ok-and_contents.field-0 ++ joined c.args.back.now ≡ joined c.args.front.now ++ g.C.Contents.list c.args.contents ++ joined c.args.back.now =
    put-together c.in_ok-with_room.field-0 (joined c.args.front.now) (g.C.Contents.list c.args.contents) (joined c.args.back.now) (joined c.args.back.now) c.in_ok-and_all.field-0 c.in_ok-and_contents.field-0 c.in_ok-with_room.ensures c.in_ok-and_all.ensures c.in_ok-and_contents.ensures refl in
    subst (λ (l : List g.row.T.Denot). IfOk c.and_all-2.result (λ (list : List g.row.T.Denot). list ≡ l)) same c.and_all-2.ensures
