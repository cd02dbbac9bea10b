use Rattle.std.proofs.Common.{◌^◌, ◌≡◌, ◌∙◌, ◌++◌, ◌<◌, List, ap, arith, length}
use Rattle.canvas_list.proofs.Between.{small-piece}
use Rattle.std.proofs.lemmas.List.{append_assoc, length-append}
use Rattle.canvas_list.proofs.table.Table.and_contents.Goals as goal

-- a part goes from the rest to the list
passed-on : {X : Type 0} (all list rest part got behind made : List X) → list ++ rest ≡ all → got ≡ part → part ++ behind ≡ rest → made ≡ list ++ got → made ++ behind ≡ all
passed-on all list rest part got behind made whole same both is =
    ap (λ l. l ++ behind) is ∙ ap (λ l. (list ++ l) ++ behind) same ∙ append_assoc list part behind ∙ ap (λ l. list ++ l) both ∙ whole

pub parts-preserved : goal.parts-preserved
parts-preserved g c =
    passed-on (c.args.self ++ g.C.Contents.list c.args.contents) c.parts.list (g.C.Contents.list c.parts.rest) (g.C.Contents.list c.in_ok-part.part) c.in_ok-new.field-0 (g.C.Contents.list c.in_ok-part.behind) c.in_ok-list.list
    c.parts.invariant c.in_ok-new.ensures c.in_ok-part.ensures.both (c.in_ok-list.ensures ∙ ap (λ (l : List g.row.T.Denot). l ++ c.in_ok-new.field-0) c.list.view_is)

pub parts-smaller : goal.parts-smaller
parts-smaller g c =
    let rest : 0 < length (g.C.Contents.list c.parts.rest) = omega (arith, c.parts-test.true, c.count.ensures.count) in
    let smaller : length (g.C.Contents.list c.in_ok-part.behind) < length (g.C.Contents.list c.parts.rest) = omega (arith, ap length c.in_ok-part.ensures.both, length-append (g.C.Contents.list c.in_ok-part.part) (g.C.Contents.list c.in_ok-part.behind), c.in_ok-part.ensures.some rest) in
    smaller

pub and_part-requires : goal.and_part-requires
and_part-requires g c =
    small-piece c.args.self (g.C.Contents.list c.args.contents) c.parts.list _ (g.C.Contents.list c.parts.rest) (g.C.Contents.list c.in_ok-part.part) c.in_ok-new.field-0 (g.C.Contents.list c.in_ok-part.behind) (2 ^ 32)
    c.parts.invariant c.list.view_is c.in_ok-new.ensures c.in_ok-part.ensures.both c.requires
