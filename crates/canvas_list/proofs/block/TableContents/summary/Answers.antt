use Rattle.std.proofs.Common.{◌≡◌, ◌∙◌, ◌-◌, ◌<◌, All, List, drop, get_or, length, subst, sym, take}
use Rattle.std.proofs.lemmas.List.Elements.{All-append, All-weaker}
use Rattle.canvas_list.specs.Chunks.{joined}
use Rattle.canvas_list.proofs.Joined.{has-chunk, split_at}
use Rattle.canvas_list.proofs.Runs.{rest-joined}
use Rattle.canvas_list.proofs.block.TableContents.summary.Goals as goal

-- what holds of the items of the first chunk and of those of the others
all-of : {X : Type 0} (P : X → Type 0) (cs ds : List (List X)) (xs c : List X) → ds ≡ cs → joined cs ≡ xs → 0 < length cs → c ≡ get_or cs 0 c → All P c → All P (joined (take (length ds - 1) (drop 1 ds))) → All P xs
all-of P cs ds xs c e all some is first rest =
    subst (All P) (sym (split_at cs 0 c some) ∙ all) (All-append P (get_or cs 0 c) (joined (drop 1 cs)) (subst (All P) is first) (subst (All P) (rest-joined cs ds 1 e) rest))

pub returns : goal.returns
returns g c =
    all-of (g.T.Share.covers c.summed_parts.result) c.self.inside.parts.items c.deref.result.now c.args.self.now c.index.result.now c.deref.ensures.value c.self.view_is (has-chunk c.self.inside.parts.items c.args.self.now 0 c.self.view_is c.requires) c.index.ensures
    (All-weaker (g.T.Share.covers c.summary.result.now) (g.T.Share.covers c.summed_parts.result) c.summed_parts.ensures.other c.index.result.now c.summary.ensures) c.summed_parts.ensures.items
