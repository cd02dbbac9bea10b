use Rattle.std.proofs.Common.{◌≡◌, ◌∙◌, List, ap, subst}
use Rattle.canvas_list.specs.Chunks.{joined, AllBetween}
use Rattle.canvas_list.proofs.Stretches.{stretch-same}
use Rattle.canvas_list.proofs.reader.Chunks+T.chunk_meeting.Goals as goal

pub returns : goal.returns
returns g c =
    let same : joined c.deref.result.now ≡ c.args.self.now = ap joined c.deref.ensures.value ∙ c.self.view_is in
    record {
      held = stretch-same (joined c.deref.result.now) c.args.self.now c.chunk_meeting.result.items.now (joined c.chunk_meeting.result.behind.now) (joined c.chunk_meeting.result.beyond.now) c.chunk_meeting.result.start c.chunk_meeting.result.beyond_start same c.chunk_meeting.ensures.held;
      on = c.chunk_meeting.ensures.on;
      apart = subst (λ (l : List g.row.T.Denot). AllBetween (g.T.Share.lies_apart c.args.sought.now) l 0 c.chunk_meeting.result.start) same c.chunk_meeting.ensures.apart;
    }
