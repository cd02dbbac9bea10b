use Rattle.std.proofs.Common.{◌≡◌, [], ◌∷◌, ◌++◌, length, take, ◌∙◌, ap}
use Rattle.canvas_journal.specs.Lines.{recovered, text}
use Rattle.canvas_journal.proofs.Renewal.{written_is, written_rests, rests, in_rewrite}
use Rattle.canvas_journal.proofs.journal.renew.Goals as goal

pub returns-in_err-rewrite-clause-any_moment : goal.returns-in_err-rewrite-clause-any_moment
returns-in_err-rewrite-clause-any_moment g c =
    let file = g.D.Device.seen c.args.device.now in
    let ends : c.in_ok-lines.lines.end ≡ length (text (recovered file)) = c.in_ok-lines.ensures.end ∙ ap (λ f. length (text (recovered f))) (c.deref.ensures.value ∙ c.in_ok-bytes.ensures.bytes) in
    let cut : c.truncate.new.self.items ≡ take c.in_ok-lines.lines.end file = c.truncate.ensures.items ∙ ap (take c.in_ok-lines.lines.end) c.in_ok-bytes.ensures.bytes in
    let pushed : c.deref-2.result.now ≡ c.truncate.new.self.items ++ 10 ∷ [] = c.deref-2.ensures.value ∙ c.in_ok-extend_from_slice.ensures.items in
    in_rewrite g.D.Device.seen g.D.Device.may_leave g.D.Device.moment g.D.Device.left_since c.args.device.now (g.met.D.Device.only_now c.args.device.now)
    c.read.new.self c.read.ensures.crash c.read.ensures.time
    c.rewrite.new.self c.deref-2.result.now (written_rests file c.in_ok-lines.lines.end ends c.truncate.new.self.items c.deref-2.result.now cut pushed) c.rewrite.ensures.crash c.rewrite.ensures.time

pub returns-clause-any_moment : goal.returns-clause-any_moment
returns-clause-any_moment g c =
    let file = g.D.Device.seen c.args.device.now in
    let ends : c.in_ok-lines.lines.end ≡ length (text (recovered file)) = c.in_ok-lines.ensures.end ∙ ap (λ f. length (text (recovered f))) (c.deref.ensures.value ∙ c.in_ok-bytes.ensures.bytes) in
    let cut : c.truncate.new.self.items ≡ take c.in_ok-lines.lines.end file = c.truncate.ensures.items ∙ ap (take c.in_ok-lines.lines.end) c.in_ok-bytes.ensures.bytes in
    let pushed : c.deref-2.result.now ≡ c.truncate.new.self.items ++ 10 ∷ [] = c.deref-2.ensures.value ∙ c.in_ok-extend_from_slice.ensures.items in
    in_rewrite g.D.Device.seen g.D.Device.may_leave g.D.Device.moment g.D.Device.left_since c.args.device.now (g.met.D.Device.only_now c.args.device.now)
    c.read.new.self c.read.ensures.crash c.read.ensures.time
    c.rewrite.new.self c.deref-2.result.now (written_rests file c.in_ok-lines.lines.end ends c.truncate.new.self.items c.deref-2.result.now cut pushed) c.rewrite.ensures.crash c.rewrite.ensures.time

pub returns-clause-at_rest : goal.returns-clause-at_rest
returns-clause-at_rest g c =
    let file = g.D.Device.seen c.args.device.now in
    let ends : c.in_ok-lines.lines.end ≡ length (text (recovered file)) = c.in_ok-lines.ensures.end ∙ ap (λ f. length (text (recovered f))) (c.deref.ensures.value ∙ c.in_ok-bytes.ensures.bytes) in
    let cut : c.truncate.new.self.items ≡ take c.in_ok-lines.lines.end file = c.truncate.ensures.items ∙ ap (take c.in_ok-lines.lines.end) c.in_ok-bytes.ensures.bytes in
    let pushed : c.deref-2.result.now ≡ c.truncate.new.self.items ++ 10 ∷ [] = c.deref-2.ensures.value ∙ c.in_ok-extend_from_slice.ensures.items in
    c.in_ok-rewrite.ensures.written ∙ written_is file c.in_ok-lines.lines.end ends c.truncate.new.self.items c.deref-2.result.now cut pushed

pub returns-clause-same : goal.returns-clause-same
returns-clause-same g c =
    let file = g.D.Device.seen c.args.device.now in
    let ends : c.in_ok-lines.lines.end ≡ length (text (recovered file)) = c.in_ok-lines.ensures.end ∙ ap (λ f. length (text (recovered f))) (c.deref.ensures.value ∙ c.in_ok-bytes.ensures.bytes) in
    ap recovered (returns-clause-at_rest g c) ∙ rests file c.in_ok-lines.lines.end ends
