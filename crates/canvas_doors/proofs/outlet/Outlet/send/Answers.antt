use Rattle.std.proofs.Common.{◌≡◌, ◌++◌, length, subst, take, rules}
use Rattle.std.specs.Io.KnownBytes.{Appends}
use Rattle.canvas_doors.proofs.Written.{sent_all}
use Rattle.canvas_doors.proofs.outlet.Outlet.send.Goals as goal

pub returns-then-held-sent-clause-bytes : goal.returns-then-held-sent-clause-bytes
returns-then-held-sent-clause-bytes g c =
    let old = g.W.Write.contents c.args.self.now.writer in
    let new = g.W.Write.contents c.write_two.new.self in
    let held = c.args.self.now.held.items in
    let bytes = c.args.bytes.now in
    let n = c.in_ok-sent.sent in
    let count : c.len-held.result ≡ length held = search rules in
    let wrote = subst (λ shown. Appends old new (take n (shown ++ bytes))) c.deref.ensures.value c.in_ok-sent.ensures.bytes in
    sent_all old new held bytes _ c.len-held.result n count c.if-held-sent.true c.clear.ensures.items wrote
