use Rattle.std.proofs.Common.{◌≡◌, ◌+◌, ◌-◌, List, ℕ, length, ap, ◌∙◌, subst, take, drop, arith, refl}
use Rattle.std.specs.Io.KnownBytes.{Appends}
use Rattle.std.proofs.lemmas.List.{drop-drop, take_all, length-drop}
use Rattle.canvas_feed.proofs.Sent.{sent_more}
use Rattle.canvas_feed.proofs.sending.send_all.Goals as goal

rest_is : (bytes rest : List ℕ) (at n k : ℕ) → rest ≡ drop at bytes → k ≡ length rest - n → take k (drop n rest) ≡ drop (at + n) bytes
rest_is bytes rest at n k is len = take_all k (drop n rest) (omega (arith, len, length-drop n rest)) ∙ ap (drop n) is ∙ drop-drop n at bytes

pub loop-rest-preserved : goal.loop-rest-preserved
loop-rest-preserved g c =
    let before = c.loop-rest.invariant in
    let old = g.W.Write.contents c.loop-rest.writer in
    let new = g.W.Write.contents c.write.new.self in
    record {
      at = before.at + c.in-Ok.sent;
      rest = rest_is c.args.bytes.now c.loop-rest.rest.now before.at c.in-Ok.sent _ before.rest refl;
      sent = sent_more _ old new c.args.bytes.now before.at c.in-Ok.sent before.sent (subst (λ (l : List ℕ). Appends old new (take c.in-Ok.sent l)) before.rest c.in-Ok.ensures.bytes);
    }
