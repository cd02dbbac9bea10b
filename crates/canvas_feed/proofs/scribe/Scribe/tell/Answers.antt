use Rattle.std.proofs.Common.{◌≡◌, ◌+◌, ◌++◌, ◌∷◌, [], List, ℕ, length, ap, ◌∙◌, sym, arith, append_assoc, length-append}
use Rattle.canvas_journal.specs.Lines.{recovered}
use Rattle.canvas_journal.proofs.Texts.{first_read, first_size, text_more}
use Rattle.canvas_feed.proofs.Feeds.{Tells-append}
use Rattle.canvas_feed.proofs.scribe.Scribe.tell.Goals as goal

-- one line more was read
read_on : (all rest line after : List ℕ) (done : List (List ℕ)) → recovered all ≡ done ++ recovered rest → recovered rest ≡ line ∷ recovered after → recovered all ≡ (done ++ line ∷ []) ++ recovered after
read_on all rest line after done so_far next = so_far ∙ ap (λ ls. done ++ ls) next ∙ sym (append_assoc done (line ∷ []) (recovered after))

pub loop-left-preserved : goal.loop-left-preserved
loop-left-preserved c =
    let before = c.loop-left.invariant in
    let line = c.in-Some.line.now in
    let after = c.in-Some.after.now in
    let first = first_read c.loop-left.rest.now line after c.in-Some.ensures.line.0 c.in-Some.ensures.line.1 in
    record {
      done = before.done ++ line ∷ [];
      count = omega (arith, before.count, length-append before.done (line ∷ []));
      read = read_on c.args.bytes.now c.loop-left.rest.now line after before.done before.read first;
      size = omega (arith, before.size, text_more before.done line, first_size c.loop-left.rest.now line after c.in-Some.ensures.line.0);
      told = Tells-append _ _ _ before.done (line ∷ []) before.told c.in_ok-tell_line.ensures;
    }
