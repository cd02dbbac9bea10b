use Rattle.std.proofs.Common.{◌≡◌, ◌++◌, ◌∷◌, [], List, ℕ, map, ◌∙◌, ap, rules}
use Rattle.std.proofs.lemmas.List.{map-append}
use Rattle.canvas_journal.proofs.FirstLine.{goes_on_reading, size_goes_on}
use Rattle.canvas_journal.proofs.reading.read_lines.Goals as goal

pub loop-line-preserved : goal.loop-line-preserved
loop-line-preserved c =
    let line : c.in_ok-to_vec.field-0.items ≡ c.in-Some.line.now = search rules in
    let next : map (λ v. v.items) c.push.new.self.items ≡ map (λ v. v.items) c.loop-line.lines.items ++ c.in-Some.line.now ∷ [] =
    ap (map (λ v. v.items)) c.in_ok-push.ensures.items ∙ map-append (λ v. v.items) c.loop-line.lines.items (c.in_ok-to_vec.field-0 ∷ []) ∙ ap (λ (l : List ℕ). map (λ v. v.items) c.loop-line.lines.items ++ l ∷ []) line in
    record {
      read = goes_on_reading _ _ c.in-Some.line.now c.loop-line.rest.now c.in-Some.after.now c.args.bytes.now c.loop-line.invariant.read c.in-Some.ensures.line.0 c.in-Some.ensures.line.1 next;
      size = size_goes_on _ _ c.in-Some.line.now c.loop-line.rest.now c.in-Some.after.now c.args.bytes.now c.loop-line.invariant.size c.in-Some.ensures.line.0 next;
    }
