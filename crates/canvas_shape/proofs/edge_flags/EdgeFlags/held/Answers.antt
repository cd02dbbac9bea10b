use Rattle.std.proofs.Common.{◌≡◌, ℕ, ◌<◌, ◌+◌, ◌*◌, ◌^◌, slice_index, rules}
use Rattle.canvas_shape.specs.Flags.{is_held}
use Rattle.canvas_shape.specs.Words.{has}
use Rattle.canvas_shape.proofs.FlagLaws.{last-held, carried-held, four-held}
use Rattle.canvas_shape.proofs.edge_flags.EdgeFlags.held.Goals as goal

pub returns : goal.returns
returns c =
    let words = c.args.self.now.words in
    let f0 : slice_index words 0 < 2 ^ 64 = search rules in
    let f1 : slice_index words 1 < 2 ^ 64 = search rules in
    let f2 : slice_index words 2 < 2 ^ 64 = search rules in
    let f3 : slice_index words 3 < 2 ^ 64 = search rules in
    let fourth : (i : ℕ) → i < 64 → has c.odd_from-fourth.result i ≡ is_held words (64 * 3 + i) =
    λ i lt. last-held words c.odd_from-fourth.result i lt f3 (c.odd_from-fourth.ensures i) in
    let third : (i : ℕ) → i < 64 → has c.carried-third.result i ≡ is_held words (64 * 2 + i) =
    λ i lt. carried-held words c.carried-third.result c.odd_from.result c.odd_from-fourth.result 2 i (search rules) lt f2 (c.odd_from.ensures i) (c.carried-third.ensures i lt) (fourth 0 (search rules)) in
    let second : (i : ℕ) → i < 64 → has c.carried-second.result i ≡ is_held words (64 * 1 + i) =
    λ i lt. carried-held words c.carried-second.result c.odd_from-2.result c.carried-third.result 1 i (search rules) lt f1 (c.odd_from-2.ensures i) (c.carried-second.ensures i lt) (third 0 (search rules)) in
    let first : (i : ℕ) → i < 64 → has c.carried-first.result i ≡ is_held words (64 * 0 + i) =
    λ i lt. carried-held words c.carried-first.result c.odd_from-3.result c.carried-second.result 0 i (search rules) lt f0 (c.odd_from-3.ensures i) (c.carried-first.ensures i lt) (second 0 (search rules)) in
    four-held words c.carried-first.result c.carried-second.result c.carried-third.result c.odd_from-fourth.result first second third fourth
