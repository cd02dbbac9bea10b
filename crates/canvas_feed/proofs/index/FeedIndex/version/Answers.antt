use Rattle.std.proofs.Common.{◌≡◌, ℕ, ◌-◌, List, ◌∷◌, length, ap, arith, rules}
use Rattle.canvas_record.specs.Contents.{Contents}
use Rattle.canvas_feed.specs.Feed.{feed_ends, opening_line, whole_ends}
use Rattle.canvas_feed.proofs.Feeds.{length-ends}
use Rattle.canvas_feed.proofs.index.FeedIndex.version.Goals as goal

counted : (generation : ℕ) (d : Contents) (lines : List (List ℕ)) (ends : List ℕ) (r : ℕ) → r ≡ length ends - 1 → ends ≡ whole_ends generation d lines → r ≡ length lines
unfolding whole_ends
counted generation d lines ends r is whole =
    let at : ℕ = length (opening_line generation d) in
    let size : length ends ≡ length (at ∷ feed_ends d 0 at lines) = ap length whole in
    omega (arith, is, size, length-ends d 0 at lines)

pub returns-clause-lines : goal.returns-clause-lines
returns-clause-lines c =
    let is : c.saturating_sub.result ≡ length c.args.self.now - 1 = search rules in
    λ generation d lines whole. counted generation d lines c.args.self.now c.saturating_sub.result is whole
