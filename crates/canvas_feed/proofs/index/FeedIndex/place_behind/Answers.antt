use Rattle.std.proofs.Common.{◌≡◌, ℕ, ◌+◌, ◌≤◌, ◌++◌, List, length, take, slice_get, Option, Some, rules, sym, ap, ◌∙◌}
use Rattle.std.proofs.lemmas.List.{length-append}
use Rattle.canvas_record.specs.Contents.{Contents}
use Rattle.canvas_feed.specs.Feed.{feed_text, opening_line, place_behind, whole_ends}
use Rattle.canvas_feed.proofs.Feeds.{ends_at}
use Rattle.canvas_feed.proofs.index.FeedIndex.place_behind.Goals as goal

placed : (generation : ℕ) (d : Contents) (lines : List (List ℕ)) (ends : List ℕ) (version : ℕ) (r : Option ℕ) → r ≡ slice_get ends version → ends ≡ whole_ends generation d lines → version ≤ length lines
    → r ≡ Some (place_behind generation d lines version)
unfolding whole_ends place_behind
placed generation d lines ends version r is whole within =
    is ∙ ap (λ es. slice_get es version) whole ∙ ends_at d 0 (length (opening_line generation d)) version lines within
    ∙ ap Some (sym (length-append (opening_line generation d) (feed_text d 0 (take version lines))))

pub returns-clause-lines : goal.returns-clause-lines
returns-clause-lines c =
    let is : c.end_of.result ≡ slice_get c.args.self.now c.args.version = search rules in
    λ generation d lines whole within. placed generation d lines c.args.self.now c.args.version c.end_of.result is whole within
