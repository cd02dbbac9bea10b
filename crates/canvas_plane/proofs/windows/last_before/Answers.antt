use Rattle.std.proofs.Common.{subst, sym, ◌^◌, ◌≤ℤ◌, pos}
use Rattle.canvas_plane.proofs.Ends.{IsGap, difference-fits, gap-kept, gap-within}
use Rattle.canvas_plane.proofs.windows.last_before.Goals as goal

pub overflow_sub-result-2 : goal.overflow_sub-result-2
overflow_sub-result-2 c =
    let g : IsGap c.args.start c.args.edge = record { start_fits = c.ranges.start; edge_fits = c.ranges.edge; some = c.requires.some; near = c.requires.near; far = c.requires.far } in
    difference-fits c.args.start c.args.edge g

pub returns-clause-value : goal.returns-clause-value
returns-clause-value c =
    let g : IsGap c.args.start c.args.edge = record { start_fits = c.ranges.start; edge_fits = c.ranges.edge; some = c.requires.some; near = c.requires.near; far = c.requires.far } in
    gap-kept c.args.start c.args.edge g

pub returns-clause-least : goal.returns-clause-least
returns-clause-least c =
    let g : IsGap c.args.start c.args.edge = record { start_fits = c.ranges.start; edge_fits = c.ranges.edge; some = c.requires.some; near = c.requires.near; far = c.requires.far } in
    subst (λ z. pos 0 ≤ℤ z) (sym (gap-kept c.args.start c.args.edge g)) (gap-within c.args.start c.args.edge g.some g.near g.far).0

pub returns-clause-most : goal.returns-clause-most
returns-clause-most c =
    let g : IsGap c.args.start c.args.edge = record { start_fits = c.ranges.start; edge_fits = c.ranges.edge; some = c.requires.some; near = c.requires.near; far = c.requires.far } in
    subst (λ z. z ≤ℤ pos (2 ^ 42)) (sym (gap-kept c.args.start c.args.edge g)) (gap-within c.args.start c.args.edge g.some g.near g.far).1
