use Rattle.std.proofs.Common.{◌∙◌, ◌-◌, ◌≤◌, ℕ, List, ap, arith, drop, length, subst, sym, take}
use Rattle.std.proofs.lemmas.List.{take_rest}
use Rattle.canvas_list.specs.Chunks.{joined, AllBetween}
use Rattle.canvas_list.proofs.Apart.{apart-from}
use Rattle.canvas_list.proofs.Joined.{drop-fewer, found, has-chunk, len-is, search-some, take-fewer, IsFound}
use Rattle.canvas_list.proofs.reader.Blocks+T.stretch_meeting.Goals as goal

pub block_of-spot-requires : goal.block_of-spot-requires
block_of-spot-requires g c =
    search-some c.self.inside.parts.items c.deref.result.now c.deref.ensures.value (has-chunk c.self.inside.parts.items c.args.self.now c.args.at c.self.view_is (omega (arith, c.requires.within, c.requires.end)))

pub meeting_block-found-requires : goal.meeting_block-found-requires
meeting_block-found-requires g c =
    omega (arith, ap (λ (l : List (List g.row.T.Denot)). length (joined l)) (take_rest c.deref-2.result.now c.block_of-spot.result.chunk ∙ ap (drop c.block_of-spot.result.chunk) c.deref-2.ensures.value), drop-fewer c.self.inside.parts.items c.block_of-spot.result.chunk, c.self.invariant.has_len, c.self.invariant.is_small)

pub overflow_add-start : goal.overflow_add-start
overflow_add-start g c =
    let f : IsFound c.self.inside.parts.items c.self.inside.count c.block_of-spot.result.chunk c.block_of-spot.result.start c.args.at = found c.self.inside.parts.items c.deref.result.now c.self.inside.count c.block_of-spot.result.chunk c.block_of-spot.result.start c.args.at c.self.invariant c.deref.ensures.value c.block_of-spot.ensures in
    let rest : List (List g.row.T.Denot) = take (length c.deref-2.result.now - c.block_of-spot.result.chunk) (drop c.block_of-spot.result.chunk c.deref-2.result.now) in
    let within : c.meeting_block-found.result.start ≤ length (joined rest) = omega (arith, c.meeting_block-found.ensures.start, take-fewer rest c.meeting_block-found.result.chunk) in
    let apart = apart-from (g.T.Share.lies_apart c.args.sought.now) c.self.inside.parts.items c.deref-2.result.now c.args.self.now c.self.inside.count c.block_of-spot.result.chunk c.block_of-spot.result.start c.args.at c.meeting_block-found.result.start c.self.invariant c.deref-2.ensures.value f c.self.view_is within c.meeting_block-found.ensures.apart in
    omega (arith, apart.0, len-is c.self.inside.parts.items c.self.inside.count c.args.self.now c.self.invariant c.self.view_is, c.self.invariant.is_small)

pub returns-clause-held : goal.returns-clause-held
returns-clause-held g c =
    let f : IsFound c.self.inside.parts.items c.self.inside.count c.block_of-spot.result.chunk c.block_of-spot.result.start c.args.at = found c.self.inside.parts.items c.deref.result.now c.self.inside.count c.block_of-spot.result.chunk c.block_of-spot.result.start c.args.at c.self.invariant c.deref.ensures.value c.block_of-spot.ensures in
    let rest : List (List g.row.T.Denot) = take (length c.deref-2.result.now - c.block_of-spot.result.chunk) (drop c.block_of-spot.result.chunk c.deref-2.result.now) in
    let within : c.meeting_block-found.result.start ≤ length (joined rest) = omega (arith, c.meeting_block-found.ensures.start, take-fewer rest c.meeting_block-found.result.chunk) in
    let apart = apart-from (g.T.Share.lies_apart c.args.sought.now) c.self.inside.parts.items c.deref-2.result.now c.args.self.now c.self.inside.count c.block_of-spot.result.chunk c.block_of-spot.result.start c.args.at c.meeting_block-found.result.start c.self.invariant c.deref-2.ensures.value f c.self.view_is within c.meeting_block-found.ensures.apart in
    c.nothing.ensures.held c.args.self.now apart.0

pub returns-clause-apart : goal.returns-clause-apart
returns-clause-apart g c =
    let f : IsFound c.self.inside.parts.items c.self.inside.count c.block_of-spot.result.chunk c.block_of-spot.result.start c.args.at = found c.self.inside.parts.items c.deref.result.now c.self.inside.count c.block_of-spot.result.chunk c.block_of-spot.result.start c.args.at c.self.invariant c.deref.ensures.value c.block_of-spot.ensures in
    let rest : List (List g.row.T.Denot) = take (length c.deref-2.result.now - c.block_of-spot.result.chunk) (drop c.block_of-spot.result.chunk c.deref-2.result.now) in
    let within : c.meeting_block-found.result.start ≤ length (joined rest) = omega (arith, c.meeting_block-found.ensures.start, take-fewer rest c.meeting_block-found.result.chunk) in
    let apart = apart-from (g.T.Share.lies_apart c.args.sought.now) c.self.inside.parts.items c.deref-2.result.now c.args.self.now c.self.inside.count c.block_of-spot.result.chunk c.block_of-spot.result.start c.args.at c.meeting_block-found.result.start c.self.invariant c.deref-2.ensures.value f c.self.view_is within c.meeting_block-found.ensures.apart in
    subst (λ (n : ℕ). AllBetween (g.T.Share.lies_apart c.args.sought.now) c.args.self.now c.args.at n) (sym c.nothing.ensures.start) apart.1
