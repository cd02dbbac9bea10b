use Rattle.std.proofs.Common.{◌≡◌, ◌+◌, take, rules}
use Rattle.canvas_feed.proofs.FirstLines.{line_read, read_on}
use Rattle.canvas_feed.proofs.first_line.read_line.Goals as goal

pub loop-count-preserved : goal.loop-count-preserved
loop-count-preserved g c = record {
  within = c.read_more-more.ensures.within;
  read = read_on _ _ _ c.loop-count.line c.read_more-more.new.line c.loop-count.count c.read_more-more.result c.read_more-more.ensures.front c.loop-count.invariant.read c.read_more-more.ensures.read;
}

pub returns-in-Some-clause-read : goal.returns-in-Some-clause-read
returns-in-Some-clause-read g c =
    let all = read_on _ _ _ c.loop-count.line c.read_more-more.new.line c.loop-count.count c.read_more-more.result c.read_more-more.ensures.front c.loop-count.invariant.read c.read_more-more.ensures.read in
    line_read _ _ c.read_more-more.new.line c.split_at.result.0.now (c.loop-count.count + c.read_more-more.result) c.in-Some.end c.split_at.ensures.front c.in-Some.ensures.0.high c.in-Some.ensures.1 all
