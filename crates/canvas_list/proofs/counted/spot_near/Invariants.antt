use Rattle.std.proofs.Common.{◌≡◌, ◌<◌, ◌-◌, length, take}
use Rattle.std.specs.List.{sum_by}
use Rattle.canvas_list.proofs.counted.spot_near.Given as goal

abbrev pub invariant-pass : goal.invariant-pass
invariant-pass g l = record {
  within : l.chunk < length l.parts;
  passed : l.start ≡ sum_by g.P.Counted.size (take l.chunk l.parts);
}

abbrev pub decreases-pass : goal.decreases-pass
decreases-pass g l = length l.parts - l.chunk
