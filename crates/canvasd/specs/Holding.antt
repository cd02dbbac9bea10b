-- Which file a name leads to.
use Rattle.std.specs.Prelude.{Bool, ◌&&◌, ◌==◌}
use Rattle.canvasd.specs.declared.holding.Identity.{Identity}

-- the same number on the same device
abbrev pub is_same : Identity → Identity → Bool
is_same one other = (one.device == other.device) && (one.inode == other.inode)
