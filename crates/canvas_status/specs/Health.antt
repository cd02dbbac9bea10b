-- Whether a document is kept as it should be.
use Rattle.std.specs.Prelude.{ℕ, List, slice_index, nat_lt, Bool, if◌then◌else◌}
use Rattle.canvas_status.specs.declared.health.Health.{Health}
use Rattle.canvas_status.specs.declared.health.Health.TheVariants.{Well, Late, Lost}

-- A journal that is lost keeps nothing more. An edit waits for too long where the newest version of the oldest look is not kept yet.
abbrev pub health_of : List ℕ → ℕ → Bool → Health
health_of newest kept is_lost = if is_lost then Lost else (if nat_lt kept (slice_index newest 0) then Late else Well)
