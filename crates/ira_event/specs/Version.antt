-- The versions of logs.
use Rattle.std.specs.Prelude.{ℕ, ◌≤◌}
use Rattle.ira_event.specs.Limits.{MAX_VERSION}

-- a version is 1 to `MAX_VERSION`
abbrev pub IsVersion : ℕ → Type 0
IsVersion version = (1 ≤ version) × (version ≤ MAX_VERSION)
