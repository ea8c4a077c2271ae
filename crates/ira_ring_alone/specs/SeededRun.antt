-- A ring whose nodes draw from a seed.
use Rattle.std.specs.Prelude.{◌≡◌, ℕ, ◌<◌, Bool, List, length, map}
use Rattle.std.specs.List.{range_with_len}
use Rattle.ira_ring_setup.specs.Setup.{Setup, node_draws}
use Rattle.ira_ring_setup.specs.Draws.{draws}

-- the setup of a ring of n nodes of these start kinds, each of which is given its first k draws, and of so many
-- terms
abbrev pub seeded : ℕ → List Bool → ℕ → ℕ → ℕ → ℕ → Setup
seeded n kinds seed k cap terms =
    record {
      nodes = n;
      initiators = kinds;
      draws = map (λ place. draws n seed place k) (range_with_len 0 n);
      cap = cap;
      terms = terms;
    }

-- Helper, no definition: a setup is this one, as the code makes it.
pub record IsSeeded (n : ℕ) (kinds : List Bool) (seed k cap terms : ℕ) (s : Setup) : Type 0 where
  pub nodes : s.nodes ≡ n
  pub initiators : s.initiators ≡ kinds
  pub many : length s.draws ≡ n
  pub draws : (i : ℕ) → i < n → node_draws s i ≡ draws n seed i k
  pub limit : s.cap ≡ cap
  pub last : s.terms ≡ terms
