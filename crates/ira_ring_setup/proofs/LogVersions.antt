-- The version of the logs of a run is one, and they may be of its ring.
use Rattle.std.proofs.Common.{◌≡◌, ℕ, ◌≤◌, Bool, true, false, ◌||◌, nat_lt, refl, arith}
use Rattle.std.specs.Prelude.{if◌then◌else◌}
use Rattle.std.proofs.lemmas.Bool.Decides.{nat_tests}
use Rattle.ira_event.specs.Limits.{MAX_VERSION_1_NODES}
use Rattle.ira_event.specs.RingSize.{FitsVersion}
use Rattle.ira_event.specs.Version.{IsVersion}
use Rattle.ira_ring_setup.specs.Terms.{version_of}

pub is_version : (n terms : ℕ) → IsVersion (version_of n terms)
is_version n terms = by_test (nat_lt 1 terms || nat_lt MAX_VERSION_1_NODES n)
  where
    by_test : (second : Bool) → IsVersion (if second then 2 else 1)
    by_test true = (omega arith, omega arith)
    by_test false = (omega arith, omega arith)

pub fits_version : (n terms : ℕ) → FitsVersion (version_of n terms) n
fits_version n terms = by_tests (nat_lt 1 terms) (nat_lt MAX_VERSION_1_NODES n) refl
  where
    few : (m : ℕ) → nat_lt MAX_VERSION_1_NODES m ≡ false → m ≤ MAX_VERSION_1_NODES
    few m h = grind (arith, nat_tests)

    by_tests : (more large : Bool) → nat_lt MAX_VERSION_1_NODES n ≡ large
        → FitsVersion (if more || large then 2 else 1) n
    by_tests true large h = λ first. omega (arith, first)
    by_tests false true h = λ first. omega (arith, first)
    by_tests false false h = λ first. few n h
