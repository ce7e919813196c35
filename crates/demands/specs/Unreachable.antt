-- Demand 2: when a study is refused as unreachable.
use Rattle.std.specs.Prelude.{ℕ, ◌≤◌, ◌≡◌, true, List, ◌↔◌, replicate}
use Rattle.std.proofs.Common.{arith, sym, ◌∙◌, true≢false}
use Rattle.theory.specs.Network.{Network}
use Rattle.theory.specs.Flows.{conserves, Carries}
use Rattle.theory.specs.Routes.{loading}
use Rattle.theory.specs.Laws.Cases.{on_test}
use Rattle.theory.specs.Laws.Routings.{Timed, AllServed, served-at-times}
use Rattle.theory.specs.Laws.Loading.{loading-carries}
use Rattle.theory.specs.Laws.Unreachable.{carried-served}
use Rattle.calls.specs.Study.{network_of}
use Rattle.calls.specs.Questions.{trips_reach}
use Rattle.calls.specs.Calls.{check_number}
use Rattle.calls.specs.Laws.Questions.{Described, Passed, described-check}
use Rattle.calls.specs.Laws.Networks.{sound}
use Rattle.calls.specs.Laws.Reach.{unit-timed, reach-served, served-reach}

-- A study that passes questions 1 to 10 is refused as unreachable exactly when no permitted table at any share of at least 1 can carry its
-- trips.
pub unreachable-exactly : (file : List ℕ) → Described file
    → (check_number file ≡ 11) ↔ ((share : ℕ) (table : List ℕ) → 1 ≤ share → Carries (network_of file) share table → ⊥)
unreachable-exactly file h = (refused, none-carries)
  where
    g : Network
    g = network_of file

    ones : List ℕ
    ones = replicate g.links 1

    refused : check_number file ≡ 11 → (share : ℕ) (table : List ℕ) → 1 ≤ share → Carries g share table → ⊥
    refused e share table some-share carries =
        let reach = served-reach g (carried-served g (sound file h) ones (unit-timed g) share some-share table carries) in
        let zero-eleven : ◌≡◌ {A = ℕ} 0 11 = sym (rw reach at (described-check file h)) ∙ e in
        omega arith

    none-carries : ((share : ℕ) (table : List ℕ) → 1 ≤ share → Carries g share table → ⊥) → check_number file ≡ 11
    none-carries none' =
        on_test (trips_reach g)
        (λ e. absurd (none' 1 (loading g ones) (omega arith) (loading-carries g (sound file h) ones (unit-timed g) (reach-served g e))))
        (λ e. rw e at (described-check file h))
