-- Question 11 in the words of the theory: every node with trips has a distance, at any times.
use Rattle.std.specs.Prelude.{ℕ, ◌≤◌, ◌<◌, ◌≡◌, Bool, true, ◌||◌, List, get_or, replicate, eqb}
use Rattle.std.proofs.Common.{le_of_eq, sym, ◌∙◌, eq-eqb, ne_eqb}
use Rattle.std.proofs.Math.Option.{none}
use Rattle.std.proofs.lemmas.List.{get_or-replicate}
use Rattle.theory.specs.Network.{Network}
use Rattle.theory.specs.Routes.{routing, distances, is_some}
use Rattle.theory.specs.Laws.Cases.{on-equal}
use Rattle.theory.specs.Laws.Finite.{all-elim, all-intro, get_d_tabulate}
use Rattle.theory.specs.Laws.Conserving.{or-false, permits-permitted}
use Rattle.theory.specs.Laws.Routings.{Timed, AllServed, served-at-times}
use Rattle.theory.specs.Flows.{conserves, permits, Carries}
use Rattle.calls.specs.Study.{network_of}
use Rattle.calls.specs.Questions.{has_path, trips_reach}
use Rattle.calls.specs.Laws.Questions.{Passed, SharePassed}
use Rattle.calls.specs.Laws.Networks.{sound}

-- Question 11 asks for a distance at the times 1 on every link.
pub unit-timed : (g : Network) → Timed g (replicate g.links 1)
unit-timed g l p = le_of_eq (sym (get_or-replicate g.links l 1 0 p))

pub reach-served : (g : Network) → trips_reach g ≡ true → AllServed g (replicate g.links 1)
unfolding trips_reach has_path
reach-served g e k p j q some-trips =
    let row = all-elim g.nodes _ (all-elim g.commodities _ e k p) j q in
    let path = or-false (eqb (g.trips k j) 0) _ (ne_eqb (g.trips k j) 0 some-trips) row in
    sym (get_d_tabulate g.nodes (λ i. is_some (get_or (distances (routing g (replicate g.links 1) k)) i none)) true j q) ∙ path

pub served-reach : (g : Network) → AllServed g (replicate g.links 1) → trips_reach g ≡ true
unfolding trips_reach has_path
served-reach g served =
    all-intro g.commodities _ (λ k p.
    all-intro g.nodes _ (λ j q.
    on-equal (g.trips k j) 0 (λ e. rw (eq-eqb (g.trips k j) 0 e)) (λ some-trips.
    let path = get_d_tabulate g.nodes (λ i. is_some (get_or (distances (routing g (replicate g.links 1) k)) i none)) true j q ∙ served k p j q some-trips in
    rw (ne_eqb (g.trips k j) 0 some-trips) path)))

-- A table that conserves and is permitted carries the trips, and a table that the audit accepts is both.
pub tests-carry : (g : Network) (share : ℕ) (table : List ℕ) → conserves g share table ≡ true → permits g table ≡ true → Carries g share table
tests-carry g share table c p = record { conserving = c; permitted = permits-permitted g table p }

pub passed-carries : (file table : List ℕ) (share : ℕ) → SharePassed file table share → Carries (network_of file) share table
passed-carries file table share p = tests-carry (network_of file) share table p.conserving p.permitting

module _ (file : List ℕ) (h : Passed file) where
  -- At any times of at least 1, every node with trips has a distance.
  pub served : (t : List ℕ) → Timed (network_of file) t → AllServed (network_of file) t
  served t timed =
      served-at-times (network_of file) (sound file h.described) (replicate (network_of file).links 1) t (unit-timed (network_of file)) timed
      (reach-served (network_of file) h.reaching)
