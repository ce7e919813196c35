-- Request A.5: the power of a road, what it makes of the network of a file, and the laws that hold of any power.
use Prim.Native.Nat.{ℕ, suc, ◌+◌, ◌*◌, ◌/◌, ◌^◌, ◌≤◌, ◌<◌}
use Rattle.std.proofs.Math.Nat.{le_trans}
use Rattle.std.proofs.Common.{mul-le-mul_right, ◌∙◌}
use native.Mathlib.Omega.{arith}
use Rattle.std.specs.Prelude.{◌≡◌, List, []}
use Rattle.std.proofs.Math.Path.{ap}
use Rattle.study.specs.Header.{version}
use Rattle.study.specs.Sections.{links, link_size, link_part, closed_part, barred_part}
use Rattle.study.specs.Fields.{free_time, rise, power}
use Rattle.study.specs.Laws.{no-powers}
use Rattle.theory.specs.Network.{Network, Sound}
use Rattle.theory.specs.Flows.{conserves, step, step_time, time_at, times, Carries}
use Rattle.theory.specs.Cost.{cost, gap}
use Rattle.theory.specs.Study.{network, power as power_in}
use Rattle.theory.specs.Laws.Finite.{get_d_tabulate}
use Rattle.theory.specs.Laws.Inequalities.{rising_le}
use Rattle.theory.specs.Laws.Times.{step-mono, step_time-mono, step_time-least, step_time-fourth}
use Rattle.theory.specs.Laws.Routings.{times-timed, routing-consistent}
use Rattle.theory.specs.Laws.Bound.{bound}
use Rattle.calls.specs.Study.{link_row, link_rows, network_of}
use Rattle.calls.specs.Calls.{check_number}
use Rattle.calls.specs.Laws.Questions.{check-passed}
use Rattle.calls.specs.Laws.Networks.{links-length, power-read, fourth-powers, fields_fit, sound}
use Rattle.calls.specs.Laws.Page.{link-count}

-- The free time, the rise and the power of a link as the file has them.
abbrev pub free_of : List ℕ → ℕ → ℕ
free_of file l = free_time (link_part file) (link_size file) l

abbrev pub rise_of : List ℕ → ℕ → ℕ
rise_of file l = rise (link_part file) (link_size file) l

abbrev pub power_of : List ℕ → ℕ → ℕ
power_of file l = power (link_part file) (link_size file) l

-- The height of a link's curve, by the power in its row.
height-row : (file : List ℕ) (l r : ℕ) → l < links file → (network_of file).height l r ≡ step_time (free_of file l) (rise_of file l) (power_in (link_rows file) l) r
unfolding network_of network link_rows link_row
height-row file l r h = rw (get_d_tabulate (links file) (link_row (link_part file) (link_size file) (closed_part file) (barred_part file)) [] l h)

-- In a sound network a link's time does not fall as its flow grows: its step does not, and its curve does not fall with the step.
rises-with-flow : (g : Network) → Sound g → (l : ℕ) → l < g.links → (share : ℕ) (flow more : ℕ → ℕ) → 1 ≤ share → flow l ≤ more l
    → time_at g share flow l ≤ time_at g share more l
rises-with-flow g is-sound l h share flow more some-share grows =
    rising_le (g.height l) (λ r. is-sound.rising l r h) (step (g.capacity l) share (flow l)) (step (g.capacity l) share (more l))
    (step-mono (g.capacity l) share (flow l) share (more l) (is-sound.some-capacity l h) some-share some-share (mul-le-mul_right share grows))

module _ (file : List ℕ) (e : check_number file ≡ 0) (l : ℕ) (h : l < links file) where
  row_below : l < (network_of file).links
  row_below = omega (arith, link-count file)

  -- The power of an accepted study's link is 1 to 4, so the byte in its row is the file's number.
  pub power-range : (1 ≤ power_of file l) × (power_of file l ≤ 4)
  unfolding network_of network
  power-range =
      let fits = fields_fit file (check-passed file e).described l row_below in
      let read = power-read file l row_below in
      (omega arith, omega arith)

  row-power : power_in (link_rows file) l ≡ power_of file l
  unfolding network_of network
  row-power = power-read file l row_below ∙ omega (arith, power-range)

  -- The time at a step is a + floor(b·r^q / 64^q), by the file's own numbers.
  pub curve-exactly : (r : ℕ) → (network_of file).height l r ≡ free_of file l + rise_of file l * r ^ power_of file l / 64 ^ power_of file l
  unfolding step_time
  curve-exactly r = height-row file l r h ∙ ap (λ q. free_of file l + rise_of file l * r ^ q / 64 ^ q) row-power

  -- It does not fall as the flow grows.
  pub time-rises : (share : ℕ) (flow more : ℕ → ℕ) → 1 ≤ share → flow l ≤ more l → time_at (network_of file) share flow l ≤ time_at (network_of file) share more l
  time-rises = rises-with-flow (network_of file) (sound file (check-passed file e).described) l row_below

-- Links of versions 1 and 2 have power 4, and document 01's times.
pub versions-fourth : (file : List ℕ) → version file < 3 → (l r : ℕ) → l < links file
    → (network_of file).height l r ≡ free_of file l + rise_of file l * r ^ 4 / 16777216
unfolding network_of network
versions-fourth file old l r h =
    height-row file l r h
    ∙ ap (λ q. step_time (free_of file l) (rise_of file l) q r) (fourth-powers file (no-powers (version file) old) l (omega (arith, links-length file)))
    ∙ step_time-fourth (free_of file l) (rise_of file l) r

-- A network with other curves: by link a free time, a rise and a power, any number.
unfoldable pub with_curves : Network → (ℕ → ℕ) → (ℕ → ℕ) → (ℕ → ℕ) → Network
with_curves g a b q =
    record {
      nodes = g.nodes;
      links = g.links;
      tail = g.tail;
      head = g.head;
      capacity = g.capacity;
      height = λ l. step_time (a l) (b l) (q l);
      commodities = g.commodities;
      destination = g.destination;
      trips = g.trips;
      may_use = g.may_use;
    }

module _ (g : Network) (is-sound : Sound g) (a b q : ℕ → ℕ) (some-time : (l : ℕ) → l < g.links → 1 ≤ a l) where
  -- Whatever the powers, times do not fall as the step grows,
  pub curves-sound : Sound (with_curves g a b q)
  unfolding with_curves
  curves-sound =
      record {
        tail-node = is-sound.tail-node;
        head-node = is-sound.head-node;
        some-capacity = is-sound.some-capacity;
        some-time = λ l r p. le_trans (some-time l p) (step_time-least (a l) (b l) (q l) r);
        rising = λ l r p. step_time-mono (a l) (b l) (q l) {r = r} {s = suc r} (omega arith);
        destination-node = is-sound.destination-node;
      }

  -- nor as the flow grows,
  pub curves-rise : (l : ℕ) → l < g.links → (share : ℕ) (flow more : ℕ → ℕ) → 1 ≤ share → flow l ≤ more l
      → time_at (with_curves g a b q) share flow l ≤ time_at (with_curves g a b q) share more l
  unfolding with_curves
  curves-rise l h = rises-with-flow (with_curves g a b q) curves-sound l h

  -- and so the gap bounds every rival.
  pub curves-bound : (share : ℕ) (table : List ℕ) → 1 ≤ share → (other : ℕ) (rival : List ℕ) → Carries (with_curves g a b q) other rival
      → other * cost (with_curves g a b q) share table ≤ share * cost (with_curves g a b q) other rival + 64 * other * gap (with_curves g a b q) share table
  curves-bound share table =
      let h = with_curves g a b q in
      bound h curves-sound share table (routing-consistent h curves-sound (times h share table) (times-timed h curves-sound share table))

-- A table that carries a network's trips carries them whatever its curves.
pub curves-carry : (g : Network) (a b q : ℕ → ℕ) (share : ℕ) (table : List ℕ) → Carries g share table → Carries (with_curves g a b q) share table
unfolding with_curves conserves
curves-carry g a b q share table carries = record { conserving = carries.conserving; permitted = carries.permitted }
