-- Trips on their way along next links, node by node: those that wait at each node, and the volumes so far.
use Rattle.std.specs.Prelude.{◌≡◌, ℕ, ◌+◌, ◌*◌, ◌^◌, ◌<◌, ◌≤◌, List, length, replicate, ◌≢◌, Option, None, MatchOption, slice_index, slice_index_or, slice_set}
use Rattle.theory.specs.Finite.{sum, tabulate}
use Rattle.theory.specs.Study.{head, no_link}
use Rattle.loading.specs.Along.{walk_along, leaves}

-- Nothing at any of 128 nodes.
unfoldable pub all_zero : List ℕ
all_zero = replicate 128 0

-- The first k numbers of a list are 0.
abbrev pub ZeroBelow : ℕ → List ℕ → Type 0
ZeroBelow k xs = (i : ℕ) → i < k → slice_index xs i ≡ 0

-- What the numbers of a list come to, where each one at node i counts f i times.
unfoldable pub worth : ℕ → (ℕ → ℕ) → List ℕ → ℕ
worth n f xs = sum n (λ i. slice_index xs i * f i)

-- The links that the waiting trips have still to go by.
unfoldable pub links_ahead : ℕ → List (List ℕ) → List ℕ → List ℕ → ℕ
links_ahead n links next waiting = worth n (λ i. length (walk_along links next n i)) waiting

-- By node: its volume once the waiting trips have gone by all links ahead of them.
unfoldable pub final_volumes : ℕ → List (List ℕ) → List ℕ → List ℕ → List ℕ → List ℕ
final_volumes n links next waiting volumes = tabulate 128 (λ j. slice_index volumes j + worth n (λ i. leaves links next n i j) waiting)

-- What waits at each node, and the volumes, after all that waits at node k is sent on to node h.
unfoldable pub waiting_after : ℕ → ℕ → List ℕ → List ℕ
waiting_after k h waiting = slice_set (slice_set waiting k 0) h (slice_index (slice_set waiting k 0) h + slice_index waiting k)

unfoldable pub volumes_after : ℕ → List ℕ → List ℕ → List ℕ
volumes_after k waiting volumes = slice_set volumes k (slice_index volumes k + slice_index waiting k)

-- The trips of the nodes below k wait there.
pub record OwnBelow (k : ℕ) (trips waiting : List ℕ) : Type 0 where
  pub size : length waiting ≡ 128
  pub own : (i : ℕ) → i < k → slice_index waiting i ≡ slice_index trips i

-- What waits at node k can be sent on to node h: the sums stay within 16 and 32 bits.
pub record Movable (k h : ℕ) (waiting volumes : List ℕ) : Type 0 where
  pub from-node : k < 128
  pub to-node : h < 128
  pub volume-fits : slice_index_or volumes k 0 + slice_index waiting k < 2 ^ 16
  pub waiting-fits : slice_index_or (slice_set waiting k 0) h 0 + slice_index waiting k < 2 ^ 32

-- Trips can be sent on: those that wait are few, and no node's final volume is above 65,535.
pub record Sending (n : ℕ) (links : List (List ℕ)) (next waiting volumes : List ℕ) : Type 0 where
  pub waiting-size : length waiting ≡ 128
  pub volumes-size : length volumes ≡ 128
  pub few : worth n (λ i. 1) waiting < 2 ^ 32
  pub small : (j : ℕ) → j < 128 → slice_index (final_volumes n links next waiting volumes) j ≤ 65535

-- Trips were sent on from where some waited at first: no node's final volume has changed.
pub record Sent (n : ℕ) (links : List (List ℕ)) (next waiting₀ volumes₀ waiting volumes : List ℕ) : Type 0 where
  pub sending : Sending n links next waiting volumes
  pub same : final_volumes n links next waiting volumes ≡ final_volumes n links next waiting₀ volumes₀

-- The nodes below k were asked to send what waits there, and `count` of them did.
pub record SentBelow (n : ℕ) (links : List (List ℕ)) (next : List ℕ) (k : ℕ) (waiting₀ volumes₀ waiting volumes : List ℕ) (count : ℕ) : Type 0 where
  pub sent : Sent n links next waiting₀ volumes₀ waiting volumes
  pub fewer : links_ahead n links next waiting + count ≤ links_ahead n links next waiting₀
  pub none_left : count ≡ 0 → (j : ℕ) → j < k → (slice_index next j ≢ no_link) → slice_index waiting j ≡ 0

-- The head of the next link of node k, if it has one.
abbrev pub HeadOf : List (List ℕ) → List ℕ → ℕ → Option ℕ → Type 0
HeadOf links next k found =
    MatchOption found (slice_index next k ≡ no_link) (λ h. (slice_index next k ≢ no_link) × (h ≡ head links (slice_index next k)))

-- The heads of the next links of the nodes below n.
abbrev pub HeadsBelow : ℕ → List (List ℕ) → List ℕ → List (Option ℕ) → Type 0
HeadsBelow n links next heads = (k : ℕ) → k < n → HeadOf links next k (slice_index_or heads k None)

-- The first numbers of a list are nodes of n.
abbrev pub AllNodes : ℕ → ℕ → List ℕ → Type 0
AllNodes n len order = (i : ℕ) → i < len → slice_index order i < n
