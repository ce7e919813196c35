-- The choice of j over links that are rows.
use Rattle.std.specs.Prelude.{◌≡◌, ℕ, ◌+◌, ◌-◌, ◌*◌, ◌<◌, ◌≤◌, min, true, false, ◌⊎◌, List, [], length, slice_index_or}
use Rattle.std.proofs.Common.{mul-le-mul, mul-le-mul_left, le_trans, arith, le-leb}
use Rattle.std.proofs.Math.Path.{refl, sym}
use Rattle.std.proofs.lemmas.Bool.{lt-leb}
use Rattle.theory.specs.Finite.{sum}
use Rattle.theory.specs.Network.{Network, Sound}
use Rattle.theory.specs.Study.{free_time, rise, capacity, power, network}
use Rattle.theory.specs.Flows.{step}
use Rattle.theory.specs.Moves.{moved_times, qualifies, chosen}
use Rattle.theory.specs.Laws.Finite.{sum-suc, sum_bound}
use Rattle.theory.specs.Laws.Choice.{chosen_is}
use Rattle.travel.specs.Links.{row_time, roads}
use Rattle.travel.specs.Ranges.{LinksFit, most_time}
use Rattle.theory.specs.Laws.Times.{step_time-least, step_time-mono}
use Rattle.theory.specs.Laws.Times.{step-most}
use Rattle.travel.specs.Laws.Times.{row_time-most}

-- What a move by j makes of a flow is a flow that an accepted table of the new share may have.
pub moved-flow : (w s y j : ℕ) → s ≤ w * 65535 → y ≤ 65535 → s + j * y ≤ (w + j) * 65535
moved-flow w s y j hs hy = omega (arith, mul-le-mul_left j hy)

-- The links with one node at all their ends. The choice of j does not look at nodes, and the laws on it ask for some.
joined : List (List ℕ) → Network
joined links =
    record {
      nodes = 1;
      links = length links;
      tail = λ l. 0;
      head = λ l. 0;
      capacity = capacity links;
      height = λ l r. row_time (slice_index_or links l []) r;
      commodities = 0;
      destination = λ k. 0;
      trips = λ k j. 0;
      may_use = λ k l. true;
    }

joined-sound : (links : List (List ℕ)) → LinksFit links → Sound (joined links)
unfolding joined
joined-sound links fit =
    record {
      tail-node = λ l p. omega arith;
      head-node = λ l p. omega arith;
      some-capacity = λ l p. (fit.link l p).some-capacity;
      some-time = λ l r p. le_trans (fit.link l p).some-time (step_time-least (free_time links l) (rise links l) (power links l) r);
      rising = λ l r p. step_time-mono (free_time links l) (rise links l) (power links l) (omega arith);
      destination-node = λ k p. omega arith;
    }

-- Whether j qualifies, by two numbers that are its sums.
module _ (g : Network) (w : ℕ) (s y : ℕ → ℕ) (j : ℕ) {loaded spent : ℕ} (loaded-is : loaded ≡ w * moved_times g w s y j y)
    (spent-is : spent ≡ moved_times g w s y j s) where
  pub qualifies-yes : loaded ≤ spent → qualifies g w s y j ≡ true
  unfolding qualifies
  qualifies-yes h = rw (sym loaded-is, sym spent-is) (le-leb loaded spent h)

  pub qualifies-no : spent < loaded → qualifies g w s y j ≡ false
  unfolding qualifies
  qualifies-no h = rw (sym loaded-is, sym spent-is) (lt-leb loaded spent h)

-- What a bisection ends in is the chosen j: it is 0 or qualifies, and it is the last or the next does not qualify.
pub roads-chosen : (links : List (List ℕ)) → LinksFit links → (w : ℕ) → 1 ≤ w → (s y : ℕ → ℕ) (low : ℕ) → low ≤ min 64 (1024 - w) →
    ((low ≡ 0) ⊎ (qualifies (roads links) w s y low ≡ true)) →
    ((low ≡ min 64 (1024 - w)) ⊎ (qualifies (roads links) w s y (low + 1) ≡ false)) → chosen (roads links) w s y ≡ low
unfolding network joined chosen qualifies moved_times
roads-chosen links fit w h s y low = chosen_is (joined links) (joined-sound links fit) w h s y low

-- The sums of the links' times after a move by j, link by link, and how large they are.
module _ (links : List (List ℕ)) (w : ℕ) (s y : ℕ → ℕ) (j : ℕ) (amount : ℕ → ℕ) where
  -- The time of a link after the move, and the sum over the first l links.
  abbrev pub moved_at : ℕ → ℕ
  moved_at l = row_time (slice_index_or links l []) (step (capacity links l) (w + j) (s l + j * y l))

  abbrev pub moved_to : ℕ → ℕ
  moved_to l = sum l (λ i. amount i * moved_at i)

  pub moved_none : moved_to 0 ≡ 0
  unfolding sum
  moved_none = refl

  pub moved_more : (l : ℕ) → moved_to (l + 1) ≡ moved_to l + amount l * moved_at l
  moved_more l = sum-suc l (λ i. amount i * moved_at i)

  pub moved_all : moved_to (length links) ≡ moved_times (roads links) w s y j amount
  unfolding moved_times network
  moved_all = refl

  pub moved-most : LinksFit links → (most : ℕ) → ((l : ℕ) → l < length links → amount l ≤ most) → (l : ℕ) → l ≤ length links →
      moved_to l ≤ l * (most * most_time)
  moved-most fit most h l p =
      sum_bound l (most * most_time) (λ i. amount i * moved_at i) (λ i q.
      mul-le-mul (h i (omega arith))
      (row_time-most (slice_index_or links i []) _ (fit.link i (omega arith)) (step-most (capacity links i) (w + j) (s i + j * y i))))
