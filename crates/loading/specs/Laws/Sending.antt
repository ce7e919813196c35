-- Trips on their way along next links: no node's final volume changes as they are sent on, and what is left at last.
use Rattle.std.specs.Prelude.{◌≡◌, ℕ, zero, suc, ◌+◌, ◌*◌, ◌^◌, ◌<◌, ◌≤◌, ◌⊎◌, List, [], ◌∷◌, length, replicate, ◌≢◌, Option, None, bit_or, slice_index, slice_index_or, slice_set, refl}
use Rattle.std.specs.List.{fold}
use Rattle.std.proofs.Common.{mul-le-mul_right, le_of_suc-le-suc, sym, ◌∙◌, ⊎_elim, get_or-set_same, ext_get_or}
use native.Mathlib.Omega.{arith}
use Rattle.std.proofs.Math.Path.{ap}
use Rattle.std.proofs.lemmas.Nat.{or_comm}
use Rattle.std.proofs.Math.ListN.{length-set}
use Rattle.std.proofs.lemmas.List.{length-replicate, get_or-replicate}
use Rattle.std.proofs.Math.Seq.{get_or-set_other}
use Rattle.theory.specs.Finite.{sum, tabulate}
use Rattle.theory.specs.Study.{head, no_link}
use Rattle.theory.specs.Laws.Bits.{or-grows}
use Rattle.theory.specs.Laws.Cases.{on-equal}
use Rattle.theory.specs.Laws.Finite.{below_suc, sum-cong, sum-zero, sum-term, sum_bound, length-tabulate, get_d_tabulate, tabulate-cong}
use Rattle.loading.specs.Along.{walk_along, one_if_same, leaves, volumes_along, Followable, Sendable}
use Rattle.loading.specs.Sending.{all_zero, ZeroBelow, HeadOf, HeadsBelow, worth, links_ahead, final_volumes, waiting_after, volumes_after}
use Rattle.loading.specs.Sending.{OwnBelow, Movable, Sending, Sent, SentBelow}
use Rattle.loading.specs.Laws.Leaves.{same-one, other_none, leaves_none, head-below, sets-out}

-- What a list comes to after one of its numbers is set.
worth-past : (n : ℕ) (f : ℕ → ℕ) (xs : List ℕ) (k v : ℕ) → n ≤ k → worth n f (slice_set xs k v) ≡ worth n f xs
unfolding worth
worth-past n f xs k v h = sum-cong n _ _ (λ i b. ap (λ x. x * f i) (get_or-set_other xs k i v 0 (λ e. omega arith)))

worth-set : (n : ℕ) (f : ℕ → ℕ) (xs : List ℕ) (k v : ℕ) → k < n → k < length xs
    → worth n f (slice_set xs k v) + slice_index xs k * f k ≡ worth n f xs + v * f k
unfolding worth sum
worth-set zero f xs k v h b = absurd (omega arith)
worth-set (suc n) f xs k v h b = ⊎_elim (λ p. below p (worth-set n f xs k v p b)) here (below_suc n k h)
  where
    below : k < n → worth n f (slice_set xs k v) + slice_index xs k * f k ≡ worth n f xs + v * f k
        → worth (suc n) f (slice_set xs k v) + slice_index xs k * f k ≡ worth (suc n) f xs + v * f k
    below p rest =
        let last = ap (λ x. x * f n) (get_or-set_other xs k n v 0 (λ e. omega arith)) in
        omega arith

    here : k ≡ n → worth (suc n) f (slice_set xs k v) + slice_index xs k * f k ≡ worth (suc n) f xs + v * f k
    here e =
        let before = worth-past n f xs k v (omega arith) in
        let last : slice_index_or (slice_set xs k v) n 0 * f n ≡ v * f k = rw (← e) (ap (λ x. x * f k) (get_or-set_same xs k v 0 b)) in
        let old : slice_index_or xs k 0 * f k ≡ slice_index xs n * f n = ap (λ i. slice_index xs i * f i) e in
        omega arith

worth-cong : (n : ℕ) (f : ℕ → ℕ) (xs ys : List ℕ) → ((i : ℕ) → i < n → slice_index xs i ≡ slice_index ys i) → worth n f xs ≡ worth n f ys
unfolding worth
worth-cong n f xs ys same = sum-cong n _ _ (λ i h. ap (λ x. x * f i) (same i h))

worth-term : (n : ℕ) (f : ℕ → ℕ) (xs : List ℕ) (i : ℕ) → i < n → slice_index xs i * f i ≤ worth n f xs
unfolding worth
worth-term n f xs i h = sum-term n (λ i. slice_index xs i * f i) i h

-- The trips of 128 nodes are few.
trips-few : (n : ℕ) (trips : List ℕ) → n ≤ 128 → ((i : ℕ) → slice_index trips i < 2 ^ 16) → worth n (λ i. 1) trips < 2 ^ 32
unfolding worth
trips-few n trips few small =
    let each = sum_bound n 65535 (λ i. slice_index trips i * 1) (λ i h. omega (arith, small i)) in
    let whole = mul-le-mul_right 65535 few in
    omega arith

-- At first each node's own trips wait there: no node's,
pub own-none : (trips : List ℕ) → OwnBelow 0 trips all_zero
unfolding all_zero
own-none trips = record { size = length-replicate {A = ℕ} 128 0; own = λ i h. absurd (omega arith) }

-- then those of one node more,
pub own-more : {j : ℕ} {trips waiting : List ℕ} → OwnBelow j trips waiting → j < 128 → OwnBelow (j + 1) trips (slice_set waiting j (slice_index trips j))
own-more {j} {trips} {waiting} w h =
    record {
      size = length-set waiting j (slice_index trips j) ∙ w.size;
      own = λ i b. on-equal i j
          (λ e. rw e (get_or-set_same waiting j (slice_index trips j) 0 (omega (arith, w.size))))
          (λ off. get_or-set_other waiting j i (slice_index trips j) 0 off ∙ w.own i (omega (arith, off)));
    }

-- and nothing is sent: final volumes are those that the trips make.
pub final-begins : {n : ℕ} {trips waiting : List ℕ} (links : List (List ℕ)) (next : List ℕ) → OwnBelow n trips waiting
    → final_volumes n links next waiting all_zero ≡ volumes_along n links next (λ j. slice_index trips j)
unfolding final_volumes volumes_along all_zero worth
final-begins {n} {trips} {waiting} links next w =
    tabulate-cong 128 _ _ (λ j h.
    omega (arith, get_or-replicate {A = ℕ} 128 j 0 0 h, worth-cong n (λ i. leaves links next n i j) waiting trips w.own))

pub sending-begins : {n : ℕ} {links : List (List ℕ)} {next trips waiting : List ℕ} → Sendable n links next trips
    → ((i : ℕ) → slice_index trips i < 2 ^ 16) → OwnBelow n trips waiting → Sending n links next waiting all_zero
unfolding all_zero
sending-begins {n} {links} {next} {trips} {waiting} g small w =
    record {
      waiting-size = w.size;
      volumes-size = length-replicate {A = ℕ} 128 0;
      few = omega (arith, worth-cong n (λ i. 1) waiting trips w.own, trips-few n trips g.followable.few-nodes small);
      small = λ j h. rw (final-begins links next w) (g.small j h);
    }

-- A node's final volume.
final-at : (n : ℕ) (links : List (List ℕ)) (next waiting volumes : List ℕ) (j : ℕ) → j < 128
    → slice_index (final_volumes n links next waiting volumes) j ≡ slice_index volumes j + worth n (λ i. leaves links next n i j) waiting
unfolding final_volumes
final-at n links next waiting volumes j h = get_d_tabulate 128 (λ j. slice_index volumes j + worth n (λ i. leaves links next n i j) waiting) 0 j h

-- A node that has a next link sends what waits there to the head of that link.
module _ {n : ℕ} {links : List (List ℕ)} {next waiting volumes : List ℕ} (w : Followable n links next)
    (s : Sending n links next waiting volumes) {k : ℕ} (h : k < n) (away : slice_index_or next k 0 ≡ no_link → ⊥) {to : ℕ} (to≡ : to ≡ head links (slice_index next k)) where
  abbrev amount : ℕ
  amount = slice_index waiting k

  to_below : to < n
  to_below = rw to≡ (head-below w k h away)

  -- Its trips have one link fewer to go by from there, and leave it once more than from there.
  goes_on : (length (walk_along links next n k) ≡ 1 + length (walk_along links next n to))
      × ((j : ℕ) → leaves links next n k j ≡ one_if_same k j + leaves links next n to j)
  goes_on = rw to≡ (sets-out w k h away)

  -- The sums stay within 16 and 32 bits.
  pub movable : Movable k to waiting volumes
  movable =
      record {
        from-node = k-few;
        to-node = omega (arith, w.few-nodes, to_below);
        volume-fits = volume-fits;
        waiting-fits = waiting-fits;
      }
    where
      k-few : k < 128
      k-few = omega (arith, w.few-nodes)

      volume-fits : slice_index_or volumes k 0 + amount < 2 ^ 16
      volume-fits =
          let own = ap (λ x. amount * x) (goes_on.1 k) in
          let one = ap (λ x. amount * x) (same-one k k refl) in
          let part = worth-term n (λ i. leaves links next n i k) waiting k h in
          omega (arith, final-at n links next waiting volumes k k-few, s.small k k-few)

      waiting-fits : slice_index_or (slice_set waiting k 0) to 0 + amount < 2 ^ 32
      waiting-fits =
          let rest = worth-set n (λ i. 1) waiting k 0 h (omega (arith, s.waiting-size, w.few-nodes)) in
          let part = worth-term n (λ i. 1) (slice_set waiting k 0) to to_below in
          omega (arith, s.few)

  -- What the waiting trips come to, each node's volume and final volume, and the links ahead, after that.
  handed : (f : ℕ → ℕ) → worth n f (waiting_after k to waiting) + amount * f k ≡ worth n f waiting + amount * f to
  unfolding waiting_after
  handed f =
      omega (
        arith,
        worth-set n f waiting k 0 h (omega (arith, s.waiting-size, w.few-nodes)),
        worth-set n f (slice_set waiting k 0) to (slice_index (slice_set waiting k 0) to + amount) to_below
            (omega (arith, length-set waiting k 0, s.waiting-size, w.few-nodes, to_below)),
      )

  volume-then : (j : ℕ) → slice_index (volumes_after k waiting volumes) j ≡ slice_index volumes j + amount * one_if_same k j
  unfolding volumes_after
  volume-then j =
      on-equal k j
      (λ e.
      let one = ap (λ x. amount * x) (same-one k j e) in
      let new : slice_index_or (volumes_after k waiting volumes) j 0 ≡ slice_index volumes k + amount =
      rw (← e) (get_or-set_same volumes k (slice_index volumes k + amount) 0 (omega (arith, s.volumes-size, w.few-nodes))) in
      let old : slice_index_or volumes j 0 ≡ slice_index_or volumes k 0 = ap (λ i. slice_index volumes i) (sym e) in
      omega arith)
      (λ off.
      let none = ap (λ x. amount * x) (other_none k j off) in
      omega (arith, get_or-set_other volumes k j (slice_index volumes k + amount) 0 (λ e. off (sym e))))

  final-then : final_volumes n links next (waiting_after k to waiting) (volumes_after k waiting volumes) ≡ final_volumes n links next waiting volumes
  unfolding final_volumes
  final-then =
      tabulate-cong 128 _ _ (λ j b.
      let step = ap (λ x. amount * x) (goes_on.1 j) in
      omega (arith, handed (λ i. leaves links next n i j), volume-then j))

  sending-then : Sending n links next (waiting_after k to waiting) (volumes_after k waiting volumes)
  unfolding waiting_after volumes_after
  sending-then =
      record {
        waiting-size = length-set (slice_set waiting k 0) to _ ∙ length-set waiting k 0 ∙ s.waiting-size;
        volumes-size = length-set volumes k _ ∙ s.volumes-size;
        few = omega (arith, handed (λ i. 1), s.few);
        small = λ j b. rw final-then (s.small j b);
      }

  fewer-then : links_ahead n links next (waiting_after k to waiting) + amount ≡ links_ahead n links next waiting
  unfolding links_ahead
  fewer-then =
      let step = ap (λ x. amount * x) goes_on.0 in
      omega (arith, handed (λ i. length (walk_along links next n i)))

-- Trips are sent on from where they wait at first,
pub sent-none : {n : ℕ} {links : List (List ℕ)} {next waiting volumes : List ℕ} → Sending n links next waiting volumes
    → Sent n links next waiting volumes waiting volumes
sent-none s = record { sending = s; same = refl }

-- and from one node more.
pub sent-more : {n : ℕ} {links : List (List ℕ)} {next waiting₀ volumes₀ waiting volumes : List ℕ} → Followable n links next
    → Sent n links next waiting₀ volumes₀ waiting volumes → {k : ℕ} → k < n → (slice_index next k ≢ no_link)
    → {to : ℕ} → to ≡ head links (slice_index next k)
    → Sent n links next waiting₀ volumes₀ (waiting_after k to waiting) (volumes_after k waiting volumes)
sent-more w s h away to≡ =
    record { sending = sending-then w s.sending h away to≡; same = final-then w s.sending h away to≡ ∙ s.same }

-- A turn over the nodes: none is passed at first,
pub below_none : {n : ℕ} {links : List (List ℕ)} {next waiting volumes : List ℕ} → Sending n links next waiting volumes
    → SentBelow n links next 0 waiting volumes waiting volumes 0
below_none s = record { sent = sent-none s; fewer = omega arith; none_left = λ e j b. absurd (omega arith) }

module _ {n : ℕ} {links : List (List ℕ)} {next : List ℕ} {k : ℕ} {waiting₀ volumes₀ waiting volumes : List ℕ} {count : ℕ}
    (s : SentBelow n links next k waiting₀ volumes₀ waiting volumes count) where
  -- a node is passed where nothing waits or there is no next link,
  pub below-skips : (slice_index waiting k ≡ 0) ⊎ (slice_index next k ≡ no_link) → SentBelow n links next (k + 1) waiting₀ volumes₀ waiting volumes count
  below-skips why =
      record {
        sent = s.sent;
        fewer = s.fewer;
        none_left = λ e j b away. on-equal j k
            (λ same. rw same (⊎_elim (λ z. z) (λ z. absurd (away (rw same z))) why))
            (λ other. s.none_left e j (omega (arith, other)) away);
      }

  -- and sends otherwise.
  pub below-sends : Followable n links next → k < n → (slice_index waiting k ≢ 0) → (slice_index next k ≢ no_link)
      → {to : ℕ} → to ≡ head links (slice_index next k)
      → SentBelow n links next (k + 1) waiting₀ volumes₀ (waiting_after k to waiting) (volumes_after k waiting volumes) (count + 1)
  below-sends w h some away to≡ =
      record {
        sent = sent-more w s.sent h away to≡;
        fewer = omega (arith, fewer-then w s.sent.sending h away to≡, s.fewer, some);
        none_left = λ e j b _. absurd (omega arith);
      }

-- That some sent is as good as how many.
pub below_one : {n : ℕ} {links : List (List ℕ)} {next : List ℕ} {k : ℕ} {waiting₀ volumes₀ waiting volumes : List ℕ} (count : ℕ)
    → SentBelow n links next k waiting₀ volumes₀ waiting volumes (count + 1) → SentBelow n links next k waiting₀ volumes₀ waiting volumes 1
below_one count s = record { sent = s.sent; fewer = omega (arith, s.fewer); none_left = λ e j b _. absurd (omega arith) }

-- Where no node sends any more, the volumes are final.
pub sending-ends : {n : ℕ} {links : List (List ℕ)} {next waiting₀ volumes₀ waiting volumes : List ℕ} {count : ℕ}
    → SentBelow n links next n waiting₀ volumes₀ waiting volumes count → count ≡ 0 → volumes ≡ final_volumes n links next waiting volumes
unfolding final_volumes worth
sending-ends {n} {links} {next} {waiting} {volumes} {count} s none =
    ext_get_or 0 volumes (final_volumes n links next waiting volumes)
    (s.sent.sending.volumes-size ∙ sym (length-tabulate 128 (λ j. slice_index volumes j + worth n (λ i. leaves links next n i j) waiting)))
    (λ j b. complete j (omega (arith, s.sent.sending.volumes-size)))
  where
    nothing : (j i : ℕ) → i < n → slice_index waiting i * leaves links next n i j ≡ 0
    nothing j i h =
        on-equal (slice_index next i) no_link
        (λ e. rw (leaves_none links next n i j e) (omega arith))
        (λ away. rw (s.none_left none i h away) (omega arith))

    complete : (j : ℕ) → j < 128 → slice_index volumes j ≡ slice_index (final_volumes n links next waiting volumes) j
    complete j b = omega (arith, sum-zero n _ (nothing j), final-at n links next waiting volumes j b)

-- The heads of next links are written node by node,
pub heads-more : (links : List (List ℕ)) (next : List ℕ) (heads : List (Option ℕ)) (k : ℕ) (found : Option ℕ) → HeadsBelow k links next heads → k < length heads
    → HeadOf links next k found → HeadsBelow (k + 1) links next (slice_set heads k found)
heads-more links next heads k found so_far few is j b =
    on-equal j k
    (λ e. rw (e, get_or-set_same heads k found None few) is)
    (λ off. rw (get_or-set_other heads k j found None off) (so_far j (omega (arith, off))))

-- and no node has been counted more often than nodes were passed.
pub counts-more : (counts : List ℕ) (h k : ℕ) → h < length counts → ((i : ℕ) → slice_index counts i ≤ k)
    → (i : ℕ) → slice_index (slice_set counts h (slice_index counts h + 1)) i ≤ k + 1
counts-more counts h k few so_far i =
    on-equal i h
    (λ e. rw (e, get_or-set_same counts h (slice_index counts h + 1) 0 few) (omega (arith, so_far h)))
    (λ off. rw (get_or-set_other counts h i (slice_index counts h + 1) 0 off) (omega (arith, so_far i)))

-- Where there are no trips there is nothing to send.
pub volumes-none : (n : ℕ) (links : List (List ℕ)) (next trips : List ℕ) → ZeroBelow n trips → all_zero ≡ volumes_along n links next (λ j. slice_index trips j)
unfolding all_zero volumes_along
volumes-none n links next trips zeros =
    ext_get_or 0 (replicate 128 0) (tabulate 128 volume) (length-replicate {A = ℕ} 128 0 ∙ sym (length-tabulate 128 volume))
    (λ j h. let b : j < 128 = omega (arith, length-replicate {A = ℕ} 128 0) in
    get_or-replicate 128 j 0 0 b ∙ sym (get_d_tabulate 128 volume 0 j b ∙ sum-zero n _ (λ i c. rw (zeros i c) (omega arith))))
  where
    volume : ℕ → ℕ
    volume j = sum n (λ i. slice_index trips i * leaves links next n i j)

-- Numbers are joined one after the other: where no bit is left they are all 0, and so is what they are joined to.
pub zero_joined : (xs : List ℕ) (any : ℕ) → fold (λ c x. bit_or c x) any xs ≡ 0 → (any ≡ 0) × ZeroBelow (length xs) xs
zero_joined [] any e = (e, λ i h. absurd (omega arith))
zero_joined (x ∷ xs) any e =
    let rest = zero_joined xs (bit_or any x) e in (
      omega (arith, or-grows any x, rest.0),
      first (omega (arith, or_comm any x, or-grows x any, rest.0)) rest.1,
    )
  where
    first : x ≡ 0 → ZeroBelow (length xs) xs → ZeroBelow (length (x ∷ xs)) (x ∷ xs)
    first is others zero h = is
    first is others (suc i) h = others i (le_of_suc-le-suc h)
