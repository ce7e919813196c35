-- How often trips leave a node.
use Rattle.std.specs.Prelude.{◌≡◌, ℕ, zero, suc, ◌+◌, ◌-◌, ◌*◌, ◌<◌, cond, List, ◌∷◌, length, ◌==◌, ◌≢◌, slice_index, slice_index_or}
use Rattle.std.proofs.Common.{arith, ◌∙◌, eq-eqb, ne_eqb}
use Rattle.std.proofs.Math.Path.{refl, sym, ap}
use Rattle.theory.specs.Finite.{sum}
use Rattle.theory.specs.Routes.{walk, occurrences}
use Rattle.theory.specs.Laws.Cases.{on-equal}
use Rattle.theory.specs.Laws.Finite.{sum-cong, sum-zero, sum-add, sum-pick}
use Rattle.theory.specs.Study.{head, no_link}
use Rattle.loading.specs.Along.{walk_along, one_if_same, leaves, Followable}
use Rattle.loading.specs.Laws.Along.{walk-stops, walk-goes}

-- Whether two numbers are the same.
pub same-one : (i j : ℕ) → i ≡ j → one_if_same i j ≡ 1
unfolding one_if_same
same-one i j e = rw (eq-eqb i j e)

pub other_none : (i j : ℕ) → (i ≢ j) → one_if_same i j ≡ 0
unfolding one_if_same
other_none i j away = rw (ne_eqb i j away)

one_more : (p l : ℕ) (path : List ℕ) → occurrences l (p ∷ path) ≡ one_if_same p l + occurrences l path
unfolding one_if_same
one_more p l path = refl

-- Of the terms that count where a number is i, the sum has the one at i.
sum_same : (n i : ℕ) (f : ℕ → ℕ) → i < n → sum n (λ j. f j * one_if_same i j) ≡ f i
sum_same n i f h = sum-cong n _ (λ j. cond (i == j) (f j) 0) (λ j b. each j) ∙ sum-pick n f i h
  where
    each : (j : ℕ) → f j * one_if_same i j ≡ cond (i == j) (f j) 0
    each j =
        on-equal i j
        (λ e. rw (same-one i j e, eq-eqb i j e) (omega arith))
        (λ away. rw (other_none i j away, ne_eqb i j away) (omega arith))

-- A trip from a node without a next link leaves none,
pub leaves_none : (links : List (List ℕ)) (next : List ℕ) (most i j : ℕ) → slice_index next i ≡ no_link → leaves links next most i j ≡ 0
unfolding leaves
leaves_none links next zero i j e = refl
leaves_none links next (suc most) i j e = rw (eq-eqb (slice_index next i) no_link e)

-- and any other its own, and those that it leaves from the head of its next link.
leaves-goes : (links : List (List ℕ)) (next : List ℕ) (most i j : ℕ) → (slice_index next i ≢ no_link)
    → leaves links next (suc most) i j ≡ one_if_same i j + leaves links next most (head links (slice_index next i)) j
unfolding leaves
leaves-goes links next most i j away = rw (ne_eqb (slice_index next i) no_link away)

module _ {n : ℕ} {links : List (List ℕ)} {next : List ℕ} (w : Followable n links next) where
  pub head-below : (i : ℕ) → i < n → (slice_index next i ≢ no_link) → head links (slice_index next i) < n
  head-below i h away = w.head-node (slice_index next i) (w.next-link i h away)

  -- There are few nodes.
  pub head_few : (i : ℕ) → i < n → (slice_index next i ≢ no_link) → head links (slice_index next i) < 128
  head_few i h away = omega (arith, w.few-nodes, head-below i h away)

  -- No trip leaves a node without a next link, nor a number that is no node.
  pub leaves-never : (j : ℕ) → (j < n → (slice_index next j ≢ no_link) → ⊥) → (most i : ℕ) → i < n → leaves links next most i j ≡ 0
  unfolding leaves
  leaves-never j never zero i h = refl
  leaves-never j never (suc most) i h =
      on-equal (slice_index next i) no_link (leaves_none links next (suc most) i j)
      (λ away.
      let other : one_if_same i j ≡ 0 = other_none i j (λ e. never (rw e at h) (rw e at away)) in
      omega (arith, leaves-goes links next most i j away, leaves-never j never most (head links (slice_index next i)) (head-below i h away)))

  -- What holds of walks that stop, and of a walk where it holds of the rest of it, holds of each walk that ends within its limit.
  module _ (P : ℕ → ℕ → Type 0)
      (stops : (a i : ℕ) → i < n → slice_index next i ≡ no_link → P (suc a) i)
      (goes : (a i : ℕ) → i < n → (slice_index next i ≢ no_link) → P a (head links (slice_index next i)) → P (suc a) i) where
    within-limit : (a i : ℕ) → i < n → length (walk_along links next a i) < a → P a i
    within-limit zero i h b = absurd (omega arith)
    within-limit (suc a) i h b =
        on-equal (slice_index next i) no_link (stops a i h)
        (λ away. goes a i h away (within-limit a (head links (slice_index next i)) (head-below i h away) (shorter away)))
      where
        shorter : (slice_index next i ≢ no_link) → length (walk_along links next a (head links (slice_index next i))) < a
        shorter away =
            let size : length (walk_along links next (suc a) i) ≡ suc (length (walk_along links next a (head links (slice_index next i)))) =
            ap length (walk-goes w h a away) in
            omega arith

  -- The walk, and the nodes that it leaves, are the same under a limit of one link more.
  walk-settles : (a i : ℕ) → i < n → length (walk_along links next a i) < a → walk_along links next (suc a) i ≡ walk_along links next a i
  walk-settles =
      within-limit (λ a i. walk_along links next (suc a) i ≡ walk_along links next a i)
      (λ a i h e. walk-stops w h (suc (suc a)) e ∙ sym (walk-stops w h (suc a) e))
      (λ a i h away same. walk-goes w h (suc a) away ∙ ap (λ rest. slice_index next i ∷ rest) same ∙ sym (walk-goes w h a away))

  leaves-settle : (j a i : ℕ) → i < n → length (walk_along links next a i) < a → leaves links next (suc a) i j ≡ leaves links next a i j
  leaves-settle j =
      within-limit (λ a i. leaves links next (suc a) i j ≡ leaves links next a i j)
      (λ a i h e. leaves_none links next (suc (suc a)) i j e ∙ sym (leaves_none links next (suc a) i j e))
      (λ a i h away same. omega (arith, leaves-goes links next (suc a) i j away, leaves-goes links next a i j away))

  -- So the walk of a node, after its first link, is the walk of that link's head.
  module _ (i : ℕ) (h : i < n) (away : slice_index_or next i 0 ≡ no_link → ⊥) where
    sets-out-by : (a : ℕ) → suc a ≡ n
        → (length (walk_along links next n i) ≡ 1 + length (walk_along links next n (head links (slice_index next i))))
        × ((j : ℕ) → leaves links next n i j ≡ one_if_same i j + leaves links next n (head links (slice_index next i)) j)
    sets-out-by a e = rw (← e) (steps (rw (← e) at (w.ends i h)))
      where
        steps : length (walk_along links next (suc a) i) < suc a
            → (length (walk_along links next (suc a) i) ≡ 1 + length (walk_along links next (suc a) (head links (slice_index next i))))
            × ((j : ℕ) → leaves links next (suc a) i j ≡ one_if_same i j + leaves links next (suc a) (head links (slice_index next i)) j)
        steps short =
            let size : length (walk_along links next (suc a) i) ≡ suc (length (walk_along links next a (head links (slice_index next i)))) =
            ap length (walk-goes w h a away) in
            let shorter : length (walk_along links next a (head links (slice_index next i))) < a = omega arith in
            let same = ap length (walk-settles a (head links (slice_index next i)) (head-below i h away) shorter) in (
              omega arith,
              λ j. omega (arith, leaves-goes links next a i j away, leaves-settle j a (head links (slice_index next i)) (head-below i h away) shorter),
            )

    pub sets-out :
        (length (walk_along links next n i) ≡ 1 + length (walk_along links next n (head links (slice_index next i))))
        × ((j : ℕ) → leaves links next n i j ≡ one_if_same i j + leaves links next n (head links (slice_index next i)) j)
    sets-out = sets-out-by (n - 1) (omega arith)

  -- A trip goes by a link as often as it leaves the nodes whose next link that is.
  pub walk-leaves : (l most i : ℕ) → i < n
      → sum n (λ j. one_if_same (slice_index next j) l * leaves links next most i j) ≡ occurrences l (walk_along links next most i)
  unfolding leaves walk_along walk
  walk-leaves l zero i h = sum-zero n _ (λ j b. omega arith)
  walk-leaves l (suc most) i h =
      on-equal (slice_index next i) no_link
      (λ e.
      sum-zero n _ (λ j b. rw (leaves_none links next (suc most) i j e) (omega arith)) ∙ sym (ap (occurrences l) (walk-stops w h (suc most) e)))
      (λ away. goes away (walk-leaves l most (head links (slice_index next i)) (head-below i h away)))
    where
      goes : (slice_index next i ≢ no_link)
          → sum n (λ j. one_if_same (slice_index next j) l * leaves links next most (head links (slice_index next i)) j)
          ≡ occurrences l (walk_along links next most (head links (slice_index next i)))
          → sum n (λ j. one_if_same (slice_index next j) l * leaves links next (suc most) i j) ≡ occurrences l (walk_along links next (suc most) i)
      goes away rest =
          sum-cong n _
          (λ j. one_if_same (slice_index next j) l * one_if_same i j + one_if_same (slice_index next j) l * leaves links next most (head links (slice_index next i)) j)
          (λ j b. rw (leaves-goes links next most i j away) (omega arith))
          ∙ sum-add n (λ j. one_if_same (slice_index next j) l * one_if_same i j)
          (λ j. one_if_same (slice_index next j) l * leaves links next most (head links (slice_index next i)) j)
          ∙ omega (arith, sum_same n i (λ j. one_if_same (slice_index next j) l) h, rest, ap (occurrences l) (walk-goes w h most away) ∙ one_more (slice_index next i) l (walk_along links next most (head links (slice_index next i))))
