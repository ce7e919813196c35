-- Next links.
use Rattle.std.specs.Prelude.{ℕ, ◌<◌, ◌≡◌, refl, true, false, List, ◌≢◌, length, get_or}
use Rattle.std.proofs.Common.{arith, sym, ◌∙◌, ap, eq-eqb, eqb-true}
use Rattle.std.proofs.Math.Option.{Option, none, some, some-injective}
use Rattle.theory.specs.Finite.{first}
use Rattle.theory.specs.Routes.{Routing, distances, distance, same_distance, from_head, fits_next, next_links}
use Rattle.theory.specs.Laws.Cases.{on-option, on_test, none-some, true-false}
use Rattle.theory.specs.Laws.Finite.{Lowest, first_some, first-none, none_first, length-tabulate, get_d_tabulate}
use Rattle.theory.specs.Laws.Paths.{WellFormed}
use Rattle.theory.specs.Laws.Rounds.{Through, listed, from-head, to-node}
use Rattle.theory.specs.Laws.Distances.{destination-time, distance-attained}

same-distance : (a b : Option ℕ) → same_distance a b ≡ true → (x : ℕ) × (a ≡ some x) × (b ≡ some x)
same-distance none b e = true-false e refl
same-distance (some x) none e = true-false e refl
same-distance (some x) (some y) e = (x, refl, ap {B = Option ℕ} some (sym (eqb-true x y e)))

distance-same : (x : ℕ) (a b : Option ℕ) → a ≡ some x → b ≡ some x → same_distance a b ≡ true
distance-same x a b e f = rw (e, f) (eq-eqb x x refl)

-- A node has its number through each link that fits as its next link,
pub fits-through :
    (q : Routing) (d : List (Option ℕ)) (j l : ℕ) → l < q.links → fits_next q d j l ≡ true →
    (y : ℕ) × (get_or d j none ≡ some y) × Through q (listed d) j y l
unfolding fits_next
fits-through q d j l h e =
    let (y, f, g) = same-distance (from_head q d j l) (get_or d j none) e in
    (y, g, from-head q d j y l h f)

-- and each link through which the node has its number fits.
pub through-fits :
    (q : Routing) (d : List (Option ℕ)) (j y l : ℕ) → get_or d j none ≡ some y → Through q (listed d) j y l → fits_next q d j l ≡ true
unfolding fits_next
through-fits q d j y l e t = distance-same y (from_head q d j l) (get_or d j none) (to-node q d j y l t) e

-- There is a next link, or none, for each node:
pub length-next : (q : Routing) → length (next_links q) ≡ q.nodes
unfolding next_links
length-next q = length-tabulate q.nodes _

-- the lowest-numbered one that fits.
pub next-first : (q : Routing) (j : ℕ) → j < q.nodes → get_or (next_links q) j none ≡ first q.links (fits_next q (distances q) j)
unfolding next_links
next-first q j h = get_d_tabulate q.nodes _ none j h

-- A node without a path has no next link.
pub next-without-path : (q : Routing) (j : ℕ) → j < q.nodes → distance q j ≡ none → get_or (next_links q) j none ≡ none
next-without-path q j h e = next-first q j h ∙ none_first q.links (fits_next q (distances q) j) unfit
  where
    unfit : (l : ℕ) → l < q.links → fits_next q (distances q) j l ≡ false
    unfit l b =
        on_test (fits_next q (distances q) j l)
        (λ f. let (y, g, t) = fits-through q (distances q) j l b f in none-some e g)
        (λ f. f)

-- A node's next link, where the node's distance is y: its time and its head's distance add up to y, so the head's is smaller.
pub record NextLink (q : Routing) (j y : ℕ) : Type 0 where
  pub link : ℕ
  pub is-next : get_or (next_links q) j none ≡ some link
  pub lowest : Lowest q.links (fits_next q (distances q) j) link
  pub through : Through q (distance q) j y link

module _ (q : Routing) (w : WellFormed q) where
  -- Each node with a distance has a next link, but for the destination;
  pub next-link : (j y : ℕ) → j < q.nodes → j ≢ q.destination → distance q j ≡ some y → NextLink q j y
  next-link j y h n e = on-option (first q.links (fits_next q (distances q) j)) missing found
    where
      missing : first q.links (fits_next q (distances q) j) ≡ none → NextLink q j y
      missing f =
          let (l, t) = distance-attained q w j y h n e in
          let unfit = first-none q.links (fits_next q (distances q) j) f l t.below in
          true-false (through-fits q (distances q) j y l e t) unfit

      found : (l : ℕ) → first q.links (fits_next q (distances q) j) ≡ some l → NextLink q j y
      found l f =
          let low = first_some q.links (fits_next q (distances q) j) l f in
          let (y', g, t) = fits-through q (distances q) j l low.below low.fits in
          let same : y' ≡ y = some-injective y' y (sym g ∙ e) in
          record { link = l; is-next = next-first q j h ∙ f; lowest = low; through = rw same at t }

  -- the destination, where every time is at least 1, has none.
  pub next-destination : get_or (next_links q) q.destination none ≡ none
  next-destination =
      next-first q q.destination w.destination-node ∙ none_first q.links (fits_next q (distances q) q.destination) unfit
    where
      misfit : (l : ℕ) → l < q.links → fits_next q (distances q) q.destination l ≡ true → ⊥
      misfit l b f =
          let (y, g, t) = fits-through q (distances q) q.destination l b f in
          let zero = destination-time q w q.destination y refl g in
          omega (arith, w.some-time l b, t.adds-up)

      unfit : (l : ℕ) → l < q.links → fits_next q (distances q) q.destination l ≡ false
      unfit l b = on_test (fits_next q (distances q) q.destination l) (λ f. absurd (misfit l b f)) (λ f. f)
