-- Walks along next links.
use Rattle.std.specs.Prelude.{◌≡◌, ℕ, zero, suc, ◌<◌, List, [], ◌∷◌, map, ◌≢◌, slice_index, slice_index_or}
use Rattle.std.proofs.Common.{arith, ◌∙◌}
use Rattle.std.proofs.Math.Path.{refl, ap}
use Rattle.std.proofs.Math.Option.{none}
use Rattle.std.proofs.Math.ListN.{get_or-map}
use borrow.Author.Tests.{ne_eqb}
use Rattle.theory.specs.Routes.{walk}
use Rattle.theory.specs.Study.{head, no_link}
use Rattle.loading.specs.Along.{link_of, walk_along, Followable}
use Rattle.theory.specs.Laws.Padded.{get_d_default}

module _ {n : ℕ} {links : List (List ℕ)} {next : List ℕ} (w : Followable n links next) {i : ℕ} (h : i < n) where
  -- The next link of a node, as the walk reads it.
  next-at : slice_index_or (map link_of next) i none ≡ link_of (slice_index next i)
  unfolding link_of
  next-at =
      get_or-map link_of next i no_link ∙ ap link_of (get_d_default next i no_link 0 (omega (arith, w.few-nodes, w.size)))

  -- A walk stops where there is no next link,
  pub walk-stops : (left : ℕ) → slice_index next i ≡ no_link → walk_along links next left i ≡ []
  unfolding walk_along walk link_of
  walk-stops zero e = refl
  walk-stops (suc left) e = rw (next-at, e, walk)

  -- and goes on by the next link otherwise.
  pub walk-goes : (left : ℕ) → (slice_index next i ≢ no_link)
      → walk_along links next (suc left) i ≡ slice_index next i ∷ walk_along links next left (head links (slice_index next i))
  unfolding walk_along walk link_of
  walk-goes left some-link = rw (next-at, ne_eqb (slice_index next i) no_link some-link, walk)
