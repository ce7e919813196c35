-- The times that are computed from rows and lists are those of the network of a study, where the list holds the totals of a table.
use Rattle.std.specs.Prelude.{◌≡◌, ℕ, ◌<◌, List, [], length, slice_index, slice_index_or}
use Rattle.std.proofs.Math.Path.{sym, ap}
use Rattle.std.proofs.Common.{◌∙◌}
use Rattle.theory.specs.Network.{Network}
use Rattle.theory.specs.Study.{capacity, network}
use Rattle.theory.specs.Flows.{link_total, step, times}
use Rattle.theory.specs.Laws.Times.{times-at}
use Rattle.travel.specs.Links.{padded, row_time, list_time}
use Rattle.travel.specs.Laws.Padded.{get_d-padded}

-- The first m numbers of a list are f 0, .., f (m - 1).
abbrev pub Holds : ℕ → (ℕ → ℕ) → List ℕ → Type 0
Holds m f xs = (l : ℕ) → l < m → slice_index xs l ≡ f l

pub padded-holds : (m : ℕ) (f : ℕ → ℕ) {xs : List ℕ} → xs ≡ padded m f → Holds m f xs
padded-holds m f e l p = ap (λ xs. slice_index xs l) e ∙ get_d-padded m f l p

module _ (nodes : ℕ) (links : List (List ℕ)) (destinations trips : List ℕ) where
  abbrev g : Network
  g = network nodes links destinations trips

  module _ (table flows : List ℕ) (held : Holds (length links) (link_total (length destinations) (length links) table) flows) where
    pub times-agree : (share l : ℕ) → l < length links →
        slice_index (padded (length links) (list_time links share flows)) l ≡ slice_index (times g share table) l
    unfolding list_time network
    times-agree share l p =
        get_d-padded (length links) (list_time links share flows) l p
        ∙ ap (λ flow. row_time (slice_index_or links l []) (step (capacity links l) share flow)) (held l p)
        ∙ sym (times-at g share table l p)
