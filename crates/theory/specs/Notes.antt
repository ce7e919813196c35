-- (A.6) The note of a pass, and taking a loading back out: tables, shares and notes over a network.
use Rattle.std.specs.Prelude.{ℕ, suc, ◌+◌, ◌*◌, ◌-◌, ◌/◌, ◌%◌, Bool, true, false, not, ◌&&◌, ◌||◌, cond, List, [], ◌∷◌, map, get_or, replicate, leb, ltb, eqb}
use Rattle.std.proofs.Math.Option.{Option, none, some}
use Rattle.theory.specs.Finite.{all, tabulate, rows}
use Rattle.theory.specs.Network.{Network}
use Rattle.theory.specs.Flows.{total, times}
use Rattle.theory.specs.Routes.{routing, next_links, walk, sent_along, loading}
use Rattle.theory.specs.Moves.{Shared, table_size, chosen}
use Rattle.theory.specs.Study.{no_link, link_mark}

-- The note has j, then p·n next links, destination by destination. How many links, and how many numbers:
abbrev pub note_links : Network → ℕ
note_links g = g.commodities * g.nodes

abbrev pub note_size : Network → ℕ
note_size g = suc (note_links g)

-- The next link of every node for every commodity at the times of a list, 65,535 for none.
unfoldable pub next_marks : Network → List ℕ → List ℕ
next_marks g t = rows g.commodities (λ k. map link_mark (next_links (routing g t k)))

-- The note of a pass that moves a table: the chosen j, then the next links at the judged table's times. A doubling has j = 0 and 65,535
-- throughout.
unfoldable pub note_of : Network → Shared → List ℕ
note_of g x =
    let t = times g x.share x.table in
    let j = chosen g x.share (total g x.table) (total g (loading g t)) in
    j ∷ cond (eqb j 0) (replicate (note_links g) no_link) (next_marks g t)

-- A note that taking back is handed may hold any numbers. Its j, and what it has for a commodity at a node:
abbrev pub note_step : List ℕ → ℕ
note_step note = get_or note 0 0

abbrev pub note_entry : Network → List ℕ → ℕ → ℕ → ℕ
note_entry g note k j = get_or note (suc (k * g.nodes + j)) 0

-- One of a node's own outgoing links that is permitted to the commodity.
unfoldable pub leaves_by : Network → ℕ → ℕ → ℕ → Bool
leaves_by g k j l = ltb l g.links && eqb (g.tail l) j && g.may_use k l

-- The next links of a commodity by the note: what it has at a node, where that is such a link. A destination has none.
unfoldable pub noted_links : Network → List ℕ → ℕ → List (Option ℕ)
noted_links g note k =
    tabulate g.nodes (λ j.
    let l = note_entry g note k j in
    cond (not (eqb j (g.destination k)) && leaves_by g k j l) (some l) none)

-- The node at the end of a walk from a node.
abbrev pub walk_end : (ℕ → ℕ) → ℕ → List ℕ → ℕ
walk_end head j [] = j
walk_end head j (l ∷ walk) = walk_end head (head l) walk

-- From a node the note leads along these links to the commodity's destination within n steps.
unfoldable pub leads_from : Network → ℕ → List (Option ℕ) → ℕ → Bool
leads_from g k next j = eqb (walk_end g.head j (walk g.head next g.nodes j)) (g.destination k)

-- Question 21: does the note, for j above 0, lead every node with trips to the destination?
unfoldable pub note_leads : Network → List ℕ → Bool
note_leads g note =
    eqb (note_step note) 0
    || all g.commodities (λ k.
    let next = noted_links g note k in
    all g.nodes (λ j. eqb (g.trips k j) 0 || leads_from g k next j))

-- Y of a note: its loading.
unfoldable pub note_loading : Network → List ℕ → List ℕ
note_loading g note = rows g.commodities (λ k. sent_along g.nodes g.links g.head (noted_links g note k) (g.trips k))

abbrev pub even : ℕ → Bool
even x = eqb (x % 2) 0

-- Question 22: is j below W, and no table entry smaller than its part of j·Y? Or are share and every entry even, where they are to be halved?
unfoldable pub can_take_back : Network → Shared → List ℕ → Bool
can_take_back g x note =
    let j = note_step note in
    elim (eqb j 0) [
      | false ↦ ltb j x.share
          && (let y = note_loading g note in all (table_size g) (λ i. leb (j * get_or y i 0) (get_or x.table i 0)))
      | true ↦ even x.share && all (table_size g) (λ i. even (get_or x.table i 0))
    ]

-- Taking back lessens the table by j·Y and W by j, or halves both.
unfoldable pub taken_back : Network → Shared → List ℕ → Shared
taken_back g x note =
    let j = note_step note in
    let y = note_loading g note in
    elim (eqb j 0) [
      | false ↦ record { table = tabulate (table_size g) (λ i. get_or x.table i 0 - j * get_or y i 0); share = x.share - j }
      | true ↦ record { table = tabulate (table_size g) (λ i. get_or x.table i 0 / 2); share = x.share / 2 }
    ]
