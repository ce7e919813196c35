-- A judged table: what the arrays of its totals, times, next links and loading say of its gap, cost and move.
use Rattle.std.specs.Prelude.{ℕ, ◌+◌, ◌*◌, ◌-◌, ◌≤◌, ◌<◌, min, ◌≡◌, refl, true, false, List, [], length, set, replicate, leb}
use Rattle.std.proofs.Math.Nat.{le_trans}
use Rattle.std.proofs.Common.{mul-le-mul_left, mul-le-mul_right, arith, ◌∙◌, ⊎_elim, length-set, get_or-set_same, get_or-set_other}
use Rattle.std.proofs.Math.Path.{sym, ap, ap₂}
use Rattle.std.proofs.Math.ListN.{get_or, get_or-eq_default}
use Rattle.theory.specs.Flows.{link_total, total, step, step_time, times, is_over, over}
use Rattle.theory.specs.Routes.{loading}
use Rattle.theory.specs.Cost.{link_cost, cost, least_times, spent_times, gap}
use Rattle.theory.specs.Moves.{moved_times, qualifies, chosen, added, doubled, moves}
use Rattle.theory.specs.Notes.{note_of}
use Rattle.theory.specs.Laws.Cases.{true-false}
use Rattle.theory.specs.Laws.Finite.{order, sum-cong, count-cong, largest-cong}
use Rattle.theory.specs.Laws.Times.{length-times, times-at}
use Rattle.theory.specs.Laws.Tables.{totals_fit-all, number-most}
use Rattle.theory.specs.Laws.Routings.{routing-consistent}
use Rattle.theory.specs.Laws.Loading.{loading-spends}
use Rattle.theory.specs.Laws.Bound.{gap-exact}
use Rattle.theory.specs.Laws.Choice.{chosen-le}
use Rattle.theory.specs.Laws.Moves.{chosen_of}
use Rattle.theory.specs.Laws.Local.{move_by, move-by}
use Rattle.theory.specs.Study.{free_time, rise, capacity, power, network}
use Rattle.calls.specs.Calls.{table_after, note_after}
use Rattle.travel.specs.Links.{padded, roads, list_time, list_cost, list_over, list_product, total_of, load_of}
use Rattle.travel.specs.Ranges.{Within, ShareFits, TimesFit, MoveFits, most_flow}
use Rattle.travel.specs.Laws.Padded.{length-padded, get_d-padded, get_d-padded-rest, padded-clear, zeros-clear}
use Rattle.search.specs.Groups.{least_over}
use Rattle.judging.specs.declared.Step.{Step}
use Rattle.judging.specs.Study.{Study, link_count, commodity_count, network_in, Ready, Judgeable, move_of}
use Rattle.moves.specs.Loading.{loading_along, volume_rows}
use Rattle.moves.specs.Moves.{can_move, move_along, TotalsMovable, Movable}
use Rattle.judging.specs.Noted.{note_by, Notable}
use Rattle.judging.specs.Judged.{Lent, TotalsOf, Known, JudgedAt, GapFits, Left, turn_of}
use Rattle.judging.specs.Laws.Study.{holds_rows, links-fit}
use Rattle.moves.specs.Laws.Moves.{moves-by}
use Rattle.moves.specs.Laws.Totals.{moved_to, moved-totals}
use Rattle.judging.specs.Laws.Classes.{few-commodities}
use Rattle.judging.specs.Laws.Routes.{TimesIn, timed, served, loading-is, load-most, next-links}
use Rattle.judging.specs.Laws.Least.{least-over}
use Rattle.judging.specs.Laws.Noted.{note-by}

-- The choice of j goes by the flows of the links, their capacities and their times.
chosen-roads :
    (d : Study) (share : ℕ) (s y s' y' : ℕ → ℕ) → ((l : ℕ) → l < link_count d → s l ≡ s' l) → ((l : ℕ) → l < link_count d → y l ≡ y' l) →
    chosen (roads d.links) share s y ≡ chosen (network_in d) share s' y'
unfolding chosen qualifies moved_times network
chosen-roads d share s y s' y' same_s same-y =
    largest-cong (min 64 (1024 - share)) _ _ (λ j.
    ap₂ (λ a b. leb (share * a) b)
    (sum-cong (link_count d) _ _ (λ l h. ap₂ (λ u v. v * time j l (u + j * v)) (same_s l h) (same-y l h)))
    (sum-cong (link_count d) _ _ (λ l h. ap₂ (λ u v. u * time j l (u + j * v)) (same_s l h) (same-y l h))))
  where
    time : ℕ → ℕ → ℕ → ℕ
    time j l flow = step_time (free_time d.links l) (rise d.links l) (power d.links l) (step (capacity d.links l) (share + j) flow)

-- Arrays that hold what judging computes can be lent for judging.
pub known-lent :
    {d : Study} {share : ℕ} {times : List ℕ} {nexts volumes flows : List (List ℕ)} →
    Ready d → Known d share times nexts volumes flows → Lent d times nexts volumes flows
known-lent {d} ready known =
    record {
      times-clear = rw known.times-are (padded-clear (link_count d) _ ready.few-links);
      nexts-long = known.nexts-are.size;
      volumes-long = known.volumes-long;
      flows_long = known.flows_long;
      loads-clear = rw known.loads-are (padded-clear (link_count d) _ ready.few-links);
    }

-- So can new ones.
pub zeros-lent :
    (d : Study) {nexts volumes flows : List (List ℕ)} → commodity_count d ≤ length nexts → commodity_count d ≤ length volumes → length flows ≡ 2 →
    get_or flows 1 [] ≡ replicate 512 0 → Lent d (replicate 512 0) nexts volumes flows
zeros-lent d nexts-long volumes-long flows_long none =
    record {
      times-clear = zeros-clear (link_count d);
      nexts-long = nexts-long;
      volumes-long = volumes-long;
      flows_long = flows_long;
      loads-clear = rw none (zeros-clear (link_count d));
    }

-- Two rows of flows. Where one is written, the other stays.
pub record TwoRows (flows : List (List ℕ)) (totals loads : List ℕ) : Type 0 where
  pub long : length flows ≡ 2
  pub totals-are : get_or flows 0 [] ≡ totals
  pub loads-are : get_or flows 1 [] ≡ loads

module _ (flows : List (List ℕ)) (row : List ℕ) {flows' : List (List ℕ)} (long : length flows ≡ 2) where
  pub totals-set : flows' ≡ set flows 0 row → TwoRows flows' row (get_or flows 1 [])
  totals-set e =
      rw e
      (record {
        long = length-set flows 0 row ∙ long;
        totals-are = get_or-set_same flows 0 row [] (omega arith);
        loads-are = get_or-set_other flows 0 1 row [] (λ s. omega arith);
      })

  pub loads-set : flows' ≡ set flows 1 row → TwoRows flows' (get_or flows 0 []) row
  loads-set e =
      rw e
      (record {
        long = length-set flows 1 row ∙ long;
        totals-are = get_or-set_other flows 1 0 row [] (λ s. omega arith);
        loads-are = get_or-set_same flows 1 row [] (omega arith);
      })

-- Arrays in which the totals S are written anew can still be lent.
pub totals-lent :
    {d : Study} (row : List ℕ) {times : List ℕ} {nexts volumes flows flows' : List (List ℕ)} → Lent d times nexts volumes flows →
    flows' ≡ set flows 0 row → Lent d times nexts volumes flows'
totals-lent row {flows} lent e =
    let rows = totals-set flows row lent.flows_long e in
    record {
      times-clear = lent.times-clear;
      nexts-long = lent.nexts-long;
      volumes-long = lent.volumes-long;
      flows_long = rows.long;
      loads-clear = rw rows.loads-are lent.loads-clear;
    }

module _ {d : Study} {table : List ℕ} {share : ℕ} (judgeable : Judgeable d table share) where
  abbrev ready : Ready d
  ready = judgeable.ready

  -- The times of the table, in link order.
  abbrev exact : List ℕ
  exact = times (network_in d) share table

  pub share-fits : ShareFits share
  share-fits = record { some_share = judgeable.some_share; share-fits = judgeable.share-most }

  pub holds : commodity_count d * link_count d ≤ length table
  holds = holds_rows d table judgeable.holds

  total-most : (l : ℕ) → l < link_count d → link_total (commodity_count d) (link_count d) table l ≤ share * 65535
  unfolding network
  total-most l h =
      le_trans (totals_fit-all (network_in d) share table judgeable.totals-fit l h) (mul-le-mul_left share ready.few-trips)

  -- The totals S stand in an array.
  module _ {totals : List ℕ} (totals-are : totals ≡ padded (link_count d) (link_total (commodity_count d) (link_count d) table)) where
    total-at : (l : ℕ) → l < link_count d → get_or totals l 0 ≡ link_total (commodity_count d) (link_count d) table l
    total-at l h = ap (λ xs. get_or xs l 0) totals-are ∙ get_d-padded (link_count d) _ l h

    flows-within : Within (link_count d) (share * 65535) totals
    flows-within l h = omega (arith, total-at l h, total-most l h)

    pub totals-within : Within (link_count d) most_flow totals
    totals-within l h = omega (arith, flows-within l h, mul-le-mul_right 65535 judgeable.share-most)

    pub cost-is : list_cost d.links share totals ≡ cost (network_in d) share table
    unfolding list_cost cost network
    cost-is =
        sum-cong (link_count d) _ _ (λ l h.
        ap (link_cost (step_time (free_time d.links l) (rise d.links l) (power d.links l)) (capacity d.links l) share) (total-at l h))

    pub over-is : list_over d.links share totals ≡ over (network_in d) share table
    unfolding list_over over network
    over-is = count-cong (link_count d) _ _ (λ l h. ap (λ flow. is_over (step (capacity d.links l) share flow)) (total-at l h))

    -- The times at them stand in an array.
    module _ {times' : List ℕ}
        (times-are : times' ≡ padded (link_count d) (list_time d.links share totals))
        (fit : TimesFit (link_count d) times') where
      time-at : (l : ℕ) → l < link_count d → get_or times' l 0 ≡ get_or exact l 0
      unfolding list_time network
      time-at l h =
          ap (λ xs. get_or xs l 0) times-are
          ∙ get_d-padded (link_count d) _ l h
          ∙ ap
          (λ flow. step_time (free_time d.links l) (rise d.links l) (power d.links l) (step (capacity d.links l) share flow))
          (total-at l h)
          ∙ sym (times-at (network_in d) share table l h)

      time-past : (l : ℕ) → link_count d ≤ l → get_or times' l 0 ≡ get_or exact l 0
      unfolding network
      time-past l h =
          ap (λ xs. get_or xs l 0) times-are
          ∙ get_d-padded-rest (link_count d) _ l h
          ∙ sym (get_or-eq_default exact 0 (omega (arith, length-times (network_in d) share table)))

      times-in : TimesIn d times' exact
      times-in = record { fit = fit; same = λ l. ⊎_elim (time-at l) (time-past l) (order l (link_count d)) }

      spent-is : list_product (link_count d) times' totals ≡ spent_times (network_in d) exact table
      unfolding list_product spent_times network
      spent-is = sum-cong (link_count d) _ _ (λ l h. ap₂ (λ a b. a * b) (time-at l h) (total-at l h))

      least-spent : share * least_times (network_in d) exact ≤ spent_times (network_in d) exact table
      least-spent =
          let exactly =
          gap-exact (network_in d) ready.sound share table
          (routing-consistent (network_in d) ready.sound exact (timed ready times-in)) judgeable.carries in
          omega arith

      -- The sum of D(j,s) × distance, as searches find it: W times that is at most the sum of t·S, and their difference is the gap.
      abbrev least' : ℕ
      least' = least_over d.nodes d.links d.commodities d.trips times'

      pub least_fits : share * least' ≤ list_product (link_count d) times' totals
      least_fits = rw (spent-is, least-over ready times-in) least-spent

      pub defined-gap : list_product (link_count d) times' totals - share * least' ≡ gap (network_in d) share table
      unfolding gap
      defined-gap = ap₂ (λ a b. a - share * b) spent-is (least-over ready times-in)

  -- All that is computed of the table stands in arrays.
  module _ {times' : List ℕ} {nexts volumes flows₀ flows : List (List ℕ)} (judged : JudgedAt d share flows₀ times' nexts volumes flows)
      (totals-were : TotalsOf d table flows₀) where
    abbrev c : Known d share times' nexts volumes flows
    c = judged.known

    pub totals-are : TotalsOf d table flows
    totals-are = judged.totals-kept ∙ totals-were

    -- A turn that moves nothing leaves them so.
    pub left-still : {step : Step} {share' gap' : ℕ} → Left d (turn_of step share' gap' false) table times' nexts volumes flows
    left-still = record { lent = known-lent ready c; totals-are = totals-are; known = λ e. true-false e refl }

    abbrev y : List ℕ
    y = loading_along d.nodes d.links (commodity_count d) d.trips nexts

    t : TimesIn d times' exact
    t = times-in totals-are c.times-are c.times-fit

    y-is : y ≡ loading (network_in d) exact
    y-is = loading-is ready t c.nexts-are

    load_at : (l : ℕ) → l < link_count d → load_of flows l ≡ link_total (commodity_count d) (link_count d) y l
    load_at l h = ap (λ xs. get_or xs l 0) c.loads-are ∙ get_d-padded (link_count d) _ l h

    load_is : (l : ℕ) → l < link_count d → load_of flows l ≡ total (network_in d) (loading (network_in d) exact) l
    unfolding network
    load_is l h = load_at l h ∙ ap (λ loading. link_total (commodity_count d) (link_count d) loading l) y-is

    loads-within : Within (link_count d) 65535 (get_or flows 1 [])
    loads-within l h = omega (arith, load_at l h, load-most ready t c.nexts-are l h)

    least-is : list_product (link_count d) times' (get_or flows 1 []) ≡ least_times (network_in d) exact
    unfolding list_product spent_times network
    least-is =
        sum-cong (link_count d) _ _ (λ l h. ap₂ (λ a b. a * b) (t.same l) (load_is l h))
        ∙ loading-spends (network_in d) ready.sound exact (timed ready t) (served ready t)

    -- The gap: it is the sum of t·S, less W times the sum of t·Y,
    pub gap_is : list_product (link_count d) times' (get_or flows 0 []) - share * list_product (link_count d) times' (get_or flows 1 []) ≡ gap (network_in d) share table
    unfolding gap
    gap_is = ap₂ (λ a b. a - share * b) (spent-is totals-are c.times-are c.times-fit) least-is

    -- of which neither is too large.
    pub gap-fits : GapFits (link_count d) times' flows share
    gap-fits =
        record {
          few-links = ready.few-links;
          times-fit = c.times-fit.times-fit;
          totals-fit = totals-within totals-are;
          loads-fit = λ l h. omega (arith, loads-within l h);
          least =
              rw (spent-is totals-are c.times-are c.times-fit, least-is)
              (least-spent totals-are c.times-are c.times-fit);
        }

    -- The choice of j,
    pub move-fits : MoveFits d.links flows share
    move-fits =
        record { links-fit = links-fit ready; shared = share-fits; totals-fit = flows-within totals-are; loads-fit = loads-within }

    abbrev Chosen : ℕ → Type 0
    Chosen j =
        j ≡ chosen (roads d.links) share (total_of flows) (load_of flows)

    step_is : {j : ℕ} → Chosen j → j ≡ chosen_of (network_in d) (record { table = table; share = share })
    unfolding network
    step_is e = e ∙ chosen-roads d share _ _ _ _ (total-at totals-are) load_is

    module _ {j : ℕ} (j-is : Chosen j) where
      -- and the move.
      pub movable : Movable d.nodes (link_count d) (commodity_count d) nexts volumes share j table
      movable =
          let most = chosen-le (network_in d) share (total (network_in d) table) (total (network_in d) (loading (network_in d) exact)) in
          let chose = step_is j-is in
          record {
            few-nodes = ready.few-nodes;
            few-links = ready.few-links;
            few-commodities = few-commodities ready;
            has-rows = (c.nexts-are.size, c.volumes-long);
            next-link = next-links ready t c.nexts-are;
            small-share = omega (arith, judgeable.share-most);
            holds = holds;
            flows = number-most (commodity_count d) (link_count d) table (share * 65535) total-most;
            loads = λ i h. rw c.volumes-are (number-most (commodity_count d) (link_count d) y 65535 (load-most ready t c.nexts-are) i h);
          }

      -- Its totals move with it,
      pub totals-movable : TotalsMovable (link_count d) j flows
      totals-movable =
          let most = chosen-le (network_in d) share (total (network_in d) table) (total (network_in d) (loading (network_in d) exact)) in
          let chose = step_is j-is in
          record {
            few-links = ready.few-links;
            size = ap length totals-are ∙ length-padded (link_count d) _ ready.few-links;
            small-step = omega arith;
            totals-fit = totals-within totals-are;
            loads-fit = λ l h. omega (arith, loads-within l h);
          }

      pub totals-moved :
          can_move share j ≡ true → {flows' : List (List ℕ)} {table' : List ℕ} →
          flows' ≡ moved_to (link_count d) j flows →
          table' ≡ table_after table (move_along (commodity_count d * link_count d) share j (volume_rows d.nodes (link_count d) (commodity_count d) nexts volumes) table) →
          TotalsOf d table' flows'
      totals-moved can e f =
          moved-totals (commodity_count d) (link_count d) share j _ table ready.few-links can flows c.flows_long totals-are
          (c.loads-are ∙ ap (λ y. padded (link_count d) (link_total (commodity_count d) (link_count d) y)) (sym c.volumes-are)) e f

      pub move-is :
          move_along (commodity_count d * link_count d) share j (volume_rows d.nodes (link_count d) (commodity_count d) nexts volumes) table
          ≡ move_of (network_in d) table share
      unfolding added doubled network
      move-is =
          ap₂ (λ j y. move_by share j (added (network_in d) table j y) (doubled (network_in d) table)) (step_is j-is) (c.volumes-are ∙ y-is)
          ∙ sym (move-by (network_in d) (record { table = table; share = share }))

      -- There is a move exactly where the code says so.
      pub moves-is : can_move share j ≡ moves (move_of (network_in d) table share)
      moves-is = sym (moves-by share j _ _) ∙ ap moves move-is

      -- The note of the move can be filled,
      pub notable : (note : List ℕ) → commodity_count d * d.nodes < length note → Notable d times' nexts j note
      notable note holds =
          let most = chosen-le (network_in d) share (total (network_in d) table) (total (network_in d) (loading (network_in d) exact)) in
          let chose = step_is j-is in
          record {
            ready = ready;
            times-fit = c.times-fit;
            nexts-are = c.nexts-are;
            small-step = omega arith;
            holds = holds;
          }

      -- and is the definition's.
      pub note-is : (note : List ℕ) → note_by (network_in d) times' j (2 * share) note ≡ note_after (note_of (network_in d) (record { table = table; share = share })) note (move_of (network_in d) table share)
      note-is note = note-by (network_in d) table share times' t.same note (step_is j-is)
