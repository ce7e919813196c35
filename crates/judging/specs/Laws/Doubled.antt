-- After a doubling. Twice the flow at twice the share changes no time, so what was computed of a table is known of the doubled one.
use Rattle.std.specs.Prelude.{ℕ, ◌*◌, ◌/◌, ◌≤◌, ◌<◌, min, ◌≡◌, true, List, []}
use Rattle.std.proofs.Math.Nat.{mul-div-mul_left}
use Rattle.std.proofs.Common.{arith, sym, ◌∙◌, ap₂, leb-true, le-ltb}
use Rattle.std.proofs.Math.Path.{ap}
use Rattle.std.proofs.Math.ListN.{get_or}
use Rattle.theory.specs.Flows.{step, step_time}
use Rattle.theory.specs.Study.{free_time, rise, capacity, power}
use Rattle.calls.specs.Calls.{share_after}
use Rattle.travel.specs.Links.{padded, list_time, total_of}
use Rattle.travel.specs.Laws.Padded.{padded-cong}
use Rattle.judging.specs.Study.{Study, link_count, commodity_count, Ready}
use Rattle.moves.specs.Loading.{volume_rows, front}
use Rattle.moves.specs.Moves.{can_move, move_along, total_after}
use Rattle.judging.specs.Judged.{Known}
use Rattle.moves.specs.Laws.Front.{front_at}
use Rattle.moves.specs.Laws.Moves.{can_double, doubles}
use Rattle.moves.specs.Laws.Totals.{moved_to}
use Rattle.judging.specs.Laws.Judged.{TwoRows, totals-set}

-- 64·2S / (c·2W) is 64·S / (c·W).
step-doubled : (capacity share flow : ℕ) → step capacity share flow ≡ step capacity (2 * share) (2 * flow)
unfolding step
step-doubled capacity share flow =
    let same = mul-div-mul_left {m = 2} (64 * flow) (capacity * share) (omega arith) in
    let above : 64 * (2 * flow) ≡ 2 * (64 * flow) = omega arith in
    let below : capacity * (2 * share) ≡ 2 * (capacity * share) = omega arith in
    ap (min 256) (sym (ap₂ (λ a b. a / b) above below ∙ same))

module _ {d : Study} (ready : Ready d) {share : ℕ} {times : List ℕ} {nexts volumes flows : List (List ℕ)}
    (known : Known d share times nexts volumes flows) where
  -- Totals that are moved without a j are doubled,
  module _ {j : ℕ} (none : j ≤ 0) {flows' : List (List ℕ)} (flows-are : flows' ≡ moved_to (link_count d) j flows) where
    rows : TwoRows flows' (front (link_count d) (total_after j flows) (get_or flows 0 [])) (get_or flows 1 [])
    rows = totals-set flows _ known.flows_long flows-are

    flow-doubled : (l : ℕ) → l < link_count d → total_of flows' l ≡ 2 * total_of flows l
    unfolding total_after
    flow-doubled l h =
        ap (λ xs. get_or xs l 0) rows.totals-are
        ∙ front_at (link_count d) (total_after j flows) (get_or flows 0 []) l h
        ∙ rw (le-ltb 0 j none)

    times-kept :
        padded (link_count d) (list_time d.links share (get_or flows 0 []))
        ≡ padded (link_count d) (list_time d.links (2 * share) (get_or flows' 0 []))
    unfolding list_time
    times-kept =
        padded-cong (link_count d) _ _ ready.few-links (λ l h.
        ap (step_time (free_time d.links l) (rise d.links l) (power d.links l))
        (step-doubled (capacity d.links l) share (total_of flows l)
        ∙ ap (step (capacity d.links l) (2 * share)) (sym (flow-doubled l h))))

    known-doubled : Known d (2 * share) times nexts volumes flows'
    known-doubled =
        record {
          times-are = known.times-are ∙ times-kept;
          times-fit = known.times-fit;
          nexts-are = known.nexts-are;
          volumes-long = known.volumes-long;
          volumes-are = known.volumes-are;
          flows_long = rows.long;
          loads-are = rows.loads-are ∙ known.loads-are;
        }

  -- and the share too.
  abbrev y : List ℕ
  y = volume_rows d.nodes (link_count d) (commodity_count d) nexts volumes

  pub known-moved :
      (table : List ℕ) {j : ℕ} → can_move share j ≡ true → j ≡ 0 → {share' : ℕ} {flows' : List (List ℕ)} →
      share' ≡ share_after share (move_along (commodity_count d * link_count d) share j y table) →
      flows' ≡ moved_to (link_count d) j flows →
      Known d share' times nexts volumes flows'
  known-moved table {j} can none share-is flows-are =
      let few : j ≤ 0 = omega arith in
      let fits = leb-true (2 * share) 1024 (can_double share j few ∙ can) in
      let is = doubles (commodity_count d * link_count d) share j y table few fits in
      rw (share-is ∙ sym is.0) (known-doubled few flows-are)
