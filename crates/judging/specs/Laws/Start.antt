-- A start: times at empty roads, and the loading there in place of what the table held.
use Rattle.std.specs.Prelude.{ℕ, ◌*◌, ◌≤◌, ◌<◌, ◌≡◌, List, [], ◌++◌, length, drop, replicate}
use Rattle.std.proofs.Math.Nat.{zero-div}
use Rattle.std.proofs.Common.{arith, ◌∙◌, ext_get_or}
use Rattle.std.proofs.Math.Path.{sym, ap}
use Rattle.std.proofs.Math.Logic.{⊎_elim}
use Rattle.std.proofs.Math.ListN.{get_or, get_or-eq_default}
use Rattle.theory.specs.Finite.{tabulate}
use Rattle.theory.specs.Flows.{step, step_time}
use Rattle.theory.specs.Moves.{started}
use Rattle.theory.specs.Laws.Finite.{order, length-tabulate, get_d_tabulate}
use Rattle.theory.specs.Study.{free_time, rise, capacity, power, network}
use Rattle.calls.specs.Calls.{overwritten}
use Rattle.travel.specs.Links.{list_time}
use Rattle.travel.specs.Ranges.{Within, most_flow}
use Rattle.travel.specs.Laws.Padded.{get_d-padded, get_d-padded-rest, zeros-clear}
use Rattle.judging.specs.Study.{Study, link_count, commodity_count, network_in, Ready}
use Rattle.moves.specs.Loading.{loading_along, volume_rows, front, added_rows, Addable}
use Rattle.judging.specs.Judged.{Known}
use Rattle.moves.specs.Laws.Front.{front_at, front-past, length_front, front-is}
use Rattle.moves.specs.Laws.Loading.{length-along}
use Rattle.theory.specs.Laws.Tables.{number-most}
use Rattle.judging.specs.Laws.Classes.{few-commodities}
use Rattle.judging.specs.Laws.Routes.{TimesIn, loading-is, load-most, next-links}

-- No flow on any link.
no_flow : (l : ℕ) → get_or {A = ℕ} (replicate 512 0) l 0 ≡ 0
no_flow l = (zeros-clear 0).rest l (omega arith)

pub no-flows-within : {m : ℕ} {flows : List ℕ} → flows ≡ replicate 512 0 → Within m most_flow flows
no-flows-within e l h = rw e (omega (arith, no_flow l))

-- Without flow the step is 0.
step-none : (capacity : ℕ) → step capacity 1 0 ≡ 0
unfolding step
step-none capacity = let none = zero-div (capacity * 1) in omega arith

-- A table whose first numbers are those of a list.
overwritten-is : (new old : List ℕ) → overwritten new old ≡ front (length new) (λ i. get_or new i 0) old
unfolding overwritten front
overwritten-is new old =
    let same = length-tabulate (length new) (λ i. get_or new i 0) in
    ap (λ first. first ++ drop (length new) old)
    (ext_get_or 0 new (tabulate (length new) (λ i. get_or new i 0)) (sym same)
    (λ i h. sym (get_d_tabulate (length new) (λ i. get_or new i 0) 0 i h)))

module _ {d : Study} (ready : Ready d) {times : List ℕ} {nexts volumes flows : List (List ℕ)} (known : Known d 1 times nexts volumes flows)
    (none : get_or flows 0 [] ≡ replicate 512 0) where
  abbrev empty_times : List ℕ
  empty_times = tabulate (link_count d) (λ l. (network_in d).height l 0)

  times-in : TimesIn d times empty_times
  unfolding list_time network
  times-in =
      record {
        fit = known.times-fit;
        same = λ l.
            ⊎_elim
            (λ h.
            ap (λ xs. get_or xs l 0) known.times-are
            ∙ get_d-padded (link_count d) _ l h
            ∙ ap (λ flow. step_time (free_time d.links l) (rise d.links l) (power d.links l) (step (capacity d.links l) 1 flow)) (ap (λ xs. get_or xs l 0) none ∙ no_flow l)
            ∙ ap (λ r. step_time (free_time d.links l) (rise d.links l) (power d.links l) r) (step-none (capacity d.links l))
            ∙ sym (get_d_tabulate (link_count d) (λ l. step_time (free_time d.links l) (rise d.links l) (power d.links l) 0) 0 l h))
            (λ h.
            ap (λ xs. get_or xs l 0) known.times-are
            ∙ get_d-padded-rest (link_count d) _ l h
            ∙ sym (get_or-eq_default empty_times 0 (omega (arith, length-tabulate (link_count d) (λ l. (network_in d).height l 0)))))
            (order l (link_count d));
      }

  module _ (table : List ℕ) {emptied : List ℕ} (within : commodity_count d * link_count d ≤ length table)
      (emptied-is : emptied ≡ front (commodity_count d * link_count d) (λ i. 0) table) where
    abbrev y : List ℕ
    y = loading_along d.nodes d.links (commodity_count d) d.trips nexts

    abbrev size : ℕ
    size = commodity_count d * link_count d

    long : length emptied ≡ length table
    long = ap length emptied-is ∙ length_front size (λ i. 0) table within

    empty-at : (i : ℕ) → i < size → get_or emptied i 0 ≡ 0
    empty-at i h = ap (λ xs. get_or xs i 0) emptied-is ∙ front_at size (λ i. 0) table i h

    -- The loading can be added to the emptied table,
    pub start-addable : Addable d.nodes (link_count d) (commodity_count d) nexts volumes 1 emptied
    start-addable =
        record {
          few-nodes = ready.few-nodes;
          few-links = ready.few-links;
          few-commodities = few-commodities ready;
          has-rows = (known.nexts-are.size, known.volumes-long);
          next-link = next-links ready times-in known.nexts-are;
          holds = omega (arith, long, within);
          fits = λ i h.
              rw known.volumes-are
              (omega (
                arith,
                empty-at i h,
                number-most (commodity_count d) (link_count d) y 65535 (load-most ready times-in known.nexts-are) i h,
              ));
        }

    -- and stands there in place of what the table held.
    pub start_is : {after : List ℕ} → after ≡ added_rows size 1 (volume_rows d.nodes (link_count d) (commodity_count d) nexts volumes) emptied → after ≡ overwritten (started (network_in d)).table table
    unfolding started added_rows network
    start_is e =
        e
        ∙ ap (λ y. added_rows size 1 y emptied) known.volumes-are
        ∙ front-is size (λ i. get_or y i 0) table within _ (length_front size _ emptied (omega (arith, long, within)) ∙ long)
        (λ i h. front_at size _ emptied i h ∙ omega (arith, empty-at i h))
        (λ i h. front-past size _ emptied i h ∙ ap (λ xs. get_or xs i 0) emptied-is ∙ front-past size (λ i. 0) table i h)
        ∙ ap (λ n. front n (λ i. get_or y i 0) table) (sym (length-along d.nodes d.links (commodity_count d) d.trips nexts))
        ∙ sym (overwritten-is y table)
        ∙ ap (λ new. overwritten new table) (loading-is ready times-in known.nexts-are)
