-- The sum of least times, as an audit takes it from the marks of a search.
use Rattle.std.specs.Prelude.{ℕ, ◌*◌, ◌≤◌, ◌<◌, ◌≡◌, refl, List, get_or}
use Rattle.std.proofs.Common.{le_trans, mul-le-mul, mul-le-mul_right, arith, ◌∙◌, ap}
use Rattle.std.proofs.Math.Path.{fun_ext}
use Rattle.std.proofs.Math.Option
use Rattle.theory.specs.Finite.{sum}
use Rattle.theory.specs.Network.{Network}
use Rattle.theory.specs.Flows.{total}
use Rattle.theory.specs.Routes.{Routing, routing, distance, is_some, loading}
use Rattle.theory.specs.Cost.{least_times, spent_times}
use Rattle.theory.specs.Laws.Cases.{on-equal, on-option, true-false}
use Rattle.theory.specs.Laws.Finite.{sum-cong, sum_bound}
use Rattle.theory.specs.Laws.Loading.{loading-total, loading-spends}
use Rattle.theory.specs.Laws.Routings.{Served}
use Rattle.theory.specs.Study.{network}
use Rattle.travel.specs.Ranges.{TimesFit, most_time}
use Rattle.search.specs.Search.{routing_from, mark, marks}
use Rattle.search.specs.Groups.{least_over}
use Rattle.search.specs.Laws.Found.{marks-at}
use Rattle.judging.specs.Study.{Study, link_count, commodity_count, network_in, Ready}
use Rattle.judging.specs.Laws.Routes.{TimesIn, times-own, timed, served}

-- A node with trips has a distance, which is its mark.
mark-spent :
    (q : Routing) → q.nodes ≤ 128 → (trips : ℕ → ℕ) → Served q trips → (j : ℕ) → j < q.nodes →
    trips j * get_or (marks q) j 0 ≡ trips j * Option.get_or (distance q j) 0
unfolding mark
mark-spent q few trips served j h =
    on-equal (trips j) 0
    (λ e. rw e (omega arith))
    (λ some-trips.
    on-option (distance q j)
    (λ e. true-false (served j h some-trips) (ap is_some e))
    (λ x e. ap (λ y. trips j * y) (marks-at q few j (omega arith) ∙ rw e refl)))

-- The least times go by the times of the links, number by number.
least_at : (g : Network) (t u : List ℕ) → ((l : ℕ) → get_or t l 0 ≡ get_or u l 0) → least_times g t ≡ least_times g u
unfolding least_times
least_at g t u same =
    ap
    (λ time.
    sum g.commodities (λ k.
    sum g.nodes (λ j.
    g.trips k j
    * Option.get_or
    (distance
    (record {
      nodes = g.nodes;
      links = g.links;
      tail = g.tail;
      head = g.head;
      usable = g.may_use k;
      destination = g.destination k;
      time = time;
    })
    j)
    0)))
    (fun_ext same)

-- The sum of trips × mark is that of D(j,s) × distance.
pub least-over :
    {d : Study} → Ready d → {times exact : List ℕ} → TimesIn d times exact →
    least_over d.nodes d.links d.commodities d.trips times
    ≡ least_times (network_in d) exact
unfolding least_over least_times routing_from network
least-over {d} ready {times} {exact} t =
    sum-cong (commodity_count d) _ _ (λ k h.
    sum-cong d.nodes _ _ (λ j b.
    mark-spent (routing (network_in d) times k) ready.few-nodes ((network_in d).trips k) (served ready (times-own t.fit) k h) j b))
    ∙ least_at (network_in d) times exact t.same

-- It is far below 2^64: it is the time that the loading spends, which has at most 65,535 trips on each link.
pub least-small :
    {d : Study} → Ready d → {times : List ℕ} → TimesFit (link_count d) times →
    least_over d.nodes d.links d.commodities d.trips times ≤ 512 * (most_time * 65535)
unfolding spent_times network
least-small {d} ready {times} fit =
    let g = network_in d in
    let t = times-own fit in
    let spends = loading-spends g ready.sound times (timed ready t) (served ready t) in
    let bound =
    sum_bound (link_count d) (most_time * 65535) (λ l. get_or times l 0 * total g (loading g times) l)
    (λ l h. mul-le-mul (fit.times-fit l h) (le_trans (loading-total g ready.sound times (timed ready t) (served ready t) l h) ready.few-trips)) in
    omega (arith, least-over ready t, spends, bound, mul-le-mul_right (most_time * 65535) ready.few-links)
