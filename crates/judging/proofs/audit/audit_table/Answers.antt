-- `audit_table` meets its contract: the gap is that of the least times at the table's times, and the cost that of its totals.
use Prim.Native.Nat.{◌*◌, ◌-◌, ◌≤◌}
use native.Mathlib.Omega.{arith}
use mathlib.Core.Path.{◌∙◌, ap, ap₂}
use lib.ListN.{length}
use Rattle.travel.specs.Laws.Powers.{link-powers}
use Rattle.travel.specs.Laws.Padded.{zeros-clear}
use Rattle.judging.specs.Laws.Study.{links-fit}
use Rattle.judging.specs.Laws.Judged.{share-fits, totals-within, cost-is, over-is, least_fits, defined-gap}
use Rattle.judging.proofs.audit.audit_table.Goals as goal
use Rattle.judging.proofs.audit.audit_table.Goals.{After-product}

pub times-requires : goal.times-requires
times-requires c = let given = c.requires.judgeable in
    record {
      links_fit = (links-fit given.ready, share-fits given, totals-within given c.requires.totals_value);
      link_powers = (link-powers c.requires.curve_room c.put_powers.ensures, zeros-clear (length c.args.links.now));
    }

pub product-requires : goal.product-requires
product-requires c = let given = c.requires.judgeable in
    (given.ready.few-links, c.times.ensures.times_fit.times-fit, totals-within given c.requires.totals_value)

-- W × the least times are at most the times spent.
least : (c : After-product) → c.args.share * c.least_times-least.result ≤ c.product.result
least c =
    let given = c.requires.judgeable in
    let most = least_fits given c.requires.totals_value c.times.ensures.times_after c.times.ensures.times_fit in
    let e = c.least_times-least.ensures in
    let f = c.product.ensures in
    omega (arith, ap (λ x. c.args.share * x) e)

pub overflow_mul-gap : goal.overflow_mul-gap
overflow_mul-gap c = omega (arith, least (goal.at.overflow_mul-gap c).After-product)

pub overflow_sub-gap : goal.overflow_sub-gap
overflow_sub-gap c = least (goal.at.overflow_sub-gap c).After-product

pub cost-costs-requires : goal.cost-costs-requires
cost-costs-requires c = let given = c.requires.judgeable in
    record {
      links_fit = (links-fit given.ready, share-fits given, totals-within given c.requires.totals_value);
      link_powers = link-powers c.requires.curve_room c.put_powers.ensures;
    }

pub returns : goal.returns
returns c = let given = c.requires.judgeable in
    let share = c.args.share in
    record {
      gap_is =
          ap₂ (λ a b. a - share * b) c.product.ensures c.least_times-least.ensures
          ∙ defined-gap given c.requires.totals_value c.times.ensures.times_after c.times.ensures.times_fit;
      cost-is = c.cost-costs.ensures.cost_value ∙ cost-is given c.requires.totals_value;
      over-is = c.cost-costs.ensures.over_value ∙ over-is given c.requires.totals_value;
    }
