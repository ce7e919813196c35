-- `questions::reach::lorries_only` meets its contract: there is no number past the end of the list.
use mathlib.Core.Path.{◌≡◌}
use native.Mathlib.Omega.{arith}
use lib.ListN.{get_or, get_or-eq_default}
use Rattle.questions.proofs.reach.lorries_only.Goals as goal

pub returns-then-commodities-eq0 : goal.returns-then-commodities-eq0
returns-then-commodities-eq0 c =
    let past : get_or c.args.commodities.now 0 0 ≡ 0 = get_or-eq_default c.args.commodities.now 0 {n = 0} (omega arith) in
    rw past
