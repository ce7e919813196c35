-- `groups::any_trips` meets its contract.
use Rattle.std.proofs.Common.{◌≡◌, fold, bit_or, rules, arith}
use Rattle.search.specs.Laws.Trips.{all-zero}
use Rattle.search.proofs.groups.any_trips.Goals as goal

pub returns : goal.returns
returns c =
    let joined : c.fold.result ≡ fold bit_or 0 c.args.trips.now = search rules in
    let zero = rw (← joined) at (all-zero c.args.trips.now) in
    grind (arith, zero)
