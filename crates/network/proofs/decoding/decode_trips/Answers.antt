-- `network::decode_trips` meets its contract: the entries before i are read.
use borrow.Author.Rules.{rules}
use mathlib.Core.Path.{◌≡◌, refl}
use native.Mathlib.Omega.{arith}
use Rattle.study.specs.Fields.{trips as trips_of}
use Rattle.theory.specs.Finite.{tabulate}
use Rattle.network.specs.Decoded.{entries_in, HasEntries}
use Rattle.network.specs.Laws.Decoding.{holds-none, holds-next}
use Rattle.network.proofs.decoding.decode_trips.Goals as goal

pub loop-i-init : goal.loop-i-init
unfolding tabulate
loop-i-init c = (search rules, holds-none _ refl)

pub trips_from-requires : goal.trips_from-requires
unfolding HasEntries
trips_from-requires c = c.requires.1 c.loop-i.i (search rules)

pub loop-i-preserved : goal.loop-i-preserved
loop-i-preserved c =
    let x = c.args in
    let loop = c.loop-i in
    (search rules, holds-next _ (trips_of x.bytes.now x.entries 0) loop.i (search rules) loop.invariant.1 c.trips_from.ensures)

pub returns : goal.returns
unfolding entries_in
returns c =
    let last : c.loop-i.i ≡ c.args.entries = omega arith in
    rw last at c.loop-i.invariant.1
