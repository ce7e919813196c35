-- `network::decode_destinations` meets its contract: the array holds the first k nodes.
use borrow.Author.Rules.{rules}
use mathlib.Core.Path.{◌≡◌}
use native.Mathlib.Omega.{arith}
use Rattle.study.specs.Fields.{destination}
use Rattle.theory.specs.Finite.{tabulate}
use Rattle.network.specs.Decoded.{nodes_in, HasDestinations}
use Rattle.network.specs.Laws.Decoding.{holds-none, holds-next}
use Rattle.network.proofs.decoding.decode_destinations.Goals as goal

pub loop-k-init : goal.loop-k-init
unfolding nodes_in tabulate
loop-k-init c = (search rules, holds-none 64 c.requires.2)

pub destination-requires : goal.destination-requires
unfolding HasDestinations
destination-requires c = c.requires.1 c.loop-k.k (search rules)

pub loop-k-preserved : goal.loop-k-preserved
unfolding nodes_in
loop-k-preserved c =
    let bytes = c.args.bytes.now in
    (search rules, holds-next 64 (destination bytes) c.loop-k.k (search rules) c.loop-k.invariant.1 c.destination.ensures)

pub returns : goal.returns
returns c =
    let last : c.loop-k.k ≡ c.args.p = omega arith in
    rw last at c.loop-k.invariant.1
