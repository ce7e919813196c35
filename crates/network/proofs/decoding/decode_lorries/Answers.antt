-- `network::decoding::decode_lorries` meets its contract: the array holds the commodities of cars, and then the first k of lorries.
use borrow.Author.Rules.{rules}
use mathlib.Core.List.{append-nil}
use mathlib.Core.Path.{◌≡◌, ap}
use native.Mathlib.Omega.{arith}
use Prim.Native.Nat.{◌+◌}
use Rattle.study.specs.Fields.{destination}
use Rattle.theory.specs.Finite.{tabulate}
use Rattle.theory.specs.Study.{lorries_to}
use Rattle.theory.specs.Laws.Finite.{length-tabulate}
use Rattle.network.specs.Decoded.{nodes_in, lorries_in, HasDestinations}
use Rattle.network.specs.Laws.Decoding.{holds_after}
use Rattle.network.proofs.decoding.decode_lorries.Goals as goal

pub loop-k-init : goal.loop-k-init
unfolding lorries_in tabulate
loop-k-init c = (search rules, rw append-nil c.requires.2)

pub destination-requires : goal.destination-requires
unfolding HasDestinations
destination-requires c = c.requires.1 c.loop-k.k (search rules)

pub bounds-commodities-p : goal.bounds-commodities-p
bounds-commodities-p c = omega (arith, c.requires.0)

pub loop-k-preserved : goal.loop-k-preserved
unfolding lorries_in nodes_in
loop-k-preserved c =
    let bytes = c.args.bytes.now in
    let k = c.loop-k.k in (
      search rules,
      holds_after 64 (tabulate c.args.p (destination bytes)) (λ i. lorries_to (destination bytes i)) k (c.args.p + k)
          (omega (arith, length-tabulate c.args.p (destination bytes))) (omega (arith, c.requires.0)) c.loop-k.invariant.1
          (ap lorries_to c.destination.ensures),
    )

pub returns : goal.returns
returns c =
    let last : c.loop-k.k ≡ c.args.lorries = omega arith in
    rw last at c.loop-k.invariant.1
