-- The loop's invariant: the links from `l` on are in their chains.
use Rattle.search.specs.Laws.Chains.{ChainedFrom}
use Rattle.search.proofs.chains.chain_links.Given as goal

abbrev pub invariant-loop-l : goal.invariant-loop-l
invariant-loop-l l = ChainedFrom l.lorries l.links l.end l.l l.chain
