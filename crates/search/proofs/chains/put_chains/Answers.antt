-- `put_chains` meets its contract: each of the two rows has its own chains.
use mathlib.Core.Path.{◌≡◌, ap}
use lib.ListN.{length}
use Rattle.search.specs.Laws.Chains.{linked-rows}
use Rattle.search.proofs.chains.put_chains.Goals as goal
use Rattle.search.proofs.chains.put_chains.Goals.{Start}

-- There are two rows.
two : (c : Start) → length c.args.chains.now ≡ 2
two c = ap length c.requires.1

pub returns : goal.returns
returns c =
    linked-rows c.args.chains.now (two (goal.at.returns c).Start) c.chain_links.ensures c.chain_links-2.ensures
