-- `chains::chain_links` meets its contract.
use Rattle.std.proofs.Common.{◌+◌, ◌-◌, ◌≡◌, ◌∙◌, arith}
use Rattle.search.specs.Laws.Chains.{end_row, end-node, chains-begin, chains-take, chains-end}
use Rattle.search.proofs.chains.chain_links.Goals as goal

pub loop-l-init : goal.loop-l-init
loop-l-init c = chains-begin _ _ _ c.requires.1

pub end_of-j-requires : goal.end_of-j-requires
end_of-j-requires c =
    (c.requires.2, end-node c.requires.0 c.args.end (c.loop-l.l - 1) c.requires.2 (omega arith))

pub loop-l-preserved : goal.loop-l-preserved
loop-l-preserved c =
    let x = c.args in
    let turn = c.loop-l in
    let down : turn.l ≡ turn.l - 1 + 1 = omega arith in
    let end_is = c.end_of-j.ensures.value ∙ end_row x.lorries x.links.now x.end (turn.l - 1) in
    chains-take _ _ _ (omega arith) c.requires.0.few-links end_is c.end_of-j.ensures.place (rw down at turn.invariant)

pub returns : goal.returns
returns c = let all : c.loop-l.l ≡ 0 = omega arith in chains-end _ _ _ (rw all at c.loop-l.invariant)
