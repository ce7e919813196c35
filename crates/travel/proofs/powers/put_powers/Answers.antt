-- The first list is put, and it is the only one where there is no room for more.
use Rattle.std.proofs.Common.{arith, rules}
use Rattle.travel.specs.Laws.Powers.{size_at, lists-first, lists-all}
use Rattle.travel.proofs.powers.put_powers.Goals as goal

pub loop-i-init : goal.loop-i-init
loop-i-init c = lists-first 4 _ _ c.put_list.ensures (search rules) (omega arith) (omega arith)

pub returns-else-curves-eq-ALL_LISTS : goal.returns-else-curves-eq-ALL_LISTS
returns-else-curves-eq-ALL_LISTS c = (
  lists-all 1 _ (omega arith) (omega arith) (lists-first 1 _ _ c.put_list.ensures (search rules) (omega arith) (omega arith)),
  size_at 512 257 _ _ (omega arith) (search rules),
)
