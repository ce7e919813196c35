-- The invariant of `row_balances`: the nodes passed balance.
use Rattle.std.proofs.Common.{◌≡◌, true}
use Rattle.travel.specs.Links.{row_balances}
use Rattle.travel.proofs.balance.row_balances.Given as goal

abbrev pub invariant-loop-j : goal.invariant-loop-j
invariant-loop-j l = row_balances l.j l.links l.destination l.trips l.share l.row ≡ true
