-- `network::decode_links` meets its contract.
use borrow.Author.Rules.{rules}
use mathlib.Core.List.{[]}
use mathlib.Core.Path.{◌≡◌, refl, ◌∙◌, ap}
use native.Mathlib.Omega.{arith}
use Rattle.study.specs.Fields.{HasLink}
use Rattle.calls.specs.Study.{as_byte, link_row}
use Rattle.theory.specs.Finite.{tabulate}
use Rattle.network.specs.Decoded.{link_rows_in, HasLinks}
use Rattle.network.specs.Laws.Decoding.{holds-none, holds-next, row_read}
use Rattle.network.proofs.decoding.decode_links.Goals as goal
use Rattle.network.proofs.decoding.decode_links.Goals.{In-loop-l}

pub loop-l-init : goal.loop-l-init
unfolding link_rows_in tabulate
loop-l-init c = (search rules, holds-none _ refl)

-- The bytes of link l are there.
at-link : (c : In-loop-l) → HasLink c.args.bytes.now c.args.size c.loop-l.l
unfolding HasLinks
at-link c = c.requires.1 c.loop-l.l (search rules)

pub tail-requires : goal.tail-requires
tail-requires c = at-link (goal.at.tail-requires c).In-loop-l

pub head-requires : goal.head-requires
head-requires c = at-link (goal.at.head-requires c).In-loop-l

pub free_time-requires : goal.free_time-requires
free_time-requires c = at-link (goal.at.free_time-requires c).In-loop-l

pub rise-requires : goal.rise-requires
rise-requires c = at-link (goal.at.rise-requires c).In-loop-l

pub capacity-requires : goal.capacity-requires
capacity-requires c = at-link (goal.at.capacity-requires c).In-loop-l

pub power-requires : goal.power-requires
power-requires c = at-link (goal.at.power-requires c).In-loop-l

pub overflow_mul-links : goal.overflow_mul-links
overflow_mul-links c = omega (arith, c.power_byte.ensures)

pub loop-l-preserved : goal.loop-l-preserved
unfolding link_rows_in
loop-l-preserved c =
    let x = c.args in
    let loop = c.loop-l in (
      search rules,
      holds-next _ (link_row x.bytes.now x.size [] []) loop.l (omega arith) loop.invariant.1
          (row_read _ _ _ c.tail.ensures c.head.ensures
          c.free_time.ensures c.rise.ensures c.capacity.ensures
          (c.power_byte.ensures ∙ ap as_byte c.power.ensures)),
    )

pub returns : goal.returns
returns c =
    let last : c.args.m ≡ c.loop-l.l = omega arith in
    rw last c.loop-l.invariant.1
