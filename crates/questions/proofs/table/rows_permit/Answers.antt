-- `rows_permit` meets its contract: the links before l carry no flow that they may not.
use mathlib.Core.Path.{◌≡◌, refl}
use mathlib.Core.Bool.{true}
use native.Mathlib.Omega.{arith}
use borrow.Author.Rules.{rules}
use Rattle.study.proofs.Flags.{was-yes, was-no}
use Rattle.theory.specs.Finite.{all}
use Rattle.questions.specs.Rows.{link_permits, rows_permit}
use Rattle.questions.specs.Laws.Questions.{all_more, all-failed, all_held}
use Rattle.questions.specs.Laws.Rows.{open-permits}
use Rattle.questions.proofs.table.rows_permit.Goals as goal
use Rattle.questions.proofs.table.rows_permit.Goals.{else-links-l-ne0-via-then-links-l-ne0+else-not-link_permits, else-links-l-ne0-via-else-links-l-ne0}

pub loop-l-init : goal.loop-l-init
unfolding all
loop-l-init c = (search rules, refl)

pub link_permits-requires : goal.link_permits-requires
link_permits-requires c = (search rules, c.requires)

pub returns-then-not-link_permits : goal.returns-then-not-link_permits
unfolding rows_permit
returns-then-not-link_permits c = all-failed _ _ _ (search rules) (was-no c.link_permits.ensures c.if-not-link_permits.true)

pub loop-l-preserved : goal.loop-l-preserved
loop-l-preserved c =
    let permits : link_permits c.args.links.now c.args.commodities.now c.args.table.now c.loop-l.l ≡ true =
    elim c.else-links-l-ne0.branch [
      | else-links-l-ne0-via-then-links-l-ne0+else-not-link_permits w ↦ was-yes w.link_permits.ensures w.if-not-link_permits.false
      | else-links-l-ne0-via-else-links-l-ne0 w ↦ open-permits _ _ _ _ (omega arith) (omega arith)
    ]
    in
    (search rules, all_more _ _ c.loop-l.invariant.1 permits)

pub returns : goal.returns
unfolding rows_permit
returns c = all_held _ _ c.loop-l.invariant.0 c.loop-l-test.false c.loop-l.invariant.1
