-- `desks::calling::desks_refusal` meets its contract: the desks are asked about first of all.
use Rattle.std.proofs.Common.{refl, sym, ◌∙◌}
use Rattle.calls.specs.Questions.{desks_fit, allowance_fits}
use Rattle.calls.specs.Laws.Desks.{desks-number}
use Rattle.desks.proofs.calling.desks_refusal.Goals as goal

pub returns-then-not-within : goal.returns-then-not-within
unfolding desks_fit
returns-then-not-within c = sym (desks-number c.args.count c.args.allowance ∙ rw (← c.within.ensures, c.if-not-within.true) refl)

pub returns-then-not-within-2 : goal.returns-then-not-within-2
unfolding desks_fit allowance_fits
returns-then-not-within-2 c =
    sym (desks-number c.args.count c.args.allowance ∙ rw (← c.within.ensures, c.if-not-within.false, ← c.within-2.ensures, c.if-not-within-2.true) refl)

pub returns : goal.returns
unfolding desks_fit allowance_fits
returns c =
    sym (desks-number c.args.count c.args.allowance ∙ rw (← c.within.ensures, c.if-not-within.false, ← c.within-2.ensures, c.if-not-within-2.false) refl)
