-- `table_refusal` meets its contract: the first question whose answer is no gives the number.
use Prim.Native.Nat.{◌*◌}
use mathlib.Core.Path.{◌≡◌}
use mathlib.Core.Bool.{true}
use native.Mathlib.Omega.{arith}
use lib.ListN.{length}
use Rattle.study.proofs.Flags.{was-yes, was-no}
use Rattle.calls.specs.Questions.{share_fits}
use Rattle.travel.specs.Links.{list_fits}
use Rattle.questions.specs.Rows.{rows_conserve}
use Rattle.questions.specs.Laws.Table.{share-most, limit-fits, refused-14, refused-15, refused-16, refused-20, accepted}
use Rattle.questions.proofs.table.table_refusal.Goals as goal
use Rattle.questions.proofs.table.table_refusal.Goals.{Else-not-rows_conserve, Else-not-share_fits, Else-not-totals_fit}

-- Question 14 is answered yes.
in-range : (c : Else-not-share_fits) → share_fits c.args.share ≡ true
in-range c = was-yes c.share_fits.ensures c.if-not-share_fits.false

-- Question 15 is answered yes.
fit :
    (c : Else-not-totals_fit) →
    let x = c.args in
    list_fits (length x.links.now) c.write_totals.new.sums (x.share * x.total) ≡ true
fit c = was-yes c.totals_fit.ensures c.if-not-totals_fit.false

pub returns-then-not-share_fits : goal.returns-then-not-share_fits
returns-then-not-share_fits c =
    record { value = refused-14 _ _ _ _ _ c.args.share (was-no c.share_fits.ensures c.if-not-share_fits.true); totals_after = λ e. absurd (omega arith) }

pub overflow_mul-share : goal.overflow_mul-share
overflow_mul-share c = omega (arith, limit-fits c.args.share (in-range (goal.at.overflow_mul-share c).Else-not-share_fits) c.requires.total_value.1)

pub returns-then-not-totals_fit : goal.returns-then-not-totals_fit
returns-then-not-totals_fit c = record {
  value = refused-15 _ _ _ _ _ c.args.share (in-range (goal.at.returns-then-not-totals_fit c).Else-not-share_fits) c.requires.total_value.0 c.write_totals.ensures.0
      (was-no c.totals_fit.ensures c.if-not-totals_fit.true);
  totals_after = λ e. absurd (omega arith);
}

pub rows_conserve-requires : goal.rows_conserve-requires
rows_conserve-requires c = (c.requires.table_fits, share-most c.args.share (in-range (goal.at.rows_conserve-requires c).Else-not-share_fits))

pub returns-then-not-rows_conserve : goal.returns-then-not-rows_conserve
returns-then-not-rows_conserve c = record {
  value = refused-16 _ _ _ _ _ c.args.share (in-range (goal.at.returns-then-not-rows_conserve c).Else-not-share_fits) c.requires.total_value.0 c.write_totals.ensures.0 (fit (goal.at.returns-then-not-rows_conserve c).Else-not-totals_fit)
      (was-no c.rows_conserve.ensures c.if-not-rows_conserve.true);
  totals_after = λ e. absurd (omega arith);
}

pub rows_permit-requires : goal.rows_permit-requires
rows_permit-requires c = c.requires.table_fits.holds

-- Question 16 is answered yes.
conserve :
    (c : Else-not-rows_conserve) →
    let x = c.args in
    rows_conserve x.nodes x.links.now x.commodities.now x.trips.now x.share x.table.now ≡ true
conserve c = was-yes c.rows_conserve.ensures c.if-not-rows_conserve.false

pub returns-then-not-rows_permit : goal.returns-then-not-rows_permit
returns-then-not-rows_permit c = record {
  value = refused-20 _ _ _ _ _ c.args.share (in-range (goal.at.returns-then-not-rows_permit c).Else-not-share_fits) c.requires.total_value.0 c.write_totals.ensures.0 (fit (goal.at.returns-then-not-rows_permit c).Else-not-totals_fit) (conserve (goal.at.returns-then-not-rows_permit c).Else-not-rows_conserve)
      (was-no c.rows_permit.ensures c.if-not-rows_permit.true);
  totals_after = λ e. absurd (omega arith);
}

pub returns : goal.returns
returns c = record {
  value = accepted _ _ _ _ _ c.args.share (in-range (goal.at.returns c).Else-not-share_fits) c.requires.total_value.0 c.write_totals.ensures.0 (fit (goal.at.returns c).Else-not-totals_fit) (conserve (goal.at.returns c).Else-not-rows_conserve)
      (was-yes c.rows_permit.ensures c.if-not-rows_permit.false);
  totals_after = λ e. c.write_totals.ensures.0;
}
