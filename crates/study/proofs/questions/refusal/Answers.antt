-- `study::questions::refusal` meets its contract: each question that is passed was answered yes, and the first that is not gives its number.
use lib.ListN.{length}
use mathlib.Core.Bool.{true}
use mathlib.Core.Path.{◌≡◌}
use Prim.Native.Nat.{◌≤◌}
use Rattle.study.specs.Laws as laws
use Rattle.study.specs.Questions.{length_fits, version_known, counts_fit, sections_in_order, sizes_fit, opening, refusal}
use Rattle.study.proofs.Flags.{was-yes, was-no}
use Rattle.study.proofs.questions.refusal.Goals as goal
use Rattle.study.proofs.questions.refusal.Goals.{Else-not-counts_fit, Else-not-length_fits, Else-not-sections_in_order, Else-not-sizes_fit, Else-not-version_known}

yes-1 : (c : Else-not-length_fits) → length_fits c.args.file.now ≡ true
yes-1 c = was-yes c.length_fits.ensures c.if-not-length_fits.false

yes-2 : (c : Else-not-version_known) → version_known c.args.file.now ≡ true
yes-2 c = was-yes c.version_known.ensures c.if-not-version_known.false

yes-3 : (c : Else-not-counts_fit) → counts_fit c.args.file.now ≡ true
yes-3 c = was-yes c.counts_fit.ensures c.if-not-counts_fit.false

yes-4 : (c : Else-not-sections_in_order) → sections_in_order c.args.file.now ≡ true
yes-4 c = was-yes c.sections_in_order.ensures c.if-not-sections_in_order.false

yes-5 : (c : Else-not-sizes_fit) → sizes_fit c.args.file.now ≡ true
yes-5 c = was-yes c.sizes_fit.ensures c.if-not-sizes_fit.false

header-there : (c : Else-not-length_fits) → 32 ≤ length c.args.file.now
header-there c = (laws.length-fits _ (yes-1 c)).0

pub returns-then-not-length_fits : goal.returns-then-not-length_fits
unfolding opening refusal
returns-then-not-length_fits c = rw (was-no c.length_fits.ensures c.if-not-length_fits.true)

pub version_known-requires : goal.version_known-requires
version_known-requires c = header-there (goal.at.version_known-requires c).Else-not-length_fits

pub returns-then-not-version_known : goal.returns-then-not-version_known
unfolding opening refusal
returns-then-not-version_known c = rw (yes-1 (goal.at.returns-then-not-version_known c).Else-not-length_fits, was-no c.version_known.ensures c.if-not-version_known.true)

pub counts_fit-requires : goal.counts_fit-requires
counts_fit-requires c = header-there (goal.at.counts_fit-requires c).Else-not-length_fits

pub returns-then-not-counts_fit : goal.returns-then-not-counts_fit
unfolding opening refusal
returns-then-not-counts_fit c = rw (yes-1 (goal.at.returns-then-not-counts_fit c).Else-not-length_fits, yes-2 (goal.at.returns-then-not-counts_fit c).Else-not-version_known, was-no c.counts_fit.ensures c.if-not-counts_fit.true)

pub sections_in_order-requires : goal.sections_in_order-requires
sections_in_order-requires c = (yes-1 (goal.at.sections_in_order-requires c).Else-not-length_fits, yes-2 (goal.at.sections_in_order-requires c).Else-not-version_known)

pub returns-then-not-sections_in_order : goal.returns-then-not-sections_in_order
unfolding opening refusal
returns-then-not-sections_in_order c = rw (yes-1 (goal.at.returns-then-not-sections_in_order c).Else-not-length_fits, yes-2 (goal.at.returns-then-not-sections_in_order c).Else-not-version_known, yes-3 (goal.at.returns-then-not-sections_in_order c).Else-not-counts_fit, was-no c.sections_in_order.ensures c.if-not-sections_in_order.true)

pub sizes_fit-requires : goal.sizes_fit-requires
sizes_fit-requires c =
    laws.headed-by _ (yes-1 (goal.at.sizes_fit-requires c).Else-not-length_fits) (yes-2 (goal.at.sizes_fit-requires c).Else-not-version_known) (laws.sections-in-order _ (yes-4 (goal.at.sizes_fit-requires c).Else-not-sections_in_order)).header

pub returns-then-not-sizes_fit : goal.returns-then-not-sizes_fit
unfolding opening refusal
returns-then-not-sizes_fit c = rw (yes-1 (goal.at.returns-then-not-sizes_fit c).Else-not-length_fits, yes-2 (goal.at.returns-then-not-sizes_fit c).Else-not-version_known, yes-3 (goal.at.returns-then-not-sizes_fit c).Else-not-counts_fit, yes-4 (goal.at.returns-then-not-sizes_fit c).Else-not-sections_in_order, was-no c.sizes_fit.ensures c.if-not-sizes_fit.true)

pub returns : goal.returns
unfolding opening refusal
returns c = rw (yes-1 (goal.at.returns c).Else-not-length_fits, yes-2 (goal.at.returns c).Else-not-version_known, yes-3 (goal.at.returns c).Else-not-counts_fit, yes-4 (goal.at.returns c).Else-not-sections_in_order, yes-5 (goal.at.returns c).Else-not-sizes_fit)
