-- `study::versions::form_of` meets its contract: the code's four forms are the table's.
use mathlib.Core.Path.{◌≡◌}
use native.Mathlib.Omega.{arith}
use Rattle.study.specs.Versions.{versions, form_of}
use Rattle.study.proofs.versions.form_of.Goals as goal

pub returns-then-version-eq1 : goal.returns-then-version-eq1
unfolding versions form_of
returns-then-version-eq1 c = rw c.if-version-eq1.true

pub returns-then-version-eq2 : goal.returns-then-version-eq2
unfolding versions form_of
returns-then-version-eq2 c = rw c.if-version-eq2.true

pub returns-then-version-eq3 : goal.returns-then-version-eq3
unfolding versions form_of
returns-then-version-eq3 c = rw c.if-version-eq3.true

pub returns : goal.returns
unfolding versions form_of
returns c =
    let latest : c.args.version ≡ 4 = omega arith in
    rw latest
