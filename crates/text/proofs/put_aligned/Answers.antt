-- `text::put_aligned` meets its contract: the last digit stands behind the others and the spaces before them.
use Rattle.std.proofs.Common.{ℕ, List, suc, ◌+◌, ◌-◌, ◌≡◌, ◌≤◌, arith, length, take, drop, length-take, length-drop}
use Rattle.text.specs.Laws.Decimal.{tenth-below}
use Rattle.text.proofs.Columns.{aligned-last, length-leading}
use Rattle.text.specs.Laws.Put as laws
use Rattle.text.proofs.put_aligned.Goals as goal

-- The part of the column before its last byte.
before-last : (out : List ℕ) (at width : ℕ) → 1 ≤ width → at + width ≤ length out → length (take (at + width - 1 - at) (drop at out)) ≡ width - 1
before-last out at width some inside = simp (length-take, length-drop) (omega arith)

pub put_leading-requires : goal.put_leading-requires
put_leading-requires c =
    rw (before-last c.args.out.now c.args.at c.args.width c.requires.0 c.requires.2) (tenth-below _ _ c.requires.0 c.requires.1)

pub returns-clause-put : goal.returns-clause-put
returns-clause-put c =
    let x = c.args in
    let size : x.width ≡ suc (x.width - 1) = omega arith in
    let filled = length-leading _ _ (tenth-below _ _ c.requires.0 c.requires.1) in
    let leading = rw (before-last x.out.now x.at x.width c.requires.0 c.requires.2) at c.put_leading.ensures in
    rw (size, aligned-last (x.width - 1) x.x)
    (laws.then (laws.put-part leading (omega (arith, filled)) (omega arith)) (rw c.digit.ensures at c.put_byte.ensures))
