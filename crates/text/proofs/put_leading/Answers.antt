-- `text::put_leading` meets its contract. The loop's invariant: once the bytes in front are put, the column is as it has to be.
use Rattle.std.proofs.Common.{suc, ◌-◌, ◌≡◌, refl, ◌∙◌, arith, zero-add}
use Rattle.text.proofs.Columns.{length-leading, left_less, sets-whole}
use Rattle.text.specs.Laws.Put.{left-none}
use Rattle.text.proofs.put_leading.Goals as goal

pub loop-i-init : goal.loop-i-init
loop-i-init c = record { small = c.requires; left = refl }

pub loop-i-preserved : goal.loop-i-preserved
loop-i-preserved c =
    let width : c.loop-i.i ≡ suc (c.loop-i.i - 1) = omega arith in
    rw c.leading_byte.ensures (rw zero-add at (left_less _ _ (rw width at c.loop-i.invariant)))

pub returns : goal.returns
returns c =
    let none : c.loop-i.i ≡ 0 = omega arith in
    left-none _ _ (rw none at c.loop-i.invariant) ∙ sets-whole _ _ (length-leading _ _ c.requires)
