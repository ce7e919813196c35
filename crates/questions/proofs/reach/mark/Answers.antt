-- `questions::reach::mark` meets its contract.
use Prim.Native.Nat.{◌%◌}
use native.Mathlib.Omega.{arith}
use Rattle.theory.specs.Laws.Bits.{one_shifted}
use Rattle.questions.specs.Laws.Reach.{set-marks}
use Rattle.questions.proofs.reach.mark.Goals as goal

pub returns : goal.returns
returns c = rw (one_shifted 64 (c.args.j % 64) (omega arith)) (set-marks _ _ _ c.requires.2 c.requires.0 c.requires.1)
