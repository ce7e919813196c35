-- `mark` meets its contract.
use native.Mathlib.Omega.{arith}
use borrow.Author.Tests.{eq-eqb, ne_eqb}
use Rattle.network.proofs.decoding.mark.Goals as goal

pub returns-then-byte-eq1 : goal.returns-then-byte-eq1
returns-then-byte-eq1 c = (rw (eq-eqb _ 1 c.if-byte-eq1.true), omega arith)

pub returns : goal.returns
returns c = (rw (ne_eqb _ 1 c.if-byte-eq1.false), omega arith)
