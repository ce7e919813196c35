-- `study::mark_byte` meets its contract: past the end a byte counts as 0.
use borrow.Author.Rules.{rules}
use lib.ListN.{get_or-eq_default}
use mathlib.Core.Path.{sym}
use Rattle.study.specs.Fields.{mark_byte}
use Rattle.study.proofs.fields.mark_byte.Goals as goal

pub returns-then-bytes-number : goal.returns-then-bytes-number
unfolding mark_byte
returns-then-bytes-number c = sym (get_or-eq_default c.args.bytes.now 0 c.if-bytes-number.true)

pub returns : goal.returns
unfolding mark_byte
returns c = search rules
