-- `text::put_leading` meets its contract. The loop's invariant: once the bytes in front are put, the column is as it has to be.
use Rattle.std.proofs.Common.{length}
use Rattle.std.proofs.lemmas.List.Edits.{sets}
use Rattle.text.specs.Put.{leading}
use Rattle.text.specs.Laws.Put.{Left}
use Rattle.text.proofs.put_leading.Given as goal

abbrev pub invariant-loop-i : goal.invariant-loop-i
invariant-loop-i l = Left (sets l.initial.column 0 (leading (length l.initial.column) l.rest)) 0 l.column l.i l.left
