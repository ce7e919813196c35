-- `put_part` meets its contract: volumes are added where there is no load.
use borrow.Author.Rules.{rules}
use Rattle.notes.specs.Lessened.{no_loads}
use Rattle.notes.specs.Laws.Lessened.{added-to-none}
use Rattle.notes.proofs.lessening.put_part.Goals as goal

pub add_volumes-requires : goal.add_volumes-requires
unfolding no_loads
add_volumes-requires c = search rules

pub returns : goal.returns
unfolding no_loads
returns c = added-to-none c.requires c.add_volumes.ensures
