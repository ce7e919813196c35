-- `groups::group_of` meets its contract.
use Rattle.search.specs.Laws.Groups.{first-members}
use Rattle.search.proofs.groups.group_of.Goals as goal

pub returns : goal.returns
returns c i b =
    rw c.copy_from_slice.ensures.after (first-members c.args.destinations.now c.min-size.result c.requires.0 c.min-size.ensures i b)
