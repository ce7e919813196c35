-- `assignment::load_start_in` meets its contract: the table is filled by what is computed of empty roads.
use Rattle.std.proofs.Common.{refl}
use Rattle.travel.specs.Laws.Powers.{link-powers}
use Rattle.judging.specs.Laws.Judged.{zeros-lent}
use Rattle.assignment.proofs.starting.load_start_in.Goals as goal
use Rattle.assignment.proofs.starting.load_start_in.Goals.{Start}

pub start_table-requires : goal.start_table-requires
start_table-requires c =
    let (ready, curves) = c.requires.ready in
    let rows = c.requires.chain_room.1 in
    record {
      ready = (ready, record { chains-are = c.put_class_chains.ensures; powers-are = link-powers curves c.put_powers.ensures });
      links_in_bounds = c.requires.links_in_bounds;
      lent = (zeros-lent _ rows.0 rows.1 refl refl, refl);
    }
