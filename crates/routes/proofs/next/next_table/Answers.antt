-- `next::next_table` meets its contract.
use Rattle.std.proofs.Common.{◌≡◌, ◌∙◌, ap, [], length, drop, replicate, length-append, length-take-le, arith}
use Rattle.std.proofs.lemmas.List.{length-replicate, get_or-replicate}
use Rattle.std.proofs.lemmas.List.Elements.{same_from_all_zip}
use Rattle.std.proofs.Math.ListN.{get_or-append}
use Rattle.routes.specs.Table.{no_links}
use Rattle.routes.specs.Laws.Table.{empty-ends, used-nexts}
use Rattle.routes.proofs.next.next_table.Goals as goal
use Rattle.routes.proofs.next.next_table.Goals.{After-fill}

-- The rows of the destinations have no link.
empty : (c : After-fill) → c.fill.new.self ≡ replicate (length c.args.destinations.now) no_links
unfolding no_links
empty c =
    c.fill.ensures.after (λ row clone. same_from_all_zip _ _ row clone.whole (λ x y e. e))
    ∙ ap (λ n. replicate n (replicate 128 65535)) (length-take-le (length c.args.destinations.now) c.args.table.now c.requires.trips_len.1)

pub put_groups-requires : goal.put_groups-requires
put_groups-requires c =
    rw (empty (goal.at.put_groups-requires c).After-fill) (length-replicate _ _, empty-ends _ _)

pub returns-clause-nexts : goal.returns-clause-nexts
returns-clause-nexts c =
    let x = c.args in
    let rows = c.put_groups.new.table in
    let filled = empty (goal.at.returns-clause-nexts c).After-fill in
    let size : length rows ≡ length x.destinations.now = c.put_groups.auto.table ∙ ap length filled ∙ length-replicate _ _ in
    let rest = drop (length x.destinations.now) x.table.now in
    record {
      size = omega (arith, size, length-append rows rest);
      row = λ k b.
          rw (get_or-append rows rest [] k (omega (arith, size)))
          (used-nexts x.nodes x.links.now x.destinations.now x.trips.now x.times.now c.fill.new.self rows c.put_groups.ensures
          (λ i h. rw filled (get_or-replicate _ i no_links [] h)) k b);
    }
