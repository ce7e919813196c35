-- `put_class_chains` meets its contract: the rows for cars are filled, and behind them those for lorries.
use native.Mathlib.Omega.{arith}
use Rattle.judging.specs.Study.{study_of}
use Rattle.judging.specs.Classes.{HasLorries}
use Rattle.judging.specs.Laws.Study.{chainable}
use Rattle.judging.specs.Laws.Chains.{first-empty, rest-empty, chains-cars, chains-both}
use Rattle.judging.proofs.classes.put_class_chains.Goals as goal
use Rattle.judging.proofs.classes.put_class_chains.Goals.{After-put_chains, Then-car_count-commodities}

pub put_chains-requires : goal.put_chains-requires
put_chains-requires c = (chainable c.requires.0, first-empty c.requires.1)

-- There are lorries.
some-lorries :
    (c : Then-car_count-commodities) → let x = c.args in HasLorries (study_of x.nodes x.links.now x.commodities.now x.trips.now)
some-lorries c = omega (arith, c.if-car_count-commodities.true, c.car_count.ensures.0)

pub put_chains-requires-then-car_count-commodities : goal.put_chains-requires-then-car_count-commodities
put_chains-requires-then-car_count-commodities c =
    let (ready, room) = c.requires in
    (chainable ready, rest-empty room c.put_chains.new.chains c.put_chains.ensures.1 (some-lorries (goal.at.put_chains-requires-then-car_count-commodities c).Then-car_count-commodities))

pub returns-then-car_count-commodities : goal.returns-then-car_count-commodities
returns-then-car_count-commodities c =
    chains-both c.requires.1 c.put_chains.new.chains c.put_chains.ensures.1 c.put_chains.ensures.0 (some-lorries (goal.at.returns-then-car_count-commodities c).Then-car_count-commodities)
    c.put_chains-then-car_count-commodities.ensures.0 c.put_chains-then-car_count-commodities.ensures.1

pub returns-else-car_count-commodities : goal.returns-else-car_count-commodities
returns-else-car_count-commodities c =
    chains-cars c.requires.1 c.put_chains.new.chains c.put_chains.ensures.1 c.put_chains.ensures.0
    (omega (arith, c.if-car_count-commodities.false, c.car_count.ensures.0))
