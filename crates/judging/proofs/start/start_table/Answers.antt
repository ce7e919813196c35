-- `start_table` meets its contract: the table is emptied, and the loading at empty roads added.
use native.Mathlib.Nat.{mul-le-mul}
use native.Mathlib.Omega.{arith}
use mathlib.Core.Path.{refl, ◌∙◌}
use borrow.Author.Rules.{rules}
use Rattle.theory.specs.Laws.Cases.{true-false}
use Rattle.judging.specs.Laws.Classes.{few-commodities}
use Rattle.judging.specs.Laws.Judged.{known-lent}
use Rattle.judging.specs.Laws.Start.{no-flows-within, start-addable, start_is}
use Rattle.judging.proofs.start.start_table.Goals as goal

pub judge-requires : goal.judge-requires
judge-requires c =
    let (ready, prepared) = c.requires.ready in
    let (lent, none) = c.requires.lent in
    record {
      ready = (ready, record { some_share = search rules; share-fits = search rules }, prepared);
      known = λ e. true-false e refl;
      lent = (lent, no-flows-within none);
    }

pub overflow_mul-commodities : goal.overflow_mul-commodities
overflow_mul-commodities c = let ready = c.requires.ready.0 in
    omega (arith, mul-le-mul {n₂ = 64} {m₂ = 512} (few-commodities ready) ready.few-links)

pub add_classes-requires : goal.add_classes-requires
add_classes-requires c = let judged = c.judge.ensures in
    start-addable c.requires.ready.0 judged.known (judged.totals-kept ∙ c.requires.lent.1) c.args.table.now c.requires.links_in_bounds c.empty_flows.ensures

pub returns : goal.returns
returns c = let judged = c.judge.ensures in
    let ready = c.requires.ready.0 in
    let none = judged.totals-kept ∙ c.requires.lent.1 in
    record {
      table_after =
          start_is ready judged.known none c.args.table.now c.requires.links_in_bounds c.empty_flows.ensures
          c.add_classes.ensures;
      lent_2 = (known-lent ready judged.known, none);
    }
