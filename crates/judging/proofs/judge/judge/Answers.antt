-- `judge` meets its contract: the arrays are known, or each is computed from the ones before.
use native.Mathlib.Omega.{arith}
use mathlib.Core.Path.{refl, sym, ◌∙◌, ap}
use lib.ListN.{length}
use Rattle.travel.specs.Links.{padded, list_time}
use Rattle.judging.specs.Laws.Study.{links-fit}
use Rattle.judging.specs.Laws.Judged.{loads-set}
use Rattle.judging.specs.Laws.Routes.{times-own, followable-all}
use Rattle.judging.proofs.judge.judge.Goals as goal

pub times-requires : goal.times-requires
times-requires c = let (ready, shared, prepared) = c.requires.ready in
    let (lent, fit) = c.requires.lent in
    record { links_fit = (links-fit ready, shared, fit); link_powers = (prepared.powers-are, lent.times-clear) }

pub put_next_links-requires : goal.put_next_links-requires
put_next_links-requires c = let (ready, shared, prepared) = c.requires.ready in
    record { ready = (ready, c.times.ensures.times_fit); class_chains = (prepared.chains-are, c.requires.lent.0.nexts-long) }

pub load-requires : goal.load-requires
load-requires c = let lent = c.requires.lent.0 in
    record {
      all_followable = (
        followable-all c.requires.ready.0 (times-own c.times.ensures.times_fit) c.put_next_links.ensures.class_nexts,
        lent.volumes-long,
      );
      clear = lent.loads-clear;
    }

pub returns : goal.returns
returns c =
    let lent = c.requires.lent.0 in
    let links = c.args.links.now in
    let rows = loads-set c.args.flows.now _ lent.flows_long refl in
    record {
      known =
          record {
            times-are = c.times.ensures.times_after ∙ ap (λ xs. padded (length links) (list_time links c.args.share xs)) (sym rows.totals-are);
            times-fit = c.times.ensures.times_fit;
            nexts-are = c.put_next_links.ensures.class_nexts;
            volumes-long = omega (arith, c.load.ensures.volumes_len_unchanged, lent.volumes-long);
            volumes-are = c.load.ensures.volumes_after;
            flows_long = rows.long;
            loads-are = rows.loads-are ∙ c.load.ensures.loads_after;
          };
      totals-kept = rows.totals-are;
    }
