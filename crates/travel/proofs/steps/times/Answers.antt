-- Each turn fills in one time more, and after the last the array is that of all times.
use Rattle.std.proofs.Common.{◌≡◌, length, ap, arith}
use Rattle.travel.specs.Links.{padded, list_time}
use Rattle.travel.specs.Laws.Padded.{get_d-padded, filled_more, filled-all}
use Rattle.travel.specs.Laws.Times.{list_time-least, list_time-most}
use Rattle.travel.proofs.steps.times.Goals as goal

pub loop-l-preserved : goal.loop-l-preserved
unfolding list_time
loop-l-preserved c =
    filled_more _ _ _ c.loop-l.l _ c.loop-l-test.true c.requires.links_fit.0.few c.loop-l.invariant (ap (λ r. r.time) c.link_time-here.ensures.0)

pub returns : goal.returns
returns c =
    let x = c.args in
    let m = length x.links.now in
    let end : c.loop-l.l ≡ m = omega arith in
    let fit = c.requires.links_fit.0 in
    let same : c.loop-l.times ≡ padded m (list_time x.links.now x.share x.flows.now) = filled-all m _ _ fit.few (rw end at c.loop-l.invariant) in record {
      times_after = same;
      times_fit = rw same (record {
        some-time = λ l p. rw (get_d-padded m _ l p) (list_time-least _ fit x.share _ l p);
        times-fit = λ l p. rw (get_d-padded m _ l p) (list_time-most _ fit x.share _ l p);
      });
    }
