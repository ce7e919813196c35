-- A turn writes one head more, and counts at most one next link more at each node.
use Rattle.std.proofs.Common.{◌≡◌, ℕ, ◌<◌, List, Some, get_or, replicate, ⊎_elim, ◌∙◌, length-set, arith}
use Rattle.std.proofs.lemmas.List.{length-replicate, get_or-replicate}
use Rattle.std.proofs.Math.ListN.{get_or-eq_default}
use Rattle.theory.specs.Laws.Finite.{order}
use Rattle.loading.specs.Along.{Followable}
use Rattle.loading.specs.Sending.{all_zero, HeadOf}
use Rattle.loading.specs.Laws.Leaves.{head_few}
use Rattle.loading.specs.Laws.Sending.{heads-more, counts-more}
use Rattle.loading.proofs.sending.NextLinks.put_heads.Goals as goal
use Rattle.loading.proofs.sending.NextLinks.put_heads.Goals.{in-Some, in_default}

-- Nothing is counted at first.
none : (n i : ℕ) → get_or {A = ℕ} (replicate n 0) i 0 ≡ 0
none n i =
    ⊎_elim (λ p. get_or-replicate n i 0 0 p) (λ p. get_or-eq_default (replicate n 0) 0 (omega (arith, length-replicate {A = ℕ} n 0))) (order i n)

-- A head is one of 128 nodes.
few : {n : ℕ} {links : List (List ℕ)} {next : List ℕ} → Followable n links next → (k : ℕ) → k < n → (h : ℕ) → HeadOf links next k (Some h) → h < 128
few w k below h is = omega (arith, is.1, head_few w k below is.0)

pub loop-k-init : goal.loop-k-init
unfolding all_zero
loop-k-init c = (c.told-heads, c.told-counts, (λ k h. absurd (omega arith)), (λ i. rw c.requires (omega (arith, none 128 i))))

pub loop-k-preserved : goal.loop-k-preserved
loop-k-preserved c =
    let self = c.args.self in
    let so_far = c.loop-k.invariant in
    let heads = heads-more self.links.now self.next.now c.loop-k.heads c.loop-k.k _ so_far.2 (omega (arith, so_far.0, self.followable.few-nodes)) c.head-head.ensures in
    let size = length-set c.loop-k.heads c.loop-k.k c.head-head.result ∙ so_far.0 in
    elim c.match-head.branch [
      | in-Some w ↦
          let h = few self.followable c.loop-k.k c.loop-k-test.true w.in-Some.h (rw w.in-Some.is at c.head-head.ensures) in
          rw (w.counts-is, w.from.ensures) (
            size,
            length-set c.loop-k.counts w.in-Some.h _ ∙ so_far.1,
            heads,
            counts-more c.loop-k.counts w.in-Some.h c.loop-k.k (omega (arith, h, so_far.1)) so_far.3,
          )
      | in_default w ↦ rw w.counts-is (size, so_far.1, heads, (λ i. omega (arith, so_far.3 i)))
    ]
