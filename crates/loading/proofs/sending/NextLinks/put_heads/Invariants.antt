-- The invariant of `put_heads`: the heads of the nodes below `k` are written, and no node has a count above `k`.
use Rattle.std.proofs.Common.{◌≡◌, ℕ, ◌≤◌, length, get_or}
use Rattle.loading.specs.Sending.{HeadsBelow}
use Rattle.loading.proofs.sending.NextLinks.put_heads.Given as goal

abbrev pub invariant-loop-k : goal.invariant-loop-k
invariant-loop-k l =
    (length l.heads ≡ 128)
    × (length l.counts ≡ 128)
    × HeadsBelow l.k l.self.links.now l.self.next.now l.heads
    × ((i : ℕ) → get_or l.counts i 0 ≤ l.k)
