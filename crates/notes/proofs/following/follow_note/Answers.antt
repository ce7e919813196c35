-- `notes::following::follow_note` meets its contract. The invariant: the note leads to the destinations of the commodities before `k`, and the rows
-- of their links are written. The measure is what is left of the commodities.
use Prim.Native.Nat.{ℕ, ◌+◌, ◌*◌, ◌≤◌, ◌<◌}
use native.Mathlib.Omega.{arith}
use mathlib.Core.Path.{◌≡◌, refl, sym, ◌∙◌}
use borrow.Author.Rules.{rules}
use lib.ListN.{length, length-replicate}
use Rattle.theory.specs.Laws.Cases.{true-false}
use Rattle.theory.specs.Laws.Parts.{length_part}
use Rattle.notes.specs.Laws.Followed.{note-none, rows_none, trips-within, row-readable, note-more, rows_more, note-refused}
use Rattle.notes.proofs.following.follow_note.Goals as goal
use Rattle.notes.proofs.following.follow_note.Goals.{In-loop-k}

pub loop-k-init : goal.loop-k-init
loop-k-init c =
    let given = c.requires in
    (omega arith, note-none given.0, rows_none given.0 given.1, length-replicate {A = ℕ} 128 0, refl)

-- The part of the trips of a turn is within the whole, and small; and there are few commodities, and a row of next links for each.
within :
    (c : In-loop-k) →
    let x = c.args in
    let k = c.loop-k.k in
    (k * x.nodes + x.nodes ≤ length x.trips.now) × (k * x.nodes + x.nodes ≤ 8192)
within c = trips-within c.requires.0 c.loop-k-test.true

few : (c : In-loop-k) → c.loop-k.k < 64
few c = omega (arith, c.requires.0.few-commodities, c.loop-k-test.true)

has-row : (c : In-loop-k) → c.loop-k.k < length c.loop-k.next
has-row c = omega (arith, c.loop-k.invariant.2.size, c.loop-k-test.true)

pub overflow_mul-first : goal.overflow_mul-first
overflow_mul-first c = omega (arith, within (goal.at.overflow_mul-first c).In-loop-k)

pub overflow_add-past : goal.overflow_add-past
overflow_add-past c = omega (arith, within (goal.at.overflow_add-past c).In-loop-k)

pub offset_bounds-commodities-k : goal.offset_bounds-commodities-k
offset_bounds-commodities-k c = omega (arith, few (goal.at.offset_bounds-commodities-k c).In-loop-k)

pub bounds-commodities-k : goal.bounds-commodities-k
bounds-commodities-k c = c.loop-k-test.true

pub offset_bounds-trips-first : goal.offset_bounds-trips-first
offset_bounds-trips-first c = omega (arith, within (goal.at.offset_bounds-trips-first c).In-loop-k)

pub slice_bounds-follow_row-start : goal.slice_bounds-follow_row-start
slice_bounds-follow_row-start c = omega (arith, within (goal.at.slice_bounds-follow_row-start c).In-loop-k)

pub slice_bounds-follow_row-end : goal.slice_bounds-follow_row-end
slice_bounds-follow_row-end c = omega (arith, within (goal.at.slice_bounds-follow_row-end c).In-loop-k)

pub overflow_add-first : goal.overflow_add-first
overflow_add-first c = omega (arith, within (goal.at.overflow_add-first c).In-loop-k)

pub offset_bounds-next-k : goal.offset_bounds-next-k
offset_bounds-next-k c = omega (arith, few (goal.at.offset_bounds-next-k c).In-loop-k)

pub bounds-next-k : goal.bounds-next-k
bounds-next-k c = has-row (goal.at.bounds-next-k c).In-loop-k

pub follow_row-requires : goal.follow_row-requires
follow_row-requires c = (
  row-readable c.requires.0 c.loop-k-test.true,
  length_part _ _ _ (within (goal.at.follow_row-requires c).In-loop-k).0,
  c.loop-k.invariant.3,
)

pub shape_of-next-then-not-follow_row : goal.shape_of-next-then-not-follow_row
shape_of-next-then-not-follow_row c = search rules

pub returns-then-not-follow_row : goal.returns-then-not-follow_row
returns-then-not-follow_row c =
    record {
      answer = sym
          (note-refused c.requires.0 c.loop-k-test.true
          (sym c.follow_row.ensures.answer ∙ c.if-not-follow_row.true));
      rows = λ e. true-false e refl;
    }

pub loop-k-preserved : goal.loop-k-preserved
loop-k-preserved c =
    let all-readable = c.requires.0 in
    let yes = c.if-not-follow_row.false in (
      search rules,
      note-more all-readable c.loop-k-test.true c.loop-k.invariant.1 (sym c.follow_row.ensures.answer ∙ yes),
      rows_more all-readable c.loop-k-test.true c.loop-k.invariant.2 (c.follow_row.ensures.links yes),
      c.follow_row.ensures.size,
      search rules,
    )

pub shape_of-next : goal.shape_of-next
shape_of-next c = c.loop-k.invariant.4

pub returns : goal.returns
returns c =
    let all : c.loop-k.k ≡ length c.args.commodities.now = omega (arith, c.loop-k.invariant.0) in
    record { answer = sym (rw all at c.loop-k.invariant.1); rows = λ e. rw all at c.loop-k.invariant.2 }
