-- `notes::following::follow_row` meets its contract. The invariant: the note leads from the nodes below `j` that have trips, and their links are
-- written, with the nodes from which their ways set out. The measure is what is left of the nodes.
use native.Mathlib.Omega.{arith}
use mathlib.Core.Path.{◌≡◌, refl, sym, ◌∙◌}
use Rattle.theory.specs.Laws.Cases.{true-false}
use Rattle.notes.specs.Laws.Followed.{row-none, row-skip, row-lead, row-refused, followed-none, followed-skip, followed-lead, origins-none, origins-skip}
use Rattle.notes.proofs.following.follow_row.Goals as goal
use Rattle.notes.proofs.following.follow_row.Goals.{then-trips-j-ne0+else-not-trace, else-trips-j-ne0}

pub loop-j-init : goal.loop-j-init
loop-j-init c = let given = c.requires in (omega arith, row-none given.0 _, followed-none given.0 _, origins-none given.0 given.2)

pub offset_bounds-trips-j : goal.offset_bounds-trips-j
offset_bounds-trips-j c = omega (arith, c.loop-j-test.true, c.requires.0.few-nodes)

pub bounds-trips-j : goal.bounds-trips-j
bounds-trips-j c = omega (arith, c.loop-j-test.true, c.requires.1)

pub trace-requires : goal.trace-requires
trace-requires c =
    let inv = c.loop-j.invariant in
    (c.requires.0, inv.2.settled, inv.3, c.loop-j-test.true)

pub returns-then-not-trace : goal.returns-then-not-trace
returns-then-not-trace c =
    let none = sym c.trace.ensures.answer ∙ c.if-not-trace.true in record { answer = sym (row-refused c.requires.0 _ c.loop-j-test.true c.if-trips-j-ne0.true none); size = c.trace.ensures.size; links = λ e. true-false e refl }

pub loop-j-preserved : goal.loop-j-preserved
loop-j-preserved c =
    let r = c.requires.0 in
    elim c.if-trips-j-ne0.branch [
      | then-trips-j-ne0+else-not-trace w ↦
          let leads = w.if-not-trace.false in
          let traced = w.trace.ensures.written leads in
          rw (w.next-is, w.origin-is) (
            omega (arith, c.loop-j-test.true),
            row-lead r _ _ c.loop-j.invariant.1 (sym w.trace.ensures.answer ∙ leads),
            followed-lead r _ c.loop-j.invariant.2 traced,
            traced.origins,
          )
      | else-trips-j-ne0 w ↦ rw (w.next-is, w.origin-is) (
        omega (arith, c.loop-j-test.true),
        row-skip r _ _ c.loop-j.invariant.1 w.if-trips-j-ne0.false,
        followed-skip r _ w.if-trips-j-ne0.false c.loop-j.invariant.2,
        origins-skip r c.loop-j.invariant.3,
      )
    ]

pub returns : goal.returns
returns c =
    let all : c.loop-j.j ≡ c.args.nodes = omega (arith, c.loop-j.invariant.0) in
    record { answer = sym (rw all at c.loop-j.invariant.1); size = c.loop-j.invariant.3.size; links = λ e. rw all at c.loop-j.invariant.2 }
