-- `notes::following::trace` meets its contract. The invariant: the way stands at `j` after `steps` steps, and its links are written. The measure is
-- how many steps it may still take.
use Prim.Native.Nat.{◌<◌}
use native.Mathlib.Omega.{arith}
use mathlib.Core.Path.{◌≡◌, refl, sym, ◌∙◌}
use mathlib.Core.Bool.{true, false, not}
use mathlib.Core.Logic.{◌≢◌}
use borrow.Author.Tests.{eq-eqb, ne_eqb}
use lib.ListN.{length, get_or}
use lib.Dec.{eqb}
use Rattle.theory.specs.Study.{node_of}
use Rattle.theory.specs.Laws.Cases.{on-equal, true-false}
use Rattle.notes.specs.Followed.{is_settled}
use Rattle.notes.specs.Laws.Followed.{unsettled-both, walking-stuck, walking-long, tracing-none, tracing-on, link-below, home-leads, home-traced, earlier-leads, earlier-traced, round-leads}
use Rattle.notes.proofs.following.trace.Goals as goal
use Rattle.notes.proofs.following.trace.Goals.{After-index, After-loop-l, At-loop-l, In-loop-l}

pub loop-l-init : goal.loop-l-init
loop-l-init c = tracing-none c.requires.0 c.requires.1 c.requires.2 c.requires.3

-- The node of a turn is a node.
node : (c : At-loop-l) → c.loop-l.j < 128
node c = omega (arith, c.loop-l.invariant.walking.node, c.requires.0.few-nodes)

unsettled : (c : In-loop-l) → is_settled c.loop-l.next (node_of c.args.commodity) c.loop-l.j ≡ false
unsettled c = sym c.is_settled.ensures ∙ c.loop-l-test.true

away : (c : In-loop-l) → c.loop-l.j ≢ node_of c.args.commodity
away c = (unsettled-both c.loop-l.next (node_of c.args.commodity) c.loop-l.j (unsettled c)).0

pub is_settled-requires : goal.is_settled-requires
is_settled-requires c = node (goal.at.is_settled-requires c).At-loop-l

pub overflow_add-l : goal.overflow_add-l
overflow_add-l c = omega (arith, node (goal.at.overflow_add-l c).At-loop-l, c.requires.0.few-numbers)

pub offset_bounds-note-first : goal.offset_bounds-note-first
offset_bounds-note-first c = omega (arith, node (goal.at.offset_bounds-note-first c).At-loop-l, c.requires.0.few-numbers)

pub bounds-note-first : goal.bounds-note-first
bounds-note-first c = omega (arith, c.loop-l.invariant.walking.node, c.requires.0.has-links)

pub returns-then-steps-nodes : goal.returns-then-steps-nodes
returns-then-steps-nodes c =
    let inv = c.loop-l.invariant in
    record { answer = sym (walking-long c.requires.0 inv.walking c.if-steps-nodes.true); written = λ e. true-false e refl; size = inv.origins.size }

pub returns-then-not-may_follow : goal.returns-then-not-may_follow
returns-then-not-may_follow c =
    let inv = c.loop-l.invariant in record { answer = sym (walking-stuck c.requires.0 inv.walking refl (away (goal.at.returns-then-not-may_follow c).In-loop-l) (sym c.may_follow.ensures ∙ c.if-not-may_follow.true)); written = λ e. true-false e refl; size = inv.origins.size }

pub offset_bounds-next-j : goal.offset_bounds-next-j
offset_bounds-next-j c = omega (arith, node (goal.at.offset_bounds-next-j c).At-loop-l)

pub bounds-next-j : goal.bounds-next-j
bounds-next-j c = node (goal.at.bounds-next-j c).At-loop-l

pub overflow_cast-origin : goal.overflow_cast-origin
overflow_cast-origin c = omega (arith, c.requires.3, c.requires.0.few-nodes)

pub offset_bounds-origin-j : goal.offset_bounds-origin-j
offset_bounds-origin-j c = omega (arith, node (goal.at.offset_bounds-origin-j c).At-loop-l)

pub bounds-origin-j : goal.bounds-origin-j
bounds-origin-j c = node (goal.at.bounds-origin-j c).At-loop-l

below : (c : After-index) → c.index.result < length c.args.links.now
below c =
    omega (arith, c.index.ensures, link-below c.requires.0 c.loop-l.invariant (sym c.is_settled.ensures ∙ c.loop-l-test.true) refl (sym c.may_follow.ensures ∙ c.if-not-may_follow.false))

pub offset_bounds-links-index : goal.offset_bounds-links-index
offset_bounds-links-index c = omega (arith, below (goal.at.offset_bounds-links-index c).After-index, c.requires.0.few-links)

pub bounds-links-index : goal.bounds-links-index
bounds-links-index c = below (goal.at.bounds-links-index c).After-index

pub overflow_add-steps : goal.overflow_add-steps
overflow_add-steps c = omega (arith, c.loop-l.invariant.walking.few, c.requires.0.few-nodes)

pub loop-l-smaller : goal.loop-l-smaller
loop-l-smaller c =
    omega (arith, c.loop-l.invariant.walking.few, c.if-steps-nodes.false)

pub loop-l-preserved : goal.loop-l-preserved
loop-l-preserved c =
    tracing-on c.requires.0 c.loop-l.invariant (unsettled (goal.at.loop-l-preserved c).In-loop-l) refl (sym c.may_follow.ensures ∙ c.if-not-may_follow.false)
    c.index.ensures c.index-j.ensures c.if-steps-nodes.false

settled : (c : After-loop-l) → is_settled c.loop-l.next (node_of c.args.commodity) c.loop-l.j ≡ true
settled c = sym c.is_settled.ensures ∙ c.loop-l-test.false

pub returns-then-j-node_of : goal.returns-then-j-node_of
returns-then-j-node_of c =
    let r = c.requires.0 in
    let home = c.if-j-node_of.true ∙ c.node_of.ensures in record { answer = sym (home-leads r c.loop-l.invariant (settled (goal.at.returns-then-j-node_of c).After-loop-l) home); written = λ e. home-traced r c.loop-l.invariant (settled (goal.at.returns-then-j-node_of c).After-loop-l) home; size = c.loop-l.invariant.origins.size }

pub offset_bounds-origin-j-2 : goal.offset_bounds-origin-j-2
offset_bounds-origin-j-2 c = omega (arith, node (goal.at.offset_bounds-origin-j-2 c).At-loop-l)

pub bounds-origin-j-2 : goal.bounds-origin-j-2
bounds-origin-j-2 c = node (goal.at.bounds-origin-j-2 c).At-loop-l

pub returns : goal.returns
returns c =
    let from = c.args.from in
    let r = c.requires.0 in
    let inv = c.loop-l.invariant in
    let off : c.loop-l.j ≢ node_of c.args.commodity = λ e. c.if-j-node_of.false (e ∙ sym c.node_of.ensures) in
    on-equal
    c.index-2.result
    from
    (λ same.
    let no : not (eqb c.index-2.result from) ≡ false = rw (eq-eqb _ _ same) refl in
    record { answer = no ∙ sym (round-leads r inv (settled (goal.at.returns c).After-loop-l) off (sym c.index-2.ensures ∙ same)); written = λ e. true-false e no; size = inv.origins.size })
    (λ other.
    let yes : not (eqb c.index-2.result from) ≡ true = rw (ne_eqb _ _ other) refl in
    let earlier : get_or c.loop-l.origin c.loop-l.j 0 ≢ from = λ e. other (c.index-2.ensures ∙ e) in
    record { answer = yes ∙ sym (earlier-leads r inv (settled (goal.at.returns c).After-loop-l) off earlier); written = λ _. earlier-traced r inv (settled (goal.at.returns c).After-loop-l) off earlier; size = inv.origins.size })
