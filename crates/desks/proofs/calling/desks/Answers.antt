-- `desks::calling::desks` meets its contract: the first round serves the desks that are not refused, each later one those that wait.
use Rattle.std.proofs.Common.{◌≡◌, ℕ, get_or, ◌-◌, ◌≤◌, ◌⊎◌, List, inl, inr, refl, sym, ap, ◌∙◌, arith}
use Rattle.std.proofs.Math.Nat.{div-le_self}
use Rattle.calls.specs.Desks.{Desk, desks_number}
use Rattle.calls.specs.Laws.Desks.{desks-range}
use Rattle.desks.specs.Seats.{desks_of}
use Rattle.desks.specs.Rounds.{waiting_count}
use Rattle.desks.specs.Laws.Rounds.{waiting-most}
use Rattle.desks.specs.Laws.Standing.{stands, made, first-stands, next-stands, next-more, left-stands, made-within, answers-are, left-are, refused-left, refused-answers}
use Rattle.desks.proofs.calling.desks.Goals as goal
use Rattle.desks.proofs.calling.desks.Goals.{Start, Else-refusal-ne0, Left-loop-left, else-loop-left-test, then-loop-left-test+then-shared-eq0}

abbrev queue : Start → List Desk
queue c = let x = c.args in desks_of x.seat_0.now x.seat_1.now x.seat_2.now x.seat_3.now x.seat_4.now x.seat_5.now x.seat_6.now x.seat_7.now

pub returns-then-refusal-ne0 : goal.returns-then-refusal-ne0
returns-then-refusal-ne0 c =
    let desks = queue (goal.at.returns-then-refusal-ne0 c).Start in
    let number = c.desks_refusal-refusal.ensures in
    record {
      same_reference_0 = refl;
      same_reference_1 = refl;
      same_reference_2 = refl;
      same_reference_3 = refl;
      same_reference_4 = refl;
      same_reference_5 = refl;
      same_reference_6 = refl;
      same_reference_7 = refl;
      value = c.refused_desks.ensures ∙ refused-answers desks _ _ _ number c.if-refusal-ne0.true;
      desks_after = refused-left desks _ _ refl (λ e. c.if-refusal-ne0.true (number ∙ e));
    }

accepted : (c : Else-refusal-ne0) → desks_number c.args.count c.args.allowance ≡ 0
accepted c = sym c.desks_refusal-refusal.ensures ∙ c.if-refusal-ne0.false

range : (c : Else-refusal-ne0) → (1 ≤ c.args.count) × (c.args.count ≤ 8) × (1 ≤ c.args.allowance) × (c.args.allowance ≤ 8192)
range c = desks-range _ _ (accepted c)

pub nonzero_div-first : goal.nonzero_div-first
nonzero_div-first c = omega (arith, (range (goal.at.nonzero_div-first c).Else-refusal-ne0).0)

pub nonzero_rem-first : goal.nonzero_rem-first
nonzero_rem-first c = omega (arith, (range (goal.at.nonzero_rem-first c).Else-refusal-ne0).0)

pub open_desks-requires-clause-count_most : goal.open_desks-requires-clause-count_most
open_desks-requires-clause-count_most c = (range (goal.at.open_desks-requires-clause-count_most c).Else-refusal-ne0).1

pub open_desks-requires-clause-round_fits : goal.open_desks-requires-clause-round_fits
open_desks-requires-clause-round_fits c =
    let of = range (goal.at.open_desks-requires-clause-round_fits c).Else-refusal-ne0 in
    omega (arith, div-le_self c.args.allowance c.args.count, of.3)

pub turns_made-requires : goal.turns_made-requires
turns_made-requires c =
    let of = range (goal.at.turns_made-requires c).Else-refusal-ne0 in
    let s = first-stands _ _ _ _ _ _ _ of.0 of.1 refl refl c.no_answers-answers.ensures c.open_desks.ensures.opened in
    omega (arith, made-within _ _ _ _ _ _ s, of.3)

pub overflow_sub-left : goal.overflow_sub-left
overflow_sub-left c =
    let of = range (goal.at.overflow_sub-left c).Else-refusal-ne0 in
    let s = first-stands _ _ _ _ _ _ _ of.0 of.1 refl refl c.no_answers-answers.ensures c.open_desks.ensures.opened in
    omega (arith, made-within _ _ _ _ _ _ s, c.turns_made.ensures)

pub loop-left-init : goal.loop-left-init
loop-left-init c =
    let of = range (goal.at.loop-left-init c).Else-refusal-ne0 in
    let s = first-stands _ _ _ _ _ _ _ of.0 of.1 refl refl c.no_answers-answers.ensures c.open_desks.ensures.opened in
    record {
      same-references = c.open_desks.ensures.same_references;
      answers-long = c.open_desks.ensures.answers_len;
      stands = left-stands _ _ _ _ _ _ _ s (ap (λ n. c.args.allowance - n) c.turns_made.ensures);
    }

pub share_out-shared-requires : goal.share_out-shared-requires
share_out-shared-requires c =
    let of = range (goal.at.share_out-shared-requires c).Else-refusal-ne0 in
    omega (arith, made-within _ _ _ _ _ _ c.loop-left.invariant.stands, of.3)

pub serve_round-requires-clause-round_fits : goal.serve_round-requires-clause-round_fits
serve_round-requires-clause-round_fits c =
    let of = range (goal.at.serve_round-requires-clause-round_fits c).Else-refusal-ne0 in
    omega (
      arith,
      c.next_round-round.ensures.whole,
      c.share_out-shared.ensures.turns,
      waiting-most c.loop-left.answers,
      made-within _ _ _ _ _ _ c.loop-left.invariant.stands,
      of.3,
    )

pub serve_round-requires-clause-stands : goal.serve_round-requires-clause-stands
serve_round-requires-clause-stands c = stands _ _ _ _ _ _ c.loop-left.invariant.stands

pub turns_made-requires-in-loop-left : goal.turns_made-requires-in-loop-left
turns_made-requires-in-loop-left c =
    let of = range (goal.at.turns_made-requires-in-loop-left c).Else-refusal-ne0 in
    let round = c.next_round-round.ensures in
    let s = next-stands _ _ _ _ _ _ c.loop-left.invariant.stands _ _ _ (omega arith) round.before (round.turns ∙ c.share_out-shared.ensures.turns) c.serve_round.ensures.gone in
    omega (arith, made-within _ _ _ _ _ _ s, of.3)

pub overflow_sub-left-in-loop-left : goal.overflow_sub-left-in-loop-left
overflow_sub-left-in-loop-left c =
    let round = c.next_round-round.ensures in
    let s = next-stands _ _ _ _ _ _ c.loop-left.invariant.stands _ _ _ (omega arith) round.before (round.turns ∙ c.share_out-shared.ensures.turns) c.serve_round.ensures.gone in
    omega (arith, made-within _ _ _ _ _ _ s, c.turns_made-in-loop-left.ensures)

pub loop-left-smaller : goal.loop-left-smaller
loop-left-smaller c =
    let was = c.loop-left.invariant.stands in
    let round = c.next_round-round.ensures in
    let turns = round.turns ∙ c.share_out-shared.ensures.turns in
    let s = next-stands _ _ _ _ _ _ was _ _ _ (omega arith) round.before turns c.serve_round.ensures.gone in
    omega (
      arith,
      was.left-is,
      made _ _ _ _ _ _ s,
      next-more _ _ _ _ _ _ was _ _ _ (omega arith) round.before turns c.serve_round.ensures.gone,
      c.turns_made-in-loop-left.ensures,
    )

pub loop-left-preserved : goal.loop-left-preserved
loop-left-preserved c =
    let was = c.loop-left.invariant in
    let round = c.next_round-round.ensures in
    let s = next-stands _ _ _ _ _ _ was.stands _ _ _ (omega arith) round.before (round.turns ∙ c.share_out-shared.ensures.turns) c.serve_round.ensures.gone in
    record {
      same-references = c.serve_round.ensures.same_references ∙ was.same-references;
      answers-long = c.serve_round.ensures.answers_len;
      stands = left-stands _ _ _ _ _ _ _ s (ap (λ n. c.args.allowance - n) c.turns_made-in-loop-left.ensures);
    }

-- Equal lists have equal references.
same-at : {names others : List ℕ} → names ≡ others → (k : ℕ) → get_or names k 0 ≡ get_or others k 0
same-at e k = ap (λ l. get_or l k 0) e

-- None is left, or no desk waits.
over : (c : Left-loop-left) → (c.loop-left.left ≡ 0) ⊎ (waiting_count c.loop-left.answers ≡ 0)
over c = elim c.loop-left-test.branch [
  | else-loop-left-test w ↦ inl (omega (arith, w.loop-left-test.false))
  | then-loop-left-test+then-shared-eq0 w ↦ inr (sym w.share_out-shared.ensures.waiting ∙ w.if-shared-eq0.true)
]

pub returns : goal.returns
returns c =
    let number = accepted (goal.at.returns c).Else-refusal-ne0 in
    let was = c.loop-left.invariant in
    let ends = over (goal.at.returns c).Left-loop-left in
    record {
      same_reference_0 = same-at was.same-references 0;
      same_reference_1 = same-at was.same-references 1;
      same_reference_2 = same-at was.same-references 2;
      same_reference_3 = same-at was.same-references 3;
      same_reference_4 = same-at was.same-references 4;
      same_reference_5 = same-at was.same-references 5;
      same_reference_6 = same-at was.same-references 6;
      same_reference_7 = same-at was.same-references 7;
      value = answers-are _ _ _ _ _ _ was.stands ends was.answers-long refl number _ refl;
      desks_after = left-are _ _ _ _ _ _ was.stands ends was.answers-long refl number;
    }
