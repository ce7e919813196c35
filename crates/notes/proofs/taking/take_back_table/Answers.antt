-- `notes::taking::take_back_table` meets its contract.
use Prim.Native.Nat.{◌*◌, ◌≤◌}
use native.Mathlib.Nat.{mul-le-mul}
use native.Mathlib.Omega.{arith}
use mathlib.Core.Path.{◌≡◌, sym, ◌∙◌}
use mathlib.Core.Logic.{◌≢◌}
use lib.ListN.{length}
use Rattle.theory.specs.Notes.{note_step, note_leads}
use Rattle.theory.specs.Study.{network}
use Rattle.notes.specs.Laws.Noted.{all-readable, leads-is, loading-is, followable-all}
use Rattle.notes.specs.Laws.Taken.{taken-half, taken-nowhere, taken-over, taken-less}
use Rattle.notes.proofs.taking.take_back_table.Goals as goal
use Rattle.notes.proofs.taking.take_back_table.Goals.{After-follow_note, Else-j-eq0, Start}

pub bounds-note-0 : goal.bounds-note-0
bounds-note-0 c = omega (arith, c.requires.takeable.note-holds)

-- The table's numbers are few.
few : (c : Start) → length c.args.commodities.now * length c.args.links.now ≤ 32768
few c = omega (arith, mul-le-mul c.requires.takeable.few-commodities c.requires.takeable.few-links)

pub overflow_mul-commodities : goal.overflow_mul-commodities
overflow_mul-commodities c = omega (arith, few (goal.at.overflow_mul-commodities c).Start)

pub take_half-requires : goal.take_half-requires
take_half-requires c = (c.requires.takeable.holds, few (goal.at.take_half-requires c).Start)

pub returns-then-j-eq0 : goal.returns-then-j-eq0
returns-then-j-eq0 c =
    let x = c.args in
    taken-half x.nodes x.links.now x.commodities.now x.trips.now x.table.now x.share x.note.now
    (sym c.wide-j.ensures.0 ∙ c.if-j-eq0.true) c.take_half.ensures

pub follow_note-requires : goal.follow_note-requires
follow_note-requires c = (all-readable c.requires.takeable, c.requires.commodities_in_bounds.0)

-- The note's j is not 0, and what following the note answers is question 21's answer.
some-step : (c : Else-j-eq0) → note_step c.args.note.now ≢ 0
some-step c e = c.if-j-eq0.false (c.wide-j.ensures.0 ∙ e)

leads :
    (c : After-follow_note) →
    let x = c.args in
    note_leads (network x.nodes x.links.now x.commodities.now x.trips.now) x.note.now ≡ c.follow_note.result
leads c = leads-is c.requires.takeable (λ e. c.if-j-eq0.false (c.wide-j.ensures.0 ∙ e)) ∙ sym c.follow_note.ensures.answer

pub returns-then-not-follow_note : goal.returns-then-not-follow_note
returns-then-not-follow_note c =
    let x = c.args in
    taken-nowhere x.nodes x.links.now x.commodities.now x.trips.now x.table.now x.share x.note.now
    (leads (goal.at.returns-then-not-follow_note c).After-follow_note ∙ c.if-not-follow_note.true) c.refused.ensures

pub returns-then-share-j : goal.returns-then-share-j
returns-then-share-j c =
    let x = c.args in
    taken-over x.nodes x.links.now x.commodities.now x.trips.now x.table.now x.share x.note.now (some-step (goal.at.returns-then-share-j c).Else-j-eq0)
    (leads (goal.at.returns-then-share-j c).After-follow_note ∙ c.if-not-follow_note.false) (omega (arith, c.if-share-j.true, c.wide-j.ensures.0)) c.refused-then-share-j.ensures

pub take_loading-requires : goal.take_loading-requires
take_loading-requires c =
    let yes = c.if-not-follow_note.false in record { all_followable = (followable-all c.requires.takeable (c.follow_note.ensures.rows yes) (some-step (goal.at.take_loading-requires c).Else-j-eq0) (leads (goal.at.take_loading-requires c).After-follow_note ∙ yes), c.requires.takeable.holds, c.requires.commodities_in_bounds.1); j_lt_share = (c.if-share-j.false, c.wide-j.ensures.1) }

pub returns : goal.returns
returns c =
    let x = c.args in
    let yes = c.if-not-follow_note.false in
    taken-less x.nodes x.links.now x.commodities.now x.trips.now x.table.now x.share x.note.now (some-step (goal.at.returns c).Else-j-eq0) (leads (goal.at.returns c).After-follow_note ∙ yes)
    c.wide-j.ensures.0 c.if-share-j.false (loading-is c.requires.takeable (c.follow_note.ensures.rows yes)) c.take_loading.ensures
