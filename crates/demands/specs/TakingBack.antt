-- Request A.6: walks along next links, the note that a pass leaves, and what taking back leaves.
use Rattle.std.specs.Prelude.{ℕ, zero, suc, ◌≤◌, ◌<◌, ◌≡◌, refl, Bool, false, not, ◌&&◌, cond, List, [], ◌∷◌, ◌++◌, length, get_or, take, drop, replicate, eqb}
use Rattle.std.proofs.Common.{le_of_suc-le-suc, arith, sym, ◌∙◌, ap, ap₂, ⊎_elim, take-append-drop, ext_get_or, length-take-le, get_or-take}
use Rattle.std.proofs.Math.Bool.{true}
use Rattle.std.proofs.Math.Option.{Option, none, some}
use borrow.Author.Tests.{le-leb, leb-true, eqb-false, not-true}
use Rattle.study.specs.Questions.{Question, first_no, opening}
use Rattle.study.specs.Laws.{accepted}
use Rattle.theory.specs.Finite.{tabulate}
use Rattle.theory.specs.Network.{Network}
use Rattle.theory.specs.Flows.{times}
use Rattle.theory.specs.Routes.{Routing, routing, distance, next_links, walk}
use Rattle.theory.specs.Moves.{Shared, table_size, move}
use Rattle.theory.specs.Notes.{note_links, note_size, note_of, note_leads, can_take_back, taken_back}
use Rattle.theory.specs.Study.{no_link}
use Rattle.theory.specs.Laws.Cases.{on-option, on_test, on-equal}
use Rattle.theory.specs.Laws.Conserving.{Carried, carries-carried}
use Rattle.theory.specs.Laws.Finite.{order, and_left, and_right, length-tabulate, get_d_tabulate}
use Rattle.theory.specs.Laws.Local.{carries_same}
use Rattle.theory.specs.Laws.Moves.{chosen_of}
use Rattle.theory.specs.Laws.Next.{next-without-path}
use Rattle.theory.proofs.Notes.{restores}
use Rattle.theory.specs.Laws.Notes.{Restores, back-carries, length_back, length-note, next-walk-short, next-walk-simple}
use Rattle.theory.specs.Laws.Paths.{WellFormed, Simple, simple-none, ends_at, path_sum}
use Rattle.theory.specs.Laws.Routings.{times-timed, routing-well-formed}
use Rattle.theory.specs.Laws.Walks.{walk-stops, walk-goes, walk_same}
use Rattle.calls.specs.Study.{network_of}
use Rattle.calls.specs.Questions.{note_holds, check_questions, study_questions, share_questions, note_questions, pass_questions}
use Rattle.calls.specs.Calls.{overwritten, check_number, start_number, table_number, pass_outcome, outcome_number, table_after, note_after}
use Rattle.calls.specs.Calls.{pass_number, pass_answer, pass_table, pass_note, take_back_number, take_back_answer, take_back_table}
use Rattle.calls.specs.declared.Outcome.TheVariants as outcome
use Rattle.calls.specs.Laws.Questions.{Passed, SharePassed, check-passed, start-both, table-both, pass-both, both-pass, take-back-number, take-back-passed, passed-take-back}
use Rattle.calls.specs.Laws.Networks.{sound, share-range, holds-length}
use Rattle.calls.specs.Laws.Page.{link-count}
use Rattle.calls.specs.Laws.Reach.{served, passed-carries}
use Rattle.calls.proofs.Accepted.{pass-accepted}
use Rattle.calls.specs.Laws.Calls.{pass-table, pass-note, pass-refused, note-kept, take-back-accepted, take-back-written}
use Rattle.calls.specs.Laws.Tables.{overwritten-front, overwritten-length, moved_length}
use Rattle.demands.specs.Results.{Fresh, overwritten-fresh}
use Rattle.demands.specs.Sequences.{after-move}

-- A walk with a smaller limit leaves no node more often, so it meets no node twice where the longer one does not.
limited-leaves : (head tail : ℕ → ℕ) (next : List (Option ℕ)) (i a b j : ℕ) → a ≤ b → ends_at tail i (walk head next a j) ≤ ends_at tail i (walk head next b j)
unfolding walk path_sum
limited-leaves head tail next i zero b j h = omega arith
limited-leaves head tail next i (suc a) zero j h = absurd (omega arith)
limited-leaves head tail next i (suc a) (suc b) j h =
    on-option (get_or next j none)
    (λ e. rw (walk-stops head next a j e, walk-stops head next b j e) (omega arith))
    (λ l e.
    rw (walk-goes head next a j l e, walk-goes head next b j l e)
    (omega (arith, limited-leaves head tail next i a b (head l) (le_of_suc-le-suc h))))

limited-simple : (q : Routing) (a b j : ℕ) → a ≤ b → Simple q (walk q.head (next_links q) b j) → Simple q (walk q.head (next_links q) a j)
limited-simple q a b j h s i = omega (arith, s i, limited-leaves q.head q.tail (next_links q) i a b j h)

-- The routing of a commodity at the times of a table.
abbrev pub routing_at : List ℕ → List ℕ → ℕ → ℕ → Routing
routing_at file table share k = routing (network_of file) (times (network_of file) share table) k

-- The links of a walk from a node along next links, at most `most` of them.
abbrev pub next_walk : List ℕ → List ℕ → ℕ → ℕ → ℕ → ℕ → List ℕ
next_walk file table share k j most = walk (network_of file).head (next_links (routing_at file table share k)) most j

module _ (file : List ℕ) (e : check_number file ≡ 0) (table : List ℕ) (share k j most : ℕ) (p : k < (network_of file).commodities) (h : j < (network_of file).nodes) where
  abbrev q : Routing
  q = routing_at file table share k

  formed : WellFormed q
  formed =
      let is-sound = sound file (check-passed file e).described in
      routing-well-formed (network_of file) is-sound (times (network_of file) share table) (times-timed (network_of file) is-sound share table) k p

  -- It has fewer links than there are nodes,
  pub walk-short : length (next_walk file table share k j most) < (network_of file).nodes
  walk-short = next-walk-short q formed most j h

  -- and meets no node twice.
  pub walk-simple : Simple q (next_walk file table share k j most)
  walk-simple =
      on-option (distance q j)
      (λ f.
      let stop = walk-stops q.head (next_links q) most j (next-without-path q j h f) in
      limited-simple q most (suc most) j (omega arith) (rw stop (simple-none q)))
      (λ y f.
      let simple = next-walk-simple q formed j y h f in
      let short = next-walk-short q formed q.nodes j h in
      ⊎_elim
      (λ b. limited-simple q most q.nodes j (omega arith) simple)
      (λ b. rw (walk_same q.head (next_links q) q.nodes most j short (omega arith)) simple)
      (order most q.nodes))

-- No question of a list has a number. Of a list whose numbers are written out this computes.
abbrev number_free : ℕ → List Question → Bool
number_free number [] = true
number_free number (question ∷ rest) = not (eqb question.number number) && number_free number rest

first-other : (number : ℕ) (questions : List Question) → 0 < number → number_free number questions ≡ true → first_no questions ≡ number → ⊥
first-other number [] some-number free e = omega arith
first-other number (question ∷ rest) some-number free e =
    on_test question.yes
    (λ f. first-other number rest some-number (and_right (not (eqb question.number number)) _ free) (rw f at e))
    (λ f. eqb-false question.number number (not-true (eqb question.number number) (and_left (not (eqb question.number number)) _ free)) (rw f at e))

-- No question of a pass, which are put before question 21, has that number.
pass-other : (file table : List ℕ) (share : ℕ) (note : List ℕ) → pass_number file table share note ≡ 21 → ⊥
unfolding pass_number pass_questions note_questions check_questions opening study_questions share_questions
pass-other file table share note = first-other 21 (pass_questions file table share note) (omega arith) refl

-- So a note that leads every node with trips to the destination is not refused 21.
leading-note : (file table : List ℕ) (share : ℕ) (note : List ℕ) → note_leads (network_of file) note ≡ true → take_back_number file table share note ≡ 21 → ⊥
leading-note file table share note leads e =
    let number = pass_number file table share note in
    let can = can_take_back (network_of file) (record { table = table; share = share }) note in
    go number (eqb number 0) can (pass-other file table share note) (rw (take-back-number file table share note, leads) at e)
  where
    go : (number : ℕ) (none can : Bool) → (number ≡ 21 → ⊥) → cond none (cond can 0 22) number ≡ 21 → ⊥
    go number true true other f = omega arith
    go number true false other f = omega arith
    go number false can other f = other f

-- The first numbers of a list,
abbrev front_of : ℕ → List ℕ → List ℕ
front_of size old = tabulate size (λ i. get_or old i 0)

front-is : (size : ℕ) (old : List ℕ) → size ≤ length old → front_of size old ≡ take size old
front-is size old fits =
    let long = length-tabulate size (λ i. get_or old i 0) in
    ext_get_or 0 (front_of size old) (take size old) (long ∙ sym (length-take-le size old fits)) (λ i h.
    let below : i < size = omega arith in
    get_d_tabulate size (λ i. get_or old i 0) 0 i below ∙ sym (get_or-take size old i 0 below))

-- written back over what was written there, make the list whole again.
put_back : (size : ℕ) (new old : List ℕ) → length new ≡ size → size ≤ length old → overwritten (front_of size old) (overwritten new old) ≡ old
unfolding overwritten
put_back size new old e fits =
    ap₂ (λ front rest. front ++ rest) (front-is size old fits)
    (ap (λ i. drop i (overwritten new old)) (length-tabulate size (λ i. get_or old i 0)) ∙ (overwritten-fresh size new old e).later-numbers)
    ∙ take-append-drop size old

-- Taking back with this table, share and note is accepted, answers the share before and leaves the table before.
pub record TakesBackTo (file before : List ℕ) (share : ℕ) (after : List ℕ) (reached : ℕ) (note : List ℕ) : Type 0 where
  pub accepts : take_back_number file after reached note ≡ 0
  pub answers : (take_back_answer file after reached note).share ≡ share
  pub leaves : take_back_table file after reached note ≡ before

-- A study, a table with its share, and a note.
module _ (file table : List ℕ) (share : ℕ) (note : List ℕ) where
  abbrev g : Network
  g = network_of file

  abbrev x : Shared
  x = record { table = table; share = share }

  -- What an accepted taking back leaves carries the trips at the share that it answers,
  pub back-carried : take_back_number file table share note ≡ 0 → Carried g (take_back_answer file table share note).share (take_back_table file table share note)
  back-carried e =
      let h = take-back-passed file table share note e in
      let parts = table-both file table share (pass-both file table share note h.passed).0 in
      let is-sound = sound file (check-passed file (start-both file table parts.0).0).described in
      let new = taken_back g x note in
      rw (take-back-accepted file table share note e, take-back-written file table share note e)
      (carries-carried g new.share (overwritten new.table table)
      (carries_same g new.table (overwritten new.table table) (λ i b. overwritten-front new.table table i (omega (arith, length_back g x note))) new.share
      (back-carries g is-sound x note (passed-carries file table share parts.1) h.leads h.can)))

  -- in the first numbers of the table, and later numbers are untouched.
  pub back-fresh : take_back_number file table share note ≡ 0 → Fresh (table_size g) (taken_back g x note).table table (take_back_table file table share note)
  back-fresh e = rw (take-back-written file table share note e) (overwritten-fresh (table_size g) (taken_back g x note).table table (length_back g x note))

  -- A pass that answers 'finest' leaves the note as it was,
  pub finest-note : (pass_answer file table share note).outcome ≡ outcome.Finest → pass_note file table share note ≡ note
  finest-note finest =
      on-equal (pass_number file table share note) 0
      (λ e. pass-note file table share note e ∙ resting (move g x) (rw (pass-accepted file table share note e) at finest))
      (note-kept file table share note)
    where
      resting : (next : Option Shared) → pass_outcome next ≡ outcome.Finest → note_after (note_of g x) note next ≡ note
      resting none e = refl
      resting (some x') e = let z : ◌≡◌ {A = ℕ} 1 2 = ap outcome_number e in absurd (omega arith)

  -- and one that answers 'moved' was accepted and made a move.
  record MovedTo : Type 0 where
    accepted-pass : pass_number file table share note ≡ 0
    next : Shared
    is-next : move g x ≡ some next

  moved_to : (pass_answer file table share note).outcome ≡ outcome.Moved → MovedTo
  moved_to moved = by_number (pass_number file table share note) refl
    where
      by_move : pass_number file table share note ≡ 0 → (next : Option Shared) → move g x ≡ next → pass_outcome next ≡ outcome.Moved → MovedTo
      by_move e none f o = let z : ◌≡◌ {A = ℕ} 2 1 = ap outcome_number o in absurd (omega arith)
      by_move e (some next) f o = record { accepted-pass = e; next = next; is-next = f }

      by_number : (number : ℕ) → pass_number file table share note ≡ number → MovedTo
      by_number zero e = by_move e (move g x) refl (rw (pass-accepted file table share note e) at moved)
      by_number (suc number) e =
          let o : outcome.Refused ≡ outcome.Moved = rw (pass-refused file table share note number e) at moved in
          let z : ◌≡◌ {A = ℕ} 0 1 = ap outcome_number o in
          absurd (omega arith)

  -- A pass that moved: what it leaves.
  module _ (moved : (pass_answer file table share note).outcome ≡ outcome.Moved) where
    abbrev table' : List ℕ
    table' = pass_table file table share note

    abbrev note' : List ℕ
    note' = pass_note file table share note

    m : MovedTo
    m = moved_to moved

    passed : (table_number file table share ≡ 0) × (note_holds g note ≡ true)
    passed = pass-both file table share note m.accepted-pass

    parts : (start_number file table ≡ 0) × SharePassed file table share
    parts = table-both file table share passed.0

    study : Passed file
    study = check-passed file (start-both file table parts.0).0

    table_is : table' ≡ overwritten m.next.table table
    table_is = pass-table file table share note m.accepted-pass ∙ ap (table_after table) m.is-next

    table-size : length m.next.table ≡ table_size g
    table-size = moved_length file study x m.next m.is-next

    share-is : (pass_answer file table share note).share ≡ m.next.share
    share-is = rw (pass-accepted file table share note m.accepted-pass, m.is-next)

    note-is : note' ≡ overwritten (note_of g x) note
    note-is = pass-note file table share note m.accepted-pass ∙ ap (note_after (note_of g x) note) m.is-next

    -- Its note stands in the first numbers of the one that it was lent, and later numbers are untouched.
    pub note-fresh : Fresh (note_size g) (note_of g x) note note'
    note-fresh = rw note-is (overwritten-fresh (note_size g) (note_of g x) note (length-note g x))

    -- Taking back with all that restores what the pass judged, in the first numbers of the table, by the theory's law;
    restored : Restores g x (record { table = table'; share = m.next.share }) note'
    restored =
        let is-sound = sound file study.described in
        let timed = times-timed g is-sound share table in
        let few : g.links ≤ no_link = omega (arith, link-count file, (accepted file study.described.opened).links-most) in
        restores g is-sound few x (share-range share parts.1.share-fits).0 table' note' timed (served file study (times g share table) timed)
        (λ i h. ap (λ numbers. get_or numbers i 0) note-is ∙ sym (overwritten-front (note_of g x) note i (omega (arith, length-note g x))))
        m.next
        m.is-next
        (λ i h. ap (λ numbers. get_or numbers i 0) table_is ∙ sym (overwritten-front m.next.table table i (omega (arith, table-size))))

    -- so the note leads, whatever table and share it is handed with,
    pub moved-leads : (other : List ℕ) (w : ℕ) → take_back_number file other w note' ≡ 21 → ⊥
    moved-leads other w = leading-note file other w note' restored.leads

    -- and with the table and the share that the pass left it is accepted,
    moved-accepted : take_back_number file table' m.next.share note' ≡ 0
    unfolding note_holds
    moved-accepted =
        passed-take-back file table' m.next.share note'
        (record {
          passed = both-pass file table' m.next.share note' (rw table_is (after-move file x (some m.next) passed.0 m.is-next)) holds;
          leads = restored.leads;
          can = restored.can;
        })
      where
        holds : note_holds g note' ≡ true
        holds =
            let fits = leb-true (note_size g) (length note) passed.1 in
            le-leb (note_size g) (length note')
            (rw note-is (omega (arith, length-note g x, overwritten-length (note_of g x) note (omega (arith, length-note g x)))))

    -- and the whole table is restored, later numbers included.
    pub moved-restores : TakesBackTo file table share table' (pass_answer file table share note).share note'
    moved-restores =
        rw share-is
        (record {
          accepts = moved-accepted;
          answers = rw (take-back-accepted file table' m.next.share note' moved-accepted) restored.share-is;
          leaves =
              rw (take-back-written file table' m.next.share note' moved-accepted, restored.table_is, table_is)
              (put_back (table_size g) m.next.table table table-size (holds-length g table (start-both file table parts.0).1));
        })

-- The note of a doubling: j is 0, and there are no links.
pub doubling-note : (g : Network) (x : Shared) → chosen_of g x ≡ 0 → note_of g x ≡ 0 ∷ replicate (note_links g) no_link
unfolding note_of
doubling-note g x none-chosen = rw none-chosen
