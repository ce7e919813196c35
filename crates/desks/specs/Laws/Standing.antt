-- How the desks stand from round to round, and where the turns end.
use Rattle.std.specs.Prelude.{get_or, ◌≡◌, ℕ, zero, suc, ◌+◌, ◌-◌, ◌/◌, ◌%◌, ◌≤◌, ◌<◌, min, Bool, true, false, ◌⊎◌, cond, List, [], ◌∷◌, length, replicate, ltb, refl}
use Rattle.std.proofs.Common.{arith, sym, ◌∙◌, ap, subst, add-one, mod-lt, inl, inr, ⊎_elim, lt-ltb, ltb-true}
use Rattle.std.proofs.lemmas.Bool.{le-ltb, ltb-false}
use Rattle.theory.specs.Finite.{count, tabulate}
use Rattle.theory.specs.Laws.Finite.{order, sum-suc, sum-zero, sum-cong, sum_mono, sum-add, sum-term}
use Rattle.calls.specs.Desks.{Desk, desk_at, turns_to_end, ends_after, turns_of, desk_turns, desk_answer, desk_table, seat_answer, seat_table, no_answer, desks_number, desks_answer, desks_table}
use Rattle.calls.specs.declared.RunAnswer.{RunAnswer}
use Rattle.calls.specs.declared.DesksAnswer.{DesksAnswer}
use Rattle.calls.specs.Laws.Desks.{is_waiting, ended-answer, ended-table, desk-judged, desk-waits, desk-answer-again, desk-table-again, ends-again, refused_desks, desks-accepted, desks-refused, desks-written, desks-kept}
use Rattle.calls.specs.Laws.Turns.{visits, visits-mono, served, all-served, sums-equal, all-turns, turns-made}
use Rattle.desks.specs.declared.Round.{Round}
use Rattle.desks.specs.Seats.{with_table, Waits}
use Rattle.desks.specs.Rounds.{answer_at, waits_at, turns_had, turns_made, waiting_count, waiting_sum, round_turns, round_visits, serves, every, behind, Kept, Visited, Going, Stands}
use Rattle.desks.specs.Standing.{SeatAt, Standing, desks_left}
use Rattle.desks.specs.Laws.Rounds.{shares}

-- What a round gives a seat is how often it has been visited then.
round-visited : (r : Round) (seat : ℕ) → seat < 8 → r.before ≤ 8 → round_turns r seat ≡ visits (round_visits r) seat
round-visited r seat h few = ⊎_elim (λ p. rw (lt-ltb seat r.before p) (omega arith)) (λ p. rw (le-ltb seat r.before p) (omega arith)) (order seat r.before)

-- More turns than a desk takes to end are as good as that many.
module _ (d : Desk) where
  capped-answer : (turns : ℕ) → desk_answer d (min (turns_to_end d) turns) ≡ desk_answer d turns
  capped-answer turns =
      ⊎_elim (λ p. let e : min (turns_to_end d) turns ≡ turns = omega arith in ap (desk_answer d) e)
      (λ p. ended-answer d.file d.table d.budget d.excess (min (turns_to_end d) turns) (omega arith)
      ∙ sym (ended-answer d.file d.table d.budget d.excess turns p))
      (order turns (turns_to_end d))

  capped-table : (turns : ℕ) → desk_table d (min (turns_to_end d) turns) ≡ desk_table d turns
  capped-table turns =
      ⊎_elim (λ p. let e : min (turns_to_end d) turns ≡ turns = omega arith in ap (desk_table d) e)
      (λ p. ended-table d.file d.table d.budget d.excess (min (turns_to_end d) turns) (omega arith)
      ∙ sym (ended-table d.file d.table d.budget d.excess turns p))
      (order turns (turns_to_end d))

  -- A desk that has ended stays so.
  stays-answer : (turns later : ℕ) → turns_to_end d ≤ turns → turns ≤ later → desk_answer d turns ≡ desk_answer d later
  stays-answer turns later h p =
      ended-answer d.file d.table d.budget d.excess turns h ∙ sym (ended-answer d.file d.table d.budget d.excess later (omega arith))

  stays-table : (turns later : ℕ) → turns_to_end d ≤ turns → turns ≤ later → desk_table d turns ≡ desk_table d later
  stays-table turns later h p =
      ended-table d.file d.table d.budget d.excess turns h ∙ sym (ended-table d.file d.table d.budget d.excess later (omega arith))

-- A round serves a desk that waits, up to the turns that it gives, and leaves one that has them or has ended.
module _ (d : Desk) (turns more : ℕ) (onward : turns ≤ more) where
  abbrev then : Desk
  then = with_table d (desk_table d turns)

  abbrev answer : RunAnswer
  answer = desk_answer d turns

  abbrev Next : Bool → Type 0
  Next test = (cond test (desk_answer then more) answer ≡ desk_answer d more) × (cond test (with_table then (desk_table then more)) then ≡ with_table d (desk_table d more))

  next-desk : Next (serves answer more)
  next-desk = ⊎_elim waits ended (order turns (turns_to_end d))
    where
      waiting-is : is_waiting answer.ending ≡ ltb turns (turns_to_end d)
      waiting-is = desk-waits d.file d.table d.budget d.excess turns

      served : Next true
      served = (
        desk-answer-again d.file d.table d.budget d.excess turns more,
        ap (with_table d) (desk-table-again d.file d.table d.budget d.excess turns more),
      )

      passed : turns ≡ more → Next false
      passed e = (ap (desk_answer d) e, ap (λ t. with_table d (desk_table d t)) e)

      waits : turns < turns_to_end d → Next (serves answer more)
      waits p =
          let judged-is : answer.judged ≡ turns = desk-judged d.file d.table d.budget d.excess turns ∙ (let e : min (turns_to_end d) turns ≡ turns = omega arith in e) in
          let yes' : is_waiting answer.ending ≡ true = waiting-is ∙ lt-ltb turns (turns_to_end d) p in
          let test : serves answer more ≡ ltb turns more = rw (yes', judged-is) refl in
          subst Next (sym test)
          (⊎_elim (λ q. subst Next (sym (lt-ltb turns more q)) served) (λ q. subst Next (sym (le-ltb turns more q)) (passed (omega arith))) (order turns more))

      ended : turns_to_end d ≤ turns → Next (serves answer more)
      ended p =
          let none : is_waiting answer.ending ≡ false = waiting-is ∙ le-ltb turns (turns_to_end d) p in
          let test : serves answer more ≡ false = rw none refl in
          subst Next (sym test) (stays-answer d turns more p onward, ap (with_table d) (stays-table d turns more p onward))

module _ (desks : List Desk) (desk_count : ℕ) where
  abbrev ends : ℕ → ℕ
  ends seat = ends_after desks desk_count seat

  -- What a seat's answer tells of its turns.
  seat-judged : (turns : ℕ → ℕ) (seat : ℕ) → (seat_answer desks desk_count turns seat).judged ≡ min (ends seat) (turns seat)
  seat-judged turns seat = go (ltb seat desk_count)
    where
      d : Desk
      d = desk_at desks seat

      go : (b : Bool) → (cond b (desk_answer d (turns seat)) no_answer).judged ≡ min (cond b (turns_to_end d) 0) (turns seat)
      go true = desk-judged d.file d.table d.budget d.excess (turns seat)
      go false = omega arith

  seat-waits : (turns : ℕ → ℕ) (seat : ℕ) → is_waiting (seat_answer desks desk_count turns seat).ending ≡ ltb (turns seat) (ends seat)
  seat-waits turns seat = go (ltb seat desk_count)
    where
      d : Desk
      d = desk_at desks seat

      go : (b : Bool) → is_waiting (cond b (desk_answer d (turns seat)) no_answer).ending ≡ ltb (turns seat) (cond b (turns_to_end d) 0)
      go true = desk-waits d.file d.table d.budget d.excess (turns seat)
      go false = sym (le-ltb (turns seat) 0 (omega arith))

  -- A desk that waits has its turns behind it, with the table that it holds now.
  waits-behind : (d : Desk) (turns : ℕ) → turns < turns_to_end d → Waits (with_table d (desk_table d turns)) (desk_answer d turns)
  waits-behind d turns h =
      let judged-is : (desk_answer d turns).judged ≡ turns = desk-judged d.file d.table d.budget d.excess turns ∙ (let e : min (turns_to_end d) turns ≡ turns = omega arith in e) in
      let later = with_table d (desk_table d turns) in
      record {
        answer-is = sym (desk-answer-again d.file d.table d.budget d.excess turns turns) ∙ ap (desk_answer later) (sym judged-is);
        table_is = sym (desk-table-again d.file d.table d.budget d.excess turns turns) ∙ ap (desk_table later) (sym judged-is);
        unfinished = omega (arith, judged-is, ends-again d.file d.table d.budget d.excess turns);
      }

  module _ (allowance : ℕ) (now : List Desk) (answers : List RunAnswer) (left : ℕ) (s : Standing desks desk_count allowance now answers left) where
    abbrev turns_at : ℕ → ℕ
    turns_at seat = visits s.visit seat

    pub had : (seat : ℕ) → seat < 8 → turns_had answers seat ≡ served ends s.visit seat
    had seat h = ap (λ a. a.judged) (s.each seat h).answer-is ∙ seat-judged (visits s.visit) seat

    pub made : turns_made answers ≡ all-served ends s.visit
    unfolding turns_made
    made = sum-cong 8 (turns_had answers) (served ends s.visit) had

    waiting-at : (seat : ℕ) → seat < 8 → waits_at answers seat ≡ ltb (turns_at seat) (ends seat)
    waiting-at seat h = ap (λ a. is_waiting a.ending) (s.each seat h).answer-is ∙ seat-waits (visits s.visit) seat

    waiting-turns : (seat : ℕ) → seat < 8 → waits_at answers seat ≡ true → turns_at seat < ends seat
    waiting-turns seat h e = ltb-true (turns_at seat) (ends seat) (sym (waiting-at seat h) ∙ e)

    ended-turns : (seat : ℕ) → seat < 8 → waits_at answers seat ≡ false → ends seat ≤ turns_at seat
    ended-turns seat h e = ltb-false (turns_at seat) (ends seat) (sym (waiting-at seat h) ∙ e)

    -- What a round asks of each seat.
    pub stands : (seat : ℕ) → seat < 8 → Stands (desk_at now seat) (answer_at answers seat)
    stands seat h e = go (ltb seat desk_count) refl (waiting-turns seat h e)
      where
        d : Desk
        d = desk_at desks seat

        at : SeatAt desks desk_count s.visit seat now answers
        at = s.each seat h

        go : (b : Bool) → ltb seat desk_count ≡ b → turns_at seat < cond b (turns_to_end d) 0 → Waits (desk_at now seat) (answer_at answers seat)
        go true f p =
            let answer-is : answer_at answers seat ≡ desk_answer d (turns_at seat) = at.answer-is ∙ rw f refl in
            let desk-is : desk_at now seat ≡ with_table d (desk_table d (turns_at seat)) = at.desk-is ∙ rw f refl in
            rw (answer-is, desk-is) (waits-behind d (turns_at seat) p)
        go false f p = absurd (omega arith)

    -- Another round.
    module _ (r : Round) (later : List Desk) (later_answers : List RunAnswer) (some-left : 1 ≤ left) (before : r.before ≤ 8)
        (turns-are : waiting_sum answers (round_turns r) ≡ left + waiting_sum answers (turns_had answers)) (gone : Going (behind answers r) r 8 now later answers later_answers) where
      abbrev next_visit : ℕ
      next_visit = round_visits r

      waiting-had : (seat : ℕ) → seat < 8 → waits_at answers seat ≡ true → turns_had answers seat ≡ turns_at seat
      waiting-had seat h e = had seat h ∙ (let p = waiting-turns seat h e in let m : served ends s.visit seat ≡ turns_at seat = omega arith in m)

      -- A smaller term for each seat that waits makes no greater sum.
      waiting-mono : (f g : ℕ → ℕ) → ((seat : ℕ) → seat < 8 → waits_at answers seat ≡ true → f seat ≤ g seat) → waiting_sum answers f ≤ waiting_sum answers g
      unfolding waiting_sum
      waiting-mono f g le = sum_mono 8 (λ i. cond (waits_at answers i) (f i) 0) (λ i. cond (waits_at answers i) (g i) 0) (λ i p. go i (waits_at answers i) (le i p))
        where
          go : (i : ℕ) (b : Bool) → (b ≡ true → f i ≤ g i) → cond b (f i) 0 ≤ cond b (g i) 0
          go i true h = h refl
          go i false h = omega arith

      forward : s.visit ≤ next_visit
      forward = ⊎_elim (λ p. absurd (back p)) (λ p. p) (order next_visit s.visit)
        where
          back : next_visit < s.visit → ⊥
          back p =
              let less = waiting-mono (round_turns r) (turns_had answers) (λ seat h e.
              omega (arith, round-visited r seat h before, waiting-had seat h e, visits-mono next_visit s.visit seat (omega arith))) in
              omega arith

      next-each : (seat : ℕ) → seat < 8 → SeatAt desks desk_count next_visit seat later later_answers
      next-each seat h = go (ltb seat desk_count) refl (gone.visited seat h)
        where
          d : Desk
          d = desk_at desks seat

          at : SeatAt desks desk_count s.visit seat now answers
          at = s.each seat h

          onward : turns_at seat ≤ visits next_visit seat
          onward = visits-mono s.visit next_visit seat forward

          go : (b : Bool) → ltb seat desk_count ≡ b → Visited (behind answers r) r seat now later answers later_answers → SeatAt desks desk_count next_visit seat later later_answers
          go true f t =
              let answer-is : answer_at answers seat ≡ desk_answer d (turns_at seat) = at.answer-is ∙ rw f refl in
              let desk-is : desk_at now seat ≡ with_table d (desk_table d (turns_at seat)) = at.desk-is ∙ rw f refl in
              let turns-is = round-visited r seat h before in
              let (answer, desk) = next-desk d (turns_at seat) (visits next_visit seat) onward in
              record {
                answer-is = t.answer-is ∙ rw (answer-is, desk-is, turns-is, f) answer;
                desk-is = t.desk-is ∙ rw (answer-is, desk-is, turns-is, f) desk;
              }
          go false f t =
              let answer-is : answer_at answers seat ≡ no_answer = at.answer-is ∙ rw f refl in
              let desk-is : desk_at now seat ≡ d = at.desk-is ∙ rw f refl in
              record {
                answer-is = t.answer-is ∙ rw (answer-is, f) refl;
                desk-is = t.desk-is ∙ rw (answer-is, desk-is, f) refl;
              }

      -- It is within the allowance, and makes turns.
      next-within : all-served ends next_visit ≤ allowance
      unfolding waiting_sum turns_made
      next-within =
          let w = waits_at answers in
          let h = turns_had answers in
          let most = sum_mono 8 (served ends next_visit) (λ i. cond (w i) (round_turns r i) 0 + cond (w i) 0 (h i)) (λ i p. each i p (w i) refl) in
          let parts = sum-add 8 (λ i. cond (w i) (round_turns r i) 0) (λ i. cond (w i) 0 (h i)) in
          let had-parts = sum-cong 8 h (λ i. cond (w i) (h i) 0 + cond (w i) 0 (h i)) (λ i p. both (w i) (h i)) ∙ sum-add 8 (λ i. cond (w i) (h i) 0) (λ i. cond (w i) 0 (h i)) in
          omega (arith, made, s.left-is, turns-are)
        where
          both : (b : Bool) (x : ℕ) → x ≡ cond b x 0 + cond b 0 x
          both true x = omega arith
          both false x = omega arith

          each : (i : ℕ) → i < 8 → (b : Bool) → waits_at answers i ≡ b → served ends next_visit i ≤ cond b (round_turns r i) 0 + cond b 0 (turns_had answers i)
          each i p true e = omega (arith, round-visited r i p before)
          each i p false e = omega (arith, had i p, ended-turns i p e)

      pub next-more : all-served ends s.visit < all-served ends next_visit
      next-more = ⊎_elim (λ p. p) (λ p. absurd (still p)) (order (all-served ends s.visit) (all-served ends next_visit))
        where
          still : all-served ends next_visit ≤ all-served ends s.visit → ⊥
          still p =
              let same = sums-equal 8 (served ends s.visit) (served ends next_visit) (λ i q. let m = visits-mono s.visit next_visit i forward in omega arith) p in
              let less = waiting-mono (round_turns r) (turns_had answers) (λ i q e.
              omega (arith, round-visited r i q before, waiting-had i q e, same i q, waiting-turns i q e)) in
              omega arith

      pub next-stands : Standing desks desk_count allowance later later_answers (allowance - all-served ends next_visit)
      next-stands = record { visit = next_visit; each = next-each; left-is = omega (arith, next-within) }

-- How many of the first numbers are below a bound.
count-below : (k n : ℕ) → count k (λ i. ltb i n) ≡ min k n
count-below zero n = sum-zero 0 (λ i. cond (ltb i n) 1 0) (λ i p. absurd (omega arith)) ∙ omega arith
count-below (suc k) n =
    let before = count-below k n in
    ap (λ m. count m (λ i. ltb i n)) (sym (add-one k))
    ∙ sum-suc k (λ i. cond (ltb i n) 1 0)
    ∙ ⊎_elim (λ p. rw (lt-ltb k n p) (omega arith)) (λ p. rw (le-ltb k n p) (omega arith)) (order k n)

-- A list that has so many elements, one by one.
pub list-is : {A : Type 0} (n : ℕ) (xs : List A) (d : A) (f : ℕ → A) → length xs ≡ n → ((i : ℕ) → i < n → get_or xs i d ≡ f i) → xs ≡ tabulate n f
unfolding tabulate
list-is zero [] d f long each = refl
list-is zero (x ∷ xs) d f long each = absurd (omega arith)
list-is (suc n) [] d f long each = absurd (omega arith)
list-is (suc n) (x ∷ xs) d f long each =
    let first : x ≡ f zero = each zero (omega arith) in
    let rest = list-is n xs d (λ i. f (suc i)) (omega arith) (λ i p. each (suc i) (omega arith)) in
    rw (first, rest) refl

-- The desk of a seat is that element of the list.
desk-read : (desks : List Desk) (seat : ℕ) → get_or desks seat (desk_at [] 0) ≡ desk_at desks seat
desk-read [] seat = refl
desk-read (d ∷ desks) zero = refl
desk-read (d ∷ desks) (suc seat) = desk-read desks seat

none-answered : (n seat : ℕ) → answer_at (replicate n no_answer) seat ≡ no_answer
none-answered zero seat = refl
none-answered (suc n) zero = refl
none-answered (suc n) (suc seat) = none-answered n seat

module _ (desks : List Desk) (desk_count allowance : ℕ) where
  abbrev ends_at : ℕ → ℕ
  ends_at seat = ends_after desks desk_count seat

  -- The first round.
  module _ (r : Round) (later : List Desk) (answers later_answers : List RunAnswer) (some-desks : 1 ≤ desk_count) (few-desks : desk_count ≤ 8)
      (whole-is : r.whole ≡ allowance / desk_count) (before-is : r.before ≡ allowance % desk_count)
      (none : answers ≡ replicate 8 no_answer) (opened : Going every r desk_count desks later answers later_answers) where
    first-few : r.before ≤ desk_count
    first-few = omega (arith, before-is, mod-lt allowance {m = desk_count} (omega arith))

    first-each : (seat : ℕ) → seat < 8 → SeatAt desks desk_count (round_visits r) seat later later_answers
    first-each seat h = ⊎_elim here (λ p. beyond p (opened.kept seat p)) (order seat desk_count)
      where
        turns-is : round_turns r seat ≡ visits (round_visits r) seat
        turns-is = round-visited r seat h (omega (arith, first-few))

        here : seat < desk_count → SeatAt desks desk_count (round_visits r) seat later later_answers
        here p =
            let o = opened.visited seat p in
            record {
              answer-is = o.answer-is ∙ rw (lt-ltb seat desk_count p) (ap (desk_answer (desk_at desks seat)) turns-is);
              desk-is = o.desk-is ∙ rw (lt-ltb seat desk_count p) (ap (λ t. with_table (desk_at desks seat) (desk_table (desk_at desks seat) t)) turns-is);
            }

        beyond : desk_count ≤ seat → Kept seat desks later answers later_answers → SeatAt desks desk_count (round_visits r) seat later later_answers
        beyond p k =
            record {
              answer-is = k.answer-is ∙ ap (λ l. answer_at l seat) none ∙ none-answered 8 seat ∙ rw (le-ltb seat desk_count p) refl;
              desk-is = k.desk-is ∙ rw (le-ltb seat desk_count p) refl;
            }

    first-within : all-served ends_at (round_visits r) ≤ allowance
    first-within =
        let w : ℕ → Bool = λ seat. ltb seat desk_count in
        let most = sum_mono 8 (served ends_at (round_visits r)) (λ seat. cond (w seat) (round_turns r seat) 0) (λ seat p. each seat p) in
        let all : desk_count ≡ count 8 w = omega (arith, count-below 8 desk_count) in
        let over : count r.before w ≡ allowance % desk_count = omega (arith, count-below r.before desk_count, first-few, before-is) in
        omega (arith, shares w r allowance desk_count some-desks all (omega (arith, first-few)) whole-is over)
      where
        each : (seat : ℕ) → seat < 8 → served ends_at (round_visits r) seat ≤ cond (ltb seat desk_count) (round_turns r seat) 0
        each seat h =
            let turns-is = round-visited r seat h (omega (arith, first-few)) in
            ⊎_elim (λ p. rw (lt-ltb seat desk_count p) (omega arith)) (λ p. rw (le-ltb seat desk_count p) (omega arith)) (order seat desk_count)

    pub first-stands : Standing desks desk_count allowance later later_answers (allowance - all-served ends_at (round_visits r))
    first-stands = record { visit = round_visits r; each = first-each; left-is = omega (arith, first-within) }

  -- What is left after some turns.
  pub left-stands : (later : List Desk) (later_answers : List RunAnswer) (left after : ℕ) → Standing desks desk_count allowance later later_answers left
      → after ≡ allowance - turns_made later_answers → Standing desks desk_count allowance later later_answers after
  left-stands later later_answers left after s e =
      let m = made desks desk_count allowance later later_answers left s in
      record { visit = s.visit; each = s.each; left-is = omega (arith, s.left-is) }

  pub made-within : (later : List Desk) (later_answers : List RunAnswer) (left : ℕ) → Standing desks desk_count allowance later later_answers left
      → turns_made later_answers + left ≡ allowance
  made-within later later_answers left s = omega (arith, s.left-is, made desks desk_count allowance later later_answers left s)

  -- Where none is left, or no desk waits, the turns are over.
  module _ (now : List Desk) (answers : List RunAnswer) (left : ℕ) (s : Standing desks desk_count allowance now answers left)
      (over : (left ≡ 0) ⊎ (waiting_count answers ≡ 0)) (answers-long : length answers ≡ 8) (now-long : length now ≡ 8) where
    abbrev all : List ℕ
    all = desk_turns desks desk_count allowance

    none-waits : waiting_count answers ≡ 0 → (seat : ℕ) → seat < 8 → waits_at answers seat ≡ false
    unfolding waiting_count
    none-waits e seat h = go (waits_at answers seat) refl
      where
        go : (b : Bool) → waits_at answers seat ≡ b → waits_at answers seat ≡ false
        go true f = let one : ◌≡◌ {A = ℕ} (cond (waits_at answers seat) 1 0) 1 = rw f refl in absurd (omega (arith, sum-term 8 (λ i. cond (waits_at answers i) 1 0) seat h, one))
        go false f = f

    settled-over : (allowance ≤ all-served ends_at s.visit) ⊎ ((seat : ℕ) → seat < 8 → ends_at seat ≤ visits s.visit seat)
    settled-over = ⊎_elim (λ e. inl (omega (arith, s.left-is))) (λ e. inr (λ seat h. ended-turns desks desk_count allowance now answers left s seat h (none-waits e seat h))) over

    within : all-served ends_at s.visit ≤ allowance
    within = omega (arith, s.left-is)

    turns-are : (seat : ℕ) → seat < 8 → turns_of seat all ≡ served ends_at s.visit seat
    unfolding desk_turns
    turns-are = all-turns ends_at allowance s.visit within settled-over

    pub turns-left : length all + left ≡ allowance
    unfolding desk_turns
    turns-left = omega (arith, turns-made ends_at allowance s.visit within settled-over, s.left-is)

    -- A seat answers and holds what it does after its turns of all.
    seat-is : (seat : ℕ) → seat < 8
        → (seat_answer desks desk_count (visits s.visit) seat ≡ seat_answer desks desk_count (λ i. turns_of i all) seat)
        × (seat_table desks desk_count (visits s.visit) seat ≡ seat_table desks desk_count (λ i. turns_of i all) seat)
    seat-is seat h = go (ltb seat desk_count) (turns-are seat h)
      where
        d : Desk
        d = desk_at desks seat

        go : (b : Bool) → turns_of seat all ≡ min (cond b (turns_to_end d) 0) (visits s.visit seat)
            → (cond b (desk_answer d (visits s.visit seat)) no_answer ≡ cond b (desk_answer d (turns_of seat all)) no_answer)
            × (cond b (desk_table d (visits s.visit seat)) d.table ≡ cond b (desk_table d (turns_of seat all)) d.table)
        go true e = (
          sym (ap (desk_answer d) e ∙ capped-answer d (visits s.visit seat)),
          sym (ap (desk_table d) e ∙ capped-table d (visits s.visit seat)),
        )
        go false e = (refl, refl)

    module _ (accepted : desks_number desk_count allowance ≡ 0) where
      pub answers-are : (turns : ℕ) → turns ≡ allowance - left → ◌≡◌ {A = DesksAnswer} (record { refusal = 0; turns = turns; seats = answers }) (desks_answer desks desk_count allowance)
      answers-are turns e =
          let turns-is : turns ≡ length all = omega (arith, turns-left) in
          let seats-are = list-is 8 answers no_answer (seat_answer desks desk_count (λ i. turns_of i all)) answers-long (λ seat h. (s.each seat h).answer-is ∙ (seat-is seat h).0) in
          rw (turns-is, seats-are) (sym (desks-accepted desks desk_count allowance accepted))

      pub left-are : now ≡ desks_left desks desk_count allowance
      left-are =
          list-is 8 now (desk_at [] 0) (λ seat. with_table (desk_at desks seat) (desks_table desks desk_count allowance seat)) now-long (λ seat h.
          desk-read now seat ∙ (s.each seat h).desk-is ∙ ap (with_table (desk_at desks seat)) ((seat-is seat h).1 ∙ sym (desks-written desks desk_count allowance seat accepted)))

  -- A refusal of the whole call leaves every desk as it is.
  pub refused-left : length desks ≡ 8 → (desks_number desk_count allowance ≡ 0 → ⊥) → desks ≡ desks_left desks desk_count allowance
  refused-left long refused =
      list-is 8 desks (desk_at [] 0) (λ seat. with_table (desk_at desks seat) (desks_table desks desk_count allowance seat)) long (λ seat h.
      desk-read desks seat ∙ ap (with_table (desk_at desks seat)) (sym (desks-kept desks desk_count allowance seat refused)))

  pub refused-answers : (number : ℕ) → number ≡ desks_number desk_count allowance → (number ≡ 0 → ⊥) → refused_desks number ≡ desks_answer desks desk_count allowance
  refused-answers zero e refused = absurd (refused refl)
  refused-answers (suc number) e refused = sym (desks-refused desks desk_count allowance number (sym e))

-- The table of one seat, as the call leaves it.
pub left-at : (desks now : List Desk) (desk_count allowance seat : ℕ) → seat < 8 → now ≡ desks_left desks desk_count allowance
    → (desk_at now seat).table ≡ desks_table desks desk_count allowance seat
unfolding tabulate
left-at desks now desk_count allowance seat h e = ap (λ l. (desk_at l seat).table) e ∙ tabled 8 (desks_table desks desk_count allowance) (λ i. desk_at desks i) seat h
  where
    tabled : (n : ℕ) (t : ℕ → List ℕ) (d : ℕ → Desk) (i : ℕ) → i < n → (desk_at (tabulate n (λ j. with_table (d j) (t j))) i).table ≡ t i
    tabled zero t d i p = absurd (omega arith)
    tabled (suc n) t d zero p = refl
    tabled (suc n) t d (suc i) p = tabled n (λ j. t (suc j)) (λ j. d (suc j)) i (omega arith)
