-- The turns that the seats have had, and how a round shares those that are left.
use Rattle.std.specs.Prelude.{◌≡◌, ℕ, zero, suc, ◌+◌, ◌*◌, ◌-◌, ◌/◌, ◌%◌, ◌≤◌, ◌<◌, Bool, true, false, cond, List, [], ◌∷◌, length, slice_set, ltb, refl}
use Rattle.std.proofs.Common.{arith, sym, ◌∙◌, ap, subst, ⊎_elim, lt-ltb}
use Rattle.std.proofs.lemmas.List.{get_or-set_same, get_or-set_other}
use Rattle.std.proofs.Math.Nat.{div-add-mod}
use Rattle.std.proofs.lemmas.Bool.{le-ltb}
use Rattle.theory.specs.Finite.{sum, count}
use Rattle.theory.specs.Laws.Finite.{below_suc, sum-zero, sum-cong, sum_mono, sum-add, sum-scale, sum_more, sum-append, sum_bound}
use Rattle.calls.specs.Desks.{Desk, desk_at, desk_answer, desk_table, no_answer}
use Rattle.calls.specs.declared.RunAnswer.{RunAnswer}
use Rattle.desks.specs.declared.Round.{Round}
use Rattle.desks.specs.Seats.{with_table, served_at}
use Rattle.desks.specs.Rounds.{answer_at, waits_at, turns_had, turns_made, waiting_count, waiting_sum, round_turns, serves, behind, Kept, Visited, Going}

pub sum-none : (f : ℕ → ℕ) → sum 0 f ≡ 0
sum-none f = sum-zero 0 f (λ i p. absurd (omega arith))

-- The first seats have had no more turns than all.
pub made-before : (answers : List RunAnswer) (seat : ℕ) → seat < 8 → sum (seat + 1) (turns_had answers) ≤ turns_made answers
unfolding turns_made
made-before answers seat h = sum_more (seat + 1) 8 (turns_had answers) (omega arith)

pub waiting-before : (answers : List RunAnswer) (f : ℕ → ℕ) (seat : ℕ) → seat < 8 → sum (seat + 1) (λ i. cond (waits_at answers i) (f i) 0) ≤ waiting_sum answers f
unfolding waiting_sum
waiting-before answers f seat h = sum_more (seat + 1) 8 (λ i. cond (waits_at answers i) (f i) 0) (omega arith)

-- Of the waiting desks, those before a seat.
waiting-first : (w : ℕ → Bool) (before : ℕ) → before ≤ 8 → sum 8 (λ i. cond (w i) (cond (ltb i before) 1 0) 0) ≡ count before w
waiting-first w before h =
    let f : ℕ → ℕ = λ i. cond (w i) (cond (ltb i before) 1 0) 0 in
    let parts : before + (8 - before) ≡ 8 = omega arith in
    ap (λ n. sum n f) (sym parts)
    ∙ sum-append before (8 - before) f
    ∙ (let first = sum-cong before f (λ i. cond (w i) 1 0) (λ i p. rw (lt-ltb i before p)) in
    let rest = sum-zero (8 - before) (λ k. f (before + k)) (λ k p. rw (le-ltb (before + k) before (omega arith)) (none (w (before + k)))) in
    omega arith)
  where
    none : (b : Bool) → ◌≡◌ {A = ℕ} (cond b 0 0) 0
    none true = refl
    none false = refl

-- A round shares the turns evenly among some of the seats, and the first of these have those that are over.
pub shares : (w : ℕ → Bool) (r : Round) (turns desks : ℕ) → 1 ≤ desks → desks ≡ count 8 w → r.before ≤ 8
    → r.whole ≡ turns / desks → count r.before w ≡ turns % desks → sum 8 (λ i. cond (w i) (round_turns r i) 0) ≡ turns
shares w r turns desks some-desks all before whole over =
    let first : ℕ → ℕ = λ i. cond (ltb i r.before) 1 0 in
    sum-cong 8 (λ i. cond (w i) (r.whole + first i) 0) (λ i. r.whole * cond (w i) 1 0 + cond (w i) (first i) 0) (λ i p. each (w i) (first i))
    ∙ sum-add 8 (λ i. r.whole * cond (w i) 1 0) (λ i. cond (w i) (first i) 0)
    ∙ (let a = sum-scale 8 r.whole (λ i. cond (w i) 1 0) in
    let b = waiting-first w r.before before in
    let c : r.whole * count 8 w ≡ turns / desks * desks = rw (whole, ← all) refl in
    let d : turns / desks * desks + turns % desks ≡ turns = omega (arith, div-add-mod turns desks) in
    omega arith)
  where
    each : (b : Bool) (x : ℕ) → cond b (r.whole + x) 0 ≡ r.whole * cond b 1 0 + cond b x 0
    each true x = omega arith
    each false x = omega arith

pub round-shares : (answers : List RunAnswer) (r : Round) (turns waiting : ℕ) → 1 ≤ waiting → waiting ≡ waiting_count answers → r.before ≤ 8
    → r.whole ≡ turns / waiting → count r.before (waits_at answers) ≡ turns % waiting → waiting_sum answers (round_turns r) ≡ turns
unfolding waiting_sum waiting_count
round-shares answers r turns waiting some-wait all before whole over = shares (waits_at answers) r turns waiting some-wait all before whole over

pub waiting-most : (answers : List RunAnswer) → waiting_sum answers (turns_had answers) ≤ turns_made answers
unfolding waiting_sum turns_made
waiting-most answers = sum_mono 8 (λ i. cond (waits_at answers i) (turns_had answers i) 0) (turns_had answers) (λ i p. each (waits_at answers i) (turns_had answers i))
  where
    each : (b : Bool) (x : ℕ) → cond b x 0 ≤ x
    each true x = omega arith
    each false x = omega arith

pub one-most : (b : Bool) → cond b 1 0 ≤ 1
one-most true = omega arith
one-most false = omega arith

pub count-before : (answers : List RunAnswer) (seat : ℕ) → seat < 8 → count (seat + 1) (waits_at answers) ≤ 8
count-before answers seat h =
    omega (arith, sum_bound (seat + 1) 1 (λ i. cond (waits_at answers i) 1 0) (λ i p. one-most (waits_at answers i)))

-- Eight seats are all.
pub made-all : (answers : List RunAnswer) (seat : ℕ) → seat ≡ 8 → sum seat (turns_had answers) ≡ turns_made answers
unfolding turns_made
made-all answers seat e = ap (λ n. sum n (turns_had answers)) e

pub count-all : (answers : List RunAnswer) (seat : ℕ) → seat ≡ 8 → count seat (waits_at answers) ≡ waiting_count answers
unfolding waiting_count
count-all answers seat e = ap (λ n. count n (waits_at answers)) e

pub waiting-all : (answers : List RunAnswer) (f : ℕ → ℕ) (seat : ℕ) → seat ≡ 8 → sum seat (λ i. cond (waits_at answers i) (f i) 0) ≡ waiting_sum answers f
unfolding waiting_sum
waiting-all answers f seat e = ap (λ n. sum n (λ i. cond (waits_at answers i) (f i) 0)) e

-- A desk that is served, and the others.
pub served-same : (desks : List Desk) (seat until : ℕ) → seat < length desks
    → desk_at (served_at desks seat until) seat ≡ with_table (desk_at desks seat) (desk_table (desk_at desks seat) until)
served-same [] seat until h = absurd (omega arith)
served-same (d ∷ desks) zero until h = refl
served-same (d ∷ desks) (suc seat) until h = served-same desks seat until (omega arith)

pub served-other : (desks : List Desk) (seat until other : ℕ) → (seat ≡ other → ⊥) → desk_at (served_at desks seat until) other ≡ desk_at desks other
served-other [] seat until other n = refl
served-other (d ∷ desks) zero until zero n = absurd (n refl)
served-other (d ∷ desks) zero until (suc other) n = refl
served-other (d ∷ desks) (suc seat) until zero n = refl
served-other (d ∷ desks) (suc seat) until (suc other) n = served-other desks seat until other (λ e. n (ap suc e))

-- A visit to one seat of a round under way.
module _ (test : ℕ → Bool) (r : Round) (seat : ℕ) (desks now : List Desk) (answers₀ answers : List RunAnswer) (until : ℕ) (until-is : until ≡ round_turns r seat) where
  module _ (later : List Desk) (later_answers : List RunAnswer) (a : RunAnswer) (seat-below : seat < 8) (answers-long : length answers ≡ 8) (now-long : length now ≡ 8)
      (a-is : a ≡ desk_answer (desk_at now seat) until) (answers-are : later_answers ≡ slice_set answers seat a) (later-is : later ≡ served_at now seat until) where
    answer-here : answer_at later_answers seat ≡ desk_answer (desk_at now seat) until
    answer-here = ap (λ l. answer_at l seat) answers-are ∙ get_or-set_same answers seat a no_answer (omega arith) ∙ a-is

    answer-there : (other : ℕ) → (other ≡ seat → ⊥) → answer_at later_answers other ≡ answer_at answers other
    answer-there other n = ap (λ l. answer_at l other) answers-are ∙ get_or-set_other answers seat other a no_answer n

    desk-here : desk_at later seat ≡ with_table (desk_at now seat) (desk_table (desk_at now seat) until)
    desk-here = ap (λ l. desk_at l seat) later-is ∙ served-same now seat until (omega arith)

    desk-there : (other : ℕ) → (other ≡ seat → ⊥) → desk_at later other ≡ desk_at now other
    desk-there other n = ap (λ l. desk_at l other) later-is ∙ served-other now seat until other (λ e. n (sym e))

    kept-there : (other : ℕ) → (other ≡ seat → ⊥) → Kept other desks now answers₀ answers → Kept other desks later answers₀ later_answers
    kept-there other n k = record { answer-is = answer-there other n ∙ k.answer-is; desk-is = desk-there other n ∙ k.desk-is }

    pub going-served : Going test r seat desks now answers₀ answers → test seat ≡ true → Going test r (seat + 1) desks later answers₀ later_answers
    going-served o yes' =
        record {
          visited = λ other p. ⊎_elim (earlier other) here (below_suc seat other (omega arith));
          kept = λ other p. kept-there other (λ e. omega (arith, e)) (o.kept other (omega arith));
        }
      where
        earlier : (other : ℕ) → other < seat → Visited test r other desks later answers₀ later_answers
        earlier other p =
            let n : other ≡ seat → ⊥ = λ e. omega (arith, e) in
            let was = o.visited other p in
            record { answer-is = answer-there other n ∙ was.answer-is; desk-is = desk-there other n ∙ was.desk-is }

        visited : Kept seat desks now answers₀ answers → Visited test r seat desks later answers₀ later_answers
        visited k =
            record {
              answer-is = answer-here ∙ (rw (yes', k.desk-is, until-is) refl);
              desk-is = desk-here ∙ (rw (yes', k.desk-is, until-is) refl);
            }

        here : {other : ℕ} → other ≡ seat → Visited test r other desks later answers₀ later_answers
        here e = subst (λ s. Visited test r s desks later answers₀ later_answers) (sym e) (visited (o.kept seat (omega arith)))

  -- A visit that passes over a desk.
  pub going-past : Going test r seat desks now answers₀ answers → test seat ≡ false → Going test r (seat + 1) desks now answers₀ answers
  going-past o none =
      record {
        visited = λ other p. ⊎_elim (λ q. o.visited other q) here (below_suc seat other (omega arith));
        kept = λ other p. o.kept other (omega arith);
      }
    where
      visited : Kept seat desks now answers₀ answers → Visited test r seat desks now answers₀ answers
      visited k = record { answer-is = k.answer-is ∙ (rw none refl); desk-is = k.desk-is ∙ (rw none refl) }

      here : {other : ℕ} → other ≡ seat → Visited test r other desks now answers₀ answers
      here e = subst (λ s. Visited test r s desks now answers₀ answers) (sym e) (visited (o.kept seat (omega arith)))

  -- Whether a seat that is still to be visited is behind is told by its answer as it stands.
  pub still-behind : Going test r seat desks now answers₀ answers → serves (answer_at answers seat) until ≡ behind answers₀ r seat
  still-behind o = let k = o.kept seat (omega arith) in rw (until-is, k.answer-is) refl
