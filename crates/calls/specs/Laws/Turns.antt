-- (A.8) The turns of several desks: what they are after so many visits, that an unfinished desk has one within eight turns, and that they go on until
-- every desk has ended or the allowance is used up.
use Rattle.std.specs.Prelude.{ℕ, zero, suc, ◌+◌, ◌*◌, ◌-◌, ◌/◌, ◌%◌, ◌≤◌, ◌<◌, ◌≡◌, min, Bool, true, false, ◌&&◌, ◌⊎◌, cond, List, [], ◌∷◌, ◌++◌, length, ltb, eqb, refl}
use Rattle.std.proofs.Common.{le_trans, arith, sym, ◌∙◌, ap, inl, inr, ⊎_elim, eq-eqb, ne_eqb, lt-ltb}
use Rattle.std.proofs.lemmas.Bool.{le-ltb}
use Rattle.theory.specs.Finite.{sum}
use Rattle.theory.specs.Laws.Finite.{order, sum-cong, sum_mono, sum-zero, sum-add, sum-term, sum-pick}
use Rattle.calls.specs.Desks.{turns_of, turns_after}

-- How often a seat is visited in so many visits.
abbrev pub visits : ℕ → ℕ → ℕ
visits visit seat = (visit + 7 - seat) / 8

-- The turns that a seat has had after them, if the allowance is not used up: it has one at each visit until it ends.
abbrev pub served : (ℕ → ℕ) → ℕ → ℕ → ℕ
served ends visit seat = min (ends seat) (visits visit seat)

-- One of eight seats is visited: its visits are one more, and the others' as they were.
visited : (visit seat : ℕ) → seat < 8 → visit % 8 ≡ seat → visits (suc visit) seat ≡ visits visit seat + 1
visited visit seat h e = omega arith

passed-by : (visit seat : ℕ) → seat < 8 → (visit % 8 ≡ seat → ⊥) → visits (suc visit) seat ≡ visits visit seat
passed-by visit seat h n = omega (arith, n)

pub visits-mono : (visit later seat : ℕ) → visit ≤ later → visits visit seat ≤ visits later seat
visits-mono visit later seat h = omega arith

-- The turns of all seats.
abbrev pub all-served : (ℕ → ℕ) → ℕ → ℕ
all-served ends visit = sum 8 (served ends visit)

pub all-served-mono : (ends : ℕ → ℕ) (visit later : ℕ) → visit ≤ later → all-served ends visit ≤ all-served ends later
all-served-mono ends visit later h =
    sum_mono 8 (served ends visit) (served ends later) (λ seat p. let more = visits-mono visit later seat h in omega arith)

-- Two numbers are equal, or are not.
equal-or-not : (a b : ℕ) → (a ≡ b) ⊎ (a ≡ b → ⊥)
equal-or-not a b = ⊎_elim (λ p. inr (λ e. omega (arith, e))) (λ p. ⊎_elim (λ q. inr (λ e. omega (arith, e))) (λ q. inl (omega arith)) (order b a)) (order a b)

-- A sum with one term that is greater is greater.
sum-greater : (n : ℕ) (f g : ℕ → ℕ) (k : ℕ) → k < n → ((i : ℕ) → i < n → f i ≤ g i) → f k < g k → sum n f + 1 ≤ sum n g
sum-greater n f g k h le lt =
    let one : ℕ → ℕ = λ i. cond (eqb k i) 1 0 in
    let parts = sum-add n f one in
    let picked = sum-pick n (λ i. 1) k h in
    let most = sum_mono n (λ i. f i + one i) g (λ i p. ⊎_elim (λ e. here i e (eq-eqb k i e)) (λ e. rw (ne_eqb k i e) (omega (arith, le i p))) (equal-or-not k i)) in
    omega arith
  where
    here : (i : ℕ) → k ≡ i → eqb k i ≡ true → f i + cond (eqb k i) 1 0 ≤ g i
    here i e t = rw t (let y : f i ≡ f k = ap f (sym e) in let z : g i ≡ g k = ap g (sym e) in omega arith)

-- Of equal sums no term is smaller.
pub sums-equal : (n : ℕ) (f g : ℕ → ℕ) → ((i : ℕ) → i < n → f i ≤ g i) → sum n g ≤ sum n f → (k : ℕ) → k < n → f k ≡ g k
sums-equal n f g le whole k h =
    ⊎_elim (λ p. absurd (omega (arith, sum-greater n f g k h le p))) (λ p. omega (arith, le k h)) (order (f k) (g k))

module _ (ends : ℕ → ℕ) (allowance : ℕ) where
  abbrev turns : ℕ → List ℕ
  turns visit = turns_after ends allowance visit

  -- A visit to a desk that has ended, one that finds the allowance used up, and any other.
  visit-ended : (visit : ℕ) → ends (visit % 8) ≤ turns_of (visit % 8) (turns visit) → turns (suc visit) ≡ turns visit
  unfolding turns_after
  visit-ended visit h = rw (le-ltb (turns_of (visit % 8) (turns visit)) (ends (visit % 8)) h)

  visit-late : (visit : ℕ) → allowance ≤ length (turns visit) → turns (suc visit) ≡ turns visit
  unfolding turns_after
  visit-late visit h = rw (le-ltb (length (turns visit)) allowance h) (go (ltb (turns_of (visit % 8) (turns visit)) (ends (visit % 8))))
    where
      go : (b : Bool) → cond (b && false) (visit % 8 ∷ turns visit) (turns visit) ≡ turns visit
      go true = refl
      go false = refl

  visit-served : (visit : ℕ) → turns_of (visit % 8) (turns visit) < ends (visit % 8) → length (turns visit) < allowance
      → turns (suc visit) ≡ visit % 8 ∷ turns visit
  unfolding turns_after
  visit-served visit h p =
      rw (lt-ltb (turns_of (visit % 8) (turns visit)) (ends (visit % 8)) h, lt-ltb (length (turns visit)) allowance p)

  -- What the turns are while they are within the allowance.
  pub record Are (visit : ℕ) : Type 0 where
    pub counts : (seat : ℕ) → seat < 8 → turns_of seat (turns visit) ≡ served ends visit seat
    pub whole : length (turns visit) ≡ all-served ends visit

  -- A visit to a desk that has not ended adds one to what its seat is served; a visit to one that has, nothing.
  served-more : (visit : ℕ) → visits visit (visit % 8) < ends (visit % 8) → (seat : ℕ) → seat < 8
      → served ends (suc visit) seat ≡ served ends visit seat + cond (eqb (visit % 8) seat) 1 0
  served-more visit h seat p =
      ⊎_elim (λ e. rw (eq-eqb (visit % 8) seat e) (here e)) (λ n. rw (ne_eqb (visit % 8) seat n) (let same = passed-by visit seat p n in omega arith)) (equal-or-not (visit % 8) seat)
    where
      here : visit % 8 ≡ seat → served ends (suc visit) seat ≡ served ends visit seat + 1
      here e =
          let one = visited visit seat p e in
          let ends-same : ends (visit % 8) ≡ ends seat = ap ends e in
          let visits-same : visits visit (visit % 8) ≡ visits visit seat = ap (visits visit) e in
          omega arith

  served-same : (visit : ℕ) → ends (visit % 8) ≤ visits visit (visit % 8) → (seat : ℕ) → seat < 8
      → served ends (suc visit) seat ≡ served ends visit seat
  served-same visit h seat p = ⊎_elim here (λ n. let same = passed-by visit seat p n in omega arith) (equal-or-not (visit % 8) seat)
    where
      here : visit % 8 ≡ seat → served ends (suc visit) seat ≡ served ends visit seat
      here e =
          let one = visited visit seat p e in
          let ends-same : ends (visit % 8) ≡ ends seat = ap ends e in
          let visits-same : visits visit (visit % 8) ≡ visits visit seat = ap (visits visit) e in
          omega arith

  all-more : (visit : ℕ) → visits visit (visit % 8) < ends (visit % 8) → all-served ends (suc visit) ≡ all-served ends visit + 1
  all-more visit h =
      let one : ℕ → ℕ = λ seat. cond (eqb (visit % 8) seat) 1 0 in
      sum-cong 8 (served ends (suc visit)) (λ seat. served ends visit seat + one seat) (served-more visit h)
      ∙ sum-add 8 (served ends visit) one
      ∙ ap (λ n. all-served ends visit + n) (sum-pick 8 (λ seat. 1) (visit % 8) (omega arith))

  all-same : (visit : ℕ) → ends (visit % 8) ≤ visits visit (visit % 8) → all-served ends (suc visit) ≡ all-served ends visit
  all-same visit h = sum-cong 8 (served ends (suc visit)) (served ends visit) (served-same visit h)

  -- While what the visits serve is within the allowance, each desk has had its turns.
  pub turns-are : (visit : ℕ) → all-served ends visit ≤ allowance → Are visit
  unfolding turns_after turns_of
  turns-are zero h =
      record {
        counts = λ seat p. omega arith;
        whole = sym (sum-zero 8 (served ends 0) (λ seat p. omega arith));
      }
  turns-are (suc visit) h =
      let before = turns-are visit (le_trans (all-served-mono ends visit (suc visit) (omega arith)) h) in
      ⊎_elim (more before) (none before) (order (visits visit (visit % 8)) (ends (visit % 8)))
    where
      more : Are visit → visits visit (visit % 8) < ends (visit % 8) → Are (suc visit)
      more before p =
          let had = before.counts (visit % 8) (omega arith) in
          let whole = all-more visit p in
          let e = visit-served visit (omega arith) (omega (arith, before.whole)) in
          record {
            counts = λ seat q. ap (turns_of seat) e ∙ (let s = served-more visit p seat q in let b = before.counts seat q in omega arith);
            whole = ap length e ∙ omega (arith, before.whole);
          }

      none : Are visit → ends (visit % 8) ≤ visits visit (visit % 8) → Are (suc visit)
      none before p =
          let had = before.counts (visit % 8) (omega arith) in
          let e = visit-ended visit (omega arith) in
          record {
            counts = λ seat q. ap (turns_of seat) e ∙ before.counts seat q ∙ sym (served-same visit p seat q);
            whole = ap length e ∙ before.whole ∙ sym (all-same visit p);
          }

  -- Where the allowance is used up, or every desk has ended, later visits add nothing.
  module _ (visit : ℕ) (within : all-served ends visit ≤ allowance)
      (over : (allowance ≤ all-served ends visit) ⊎ ((seat : ℕ) → seat < 8 → ends seat ≤ visits visit seat)) where
    turns-stay : (more : ℕ) → turns (visit + more) ≡ turns visit
    turns-stay zero = ap turns (omega arith)
    turns-stay (suc more) =
        let is = turns-are visit within in
        let before = turns-stay more in
        ap turns (omega arith)
        ∙ ⊎_elim (λ p. visit-late (visit + more) (omega (arith, ap length before, is.whole))) (λ p. visit-ended (visit + more) (ended is before p)) over
        ∙ before
      where
        ended : Are visit → turns (visit + more) ≡ turns visit → ((seat : ℕ) → seat < 8 → ends seat ≤ visits visit seat)
            → ends ((visit + more) % 8) ≤ turns_of ((visit + more) % 8) (turns (visit + more))
        ended is before p =
            let seat = (visit + more) % 8 in
            let count = ap (turns_of seat) before ∙ is.counts seat (omega arith) in
            let ends-here = p seat (omega arith) in
            omega arith

    -- As many rounds as the allowance has turns serve as much.
    rounds-serve : 8 * allowance < visit → (seat : ℕ) → seat < 8 → served ends (8 * allowance) seat ≡ served ends visit seat
    rounds-serve h seat p = ⊎_elim fewer (λ q. sums-equal 8 (served ends (8 * allowance)) (served ends visit) less (le_trans within q) seat p) (order (all-served ends (8 * allowance)) allowance)
      where
        less : (other : ℕ) → other < 8 → served ends (8 * allowance) other ≤ served ends visit other
        less other q = let more = visits-mono (8 * allowance) visit other (omega arith) in omega arith

        fewer : all-served ends (8 * allowance) < allowance → served ends (8 * allowance) seat ≡ served ends visit seat
        fewer q =
            let most = sum-term 8 (served ends (8 * allowance)) seat p in
            let round : visits (8 * allowance) seat ≡ allowance = omega arith in
            let more = visits-mono (8 * allowance) visit seat (omega arith) in
            omega arith

    -- So the turns of as many rounds as the allowance are these.
    pub all-turns : (seat : ℕ) → seat < 8 → turns_of seat (turns (8 * allowance)) ≡ served ends visit seat
    all-turns seat p = ⊎_elim late (λ q. early q) (order (8 * allowance) visit)
      where
        late : 8 * allowance < visit → turns_of seat (turns (8 * allowance)) ≡ served ends visit seat
        late q =
            (turns-are (8 * allowance) (le_trans (all-served-mono ends (8 * allowance) visit (omega arith)) within)).counts seat p
            ∙ rounds-serve q seat p

        early : visit ≤ 8 * allowance → turns_of seat (turns (8 * allowance)) ≡ served ends visit seat
        early q =
            let there : 8 * allowance ≡ visit + (8 * allowance - visit) = omega arith in
            ap (λ v. turns_of seat (turns v)) there
            ∙ ap (turns_of seat) (turns-stay (8 * allowance - visit))
            ∙ (turns-are visit within).counts seat p

    pub turns-made : length (turns (8 * allowance)) ≡ all-served ends visit
    turns-made = ⊎_elim late (λ q. early q) (order (8 * allowance) visit)
      where
        late : 8 * allowance < visit → length (turns (8 * allowance)) ≡ all-served ends visit
        late q =
            (turns-are (8 * allowance) (le_trans (all-served-mono ends (8 * allowance) visit (omega arith)) within)).whole
            ∙ sum-cong 8 (served ends (8 * allowance)) (served ends visit) (rounds-serve q)

        early : visit ≤ 8 * allowance → length (turns (8 * allowance)) ≡ all-served ends visit
        early q =
            let there : 8 * allowance ≡ visit + (8 * allowance - visit) = omega arith in
            ap (λ v. length (turns v)) there
            ∙ ap length (turns-stay (8 * allowance - visit))
            ∙ (turns-are visit within).whole

  -- There is such a visit: a visit serves at most one turn more.
  reaches-within : (visit : ℕ) → allowance < all-served ends visit → (earlier : ℕ) × (all-served ends earlier ≡ allowance)
  reaches-within zero h =
      absurd (omega (arith, sum-zero 8 (served ends 0) (λ seat p. let none : served ends 0 seat ≡ 0 = omega arith in none)))
  reaches-within (suc visit) h = ⊎_elim (reaches-within visit) (λ p. (visit, here p)) (order allowance (all-served ends visit))
    where
      here : all-served ends visit ≤ allowance → all-served ends visit ≡ allowance
      here p = ⊎_elim (λ q. omega (arith, all-more visit q)) (λ q. omega (arith, all-same visit q)) (order (visits visit (visit % 8)) (ends (visit % 8)))

  pub record Settled (visit : ℕ) : Type 0 where
    pub within : all-served ends visit ≤ allowance
    pub over : (allowance ≤ all-served ends visit) ⊎ ((seat : ℕ) → seat < 8 → ends seat ≤ visits visit seat)

  pub settled : (visit : ℕ) × Settled visit
  settled = ⊎_elim (λ p. reached (reaches-within (8 * allowance) p)) (λ p. (8 * allowance, record { within = p; over = done p })) (order allowance (all-served ends (8 * allowance)))
    where
      reached : (earlier : ℕ) × (all-served ends earlier ≡ allowance) → (visit : ℕ) × Settled visit
      reached (earlier, e) = (earlier, record { within = omega arith; over = inl (omega arith) })

      done : all-served ends (8 * allowance) ≤ allowance → (allowance ≤ all-served ends (8 * allowance)) ⊎ ((seat : ℕ) → seat < 8 → ends seat ≤ visits (8 * allowance) seat)
      done p = ⊎_elim (λ q. inr (λ seat r. ended q seat r)) inl (order (all-served ends (8 * allowance)) allowance)
        where
          ended : all-served ends (8 * allowance) < allowance → (seat : ℕ) → seat < 8 → ends seat ≤ visits (8 * allowance) seat
          ended q seat r =
              let most = sum-term 8 (served ends (8 * allowance)) seat r in
              let round : visits (8 * allowance) seat ≡ allowance = omega arith in
              omega arith

  -- All turns: a turn for each table that a desk's run judges, at most; in all, at most the allowance; and fewer only where every desk has ended.
  pub record Taken (taken : List ℕ) : Type 0 where
    pub each : (seat : ℕ) → seat < 8 → turns_of seat taken ≤ ends seat
    pub whole : sum 8 (λ seat. turns_of seat taken) ≡ length taken
    pub most : length taken ≤ allowance
    pub ended : length taken < allowance → (seat : ℕ) → seat < 8 → turns_of seat taken ≡ ends seat

  pub taken : Taken (turns (8 * allowance))
  taken =
      let (visit, is) = settled in
      let counts = all-turns visit is.within is.over in
      let made = turns-made visit is.within is.over in
      record {
        each = λ seat p. omega (arith, counts seat p);
        whole = sum-cong 8 (λ seat. turns_of seat (turns (8 * allowance))) (served ends visit) counts ∙ sym made;
        most = omega (arith, is.within);
        ended = λ fewer seat p. counts seat p ∙ ⊎_elim (λ q. absurd (omega arith)) (λ q. omega (arith, q seat p)) is.over;
      }

  -- An unfinished desk that has had none of the latest turns has waited for at most seven, one for each visit to another seat.
  turns_of-append : (seat : ℕ) (recent earlier : List ℕ) → turns_of seat (recent ++ earlier) ≡ turns_of seat recent + turns_of seat earlier
  unfolding turns_of
  turns_of-append seat [] earlier = omega arith
  turns_of-append seat (other ∷ recent) earlier = omega (arith, turns_of-append seat recent earlier)

  abbrev Waited : ℕ → ℕ → List ℕ → Type 0
  Waited visit seat recent = (length recent ≤ (visit + 7 - seat) % 8) ⊎ ((allowance ≤ length (turns visit)) × (length recent ≤ 7))

  module _ (seat : ℕ) (seat-below : seat < 8) (earlier : List ℕ) (unfinished : turns_of seat earlier < ends seat) where
    waits : (visit : ℕ) (recent : List ℕ) → turns visit ≡ recent ++ earlier → turns_of seat recent ≡ 0 → Waited visit seat recent
    unfolding turns_after turns_of
    waits zero [] e none = inl (omega arith)
    waits zero (other ∷ recent) e none = absurd (omega (arith, ap length e))
    waits (suc visit) recent e none =
        ⊎_elim (λ p. ⊎_elim (λ q. served-then (waits visit) p q recent e none) (λ q. late q (waits visit recent (sym (visit-late visit q) ∙ e) none)) (order (length (turns visit)) allowance))
        (λ p. idle p (waits visit recent (sym (visit-ended visit p) ∙ e) none) (sym (visit-ended visit p) ∙ e))
        (order (turns_of (visit % 8) (turns visit)) (ends (visit % 8)))
      where
        -- The visit is to another seat: this one has had no turn since.
        served-then : ((list : List ℕ) → turns visit ≡ list ++ earlier → turns_of seat list ≡ 0 → Waited visit seat list)
            → turns_of (visit % 8) (turns visit) < ends (visit % 8) → length (turns visit) < allowance → (list : List ℕ) → turns (suc visit) ≡ list ++ earlier → turns_of seat list ≡ 0 → Waited (suc visit) seat list
        served-then before p q [] f n = inl (omega arith)
        served-then before p q (other ∷ list) f n =
            let both : visit % 8 ∷ turns visit ≡ other ∷ list ++ earlier = sym (visit-served visit p q) ∙ f in
            let head : visit % 8 ≡ other = cc in
            let tail : turns visit ≡ list ++ earlier = cc in
            let elsewhere : visit % 8 ≡ seat → ⊥ = λ g. (let t = eq-eqb other seat (sym head ∙ g) in let m = rw t at n in omega arith) in
            let fewer : turns_of seat list ≡ 0 = omega arith in
            ⊎_elim (λ w. inl (omega (arith, elsewhere))) (λ w. absurd (omega arith)) (before list tail fewer)

        late : allowance ≤ length (turns visit) → Waited visit seat recent → Waited (suc visit) seat recent
        late q w = let same = ap length (visit-late visit q) in inr (⊎_elim (λ a. (omega arith, omega arith)) (λ a. (omega arith, a.1)) w)

        -- The desk of the seat visited has ended, and this one has not.
        idle : ends (visit % 8) ≤ turns_of (visit % 8) (turns visit) → Waited visit seat recent → turns visit ≡ recent ++ earlier → Waited (suc visit) seat recent
        idle p w f =
            let elsewhere : visit % 8 ≡ seat → ⊥ = λ g. (
            let had = ap (turns_of seat) f ∙ turns_of-append seat recent earlier in
            let here : turns_of (visit % 8) (turns visit) ≡ turns_of seat (turns visit) = ap (λ s. turns_of s (turns visit)) g in
            let ends-here : ends (visit % 8) ≡ ends seat = ap ends g in
            omega arith
            ) in
            let same = ap length (visit-ended visit p) in
            ⊎_elim (λ a. inl (omega (arith, elsewhere))) (λ a. inr (omega arith, a.1)) w

    -- So it has a turn within eight turns, whatever the others do.
    pub within-eight : (visit : ℕ) (recent : List ℕ) → turns visit ≡ recent ++ earlier → 8 ≤ length recent → 1 ≤ turns_of seat recent
    within-eight visit recent e h =
        ⊎_elim (λ p. omega arith) (λ p. ⊎_elim (λ w. absurd (omega arith)) (λ w. absurd (omega arith)) (waits visit recent e (omega arith)))
        (order 0 (turns_of seat recent))
