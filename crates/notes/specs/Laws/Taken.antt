-- What taking back answers and leaves, by its questions.
use Rattle.std.specs.Prelude.{ℕ, ◌*◌, ◌-◌, ◌/◌, ◌%◌, ◌≤◌, ◌<◌, ◌≡◌, Bool, true, false, ◌&&◌, cond, List, [], ◌≢◌, leb, ltb, eqb, length, get_or}
use Rattle.std.proofs.Common.{mul-le-mul, arith, sym, ◌∙◌, ap}
use Rattle.std.proofs.Math.Path.{refl}
use borrow.Author.Tests.{eq-eqb, ne_eqb, lt-ltb, le-ltb}
use Rattle.theory.specs.Finite.{all, tabulate}
use Rattle.theory.specs.Network.{Network}
use Rattle.theory.specs.Moves.{Shared}
use Rattle.theory.specs.Notes.{even, note_step, note_leads, note_loading, can_take_back, taken_back}
use Rattle.theory.specs.Study.{network}
use Rattle.theory.specs.Laws.Cases.{true-false}
use Rattle.theory.specs.Laws.Tables.{number-most}
use Rattle.calls.specs.Calls.{overwritten}
use Rattle.moves.specs.Loading.{loading_along, volume_rows, front, AllFollowable}
use Rattle.moves.specs.Laws.Front.{overwritten-front}
use Rattle.notes.specs.declared.Taken.{Taken}
use Rattle.notes.specs.Lessened.{Lessenable}
use Rattle.notes.specs.Taken.{Refused, TakenTo, Tested, Halved, Lessened, TakenOn}

-- A refusal answers as a test that fails,
pub tested-refused : {test : Bool} {number : ℕ} {x : Shared} {table : List ℕ} {r : Taken} → test ≡ false → (r.refusal ≡ number) × (r.share ≡ 0)
    → Tested test number x table r table
tested-refused e (number, none) =
    record { refused = λ f. record { refusal_is = number; share-is = none; table_is = refl }; taken = λ f. true-false f e }

-- and a table of which the first numbers are replaced as one that holds.
pub tested-taken : (size : ℕ) (f : ℕ → ℕ) {test : Bool} {number share : ℕ} {table : List ℕ} {r : Taken} {after : List ℕ} → test ≡ true
    → (r.refusal ≡ 0) × (r.share ≡ share) → after ≡ front size f table → Tested test number (record { table = tabulate size f; share = share }) table r after
tested-taken size f {table} e (accepted, reached) replaced =
    record {
      refused = λ g. true-false e g;
      taken = λ g. record { refusal_is = accepted; share-is = reached; table_is = replaced ∙ sym (overwritten-front size f table) };
    }

-- j times a loading of which no total is above 65,535 can be compared with a table.
pub lessenable : {n : ℕ} {links : List (List ℕ)} {p : ℕ} {trips : List ℕ} {nexts : List (List ℕ)} {j : ℕ} {table : List ℕ} → AllFollowable n links p trips nexts
    → (volumes : List (List ℕ)) → volume_rows n (length links) p nexts volumes ≡ loading_along n links p trips nexts → p ≤ length volumes → p * length links ≤ length table → j ≤ 65535
    → Lessenable n (length links) p nexts volumes j table
lessenable {n} {links} {p} {trips} {nexts} {j} w volumes are long holds small =
    record {
      few-nodes = w.few-nodes;
      few-links = w.few-links;
      few-commodities = w.few-commodities;
      has-rows = (w.has-rows, long);
      next-link = λ k i h. (w.followable k h).next-link i;
      holds = holds;
      fits = λ i h.
          let y = number-most p (length links) (loading_along n links p trips nexts) 65535 w.small-totals i h in
          rw are (omega (arith, mul-le-mul small y));
    }

-- What taking back by a note does, from what it does to the table: a doubling is halved,
module _ (n : ℕ) (links : List (List ℕ)) (commodities trips table : List ℕ) (share : ℕ) (note : List ℕ) where
  abbrev g : Network
  g = network n links commodities trips

  abbrev size : ℕ
  size = length commodities * length links

  pub taken-half : note_step note ≡ 0 → {r : Taken} {after : List ℕ} → Halved size share table r after → TakenOn g table share note r after
  unfolding note_leads can_take_back taken_back network
  taken-half no_step h = rw (eq-eqb (note_step note) 0 no_step, note_leads, can_take_back, taken_back) h

  -- a note that leads nowhere is refused 21,
  pub taken-nowhere : note_leads g note ≡ false → {r : Taken} → (r.refusal ≡ 21) × (r.share ≡ 0) → TakenOn g table share note r table
  taken-nowhere e answer = rw e (tested-refused refl answer)

  -- one whose j is not below the share 22,
  module _ (some-step : note_step note ≢ 0) (leads : note_leads g note ≡ true) where
    pub taken-over : share ≤ note_step note → {r : Taken} → (r.refusal ≡ 22) × (r.share ≡ 0) → TakenOn g table share note r table
    unfolding can_take_back
    taken-over over answer =
        rw (leads, can_take_back, ne_eqb (note_step note) 0 some-step, le-ltb (note_step note) share over) (tested-refused refl answer)

    -- and any other lessens the table, or is refused 22.
    pub taken-less : {j : ℕ} → j ≡ note_step note → j < share → {y : List ℕ} → y ≡ note_loading g note → {r : Taken} {after : List ℕ}
        → Lessened size share j y table r after → TakenOn g table share note r after
    unfolding can_take_back taken_back network
    taken-less is below y-is h =
        rw (leads, can_take_back, taken_back, ne_eqb (note_step note) 0 some-step, lt-ltb (note_step note) share (rw is at below)) (rw (is, y-is) at h)
