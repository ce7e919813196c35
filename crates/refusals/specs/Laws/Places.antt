-- The places that a call lends are enough for a file.
use Rattle.std.specs.Prelude.{ℕ, ◌≤◌, ◌<◌, ◌≡◌, Bool, true, false, ◌&&◌, ◌||◌, cond, List, leb, ltb, eqb, length, take}
use Rattle.std.proofs.Common.{arith, sym, ◌∙◌, length-take-le, leb-true, ltb-true, eqb-true, le-ltb}
use Rattle.study.specs.Header.{version}
use Rattle.study.specs.Laws.{accepted, no-powers}
use Rattle.theory.specs.Laws.Cases.{on_test}
use Rattle.theory.specs.Laws.Finite.{and_left, and_right}
use Rattle.calls.specs.Study.{link_rows}
use Rattle.calls.specs.Calls.{start_number, table_number, run_number}
use Rattle.calls.specs.Laws.Questions.{Passed, check-passed, start-both, table-both, run-both}
use Rattle.calls.specs.Laws.Networks.{fourth-powers}
use Rattle.travel.specs.Ranges.{CurveRoom}
use Rattle.travel.specs.Laws.Powers.{room-one, room-all}
use Rattle.judging.specs.Laws.Study.{links-fit}
use Rattle.refusals.specs.Parts.{PartsOf}
use Rattle.refusals.specs.Places.{curve_places, is_small}
use Rattle.refusals.specs.Laws.Parts.{ready}

-- The smaller places are for files of at most 2,048 bytes and one list.
pub small-length : (file : List ℕ) → is_small file ≡ true → length file ≤ 2048
unfolding is_small
small-length file e = leb-true (length file) 2048 (and_left (leb (length file) 2048) (eqb (curve_places file) 769) e)

pub small-curves : (file : List ℕ) → is_small file ≡ true → 769 ≡ curve_places file
unfolding is_small
small-curves file e = sym (eqb-true (curve_places file) 769 (and_right (leb (length file) 2048) (eqb (curve_places file) 769) e))

-- No file needs more than four lists.
pub curves-most : (file : List ℕ) → curve_places file ≤ 1540
unfolding curve_places
curves-most file = most (ltb (length file) 32 || ltb (version file) 3)
  where
    most : (t : Bool) → cond t 769 1540 ≤ 1540
    most true = omega arith
    most false = omega arith

-- Of 1,540 places that many are lent.
pub curves-counted : (file : List ℕ) {places : ℕ} (curves : List ℕ) → length curves ≡ 1540 → places ≡ curve_places file → places ≡ length (take places curves)
curves-counted file {places} curves long are = sym (length-take-le places curves (omega (arith, curves-most file)))

-- Curves of that many places have room for the lists of an accepted study's powers.
pub curve-room : (file : List ℕ) → Passed file → {places : ℕ} → places ≡ curve_places file → CurveRoom (link_rows file) places
unfolding curve_places
curve-room file h {places} are =
    on_test (ltb (version file) 3)
    (λ old. room-one (link_rows file) (fourth-powers file (no-powers (version file) (ltb-true (version file) 3 old))) (are ∙ rw (long, old)))
    (λ new. room-all (link_rows file) (links-fit (ready file h)) (are ∙ rw (long, new)))
  where
    long : ltb (length file) 32 ≡ false
    long = le-ltb (length file) 32 (accepted file h.described.opened).length-least

-- So have the parts of such a file.
pub parts-room : {file : List ℕ} {opening n : ℕ} {link_list : List (List ℕ)} {commodity_list entries : List ℕ} → PartsOf file opening n link_list commodity_list entries →
    Passed file → {places : ℕ} → places ≡ curve_places file → CurveRoom link_list places
parts-room {file} parts h are = rw parts.links-are (curve-room file h are)

-- A study passes its questions where start, a table or a run does.
pub start-passed : (file table : List ℕ) → start_number file table ≡ 0 → Passed file
start-passed file table e = check-passed file (start-both file table e).0

pub table-passed : (file table : List ℕ) (share : ℕ) → table_number file table share ≡ 0 → Passed file
table-passed file table share e = start-passed file table (table-both file table share e).0

pub run-passed : (file table : List ℕ) (budget : ℕ) → run_number file table budget ≡ 0 → Passed file
run-passed file table budget e = start-passed file table (run-both file table budget e).0
