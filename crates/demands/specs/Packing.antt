-- Document 01's pack: packing a study and reading it back gives the same study, and packing the packed file gives the same bytes.
use Rattle.std.specs.Prelude.{ℕ, zero, suc, ◌≤◌, ◌≡◌, refl, Bool, true, false, cond, List, [], ◌++◌, eqb, length, take, drop}
use Rattle.std.proofs.Common.{arith, sym, ◌∙◌, append-nil, length-append, length-drop, take_at, drop_at, leb-true}
use Rattle.std.proofs.Math.Dec.{eqb-suc-zero}
use Rattle.study.specs.Questions.{refusal}
use Rattle.study.specs.Laws.{accepted}
use Rattle.calls.specs.Questions.{packed_size, output_holds}
use Rattle.calls.specs.Pack.{packed}
use Rattle.calls.specs.Calls.{overwritten, check_number, pack_number, pack_output}
use Rattle.calls.specs.Laws.Questions.{pack-number, check-passed}
use Rattle.calls.specs.Laws.Calls.{pack-kept}
use Rattle.calls.specs.Laws.Pack.{packed-length}
use Rattle.demands.specs.Packing.ReadBack.{packed-shorter, packed-version, packed-accepted, packed-nodes, packed-links, packed-destinations, packed-part}
use Rattle.demands.specs.Packing.Same.{SameStudy, same-packed, same_check, same-pack-output}
pub mod Bytes
pub mod Header
pub mod Accepts
pub mod ReadBack
pub mod Same
pub mod Town

-- Packing a study and reading it back gives the same study, whatever bytes follow in the file.
pub packing-reads-back : (file rest : List ℕ) → refusal file ≡ 0 → length (packed file ++ rest) ≤ 65536 → SameStudy (packed file ++ rest) file
packing-reads-back file rest e fits =
    record {
      same-refusal = packed-accepted file rest e fits ∙ sym e;
      same_version = packed-version file rest e fits;
      same_nodes = packed-nodes file rest e fits;
      same-links = packed-links file rest e fits;
      same-destinations = packed-destinations file rest e fits;
      same-part = packed-part file rest e fits;
    }

-- With no later bytes the packed file is never too long: packing makes no file longer.
pub packed-same : (file : List ℕ) → refusal file ≡ 0 → SameStudy (packed file) file
packed-same file e =
    let limits = accepted file e in
    let shorter = packed-shorter file e in
    rw append-nil at (packing-reads-back file [] e (rw (append-nil, packed-length file limits.version-known) (omega arith)))

-- The packed file passes the same questions.
pub packed-check : (file : List ℕ) → refusal file ≡ 0 → check_number (packed file) ≡ check_number file
packed-check file e = same_check (packed-same file e)

-- Packing the packed file gives the same bytes.
pub packing-twice : (file : List ℕ) → refusal file ≡ 0 → packed (packed file) ≡ packed file
packing-twice file e = same-packed (packed-same file e)

-- The call `pack`, where it refuses nothing: the study passes questions 1 to 11 and the output slice is long enough.
pub pack-both : (file output : List ℕ) → pack_number file output ≡ 0 → (check_number file ≡ 0) × (packed_size file ≤ length output)
unfolding output_holds
pack-both file output e =
    let parts = by-check (check_number file) (output_holds file output) (sym (pack-number file output) ∙ e) in
    (parts.0, leb-true _ _ parts.1)
  where
    by-check : (number : ℕ) (holds : Bool) → cond (eqb number 0) (cond holds 0 17) number ≡ 0 → (number ≡ 0) × (holds ≡ true)
    by-check zero true z = (refl, refl)
    by-check zero false z = absurd (omega arith)
    by-check (suc number) holds z = absurd (let s = (rw eqb-suc-zero at z) in omega arith)

pub pack-opened : (file output : List ℕ) → pack_number file output ≡ 0 → refusal file ≡ 0
pack-opened file output e = (check-passed file (pack-both file output e).0).described.opened

-- What the call leaves in the output slice: the packed file, and after it the later bytes untouched.
pub record Written (file output : List ℕ) : Type 0 where
  pub whole : pack_output file output ≡ packed file ++ drop (packed_size file) output
  pub first-bytes : take (packed_size file) (pack_output file output) ≡ packed file
  pub later-bytes : drop (packed_size file) (pack_output file output) ≡ drop (packed_size file) output
  pub same_length : length (pack_output file output) ≡ length output

pub pack-writes : (file output : List ℕ) → pack_number file output ≡ 0 → Written file output
unfolding pack_output overwritten
pack-writes file output e =
    let long = packed-length file (accepted file (pack-opened file output e)).version-known in
    let whole : pack_output file output ≡ packed file ++ drop (packed_size file) output = rw (e, long) in
    record {
      whole = whole;
      first-bytes = rw whole (take_at (packed file) (drop (packed_size file) output) (packed_size file) long);
      later-bytes = rw whole (drop_at (packed file) (drop (packed_size file) output) (packed_size file) long);
      same_length = rw (whole, length-append, long, length-drop) (omega (arith, (pack-both file output e).1));
    }

-- Where it refuses, it leaves the output slice as it was.
pub pack-refused : (file output : List ℕ) → (pack_number file output ≡ 0 → ⊥) → pack_output file output ≡ output
pack-refused file output refused = pack-kept file output refused

-- So the bytes that the call wrote describe the same study, and so does the whole output slice where it can be a file.
pub pack-reads-back : (file output : List ℕ) → pack_number file output ≡ 0 → SameStudy (take (packed_size file) (pack_output file output)) file
pack-reads-back file output e = rw (pack-writes file output e).first-bytes (packed-same file (pack-opened file output e))

pub pack-reads-back-whole : (file output : List ℕ) → pack_number file output ≡ 0 → length output ≤ 65536 → SameStudy (pack_output file output) file
pack-reads-back-whole file output e fits =
    let w = pack-writes file output e in
    rw w.whole
    (packing-reads-back file (drop (packed_size file) output) (pack-opened file output e) (rw (← w.whole) (omega arith)))

-- A second call, on the bytes that the first one wrote, does what the first one does, whatever output slice it is lent.
pub pack-twice : (file output again : List ℕ) → pack_number file output ≡ 0 → pack_output (take (packed_size file) (pack_output file output)) again ≡ pack_output file again
pack-twice file output again e = same-pack-output (pack-reads-back file output e) again
