-- Request A.4: the count of links past their curves that audit, pass and run answer.
use Rattle.std.specs.Prelude.{ℕ, pred, ◌*◌, ◌≤◌, ◌<◌, ◌≡◌, Bool, true, List, ◌↔◌, get_or, leb}
use Rattle.std.proofs.Common.{arith, ◌∙◌}
use Rattle.std.proofs.Math.Path.{ap}
use Rattle.study.specs.Sections.{links}
use Rattle.theory.specs.Finite.{count}
use Rattle.theory.specs.Flows.{total, over_at, over}
use Rattle.theory.specs.Moves.{table_size, after_moves, judged, last_judged}
use Rattle.theory.specs.Laws.Finite.{count-cong, count_most, count_none}
use Rattle.theory.specs.Laws.Local.{over-same}
use Rattle.theory.specs.Laws.Times.{over-exactly, over-fourfold, over-empty}
use Rattle.calls.specs.Study.{network_of}
use Rattle.calls.specs.Calls.{overwritten, table_number, audit_answer, pass_number, pass_answer, run_number, run_answer, run_table}
use Rattle.calls.specs.Laws.Questions.{Passed, check-passed, start-both, run-both, table-both, pass-both}
use Rattle.calls.specs.Laws.Networks.{sound, share-range}
use Rattle.calls.proofs.Accepted.{pass-accepted}
use Rattle.calls.specs.Laws.Calls.{audit-accepted, run-accepted, run-written}
use Rattle.calls.specs.Laws.Page.{link-count}
use Rattle.calls.specs.Laws.Tables.{overwritten-front, run_length, run-passes}

-- A link's total is at least four times its capacity, both in parts of a trip.
abbrev pub fourfold : List ℕ → List ℕ → ℕ → ℕ → Bool
fourfold file table share l = leb (4 * ((network_of file).capacity l * share)) (total (network_of file) table l)

-- A number counts the links of a table that are over: those whose total is at least four times their capacity. There are m links.
pub record CountsOver (file table : List ℕ) (share number : ℕ) : Type 0 where
  pub counts : number ≡ count (links file) (fourfold file table share)
  pub most : number ≤ links file

-- A study that passes its questions, and a share.
module _ (file : List ℕ) (study : Passed file) (table : List ℕ) (share : ℕ) (some_share : 1 ≤ share) where
  some-capacity : (l : ℕ) → l < links file → 1 ≤ (network_of file).capacity l
  some-capacity l h = (sound file study.described).some-capacity l (omega (arith, link-count file))

  over-counts : CountsOver file table share (over (network_of file) share table)
  unfolding over
  over-counts =
      record {
        counts =
            count-cong (network_of file).links (over_at (network_of file) share (total (network_of file) table)) (fourfold file table share)
            (λ l h. over-fourfold ((network_of file).capacity l) share (total (network_of file) table l) (some-capacity l (omega (arith, link-count file))) some_share)
            ∙ ap (λ m. count m (fourfold file table share)) (link-count file);
        most = omega (arith, count_most (network_of file).links (over_at (network_of file) share (total (network_of file) table)), link-count file);
      }

module _ (file table : List ℕ) (share : ℕ) (e : table_number file table share ≡ 0) where
  study : Passed file
  study = check-passed file (start-both file table (table-both file table share e).0).0

  some_share : 1 ≤ share
  some_share = (share-range share (table-both file table share e).1.share-fits).0

  -- A link is counted exactly when 64·S is at least 256·c·W,
  pub over-when : (l : ℕ) → l < links file
      → (over_at (network_of file) share (total (network_of file) table) l ≡ true)
      ↔ (256 * ((network_of file).capacity l * share) ≤ 64 * total (network_of file) table l)
  over-when l h = over-exactly _ share _ (some-capacity file study table share some_share l h) some_share

  -- that is when its total is at least four times its capacity.
  pub over-when-fourfold : (l : ℕ) → l < links file
      → (over_at (network_of file) share (total (network_of file) table) l ≡ true)
      ↔ (4 * ((network_of file).capacity l * share) ≤ total (network_of file) table l)
  over-when-fourfold l h = (λ t. omega (arith, (over-when l h).0 t), λ t. (over-when l h).1 (omega arith))

  pub audit-counts : CountsOver file table share (audit_answer file table share).over
  audit-counts = rw (audit-accepted file table share e) (over-counts file study table share some_share)

-- A pass accepts what the audit accepts, where it is lent a note that is long enough.
pub pass-counts : (file table : List ℕ) (share : ℕ) (note : List ℕ) → pass_number file table share note ≡ 0
    → CountsOver file table share (pass_answer file table share note).over
pass-counts file table share note e =
    let audited = (pass-both file table share note e).0 in
    rw (pass-accepted file table share note e)
    (over-counts file (study file table share audited) table share (some_share file table share audited))

-- A run's count is that of the table that it leaves, at the share that it answers.
pub run-counts : (file table : List ℕ) (budget excess : ℕ) → run_number file table budget ≡ 0
    → CountsOver file (run_table file table budget excess) (run_answer file table budget excess).share (run_answer file table budget excess).over
unfolding last_judged
run-counts file table budget excess e =
    let g = network_of file in
    let study = check-passed file (start-both file table (run-both file table budget e).0).0 in
    let i = pred (judged g budget excess) in
    let x = after_moves g i in
    let after = overwritten x.table table in
    let front : (k : ℕ) → k < table_size g → get_or x.table k 0 ≡ get_or after k 0 = λ k p. overwritten-front x.table table k (omega (arith, run_length file study i)) in
    rw (run-accepted file table budget excess e, run-written file table budget excess e, over-same g x.table after front x.share)
    (over-counts file study after x.share (share-range x.share (run-passes file study i).share-fits).0)

-- At empty roads no link is counted.
pub empty-counts : (file table : List ℕ) (share : ℕ) → ((l : ℕ) → l < links file → total (network_of file) table l ≡ 0) → over (network_of file) share table ≡ 0
unfolding over
empty-counts file table share empty =
    count_none (network_of file).links (over_at (network_of file) share (total (network_of file) table))
    (λ l h. rw (empty l (omega (arith, link-count file))) (over-empty ((network_of file).capacity l) share))
