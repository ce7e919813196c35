-- What a call of a decoded file may judge.
use Rattle.std.specs.Prelude.{ℕ, ◌*◌, ◌≤◌, ◌≡◌, List, length}
use Rattle.std.proofs.Common.{sym}
use Rattle.study.specs.Questions.{first_no}
use Rattle.theory.specs.Network.{Network}
use Rattle.theory.specs.Study.{network}
use Rattle.calls.specs.Study.{network_of}
use Rattle.calls.specs.Questions.{share_questions}
use Rattle.calls.specs.Calls.{start_number, table_number}
use Rattle.calls.specs.Laws.Networks.{holds-length}
use Rattle.calls.specs.Laws.Questions.{check-passed, start-both, table-both}
use Rattle.questions.specs.Rows.{TableFits}
use Rattle.judging.specs.Study.{study_of, Ready, Judgeable}
use Rattle.judging.specs.Laws.Study.{tail-node, head-node}
use Rattle.judging.specs.Laws.Classes.{few-commodities}
use Rattle.refusals.specs.Parts.{PartsOf}
use Rattle.refusals.specs.Laws.Parts.{study-is, network-is, size_is, ready, judgeable}
use Rattle.refusals.specs.Laws.Numbers.{table-shared}

module _ (file table : List ℕ) {opening n : ℕ} {link_list : List (List ℕ)} {commodity_list entries : List ℕ}
    (parts : PartsOf file opening n link_list commodity_list entries) where
  abbrev g : Network
  g = network n link_list commodity_list entries

  -- An accepted start: what it asks of the judging,
  pub start-ready : start_number file table ≡ 0 → Ready (study_of n link_list commodity_list entries)
  start-ready e = rw (study-is parts) (ready file (check-passed file (start-both file table e).0))

  pub start-holds : start_number file table ≡ 0 → length commodity_list * length link_list ≤ length table
  start-holds e = rw (size_is parts) (holds-length (network_of file) table (start-both file table e).1)

  -- What the questions of its table ask.
  pub table-asks : start_number file table ≡ 0 → TableFits n link_list commodity_list entries table
  table-asks e =
      let ready = start-ready e in
      record {
        few-nodes = ready.few-nodes;
        few-links = ready.few-links;
        few-commodities = few-commodities ready;
        tail-node = tail-node ready;
        head-node = head-node ready;
        has-trips = ready.trips-long;
        holds = start-holds e;
      }

  -- The number of its questions is the file's.
  pub table-numbered : (share : ℕ) → start_number file table ≡ 0 → first_no (share_questions g table share) ≡ table_number file table share
  table-numbered share e = rw (network-is parts) (sym (table-shared file table share e))

  module _ (share : ℕ) (accepted : table_number file table share ≡ 0) where
    -- An accepted table.
    pub table-ready : Judgeable (study_of n link_list commodity_list entries) table share
    table-ready =
        let both = table-both file table share accepted in
        let started = start-both file table both.0 in
        rw (study-is parts) (judgeable file table share (check-passed file started.0) started.1 both.1)
