-- The lines that are put are those of the page, and the number is the call's.
use Rattle.std.specs.Prelude.{ℕ, ◌*◌, ◌≤◌, ◌<◌, ◌≡◌, List, [], ◌++◌, get_or}
use Rattle.std.proofs.Common.{arith, ◌∙◌, leb-true}
use Rattle.std.proofs.Math.Path.{sym, ap}
use Rattle.std.proofs.Math.ListN.{length, drop}
use Rattle.text.specs.Put.{Put}
use Rattle.text.specs.Laws.Put.{at-start}
use Rattle.theory.specs.Network.{Network}
use Rattle.theory.specs.Flows.{link_total, total, step, time_at}
use Rattle.theory.specs.Study.{capacity, network}
use Rattle.theory.specs.Laws.Finite.{rows-cong}
use Rattle.calls.specs.Study.{network_of}
use Rattle.calls.specs.Questions.{page_holds}
use Rattle.calls.specs.Page.{volume, line_of, page_of}
use Rattle.calls.specs.Calls.{overwritten, table_number, page_number, page_slice}
use Rattle.calls.specs.Laws.Questions.{page-number, page-both}
use Rattle.calls.specs.Laws.Calls.{page-written}
use Rattle.calls.specs.Laws.Page.{LineRange, link-count, line-range, length-page}
use Rattle.travel.specs.Links.{table_totals, row_time, list_time}
use Rattle.travel.specs.Laws.Network.{padded-holds}
use Rattle.judging.specs.Study.{study_of, Judgeable}
use Rattle.judging.specs.Laws.Study.{links-fit}
use Rattle.judging.specs.Laws.Judged.{share-fits, totals-within}
use Rattle.refusals.specs.Parts.{PartsOf}
use Rattle.refusals.specs.Laws.Parts.{network-is}
use Rattle.refusals.specs.Laws.Ready.{table-ready}
use Rattle.pages.specs.Lines.{row_line, row_lines, Printable, after_audit}

-- An accepted page's table is one that the audit accepts.
pub page-audited :
    (file table : List ℕ) (share : ℕ) (page : List ℕ) {audited : ℕ} → audited ≡ table_number file table share → page_number file table share page ≡ 0 →
    audited ≡ 0
page-audited file table share page e accepted = e ∙ (page-both file table share page accepted).0

module _ {file : List ℕ} {opening n : ℕ} {link_list : List (List ℕ)} {commodity_list entries : List ℕ}
    (parts : PartsOf file opening n link_list commodity_list entries) (table : List ℕ) (share : ℕ) (page : List ℕ) where
  abbrev g : Network
  g = network n link_list commodity_list entries

  links-same : length link_list ≡ (network_of file).links
  unfolding network
  links-same = ap (λ h. h.links) (network-is parts)

  -- The audit's number and then question 18 are the call's number.
  pub page-numbered : {audited number : ℕ} → audited ≡ table_number file table share → number ≡ after_audit audited (30 * length link_list) (length page) →
      number ≡ page_number file table share page
  unfolding page_holds
  page-numbered e f = f ∙ rw (e, links-same) (sym (page-number file table share page))

  module _ (accepted : page_number file table share page ≡ 0) where
    audited : table_number file table share ≡ 0
    audited = (page-both file table share page accepted).0

    -- An accepted page's table can be judged,
    page-ready : Judgeable (study_of n link_list commodity_list entries) table share
    page-ready = table-ready file table parts share audited

    -- and its slice has room.
    pub page-room : 30 * length link_list ≤ length page
    unfolding page_holds
    page-room = rw links-same (leb-true _ _ (page-both file table share page accepted).1)

    in-range : (h : Network) → h ≡ network_of file → (l : ℕ) → l < h.links → LineRange l (h.tail l) (h.head l) (volume share (total h table l)) (time_at h share (total h table) l)
    in-range h e = rw e (line-range file table share audited)

    -- The links' totals stand in a list.
    module _ {flows : List ℕ} (totals-are : flows ≡ table_totals link_list commodity_list table) where
      flow-at : (l : ℕ) → l < length link_list → get_or flows l 0 ≡ link_total (length commodity_list) (length link_list) table l
      flow-at = padded-holds (length link_list) (link_total (length commodity_list) (length link_list) table) totals-are

      time-at : (l : ℕ) → l < length link_list → list_time link_list share flows l ≡ time_at g share (total g table) l
      unfolding list_time network
      time-at l h = ap (λ flow. row_time (get_or link_list l []) (step (capacity link_list l) share flow)) (flow-at l h)

      -- The numbers of the lines are in their ranges,
      pub page-printable : Printable link_list share flows
      unfolding network
      page-printable =
          record {
            links-fit = links-fit page-ready.ready;
            share-fits = share-fits page-ready;
            flows-fit = totals-within page-ready totals-are;
            line = λ l h. rw (flow-at l h, time-at l h) (in-range g (network-is parts) l h);
          }

      lines_are : row_lines link_list share flows ≡ page_of (network_of file) share table
      unfolding network row_line line_of page_of
      lines_are =
          rows-cong (length link_list) (row_line link_list share flows) (line_of g share table) (λ l h. rw (flow-at l h, time-at l h))
          ∙ ap (λ h. page_of h share table) (network-is parts)

      -- and the lines are written over the first bytes of the slice.
      pub page-leaves : {after : List ℕ} {end : ℕ} → Put page 0 (row_lines link_list share flows) after end → after ≡ page_slice file table share page
      unfolding overwritten
      page-leaves {after} {end} put =
          let size : length (row_lines link_list share flows) ≡ 30 * length link_list = ap length lines_are ∙ length-page file table share audited ∙ omega (arith, link-count file, links-same) in
          let start = at-start put (omega (arith, put.place, page-room)) in
          start.1
          ∙ ap (λ k. row_lines link_list share flows ++ drop k page) start.0
          ∙ ap (λ bytes. bytes ++ drop (length bytes) page) lines_are
          ∙ sym (page-written file table share page accepted)
