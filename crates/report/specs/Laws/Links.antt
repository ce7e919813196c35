-- The total flow and the time of each link: the arrays of an audited table hold what document 01 says of its network.
use Rattle.std.specs.Prelude.{ℕ, ◌*◌, ◌≤◌, ◌<◌, ◌≡◌, refl, List, take}
use Rattle.std.proofs.Common.{le_trans, mul-le-mul_right, arith, ◌∙◌}
use Rattle.std.proofs.Math.Path.{sym, ap}
use Rattle.std.proofs.Math.ListN.{length, get_or}
use Rattle.study.specs.Sections.{nodes}
use Rattle.theory.specs.Network.{Network}
use Rattle.theory.specs.Flows.{link_total, total, times}
use Rattle.theory.specs.Study.{network}
use Rattle.calls.specs.Study.{link_rows, commodities, trip_entries, network_of}
use Rattle.calls.specs.Calls.{table_number}
use Rattle.calls.specs.declared.RunAnswer.{RunAnswer}
use Rattle.calls.specs.Laws.Questions.{Passed, SharePassed, check-passed, start-both, table-both}
use Rattle.calls.specs.Laws.Networks.{links-length, share-range, holds-length, fields_fit}
use Rattle.calls.specs.Laws.Page.{total-most}
use Rattle.questions.specs.Sized.{Sized}
use Rattle.network.specs.Decoded.{Decoded}
use Rattle.network.specs.Laws.Checking.{sized}
use Rattle.network.specs.declared.decoding.Opening.{Opening}
use Rattle.travel.specs.Links.{padded, list_time}
use Rattle.travel.specs.Ranges.{most_flow, LinksFit, ShareFits, Within, CurveRoom}
use Rattle.travel.specs.Laws.Powers.{room-all}
use Rattle.travel.specs.Laws.Network.{Holds, padded-holds, times-agree}
use Rattle.listing.specs.Laws.{listing-cong}
use Rattle.listing.specs.Lines.{listing_of}
use Rattle.report.specs.Respond.{listed}

-- A file and a table that an audit at a share accepts.
module _ (file table : List ℕ) (share : ℕ) (audited : table_number file table share ≡ 0) where
  abbrev g : Network
  g = network_of file

  study : Passed file
  study = check-passed file (start-both file table (table-both file table share audited).0).0

  passed : SharePassed file table share
  passed = (table-both file table share audited).1

  -- No total is above 1,024 × 65,535, by question 14 too.
  flow-most : (l : ℕ) → l < g.links → total g table l ≤ most_flow
  flow-most l p = le_trans (total-most file table share audited l p) (mul-le-mul_right 65535 (share-range share passed.share-fits).1)

  -- The fields are those that question 7 accepts.
  links-fit : LinksFit (link_rows file)
  links-fit =
      record {
        few = (sized file).few-links;
        link = λ l h.
            let fit = fields_fit file study.described l h in
            record {
              some-time = fit.free-least;
              time-fits = fit.free-most;
              rise-fits = fit.rise-most;
              some-capacity = fit.capacity-least;
              some-power = fit.power-least;
              power-fits = fit.power-most;
            };
      }

  -- The file is decoded.
  module _ {o : Opening} {link_array : List (List ℕ)} {node_array entry_array : List ℕ} (d : Decoded file o link_array node_array entry_array) where
    -- The table has a row for each commodity.
    pub rows-there : (o.commodities ≤ 64) × (o.links ≤ 512) × (o.commodities * o.links ≤ length table)
    unfolding network_of network
    rows-there =
        let few : Sized (nodes file) (link_rows file) (commodities file) (trip_entries file) = sized file in
        let long = holds-length g table (start-both file table (table-both file table share audited).0).1 in
        rw (d.commodities-are, d.links-are, ← links-length file) (few.few-commodities, few.few-links, long)

    -- There is room for the lists of all powers.
    pub lists-there : CurveRoom (take o.links link_array) 1540
    lists-there = rw d.links-held (room-all (link_rows file) links-fit refl)

    module _ {flows : List ℕ} (flows-are : flows ≡ padded o.links (link_total o.commodities o.links table)) where
      flows-held : Holds (length (link_rows file)) (total g table) flows
      unfolding network_of network
      flows-held =
          padded-holds (length (link_rows file)) (link_total (length (commodities file)) (length (link_rows file)) table)
          (flows-are ∙ rw (d.commodities-are, d.links-are, links-length file))

      flows-within : Within (length (link_rows file)) most_flow flows
      unfolding network_of network
      flows-within l h = rw (flows-held l h) (flow-most l h)

      pub times-there : LinksFit (take o.links link_array) × ShareFits share × Within (length (take o.links link_array)) most_flow flows
      times-there =
          let range = share-range share passed.share-fits in
          rw d.links-held (links-fit, record { some_share = range.0; share-fits = range.1 }, flows-within)

      -- The listing of the arrays is that of the network.
      pub listed_same : (answer : RunAnswer) {time_array : List ℕ} → answer.share ≡ share →
          time_array ≡ padded (length (take o.links link_array)) (list_time (take o.links link_array) share flows) →
          listing_of answer o.links flows time_array ≡ listed file table answer
      unfolding listed network_of network
      listed_same answer {time_array} at-share times-are =
          let count : o.links ≡ length (link_rows file) = d.links-are ∙ sym (links-length file) in
          let timed : time_array ≡ padded (length (link_rows file)) (list_time (link_rows file) share flows) = rw d.links-held at times-are in
          listing-cong answer o.links (λ l. get_or flows l 0) (total g table) (λ l. get_or time_array l 0) (λ l. get_or (times g share table) l 0)
          (λ l h. flows-held l (omega (arith, count)))
          (λ l h.
          ap (λ xs. get_or xs l 0) timed
          ∙ times-agree (nodes file) (link_rows file) (commodities file) (trip_entries file) table flows flows-held share l (omega (arith, count)))
          ∙ rw (d.links-are, at-share)
