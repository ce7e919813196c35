-- The parts of a study are the file's, and what questions 1 to 11 say of them is what judging asks.
use Rattle.std.specs.Prelude.{ℕ, suc, ◌*◌, ◌≤◌, ◌<◌, ◌≡◌, refl, true, List, length, take, replicate}
use Rattle.std.proofs.Common.{arith, sym, ◌∙◌, length-take-le}
use Rattle.std.proofs.Math.Logic.{⊎_elim}
use Rattle.study.specs.Questions.{refusal}
use Rattle.study.specs.Sections.{nodes, destinations, lorry_destinations, link_size, closed_part, barred_part}
use Rattle.study.specs.Laws.{accepted}
use Rattle.theory.specs.Moves.{table_size}
use Rattle.theory.specs.Notes.{note_size}
use Rattle.theory.specs.Study.{AllFourth, network}
use Rattle.theory.specs.Laws.Routings.{AllServed}
use Rattle.calls.specs.Study.{link_rows, destination_nodes, commodities, trip_entries, network_of}
use Rattle.calls.specs.Questions.{study_questions, table_holds}
use Rattle.calls.specs.Laws.Questions.{Passed, SharePassed}
use Rattle.calls.specs.Laws.Networks.{links-length, closed-head, fourth-powers, share-range, holds-length, fields_fit, sound, few-trips}
use Rattle.calls.specs.Laws.Commodities.{cars-first, commodities-long, all-or-none, cars-are, classed}
use Rattle.calls.specs.Laws.Reach.{reach-served, passed-carries}
use Rattle.questions.specs.Sized.{Sized, ClosedHeads, CommoditiesOf}
use Rattle.network.specs.Decoded.{Decoded}
use Rattle.network.specs.declared.decoding.Opening.{Opening}
use Rattle.network.specs.Laws.Checking.{sized, commodities-of, few-destinations}
use Rattle.judging.specs.Study.{Study, study_of, network_in, Ready, Judgeable}
use Rattle.refusals.specs.Parts.{PartsOf, study_in}

-- What decoding reads are the parts: they are the front of three arrays.
pub parts-decoded :
    {file : List ℕ} {o : Opening} {link_array : List (List ℕ)} {node_array entry_array : List ℕ} → Decoded file o link_array node_array entry_array →
    PartsOf file o.refusal o.nodes (take o.links link_array) (take o.commodities node_array)
    (take (o.commodities * o.nodes) entry_array)
parts-decoded d =
    record {
      opening-is = d.refusal_is;
      nodes-are = d.nodes-are;
      links-are = d.links-held;
      commodities-are = d.commodities-held;
      trips-are = d.entries-held;
    }

module _ {file : List ℕ} {opening n : ℕ} {link_list : List (List ℕ)} {commodity_list entries : List ℕ}
    (parts : PartsOf file opening n link_list commodity_list entries) where
  pub study-is : study_of n link_list commodity_list entries ≡ study_in file
  study-is = rw (parts.nodes-are, parts.links-are, parts.commodities-are, parts.trips-are)

  pub network-is : network n link_list commodity_list entries ≡ network_of file
  unfolding network_of
  network-is = rw (parts.nodes-are, parts.links-are, parts.commodities-are, parts.trips-are)

  -- A table of it has as many numbers as one of the file,
  pub size_is : length commodity_list * length link_list ≡ table_size (network_of file)
  unfolding network_of network
  size_is = rw (parts.links-are, parts.commodities-are)

  -- a note of it too,
  pub note-size-is : suc (length commodity_list * n) ≡ note_size (network_of file)
  unfolding network_of network
  note-size-is = rw (parts.nodes-are, parts.commodities-are)

  pub note-short : (note : List ℕ) → length note ≤ length commodity_list * n → length note < note_size (network_of file)
  note-short note h = omega (arith, note-size-is)

  pub note-long : (note : List ℕ) → length commodity_list * n < length note → note_size (network_of file) ≤ length note
  note-long note h = omega (arith, note-size-is)

  -- and questions 6 to 11 are the file's.
  pub asked_is : {node_list closed_bytes barred_bytes : List ℕ} → node_list ≡ destination_nodes file → closed_bytes ≡ closed_part file → barred_bytes ≡ barred_part file →
      study_questions n link_list node_list closed_bytes barred_bytes commodity_list entries
      ≡ study_questions (nodes file) (link_rows file) (destination_nodes file) (closed_part file) (barred_part file) (commodities file) (trip_entries file)
  asked_is d e b = rw (d, e, b, parts.nodes-are, parts.links-are, parts.commodities-are, parts.trips-are)

  -- The destinations are the first of the commodities.
  pub parts-destinations : {p : ℕ} → p ≡ destinations file → take p commodity_list ≡ destination_nodes file
  parts-destinations e = rw (e, parts.commodities-are) (cars-first file)

  pub parts-counted : {p : ℕ} → p ≡ destinations file → p ≡ length (take p commodity_list)
  parts-counted {p} e = sym (length-take-le p commodity_list (rw parts.commodities-are (omega (arith, e, commodities-long file))))

  pub parts-commodities : {p : ℕ} → p ≡ destinations file → (length (take p commodity_list) ≤ 32) × CommoditiesOf (take p commodity_list) commodity_list
  parts-commodities e = (rw (parts-destinations e) (few-destinations file), rw (parts-destinations e, parts.commodities-are) (commodities-of file))

  pub parts-closed : {closed_bytes : List ℕ} → closed_bytes ≡ closed_part file → ClosedHeads link_list closed_bytes
  parts-closed e = rw (e, parts.links-are) (closed-head file)

  pub parts-fourth : link_size file < 12 → AllFourth link_list
  parts-fourth short = rw parts.links-are (fourth-powers file short)

  pub parts-sized : Sized n link_list commodity_list entries
  parts-sized = rw (parts.nodes-are, parts.links-are, parts.commodities-are, parts.trips-are) (sized file)

-- The parts of a file that questions 1 to 5 accept.
pub parts-opened :
    {file : List ℕ} {opening n : ℕ} {link_list : List (List ℕ)} {commodity_list entries : List ℕ} → PartsOf file opening n link_list commodity_list entries →
    refusal file ≡ 0 → PartsOf file 0 n link_list commodity_list entries
parts-opened parts e =
    record {
      opening-is = sym e;
      nodes-are = parts.nodes-are;
      links-are = parts.links-are;
      commodities-are = parts.commodities-are;
      trips-are = parts.trips-are;
    }

module _ (file : List ℕ) (h : Passed file) where
  some-links : 1 ≤ length (link_rows file)
  some-links = omega (arith, links-length file, (accepted file h.described.opened).links-least)

  served-units : AllServed (network_of file) (replicate (length (link_rows file)) 1)
  unfolding network_of network
  served-units = reach-served (network_of file) h.reaching

  -- A study that passes questions 1 to 11 is ready to be judged.
  pub ready : Ready (study_in file)
  unfolding network_of
  ready =
      let few : Sized (study_in file).nodes (study_in file).links (study_in file).commodities (study_in file).trips = sized file in
      record {
        few-nodes = few.few-nodes;
        few-links = few.few-links;
        few-cars = omega (arith, cars-are file h.described, (accepted file h.described.opened).destinations-most);
        few-lorries = ⊎_elim
            (λ (none : lorry_destinations file ≡ 0). omega (arith, commodities-long file, cars-are file h.described))
            (λ (same : lorry_destinations file ≡ destinations file). omega (arith, commodities-long file, cars-are file h.described, (accepted file h.described.opened).destinations-most))
            (all-or-none file);
        classed = classed file h.described;
        some-links = some-links;
        trips-long = few.entries-long;
        sound = sound file h.described;
        free-most = λ l p. (fields_fit file h.described l p).free-most;
        rise-most = λ l p. (fields_fit file h.described l p).rise-most;
        power-least = λ l p. (fields_fit file h.described l p).power-least;
        power-most = λ l p. (fields_fit file h.described l p).power-most;
        served = served-units;
        few-trips = few-trips file h.described;
      }

-- A table and a share that pass questions 12, 14 to 16 and 20 can be judged.
pub judgeable : (file table : List ℕ) (share : ℕ) → Passed file → table_holds (network_of file) table ≡ true → SharePassed file table share → Judgeable (study_in file) table share
unfolding network_of
judgeable file table share h holds p =
    let range = share-range share p.share-fits in
    record {
      ready = ready file h;
      holds = holds-length (network_of file) table holds;
      some_share = range.0;
      share-most = range.1;
      totals-fit = p.totals-fit;
      carries = passed-carries file table share p;
    }
