-- A.2, no driving through zones: what a closed node means for the network of a file, its paths and its tables.
use Rattle.std.specs.Prelude.{ℕ, ◌<◌, ◌≡◌, ◌↔◌, ltb, get_or, take}
use Rattle.std.proofs.Common.{arith, sym, ◌∙◌, ap}
use Rattle.std.proofs.Math.Bool.{true, false}
use mathlib.Core.List.{List, [], ◌∷◌}
use borrow.Author.Tests.{eqb-false, ne_eqb}
use Rattle.study.specs.Versions.{versions, form_of}
use Rattle.study.specs.Header.{version, has_section}
use Rattle.study.specs.Sections.{closed_part, barred_part}
use Rattle.study.specs.Fields.{mark_byte}
use Rattle.study.specs.Laws.{no-section}
use Rattle.theory.specs.Flows.{entry, Carries}
use Rattle.theory.specs.Routes.{routing, IsPath}
use Rattle.theory.specs.Study.{closed, barred, of_lorries, barred_to, may_use, network}
use Rattle.theory.specs.Laws.Cases.{on-equal, on_test}
use Rattle.theory.specs.Laws.Permission.{not-barred, may-open, may-own, may-closed, cars-not-barred}
use Rattle.calls.specs.Study.{as_mark, link_rows, commodities, network_of}
use Rattle.calls.specs.Questions.{packed_size}
use Rattle.calls.specs.Calls.{check_number, pack_number, pack_output, table_number}
use Rattle.calls.specs.Cases.{zone_only}
use Rattle.calls.proofs.Computed.{computed}
use Rattle.calls.specs.Laws.Networks.{mark-exactly, closed-head, barred-link}
use Rattle.calls.specs.Laws.Questions.{table-both}
use Rattle.calls.specs.Laws.Reach.{passed-carries}
use Rattle.demands.specs.Packing.{pack-reads-back}
use Rattle.demands.specs.Results.{auditable-carried}

-- A node is closed where its byte is 1.
abbrev pub Closed : List ℕ → ℕ → Type 0
Closed file node = mark_byte (closed_part file) node ≡ 1

-- (A.7) Lorries are barred from a link where its byte is 1, and a commodity is of lorries or of cars.
abbrev pub Barred : List ℕ → ℕ → Type 0
Barred file link = mark_byte (barred_part file) link ≡ 1

abbrev pub OfLorries : List ℕ → ℕ → Type 0
OfLorries file k = of_lorries (get_or (commodities file) k 0) ≡ true

-- Version 1 has every node open.
pub version-1-open : (file : List ℕ) → version file ≡ 1 → (node : ℕ) → Closed file node → ⊥
unfolding has_section versions form_of mark_byte
version-1-open file e node shut =
    let none : closed_part file ≡ [] = no-section file 3 (ap (λ v. ltb 3 (form_of v).sections) e) in
    let zero_one : ◌≡◌ {A = ℕ} 0 1 = rw none at shut in
    omega arith

module _ (file : List ℕ) (l : ℕ) (below : l < (network_of file).links) where
  closed_is : closed (link_rows file) l ≡ as_mark (mark_byte (closed_part file) ((network_of file).head l))
  unfolding network_of network
  closed_is = closed-head file l below

  barred-is : barred (link_rows file) l ≡ as_mark (mark_byte (barred_part file) l)
  unfolding network_of network
  barred-is = barred-link file l below

  -- A link whose head is closed may carry only flow to that head, of cars and of lorries alike,
  pub closed-only : (k : ℕ) → (network_of file).may_use k l ≡ true → Closed file ((network_of file).head l) → (network_of file).head l ≡ (network_of file).destination k
  unfolding network_of network
  closed-only k may shut = may-closed (link_rows file) (get_or (commodities file) k 0) l (closed_is ∙ (mark-exactly (mark_byte (closed_part file) ((network_of file).head l))).1 shut) may

  -- and one that lorries are barred from no flow of lorries.
  pub barred-none : (k : ℕ) → (network_of file).may_use k l ≡ true → OfLorries file k → Barred file l → ⊥
  unfolding network_of network barred_to
  barred-none k may lorries off =
      let on : barred_to (link_rows file) true l ≡ false = rw lorries at (not-barred (link_rows file) (get_or (commodities file) k 0) l may) in
      eqb-false (barred (link_rows file) l) 1 on (barred-is ∙ (mark-exactly (mark_byte (barred_part file) l)).1 off)

  -- It may carry all other flow.
  pub permitted-exactly : (k : ℕ) → ((network_of file).may_use k l ≡ true)
      ↔ ((OfLorries file k → Barred file l → ⊥) × (Closed file ((network_of file).head l) → (network_of file).head l ≡ (network_of file).destination k))
  unfolding network_of network barred_to
  permitted-exactly k = (λ may. (barred-none k may, closed-only k may), λ both. may both.0 both.1)
    where
      rows : List (List ℕ)
      rows = link_rows file

      commodity : ℕ
      commodity = get_or (commodities file) k 0

      on : (OfLorries file k → Barred file l → ⊥) → barred_to rows (of_lorries commodity) l ≡ false
      on free =
          on_test (of_lorries commodity)
          (λ lorries. rw (lorries, ne_eqb (barred rows l) 1 (λ off. free lorries ((mark-exactly (mark_byte (barred_part file) l)).0 (sym barred-is ∙ off)))))
          (λ cars. cars-not-barred rows (of_lorries commodity) l cars)

      may : (OfLorries file k → Barred file l → ⊥) → (Closed file ((network_of file).head l) → (network_of file).head l ≡ (network_of file).destination k) → may_use rows commodity l ≡ true
      may free own =
          on-equal (closed rows l) 1
          (λ shut. may-own rows commodity l (on free) (own ((mark-exactly (mark_byte (closed_part file) ((network_of file).head l))).0 (sym closed_is ∙ shut))))
          (λ is_open. may-open rows commodity l (on free) is_open)

-- No link of a path leads into a closed node other than the destination.
abbrev pub Avoids : List ℕ → ℕ → List ℕ → Type 0
Avoids file k [] = Unit
Avoids file k (l ∷ path) =
    (Closed file ((network_of file).head l) → (network_of file).head l ≡ (network_of file).destination k) × Avoids file k path

pub path-avoids : (file times : List ℕ) (k j : ℕ) (path : List ℕ) → IsPath (routing (network_of file) times k) j path → Avoids file k path
path-avoids file times k j [] p = tt
path-avoids file times k j (l ∷ path) p =
    (closed-only file l p.0 k p.1, path-avoids file times k ((network_of file).head l) path p.3)

-- Nor has an accepted table flow to another destination on a link into a closed node, of cars or of lorries.
pub flow-avoids : (file table : List ℕ) (share : ℕ) → table_number file table share ≡ 0 → (k l : ℕ) → k < (network_of file).commodities → l < (network_of file).links
    → Closed file ((network_of file).head l) → ((network_of file).head l ≡ (network_of file).destination k → ⊥) → entry (network_of file).links table k l ≡ 0
flow-avoids file table share e k l b c shut away =
    on_test ((network_of file).may_use k l)
    (λ may. absurd (away (closed-only file l c k may shut)))
    (λ barred. (auditable-carried file table share e).permitted k l b c barred)

-- Pack keeps a file's version.
pub pack-version : (file output : List ℕ) → pack_number file output ≡ 0 → version (take (packed_size file) (pack_output file output)) ≡ version file
pack-version file output e = (pack-reads-back file output e).same_version

-- A study refused as unreachable only because a node is closed: it differs from one that is not refused in that node's byte alone, and where
-- the node is open a table through it carries the trips.
pub record OnlyClosed : Type 0 where
  pub refused : check_number (zone_only 1) ≡ 11
  pub passes : check_number (zone_only 0) ≡ 0
  pub carries : Carries (network_of (zone_only 0)) 1 (1 ∷ 1 ∷ [])

pub only-closed : OnlyClosed
only-closed =
    record {
      refused = computed.zone-closed;
      passes = computed.zone-open;
      carries = passed-carries (zone_only 0) (1 ∷ 1 ∷ []) 1 (table-both (zone_only 0) (1 ∷ 1 ∷ []) 1 computed.zone-passed).1;
    }
