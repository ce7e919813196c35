-- Document 02, A.7: cars and lorries on the same links.
use Rattle.std.specs.Prelude.{ℕ, suc, ◌+◌, ◌*◌, ◌≤◌, ◌<◌, ◌≡◌, Bool, true, false, List, [], ◌∷◌, ◌↔◌, length, get_or, eqb}
use Rattle.std.proofs.Common.{arith, sym, ◌∙◌, ap, ⊎_elim, eqb-true, eq-eqb}
use Rattle.study.specs.Header.{version}
use Rattle.study.specs.Sections.{destinations, barred_part}
use Rattle.study.specs.Fields.{mark_byte}
use Rattle.study.specs.Laws.{has-lorries, no-lorries}
use Rattle.theory.specs.Flows.{entry, total}
use Rattle.theory.specs.Routes.{routing, IsPath}
use Rattle.theory.specs.Moves.{table_size}
use Rattle.theory.specs.Notes.{note_size}
use Rattle.theory.specs.Study.{barred, node_of, of_lorries, barred_to, network}
use Rattle.theory.specs.Laws.Cases.{true-false}
use Rattle.theory.specs.Laws.Finite.{and_left, and_right, order}
use Rattle.theory.specs.Laws.Permission.{may-barred}
use Rattle.theory.specs.Laws.Totals.{SameFor, same-for}
use Rattle.calls.specs.Study.{as_mark, link_rows, commodities, network_of}
use Rattle.calls.specs.Calls.{check_number, table_number}
use Rattle.calls.specs.Cases.{lorry_town}
use Rattle.calls.proofs.Computed.{computed}
use Rattle.calls.specs.Laws.Questions.{check-passed, table-both, start-both}
use Rattle.calls.specs.Laws.Commodities.{commodities-long, car-at, lorry-at, lorry-class, car-class}
use Rattle.calls.specs.Laws.Networks.{mark-exactly, barred-link}
use Rattle.demands.specs.Results.{auditable-carried}

table-checked : (file table : List ℕ) (share : ℕ) → table_number file table share ≡ 0 → check_number file ≡ 0
table-checked file table share e = (start-both file table (table-both file table share e).0).0

-- Whether a commodity is barred from a link.
abbrev pub barred_at : List ℕ → ℕ → ℕ → Bool
barred_at file k l = barred_to (link_rows file) (of_lorries (get_or (commodities file) k 0)) l

-- Version 4 has twice the commodities of its cars, each destination for cars and then again for lorries; earlier versions have those of cars.
pub record TwoClasses (file : List ℕ) : Type 0 where
  pub count : (network_of file).commodities ≡ 2 * destinations file
  pub again : (k : ℕ) → k < destinations file → (network_of file).destination (destinations file + k) ≡ (network_of file).destination k
  pub table : table_size (network_of file) ≡ 2 * (destinations file * (network_of file).links)
  pub note : note_size (network_of file) ≡ 1 + 2 * (destinations file * (network_of file).nodes)

pub two-classes : (file : List ℕ) → check_number file ≡ 0 → version file ≡ 4 → TwoClasses file
unfolding network_of network
two-classes file e v =
    let described = (check-passed file e).described in
    let lorries = has-lorries file v in
    let count : length (commodities file) ≡ 2 * destinations file = omega (arith, commodities-long file, lorries) in
    record {
      count = count;
      again = λ k h.
          ap node_of (lorry-at file k (omega (arith, lorries))) ∙ omega arith ∙ ap node_of (sym (car-at file k h));
      table = ap (λ c. c * length (link_rows file)) count ∙ omega arith;
      note = ap (λ c. suc (c * (network_of file).nodes)) count ∙ omega arith;
    }

pub cars-alone : (file : List ℕ) → version file < 4 → (network_of file).commodities ≡ destinations file
unfolding network_of network
cars-alone file v = omega (arith, commodities-long file, no-lorries file v)

module _ (file : List ℕ) (e : check_number file ≡ 0) (k l : ℕ) (inside : k < (network_of file).commodities) (below : l < (network_of file).links) where
  -- A commodity is barred from a link exactly where it is of lorries and the link's byte is 1.
  pub barred-exactly : (barred_at file k l ≡ true) ↔ ((destinations file ≤ k) × (mark_byte (barred_part file) l ≡ 1))
  unfolding network_of network barred_to
  barred-exactly = (off, on)
    where
      mark-is : barred (link_rows file) l ≡ as_mark (mark_byte (barred_part file) l)
      mark-is = barred-link file l below

      off : barred_at file k l ≡ true → (destinations file ≤ k) × (mark_byte (barred_part file) l ≡ 1)
      off b =
          let lorry = and_left (of_lorries (get_or (commodities file) k 0)) (eqb (barred (link_rows file) l) 1) b in
          let shut = and_right (of_lorries (get_or (commodities file) k 0)) (eqb (barred (link_rows file) l) 1) b in (
            ⊎_elim (λ car. true-false lorry (car-class file (check-passed file e).described k car)) (λ after. after) (order k (destinations file)),
            (mark-exactly (mark_byte (barred_part file) l)).0 (sym mark-is ∙ eqb-true (barred (link_rows file) l) 1 shut),
          )

      on : (destinations file ≤ k) × (mark_byte (barred_part file) l ≡ 1) → barred_at file k l ≡ true
      on h =
          rw (
            lorry-class file (check-passed file e).described k h.0 inside,
            eq-eqb (barred (link_rows file) l) 1 (mark-is ∙ (mark-exactly (mark_byte (barred_part file) l)).1 h.1),
          )

  -- The link may carry none of such a commodity,
  pub barred-off : destinations file ≤ k → mark_byte (barred_part file) l ≡ 1 → (network_of file).may_use k l ≡ false
  unfolding network_of network
  barred-off lorry shut = may-barred (link_rows file) (get_or (commodities file) k 0) l (barred-exactly.1 (lorry, shut))

  -- and of cars it may carry what closed nodes allow.
  pub cars-on : k < destinations file → barred_at file k l ≡ false
  unfolding barred_to
  cars-on car = rw (car-class file (check-passed file e).described k car)

-- Links that lorries may go by.
abbrev pub KeepsOff : List ℕ → List ℕ → Type 0
KeepsOff file [] = Unit
KeepsOff file (l ∷ path) = (mark_byte (barred_part file) l ≡ 1 → ⊥) × KeepsOff file path

-- Lorry paths keep off barred links,
pub path-keeps-off : (file : List ℕ) → check_number file ≡ 0 → (times : List ℕ) (k j : ℕ) (path : List ℕ) → destinations file ≤ k → k < (network_of file).commodities
    → IsPath (routing (network_of file) times k) j path → KeepsOff file path
path-keeps-off file e times k j [] lorry inside p = tt
path-keeps-off file e times k j (l ∷ path) lorry inside p = (
  λ shut. true-false p.1 (barred-off file e k l inside p.0 lorry shut),
  path-keeps-off file e times k ((network_of file).head l) path lorry inside p.3,
)

-- and so does the lorry flow of every table that the audit accepts.
pub flow-keeps-off : (file table : List ℕ) (share : ℕ) → table_number file table share ≡ 0 → (k l : ℕ) → destinations file ≤ k → k < (network_of file).commodities
    → l < (network_of file).links → mark_byte (barred_part file) l ≡ 1 → entry (network_of file).links table k l ≡ 0
flow-keeps-off file table share e k l lorry inside below shut =
    (auditable-carried file table share e).permitted k l inside below (barred-off file (table-checked file table share e) k l inside below lorry shut)

-- Two tables of one study with equal totals and one share, however their lorry flows differ, give cars the same times, next links and loading.
pub cars-same : (file table other : List ℕ) (share : ℕ) → ((l : ℕ) → l < (network_of file).links → total (network_of file) table l ≡ total (network_of file) other l)
    → (k : ℕ) → k < destinations file → SameFor (network_of file) share table other k
cars-same file table other share same k car = same-for (network_of file) share table other same k

-- A study refused as unreachable only because a link is barred to lorries: it differs from one that is not refused in that link's byte alone.
pub record OnlyBarred : Type 0 where
  pub refused : check_number (lorry_town 2 0 1 0 1 1) ≡ 11
  pub passes : check_number (lorry_town 2 0 1 0 1 0) ≡ 0

pub only-barred : OnlyBarred
only-barred = record { refused = computed.lorries-stranded; passes = computed.lorries-barred }
