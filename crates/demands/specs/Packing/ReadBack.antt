-- What the file layer answers of a packed file, with any later bytes: it accepts it, and its counts and parts are those of the file that
-- was packed.
use Rattle.std.specs.Prelude.{ℕ, zero, suc, ◌+◌, ◌≤◌, ◌<◌, ◌≡◌}
use Rattle.std.proofs.Common.{arith, add-one, ◌∙◌, length-append}
use Rattle.std.proofs.Math.Path.{sym, ap}
use mathlib.Core.List.{List, ◌++◌, append_assoc}
use Rattle.std.proofs.Math.Logic.{⊎_elim}
use Rattle.std.proofs.Math.ListN.{length}
use Rattle.study.specs.Versions.{form_of, section_size}
use Rattle.study.specs.Header.{version, offset, size}
use Rattle.study.specs.Questions.{section_end, opening, refusal}
use Rattle.study.specs.Sections.{nodes, links, destinations, part}
use Rattle.study.specs.Laws.{Known, CountsFit, InOrder, SizesFit, all_yes, opening-numbered, sizes-fit, in_order, accepted, section-missing, offset-past}
use Rattle.study.specs.Laws.{nodes-field, links-field, destinations-field, part-accepted, part_length, no-section}
use Rattle.theory.specs.Finite.{sum, rows}
use Rattle.theory.specs.Laws.Finite.{order}
use Rattle.calls.specs.Questions.{packed_size}
use Rattle.calls.specs.Pack.{section_place, packed_header, packed}
use Rattle.calls.specs.Laws.Pack.{place-first, place-more, place_end, study-long, packed-length}
use Rattle.demands.specs.Packing.Bytes.{part_at, rows_split}
use Rattle.demands.specs.Packing.Header.{Header, header-reads}
use Rattle.demands.specs.Packing.Accepts.{accepts}

-- The header of a packed file, and where a section begins in it.
abbrev header : List ℕ → List ℕ
header file = packed_header (version file) (nodes file) (links file) (destinations file)

abbrev place : List ℕ → ℕ → ℕ
place file section = section_place (version file) (nodes file) (links file) (destinations file) section

-- The sections of an accepted file stand one after the other within the file, so packing never makes it longer.
pub packed-shorter : (file : List ℕ) → refusal file ≡ 0 → packed_size file ≤ length file
unfolding section_place sum opening refusal
packed-shorter file e =
    omega (arith, place_end file, before (form_of (version file)).sections (omega arith), offset-past file (form_of (version file)).sections (omega arith))
  where
    fits : SizesFit file
    fits = sizes-fit file (all_yes (opening file) (opening-numbered file) e).1.1.1.1.0

    sized : (section : ℕ) → section < (form_of (version file)).sections → size file section ≡ section_size (version file) (nodes file) (links file) (destinations file) section
    sized section h = fits.each-size section h ∙ rw (nodes-field file e, links-field file e, destinations-field file e)

    before : (section : ℕ) → section ≤ (form_of (version file)).sections → place file section ≤ offset file section
    before zero h = omega (arith, (in_order file e).first)
    before (suc section) h =
        let next : offset file (section + 1) ≡ offset file (suc section) = ap (offset file) (add-one section) in
        omega (arith, before section (omega arith), (in_order file e).apart section (omega arith), sized section (omega arith))

module _ (file rest : List ℕ) (e : refusal file ≡ 0) (fits : length (packed file ++ rest) ≤ 65536) where
  abbrev whole : List ℕ
  whole = packed file ++ rest

  known : Known (version file)
  known = (accepted file e).version-known

  reads : Header (version file) (nodes file) (links file) (destinations file) whole
  unfolding packed
  reads =
      let limits = accepted file e in
      simp append_assoc (header-reads _ _ _ _ _ known limits.nodes-most limits.links-most limits.destinations-most)

  pub packed-version : version whole ≡ version file
  packed-version = reads.version-field

  same-sections : (form_of (version whole)).sections ≡ (form_of (version file)).sections
  same-sections = ap (λ v. (form_of v).sections) packed-version

  whole_length : length whole ≡ packed_size file + length rest
  whole_length = rw (length-append, packed-length file known)

  -- Each section ends where the next one begins, and the last at the packed size.
  apart : (section : ℕ) → section < (form_of (version file)).sections → section_end whole section ≤ offset whole (section + 1)
  apart section h =
      let next = place-more (version file) (nodes file) (links file) (destinations file) section (reads.section-offset section h) (reads.section-size section h) in
      ⊎_elim (λ more. omega (arith, next, reads.section-offset (section + 1) more))
      (λ last.
      let is_last : section + 1 ≡ (form_of (version file)).sections = omega arith in
      omega (arith, next, ap (place file) is_last, place_end file, whole_length, offset-past whole (section + 1) (omega (arith, same-sections))))
      (order (section + 1) (form_of (version file)).sections)

  packed-in-order : InOrder whole
  unfolding packed_size
  packed-in-order =
      let header_is : (form_of (version whole)).header ≡ (form_of (version file)).header = ap (λ v. (form_of v).header) packed-version in
      let first = place-first (version file) (nodes file) (links file) (destinations file) in
      record {
        header = omega (arith, whole_length);
        first = omega (arith, reads.section-offset 0 (omega (arith, known.some-sections)));
        apart = λ section h. apart section (omega (arith, same-sections));
      }

  -- Questions 1 to 5 pass.
  pub packed-accepted : refusal whole ≡ 0
  packed-accepted =
      let limits = accepted file e in
      let r = reads in
      let order = packed-in-order in
      let counts : CountsFit whole = omega arith in
      let sizes : SizesFit whole =
      record { each-size = λ section h. r.section-size section (omega (arith, same-sections)) ∙ rw (r.version-field, r.node-field, r.link-field, r.destination-field) } in
      let header-there = rw r.version-field at order.header in
      accepts whole (omega (arith, header-there, known.pairs, known.some-sections)) fits (rw r.version-field known) counts order sizes

  pub packed-nodes : nodes whole ≡ nodes file
  packed-nodes = nodes-field whole packed-accepted ∙ reads.node-field

  pub packed-links : links whole ≡ links file
  packed-links = links-field whole packed-accepted ∙ reads.link-field

  pub packed-destinations : destinations whole ≡ destinations file
  packed-destinations = destinations-field whole packed-accepted ∙ reads.destination-field

  -- A section stands where the header says, of the length that it says, after the header and the sections before it. One that the version does
  -- not have is empty in both files.
  pub packed-part : (section : ℕ) → part whole section ≡ part file section
  unfolding packed
  packed-part section = ⊎_elim there none (order section (form_of (version file)).sections)
    where
      there : section < (form_of (version file)).sections → part whole section ≡ part file section
      there h =
          let (later, split) = rows_split (form_of (version file)).sections (part file) section h in
          let front = header file ++ rows section (part file) in
          let whole_is : whole ≡ front ++ part file section ++ (later ++ rest) = rw split (simp append_assoc) in
          let at : offset whole section ≡ length front = reads.section-offset section h ∙ sym (study-long file known section) in
          let long : size whole section ≡ length (part file section) = reads.section-size section h ∙ sym (part_length file section) in
          rw (part-accepted whole packed-accepted section, at, long, whole_is) (part_at front (part file section) (later ++ rest))

      none : (form_of (version file)).sections ≤ section → part whole section ≡ part file section
      none h =
          no-section whole section (section-missing whole section (omega (arith, same-sections)))
          ∙ sym (no-section file section (section-missing file section h))
