-- What holds of the definitions beside this file, for the crates above: lists of questions, accepted files, the parts and their fields.
use Rattle.std.specs.Prelude.{ℕ, zero, suc, ◌+◌, ◌*◌, ◌-◌, ◌<◌, ◌≤◌, ◌^◌, Bool, ◌&&◌, ◌⊎◌, ◌≡◌, leb, ltb, eqb, length, get_or, take, drop, replicate}
use Rattle.std.proofs.Math.Bool.{true, false, cond, and-eq-true_iff}
use Rattle.std.proofs.Common.{true≢false, inl, inr, ⊎_elim, sym, ap, ◌∙◌, mul-le-mul_right, add-one, length-take, length-drop, get_or-take, get_or-drop, below_more}
use mathlib.Core.List.{List, [], ◌∷◌, ◌++◌}
use Rattle.std.proofs.Math.Path.{refl}
use Rattle.std.proofs.Math.Nat.{mul-le-mul_left}
use Rattle.std.proofs.Math.Decide.{dec_lt}
use native.Mathlib.Omega.{arith}
use Rattle.std.proofs.Math.Arith.{digits_lt}
use Rattle.std.proofs.Math.ListN.{get_or-eq_default}
use borrow.Author.Tests.{leb-true, ltb-true, ltb-false, lt-ltb, le-ltb, eqb-true, eqb-false, eq-eqb, ne_eqb}
use Rattle.study.specs.Bytes.{byte, u16, u32}
use Rattle.study.specs.Versions.{versions, form_of, section_size}
use Rattle.study.specs.Header.{version, node_field, link_field, destination_field, has_section, offset, size, Headed}
use Rattle.study.specs.Questions.{Question, first_no, within, length_fits, version_known, counts_fit, section_end, each_section, sections_apart, sections_in_order, sizes_fit, opening, refusal}
use Rattle.study.specs.Sections.{if_accepted, nodes, links, destinations, lorry_destinations, link_size, part, link_part, destination_part, trip_part, lorry_part}
use Rattle.study.specs.Fields.{tail, head, free_time, rise, capacity, destination, trips, HasLink, HasDestination, HasTrips}

below_or : (a b : ℕ) → (a < b) ⊎ (b ≤ a)
below_or a b = go (dec_lt a b)
  where
    go : Dec (a < b) → (a < b) ⊎ (b ≤ a)
    go (yes h) = inl h
    go (no h) = inr (omega arith)

both : (a b : Bool) → a && b ≡ true → (a ≡ true) × (b ≡ true)
both a b e = (and-eq-true_iff a b).0 e

-- ---- lists of questions

-- No question of the list has number 0, which stands for acceptance. Of a list whose numbers are written out this computes.
abbrev pub numbered : List Question → Bool
numbered [] = true
numbered (q ∷ rest) = ltb 0 q.number && numbered rest

-- Every answer of the list is yes.
abbrev pub AllYes : List Question → Type 0
AllYes [] = Unit
AllYes (q ∷ rest) = (q.yes ≡ true) × AllYes rest

append-step : (yes : Bool) (number whole front back : ℕ) → 0 < number → whole ≡ cond (eqb front 0) back front → cond yes whole number ≡ cond (eqb (cond yes front number) 0) back (cond yes front number)
append-step true number whole front back h e = e
append-step false number whole front back h e = rw (ne_eqb number 0 (λ z. omega arith))

-- The first "no" of two lists, one after the other, is that of the first list, or else that of the second.
pub first_no-append : (a b : List Question) → numbered a ≡ true → first_no (a ++ b) ≡ cond (eqb (first_no a) 0) (first_no b) (first_no a)
first_no-append [] b h = refl
first_no-append (q ∷ a) b h =
    let hs = both (ltb 0 q.number) (numbered a) h in
    append-step q.yes q.number (first_no (a ++ b)) (first_no a) (first_no b) (ltb-true 0 q.number hs.0) (first_no-append a b hs.1)

pub numbered-append : (a b : List Question) → numbered a ≡ true → numbered b ≡ true → numbered (a ++ b) ≡ true
numbered-append [] b ha hb = hb
numbered-append (q ∷ a) b ha hb =
    let hs = both (ltb 0 q.number) (numbered a) ha in
    rw hs.0 (numbered-append a b hs.1 hb)

-- Two lists, one after the other, refuse nothing only where neither does.
pub first_no-both : (a b : List Question) → numbered a ≡ true → first_no (a ++ b) ≡ 0 → (first_no a ≡ 0) × (first_no b ≡ 0)
first_no-both a b h e = by-test (eqb (first_no a) 0) refl
  where
    by-test : (t : Bool) → eqb (first_no a) 0 ≡ t → (first_no a ≡ 0) × (first_no b ≡ 0)
    by-test true z = (eqb-true _ _ z, sym (rw z at (first_no-append a b h)) ∙ e)
    by-test false z = absurd (eqb-false _ _ z (sym (rw z at (first_no-append a b h)) ∙ e))

yes-step : (yes : Bool) (number rest : ℕ) → 0 < number → cond yes rest number ≡ 0 → (yes ≡ true) × (rest ≡ 0)
yes-step true number rest h e = (refl, e)
yes-step false number rest h e = absurd (omega arith)

pub all_yes : (qs : List Question) → numbered qs ≡ true → first_no qs ≡ 0 → AllYes qs
all_yes [] h e = tt
all_yes (q ∷ rest) h e =
    let hs = both (ltb 0 q.number) (numbered rest) h in
    let r = yes-step q.yes q.number (first_no rest) (ltb-true 0 q.number hs.0) e in
    (r.0, all_yes rest hs.1 r.1)

pub no-refusal : (qs : List Question) → AllYes qs → first_no qs ≡ 0
no-refusal [] y = refl
no-refusal (q ∷ rest) y = rw y.0 (no-refusal rest y.1)

-- ---- what each question says

pub within-true : (least most x : ℕ) → within least most x ≡ true → (least ≤ x) × (x ≤ most)
within-true least most x e =
    let h = both (leb least x) (leb x most) e in
    (leb-true least x h.0, leb-true x most h.1)

pub length-fits : (file : List ℕ) → length_fits file ≡ true → (32 ≤ length file) × (length file ≤ 65536)
unfolding length_fits
length-fits file e = within-true 32 65536 (length file) e

-- What the table of versions says of a version.
pub record Known (version : ℕ) : Type 0 where
  pub least : 1 ≤ version
  pub most : version ≤ 4
  -- version and counts, and a pair for each section
  pub pairs : (form_of version).header ≡ 8 + 8 * (form_of version).sections
  pub some-sections : (3 ≤ (form_of version).sections) × ((form_of version).sections ≤ 6)
  pub link-bytes : (10 ≤ (form_of version).link) × ((form_of version).link ≤ 12)

pub known : (v : ℕ) → 1 ≤ v → v ≤ 4 → Known v
unfolding versions form_of
known zero least most = absurd (omega arith)
known (suc zero) least most = record { least = least; most = most; pairs = refl; some-sections = (omega arith, omega arith); link-bytes = (omega arith, omega arith) }
known (suc (suc zero)) least most = record { least = least; most = most; pairs = refl; some-sections = (omega arith, omega arith); link-bytes = (omega arith, omega arith) }
known (suc (suc (suc zero))) least most = record { least = least; most = most; pairs = refl; some-sections = (omega arith, omega arith); link-bytes = (omega arith, omega arith) }
known (suc (suc (suc (suc zero)))) least most = record { least = least; most = most; pairs = refl; some-sections = (omega arith, omega arith); link-bytes = (omega arith, omega arith) }
known (suc (suc (suc (suc (suc v))))) least most = absurd (omega arith)

-- (A.5) A link of versions 1 and 2 has no room for a power.
pub no-powers : (v : ℕ) → v < 3 → (form_of v).link < 12
unfolding versions form_of
no-powers zero h = omega arith
no-powers (suc zero) h = omega arith
no-powers (suc (suc zero)) h = omega arith
no-powers (suc (suc (suc v))) h = absurd (omega arith)

-- (A.7) Version 4 has lorry trips, and those before it have none.
few-sections : (v : ℕ) → v < 4 → (form_of v).sections ≤ 4
unfolding versions form_of
few-sections zero h = omega arith
few-sections (suc zero) h = omega arith
few-sections (suc (suc zero)) h = omega arith
few-sections (suc (suc (suc zero))) h = omega arith
few-sections (suc (suc (suc (suc v)))) h = absurd (omega arith)

pub has-lorries : (file : List ℕ) → version file ≡ 4 → lorry_destinations file ≡ destinations file
unfolding lorry_destinations has_section versions form_of
has-lorries file e = rw e

pub no-lorries : (file : List ℕ) → version file < 4 → lorry_destinations file ≡ 0
unfolding lorry_destinations has_section
no-lorries file e = rw (le-ltb 4 (form_of (version file)).sections (few-sections (version file) e))

-- A file that has its header has the pair of each of its sections.
pub pair-there : (file : List ℕ) (section : ℕ) → Headed file → has_section file section ≡ true → 16 + 8 * section ≤ length file
unfolding has_section
pair-there file section h e =
    omega (arith, known (version file) h.version-least h.version-most, h.header-there, ltb-true section _ e)

pub version-known : (file : List ℕ) → version_known file ≡ true → Known (version file)
unfolding version_known versions
version-known file e = let range = within-true 1 4 (version file) e in known (version file) range.0 range.1

-- A file that questions 1 and 2 pass is one that a reader of the header asks for, once the header is there; question 4 asks that first.
pub headed-by : (file : List ℕ) → length_fits file ≡ true → version_known file ≡ true → (form_of (version file)).header ≤ length file → Headed file
headed-by file yes-1 yes-2 there =
    let lengths = length-fits file yes-1 in
    let range = version-known file yes-2 in
    record {
      version-least = range.least;
      version-most = range.most;
      header-there = there;
      length-least = lengths.0;
      length_most = lengths.1;
    }

pub record CountsFit (file : List ℕ) : Type 0 where
  pub nodes : (2 ≤ node_field file) × (node_field file ≤ 128)
  pub links : (1 ≤ link_field file) × (link_field file ≤ 512)
  pub destinations : (1 ≤ destination_field file) × (destination_field file ≤ 32)
  pub among-nodes : destination_field file ≤ node_field file

pub counts-fit : (file : List ℕ) → counts_fit file ≡ true → CountsFit file
unfolding counts_fit
counts-fit file e =
    let nmp = both _ _ e in
    let nm = both _ _ nmp.0 in
    let n = both _ _ nm.0 in
    record {
      nodes = within-true 2 128 (node_field file) n.0;
      links = within-true 1 512 (link_field file) n.1;
      destinations = within-true 1 32 (destination_field file) nm.1;
      among-nodes = leb-true _ _ nmp.1;
    }

-- A test of each of the first sections says what it says of each.
pub each-elim : (count : ℕ) (test : ℕ → Bool) → each_section count test ≡ true → (section : ℕ) → section < count → test section ≡ true
unfolding each_section
each-elim zero test e section h = absurd (omega arith)
each-elim (suc count) test e section h =
    let parts = both (each_section count test) (test count) e in
    below_more (λ i. test i ≡ true) count (each-elim count test parts.0) parts.1 section (omega arith)

pub each-intro : (count : ℕ) (test : ℕ → Bool) → ((section : ℕ) → section < count → test section ≡ true) → each_section count test ≡ true
unfolding each_section
each-intro zero test each = refl
each-intro (suc count) test each = rw (each-intro count test (λ i h. each i (omega arith)), each count (omega arith))

-- One section more.
pub each_more : (count : ℕ) (test : ℕ → Bool) → each_section count test ≡ true → test count ≡ true → each_section (count + 1) test ≡ true
unfolding each_section
each_more count test before here = rw add-one (rw (before, here))

pub each-no : (count : ℕ) (test : ℕ → Bool) (section : ℕ) → section < count → test section ≡ false → each_section count test ≡ false
each-no count test section h unfit = by-test (each_section count test) refl
  where
    by-test : (t : Bool) → each_section count test ≡ t → each_section count test ≡ false
    by-test true e = absurd (true≢false (sym (each-elim count test e section h) ∙ unfit))
    by-test false e = e

pub record InOrder (file : List ℕ) : Type 0 where
  pub header : (form_of (version file)).header ≤ length file
  pub first : (form_of (version file)).header ≤ offset file 0
  pub apart : (section : ℕ) → section < (form_of (version file)).sections → section_end file section ≤ offset file (section + 1)

pub sections-in-order : (file : List ℕ) → sections_in_order file ≡ true → InOrder file
unfolding sections_in_order sections_apart
sections-in-order file e =
    let parts = both _ _ e in
    let header = both _ _ parts.0 in
    record {
      header = leb-true _ _ header.0;
      first = leb-true _ _ header.1;
      apart = λ section h. leb-true _ _ (each-elim (form_of (version file)).sections _ parts.1 section h);
    }

-- A section that the version does not have is empty, at the end of the file.
module _ (file : List ℕ) (section : ℕ) (past : (form_of (version file)).sections ≤ section) where
  pub section-missing : has_section file section ≡ false
  unfolding has_section
  section-missing = le-ltb section (form_of (version file)).sections past

  pub offset-past : offset file section ≡ length file
  unfolding offset
  offset-past = rw section-missing

  pub size-past : size file section ≡ 0
  unfolding size
  size-past = rw section-missing

-- So every section ends within the file.
ends-from : (file : List ℕ) → InOrder file → (count section : ℕ) → section + count ≡ (form_of (version file)).sections → offset file section ≤ length file
ends-from file order zero section e = omega (arith, offset-past file section (omega arith))
ends-from file order (suc count) section e =
    omega (arith, order.apart section (omega arith), ends-from file order count (section + 1) (omega arith))

pub ends-within : (file : List ℕ) (section : ℕ) → InOrder file → section_end file section ≤ length file
ends-within file section order = ⊎_elim there missing (below_or section (form_of (version file)).sections)
  where
    there : section < (form_of (version file)).sections → section_end file section ≤ length file
    there h =
        omega (
          arith,
          order.apart section h,
          ends-from file order ((form_of (version file)).sections - (section + 1)) (section + 1) (omega arith),
        )

    missing : (form_of (version file)).sections ≤ section → section_end file section ≤ length file
    missing h = omega (arith, offset-past file section h, size-past file section h)

pub record SizesFit (file : List ℕ) : Type 0 where
  pub each-size : (section : ℕ) → section < (form_of (version file)).sections →
      size file section ≡ section_size (version file) (node_field file) (link_field file) (destination_field file) section

pub sizes-fit : (file : List ℕ) → sizes_fit file ≡ true → SizesFit file
unfolding sizes_fit
sizes-fit file e =
    record { each-size = λ section h. eqb-true _ _ (each-elim (form_of (version file)).sections _ e section h) }

-- A study without nodes, links and destinations has empty sections,
no-sizes : (v section : ℕ) → section_size v 0 0 0 section ≡ 0
unfolding section_size
no-sizes v section = either (ltb section (form_of v).sections)
  where
    zeros : (count i : ℕ) → get_or {A = ℕ} (replicate count 0) i 0 ≡ 0
    zeros zero i = refl
    zeros (suc count) zero = refl
    zeros (suc count) (suc i) = zeros count i

    entry : (i : ℕ) → get_or ((form_of v).link * 0 ∷ 0 ∷ 0 ∷ 0 ∷ 0 ∷ 0 ∷ []) i 0 ≡ 0
    entry zero = omega arith
    entry (suc i) = zeros 5 i

    either : (t : Bool) → cond t (get_or ((form_of v).link * 0 ∷ 0 ∷ 0 ∷ 0 ∷ 0 ∷ 0 ∷ []) section 0) 0 ≡ 0
    either true = entry section
    either false = refl

-- and so has a version without that section.
pub size_none : (v n m p section : ℕ) → (form_of v).sections ≤ section → section_size v n m p section ≡ 0
unfolding section_size
size_none v n m p section past = rw (le-ltb section (form_of v).sections past)

pub size-there : (v n m p section : ℕ) → section < (form_of v).sections →
    section_size v n m p section ≡ get_or ((form_of v).link * m ∷ 2 * p ∷ 2 * p * n ∷ n ∷ 2 * p * n ∷ m ∷ []) section 0
unfolding section_size
size-there v n m p section h = rw (lt-ltb section (form_of v).sections h)

-- The sections of trips.
pub size-trips : (v n m p section : ℕ) → section < (form_of v).sections → (form_of v).sections ≤ 6 →
    (section ≡ 0 → ⊥) → (section ≡ 1 → ⊥) → (section ≡ 3 → ⊥) → (section ≡ 5 → ⊥) → section_size v n m p section ≡ 2 * p * n
size-trips v n m p section h most zero' one three five = size-there v n m p section h ∙ entry section (omega arith) zero' one three five
  where
    entry : (i : ℕ) → i < 6 → (i ≡ 0 → ⊥) → (i ≡ 1 → ⊥) → (i ≡ 3 → ⊥) → (i ≡ 5 → ⊥) →
        get_or ((form_of v).link * m ∷ 2 * p ∷ 2 * p * n ∷ n ∷ 2 * p * n ∷ m ∷ []) i 0 ≡ 2 * p * n
    entry zero b z o t f = absurd (z refl)
    entry (suc zero) b z o t f = absurd (o refl)
    entry (suc (suc zero)) b z o t f = refl
    entry (suc (suc (suc zero))) b z o t f = absurd (t refl)
    entry (suc (suc (suc (suc zero)))) b z o t f = refl
    entry (suc (suc (suc (suc (suc zero))))) b z o t f = absurd (f refl)
    entry (suc (suc (suc (suc (suc (suc i)))))) b z o t f = absurd (omega arith)

-- ---- accepted files

pub opening-numbered : (file : List ℕ) → numbered (opening file) ≡ true
unfolding opening
opening-numbered file = refl

-- A list of questions that begins with questions 1 to 5 refuses a file as these do, and else as the rest of the list does.
pub after-opening : (file : List ℕ) (more : List Question) → first_no (opening file ++ more) ≡ cond (eqb (refusal file) 0) (first_no more) (refusal file)
unfolding opening refusal
after-opening file more = first_no-append (opening file) more refl

pub opening-both : (file : List ℕ) (more : List Question) → first_no (opening file ++ more) ≡ 0 → (refusal file ≡ 0) × (first_no more ≡ 0)
unfolding opening refusal
opening-both file more e = first_no-both (opening file) more refl e

module _ {A : Type 0} (file : List ℕ) (value other : A) where
  pub value-accepted : refusal file ≡ 0 → if_accepted file value other ≡ value
  value-accepted e = rw (eq-eqb (refusal file) 0 e)

  pub value-refused : (refusal file ≡ 0 → ⊥) → if_accepted file value other ≡ other
  value-refused refused = rw (ne_eqb (refusal file) 0 refused)

-- All that the crates above need of an accepted file's version, length and counts.
pub record Accepted (file : List ℕ) : Type 0 where
  pub version-known : Known (version file)
  pub length-least : 32 ≤ length file
  pub length_most : length file ≤ 65536
  pub nodes-least : 2 ≤ nodes file
  pub nodes-most : nodes file ≤ 128
  pub links-least : 1 ≤ links file
  pub links-most : links file ≤ 512
  pub destinations-least : 1 ≤ destinations file
  pub destinations-most : destinations file ≤ 32
  pub destinations-nodes : destinations file ≤ nodes file

module _ (file : List ℕ) (e : refusal file ≡ 0) where
  answers : AllYes (opening file)
  unfolding opening refusal
  answers = all_yes (opening file) refl e

  counts : CountsFit file
  unfolding opening
  counts = counts-fit file answers.1.1.0

  known-version : Known (version file)
  unfolding opening
  known-version = version-known file answers.1.0

  pub in_order : InOrder file
  unfolding opening
  in_order = sections-in-order file answers.1.1.1.0

  sizes : SizesFit file
  unfolding opening
  sizes = sizes-fit file answers.1.1.1.1.0

  pub nodes-field : nodes file ≡ node_field file
  unfolding nodes
  nodes-field = value-accepted file (node_field file) 0 e

  pub links-field : links file ≡ link_field file
  unfolding links
  links-field = value-accepted file (link_field file) 0 e

  pub destinations-field : destinations file ≡ destination_field file
  unfolding destinations
  destinations-field = value-accepted file (destination_field file) 0 e

  pub accepted : Accepted file
  unfolding opening
  accepted =
      let fits = length-fits file answers.0 in
      record {
        version-known = known-version;
        length-least = fits.0;
        length_most = fits.1;
        nodes-least = omega (arith, nodes-field, counts);
        nodes-most = omega (arith, nodes-field, counts);
        links-least = omega (arith, links-field, counts);
        links-most = omega (arith, links-field, counts);
        destinations-least = omega (arith, destinations-field, counts);
        destinations-most = omega (arith, destinations-field, counts);
        destinations-nodes = omega (arith, destinations-field, nodes-field, counts);
      }

  pub headed : Headed file
  unfolding opening
  headed = headed-by file answers.0 answers.1.0 in_order.header

  pub part-accepted : (section : ℕ) → part file section ≡ take (size file section) (drop (offset file section) file)
  unfolding part
  part-accepted section = value-accepted file (take (size file section) (drop (offset file section) file)) [] e

  part-size : (section : ℕ) → length (part file section) ≡ size file section
  part-size section =
      let within = ends-within file section in_order in
      rw (part-accepted section) (simp (length-take, length-drop) (omega arith))

  -- Each part has the length that the version gives it.
  part-sized : (section : ℕ) → length (part file section) ≡ section_size (version file) (nodes file) (links file) (destinations file) section
  part-sized section =
      part-size section
      ∙ ⊎_elim
      (λ h. sizes.each-size section h ∙ rw (nodes-field, links-field, destinations-field))
      (λ h. size-past file section h ∙ sym (size_none (version file) (nodes file) (links file) (destinations file) section h))
      (below_or section (form_of (version file)).sections)

-- ---- the parts and their fields, of any file: a refused file has counts 0 and empty parts

module _ (file : List ℕ) where
  by_answer : {A : Type 0} → (refusal file ≡ 0 → A) → ((refusal file ≡ 0 → ⊥) → A) → A
  by_answer {A} yes' no' = by-test (eqb (refusal file) 0) refl
    where
      by-test : (t : Bool) → eqb (refusal file) 0 ≡ t → A
      by-test true e = yes' (eqb-true _ _ e)
      by-test false e = no' (eqb-false _ _ e)

  pub nodes-refused : (refusal file ≡ 0 → ⊥) → nodes file ≡ 0
  unfolding nodes
  nodes-refused refused = value-refused file (node_field file) 0 refused

  pub links-refused : (refusal file ≡ 0 → ⊥) → links file ≡ 0
  unfolding links
  links-refused refused = value-refused file (link_field file) 0 refused

  pub destinations-refused : (refusal file ≡ 0 → ⊥) → destinations file ≡ 0
  unfolding destinations
  destinations-refused refused = value-refused file (destination_field file) 0 refused

  pub part-refused : (section : ℕ) → (refusal file ≡ 0 → ⊥) → part file section ≡ []
  unfolding part
  part-refused section refused = value-refused file (take (size file section) (drop (offset file section) file)) [] refused

  -- No part is longer than the file.
  pub part-most : (section : ℕ) → length (part file section) ≤ length file
  part-most section =
      by_answer (λ e. rw (part-accepted file e section) (simp (length-take, length-drop) (omega arith)))
      (λ refused. rw (part-refused section refused) (omega arith))

  pub part_length : (section : ℕ) → length (part file section) ≡ section_size (version file) (nodes file) (links file) (destinations file) section
  part_length section =
      by_answer (λ e. part-sized file e section)
      (λ refused.
      rw (part-refused section refused, nodes-refused refused, links-refused refused, destinations-refused refused)
      (sym (no-sizes (version file) section)))

  -- The first three sections are in every version.
  first-length : (section : ℕ) → section < 3 →
      (refusal file ≡ 0 → ⊥) ⊎ (length (part file section) ≡ get_or (link_size file * links file ∷ 2 * destinations file ∷ 2 * destinations file * nodes file ∷ []) section 0)
  first-length section h =
      by_answer
      (λ e.
      inr
      (part_length section
      ∙ size-there (version file) (nodes file) (links file) (destinations file) section (omega (arith, (known-version file e).some-sections))
      ∙ first_three section h))
      inl
    where
      first_three : (i : ℕ) → i < 3 →
          get_or (link_size file * links file ∷ 2 * destinations file ∷ 2 * destinations file * nodes file ∷ nodes file ∷ 2 * destinations file * nodes file ∷ links file ∷ []) i 0
          ≡ get_or (link_size file * links file ∷ 2 * destinations file ∷ 2 * destinations file * nodes file ∷ []) i 0
      first_three zero b = refl
      first_three (suc zero) b = refl
      first_three (suc (suc zero)) b = refl
      first_three (suc (suc (suc i))) b = absurd (omega arith)

  pub link-length : length (link_part file) ≡ link_size file * links file
  link-length =
      ⊎_elim (λ refused. rw (part-refused 0 refused, links-refused refused) (omega arith)) (λ e. e) (first-length 0 (omega arith))

  -- A link has at least ten bytes.
  pub link-bytes-least : 10 * links file ≤ length (link_part file)
  link-bytes-least =
      by_answer (λ e. rw link-length (mul-le-mul_right (links file) (known-version file e).link-bytes.0))
      (λ refused. omega (arith, links-refused refused))

  pub destination-length : length (destination_part file) ≡ 2 * destinations file
  destination-length =
      ⊎_elim (λ refused. omega (arith, ap length (part-refused 1 refused), destinations-refused refused)) (λ e. e) (first-length 1 (omega arith))

  pub trip-length : length (trip_part file) ≡ 2 * destinations file * nodes file
  trip-length =
      ⊎_elim (λ refused. rw (part-refused 2 refused, destinations-refused refused) (omega arith)) (λ e. e) (first-length 2 (omega arith))

  -- (A.7) There are lorry trips to every destination, or to none.
  pub lorry-length : length (lorry_part file) ≡ 2 * lorry_destinations file * nodes file
  unfolding lorry_destinations has_section section_size
  lorry-length = part_length 4 ∙ either (ltb 4 (form_of (version file)).sections)
    where
      either : (t : Bool) → cond t (2 * destinations file * nodes file) 0 ≡ 2 * cond t (destinations file) 0 * nodes file
      either true = refl
      either false = omega arith

  -- A section that the version does not have is empty.
  pub no-section : (section : ℕ) → has_section file section ≡ false → part file section ≡ []
  unfolding part size
  no-section section e = rw e (either (eqb (refusal file) 0))
    where
      either : (t : Bool) → cond t (take 0 (drop (offset file section) file)) [] ≡ []
      either true = refl
      either false = refl

  pub has-link : (link : ℕ) → link < links file → HasLink (link_part file) (link_size file) link
  unfolding HasLink
  has-link link h =
      by_answer (λ e. ((known-version file e).link-bytes.0, omega (arith, link-length, mul-le-mul_left {m = link + 1} {n = links file} (link_size file) (omega arith))))
      (λ refused. absurd (omega (arith, links-refused refused)))

  pub has-destination : (k : ℕ) → k < destinations file → HasDestination (destination_part file) k
  unfolding HasDestination
  has-destination k h = omega (arith, destination-length)

  pub has-trips : (k node : ℕ) → k < destinations file → node < nodes file → HasTrips (trip_part file) (nodes file) k node
  unfolding HasTrips
  has-trips k node hk hn = omega (arith, trip-length, digits_lt hk hn)

  pub has-lorry-trips : (k node : ℕ) → k < lorry_destinations file → node < nodes file → HasTrips (lorry_part file) (nodes file) k node
  unfolding HasTrips
  has-lorry-trips k node hk hn = omega (arith, lorry-length, digits_lt hk hn)

-- ---- ranges

-- Every element of a list of bytes is below 256. A slice of u8 holds such a list.
abbrev pub AreBytes : List ℕ → Type 0
AreBytes bytes = (at : ℕ) → byte bytes at < 256

take-bytes : (n : ℕ) (bytes : List ℕ) → AreBytes bytes → AreBytes (take n bytes)
take-bytes n bytes h at = by-test (ltb at n) refl
  where
    by-test : (t : Bool) → ltb at n ≡ t → byte (take n bytes) at < 256
    by-test true e = rw (get_or-take n bytes at 0 (ltb-true at n e)) (h at)
    by-test false e =
        rw (get_or-eq_default (take n bytes) 0 {n = at} (omega (arith, length-take n bytes, ltb-false at n e))) (omega arith)

pub part_bytes : (file : List ℕ) (section : ℕ) → AreBytes file → AreBytes (part file section)
part_bytes file section h at =
    by_answer file
    (λ e. rw (part-accepted file e section) (take-bytes (size file section) (drop (offset file section) file) (λ i. rw get_or-drop (h (offset file section + i))) at))
    (λ refused. rw (part-refused file section refused) (omega arith))

pub u16-range : (bytes : List ℕ) → AreBytes bytes → (at : ℕ) → u16 bytes at < 65536
unfolding u16
u16-range bytes h at = omega (arith, h at, h (at + 1))

pub u32-range : (bytes : List ℕ) → AreBytes bytes → (at : ℕ) → u32 bytes at < 2 ^ 32
unfolding u32
u32-range bytes h at = omega (arith, u16-range bytes h at, u16-range bytes h (at + 2))

-- So each field of a section of bytes is below 65536.
pub record LinkRanges (link_bytes : List ℕ) (link_size link : ℕ) : Type 0 where
  pub tail-range : tail link_bytes link_size link < 65536
  pub head-range : head link_bytes link_size link < 65536
  pub free_time-range : free_time link_bytes link_size link < 65536
  pub rise-range : rise link_bytes link_size link < 65536
  pub capacity-range : capacity link_bytes link_size link < 65536

module _ (bytes : List ℕ) (h : AreBytes bytes) where
  pub link-ranges : (link_size link : ℕ) → LinkRanges bytes link_size link
  unfolding tail head free_time rise capacity
  link-ranges link_size link =
      record {
        tail-range = u16-range bytes h (link_size * link);
        head-range = u16-range bytes h (link_size * link + 2);
        free_time-range = u16-range bytes h (link_size * link + 4);
        rise-range = u16-range bytes h (link_size * link + 6);
        capacity-range = u16-range bytes h (link_size * link + 8);
      }

  pub destination-range : (k : ℕ) → destination bytes k < 65536
  unfolding destination
  destination-range k = u16-range bytes h (2 * k)

  pub trips-range : (n k node : ℕ) → trips bytes n k node < 65536
  unfolding trips
  trips-range n k node = u16-range bytes h (2 * (k * n + node))
