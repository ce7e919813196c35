-- Questions 1 to 5 the other way round: what they ask, as facts about the numbers of a file, is enough for the file to be accepted.
use Rattle.std.specs.Prelude.{ℕ, ◌+◌, ◌≤◌, ◌≡◌, true, List, length}
use Rattle.std.proofs.Math.Dec.{leb}
use borrow.Author.Tests.{le-leb, eq-eqb}
use Rattle.study.specs.Header.{version, offset}
use Rattle.study.specs.Versions.{versions, form_of}
use Rattle.study.specs.Questions.{length_fits, version_known, counts_fit, section_end, sections_apart, sections_in_order, sizes_fit, opening, refusal}
use Rattle.study.specs.Laws.{Known, CountsFit, InOrder, SizesFit, each-intro, no-refusal}

module _ (file : List ℕ) where
  length-yes : 32 ≤ length file → length file ≤ 65536 → length_fits file ≡ true
  unfolding length_fits
  length-yes least most = rw (le-leb _ _ least, le-leb _ _ most)

  version-yes : Known (version file) → version_known file ≡ true
  unfolding version_known versions
  version-yes v = rw (le-leb _ _ v.least, le-leb _ _ v.most)

  counts-yes : CountsFit file → counts_fit file ≡ true
  unfolding counts_fit
  counts-yes c =
      rw (
        le-leb _ _ c.nodes.0,
        le-leb _ _ c.nodes.1,
        le-leb _ _ c.links.0,
        le-leb _ _ c.links.1,
        le-leb _ _ c.destinations.0,
        le-leb _ _ c.destinations.1,
        le-leb _ _ c.among-nodes,
      )

  order-yes : InOrder file → sections_in_order file ≡ true
  unfolding sections_in_order sections_apart
  order-yes o =
      rw (
        le-leb _ _ o.header,
        le-leb _ _ o.first,
        each-intro (form_of (version file)).sections (λ section. leb (section_end file section) (offset file (section + 1))) (λ section h. le-leb _ _ (o.apart section h)),
      )

  sizes-yes : SizesFit file → sizes_fit file ≡ true
  unfolding sizes_fit
  sizes-yes s = each-intro (form_of (version file)).sections _ (λ section h. eq-eqb _ _ (s.each-size section h))

  pub accepts : 32 ≤ length file → length file ≤ 65536 → Known (version file) → CountsFit file → InOrder file → SizesFit file → refusal file ≡ 0
  unfolding refusal opening
  accepts least most known counts order sizes =
      no-refusal (opening file)
      (length-yes least most, (version-yes known, (counts-yes counts, (order-yes order, (sizes-yes sizes, tt)))))
