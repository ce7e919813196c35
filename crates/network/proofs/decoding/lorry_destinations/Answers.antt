-- `network::decoding::lorry_destinations` meets its contract.
use borrow.Author.Tests.{lt-ltb, le-ltb}
use mathlib.Core.Path.{◌∙◌}
use Rattle.study.specs.Header.{has_section}
use Rattle.study.specs.Laws.{accepted}
use Rattle.study.specs.Sections.{lorry_destinations}
use Rattle.network.proofs.decoding.lorry_destinations.Goals as goal

pub version-version-requires : goal.version-version-requires
version-version-requires c = (accepted _ c.requires.0).length-least

pub form_of-requires : goal.form_of-requires
form_of-requires c =
    let known = (accepted _ c.requires.0).version-known in
    rw c.version-version.ensures (known.least, known.most)

pub returns-then-form_of-gt-LORRY_TRIPS : goal.returns-then-form_of-gt-LORRY_TRIPS
unfolding lorry_destinations has_section
returns-then-form_of-gt-LORRY_TRIPS c =
    let some = rw (c.form_of.ensures, c.version-version.ensures) at c.if-form_of-gt-LORRY_TRIPS.true in
    c.requires.1 ∙ rw (lt-ltb _ _ some)

pub returns : goal.returns
unfolding lorry_destinations has_section
returns c =
    let none = rw (c.form_of.ensures, c.version-version.ensures) at c.if-form_of-gt-LORRY_TRIPS.false in
    rw (le-ltb _ _ none)
