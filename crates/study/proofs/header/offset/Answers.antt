-- `study::header::offset` meets its contract: of a section that the version has the field is the u32 at its place, which the header holds.
use borrow.Author.Rules.{rules}
use native.Mathlib.Omega.{arith}
use Rattle.study.specs.Header.{offset}
use Rattle.study.specs.Laws.{pair-there}
use Rattle.study.proofs.Flags.{was-yes, was-no}
use Rattle.study.proofs.header.offset.Goals as goal

pub returns-then-not-has_section : goal.returns-then-not-has_section
unfolding offset
returns-then-not-has_section c = (rw (was-no c.has_section.ensures c.if-not-has_section.true), search rules)

pub u32_at-requires : goal.u32_at-requires
u32_at-requires c =
    omega (arith, pair-there _ _ c.requires.0 (was-yes c.has_section.ensures c.if-not-has_section.false))

pub returns : goal.returns
unfolding offset
returns c =
    (rw (was-yes c.has_section.ensures c.if-not-has_section.false) c.u32_at.ensures.0, c.u32_at.ensures.1)
