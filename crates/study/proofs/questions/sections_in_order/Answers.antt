-- `study::questions::sections_in_order` meets its contract: the rest of the file is read where the code finds the header to be there.
use borrow.Author.Rules.{rules}
use borrow.Author.Tests.{le-leb, lt-leb}
use mathlib.Core.Path.{◌≡◌}
use native.Mathlib.Omega.{arith}
use Rattle.study.specs.Header.{version, Headed}
use Rattle.study.specs.Laws.{length-fits, version-known, headed-by}
use Rattle.study.specs.Questions.{sections_in_order}
use Rattle.study.specs.Versions.{form_of}
use Rattle.study.proofs.questions.sections_in_order.Goals as goal
use Rattle.study.proofs.questions.sections_in_order.Goals.{After-form_of-header, Else-file-header}

pub version-requires : goal.version-requires
version-requires c = (length-fits _ c.requires.0).0

pub form_of-header-requires : goal.form_of-header-requires
form_of-header-requires c =
    let known = version-known _ c.requires.1 in
    (omega arith, omega arith)

header_is : (c : After-form_of-header) → c.form_of-header.result.header ≡ (form_of (version c.args.file.now)).header
header_is c = cc

pub returns-then-file-header : goal.returns-then-file-header
unfolding sections_in_order
returns-then-file-header c = rw (← header_is (goal.at.returns-then-file-header c).After-form_of-header, lt-leb _ _ c.if-file-header.true)

-- the header that the file's version wants is there
headed : (c : Else-file-header) → Headed c.args.file.now
headed c =
    let wanted : c.form_of-header.result.header ≡ (form_of (version c.args.file.now)).header = cc in
    headed-by _ c.requires.0 c.requires.1 (rw (← wanted) c.if-file-header.false)

pub offset-requires : goal.offset-requires
offset-requires c = (headed (goal.at.offset-requires c).Else-file-header, search rules)

pub sections_apart-requires : goal.sections_apart-requires
sections_apart-requires c = headed (goal.at.sections_apart-requires c).Else-file-header

pub returns-then-header-offset : goal.returns-then-header-offset
unfolding sections_in_order
returns-then-header-offset c =
    rw (← header_is (goal.at.returns-then-header-offset c).After-form_of-header, le-leb _ _ c.if-file-header.false, ← c.offset.ensures.0, le-leb _ _ c.if-header-offset.true) c.sections_apart.ensures

pub returns-else-header-offset : goal.returns-else-header-offset
unfolding sections_in_order
returns-else-header-offset c =
    rw (← header_is (goal.at.returns-else-header-offset c).After-form_of-header, le-leb _ _ c.if-file-header.false, ← c.offset.ensures.0, lt-leb _ _ c.if-header-offset.false)
