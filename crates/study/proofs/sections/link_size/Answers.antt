-- `study::link_size` meets its contract: an accepted file has a version of the table.
use mathlib.Core.Path.{◌∙◌, ap}
use native.Mathlib.Omega.{arith}
use Rattle.study.specs.Versions.{form_of}
use Rattle.study.specs.Laws.{accepted}
use Rattle.study.proofs.sections.link_size.Goals as goal

pub version-requires : goal.version-requires
version-requires c = (accepted _ c.requires).length-least

pub form_of-requires : goal.form_of-requires
form_of-requires c =
    let v = (accepted _ c.requires).version-known in
    (omega (arith, v, c.version.ensures), omega (arith, v, c.version.ensures))

pub returns : goal.returns
returns c = ap (λ f. f.link) c.form_of.ensures ∙ ap (λ v. (form_of v).link) c.version.ensures
