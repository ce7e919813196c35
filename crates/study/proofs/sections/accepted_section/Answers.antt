-- `study::accepted_section` meets its contract: of an accepted file every section ends within the file.
use mathlib.Core.Path.{◌≡◌, sym}
use native.Mathlib.Omega.{arith}
use Prim.Native.Nat.{◌-◌}
use Rattle.study.specs.Header.{size}
use Rattle.study.specs.Laws.{headed, in_order, ends-within, part-accepted}
use Rattle.study.proofs.sections.accepted_section.Goals as goal

pub offset-start-requires : goal.offset-start-requires
offset-start-requires c = (headed _ c.requires.0, omega arith)

pub section_end-end-requires : goal.section_end-end-requires
section_end-end-requires c = (headed _ c.requires.0, omega arith)

pub slice_bounds-result-end : goal.slice_bounds-result-end
slice_bounds-result-end c =
    omega (arith, ends-within c.args.file.now c.args.number (in_order _ c.requires.0))

pub returns : goal.returns
returns c =
    let length-is : c.section_end-end.result - c.offset-start.result ≡ size c.args.file.now c.args.number = omega arith in
    rw (length-is, c.offset-start.ensures.0) (sym (part-accepted _ c.requires.0 _))
