-- A link below the count has its bytes.
use Rattle.std.proofs.Common.{arith}
use Rattle.study.specs.Laws.{has-link}
use Rattle.study_cases.proofs.fields.link.Goals as goal

pub link_fields-requires : goal.link_fields-requires
link_fields-requires g c = rw (c.links.ensures, c.link_size.ensures) (has-link _ _ (omega arith))
