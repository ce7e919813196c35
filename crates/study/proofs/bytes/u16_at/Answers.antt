-- `study::bytes::u16_at` meets its contract: two bytes below 256 make a number below 65,536.
use borrow.Author.Rules.{rules}
use Rattle.study.specs.Bytes.{u16}
use Rattle.study.proofs.bytes.u16_at.Goals as goal

pub returns : goal.returns
unfolding u16
returns c = search rules
