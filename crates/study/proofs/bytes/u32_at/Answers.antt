-- `study::bytes::u32_at` meets its contract: two numbers below 65,536 make one below 2 ^ 32.
use borrow.Author.Rules.{rules}
use Rattle.study.specs.Bytes.{u32}
use Rattle.study.proofs.bytes.u32_at.Goals as goal

pub returns : goal.returns
unfolding u32
returns c = search rules
