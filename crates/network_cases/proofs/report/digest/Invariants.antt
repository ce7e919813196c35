-- The digest so far is below its modulus.
use Rattle.std.proofs.Common.{◌<◌}
use Rattle.network_cases.proofs.report.digest.Given as goal

abbrev pub invariant-loop-byte : goal.invariant-loop-byte
invariant-loop-byte l = l.sum < 1000003
