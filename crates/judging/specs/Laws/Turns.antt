-- How a turn of a run goes on.
use Rattle.std.specs.Prelude.{ℕ, ◌*◌, ◌≤◌, ◌<◌, ◌≡◌, Bool, true, false, List, leb}
use Rattle.std.proofs.Common.{arith, le-leb}
use Rattle.std.proofs.lemmas.Bool.{lt-leb}
use Rattle.theory.specs.Network.{Network}
use Rattle.theory.specs.Cost.{gap}
use Rattle.theory.specs.Moves.{moves}
use Rattle.judging.specs.declared.Step.TheVariants as step
use Rattle.judging.specs.Study.{move_of, step_of}

module _ (g : Network) (table : List ℕ) (share limit : ℕ) (last : Bool) {gap' : ℕ} (gap_is : gap' ≡ gap g share table) where
  pub reached : gap' ≤ limit * share → step.Reached ≡ step_of g table share limit last
  unfolding step_of
  reached h = rw (le-leb (gap g share table) (limit * share) (omega arith))

  module _ (above : limit * share < gap') where
    goes_on : leb (gap g share table) (limit * share) ≡ false
    goes_on = lt-leb (gap g share table) (limit * share) (omega arith)

    pub finest : moves (move_of g table share) ≡ false → step.Finest ≡ step_of g table share limit last
    unfolding step_of
    finest e = rw (goes_on, e)

    pub spent : moves (move_of g table share) ≡ true → last ≡ true → step.Spent ≡ step_of g table share limit last
    unfolding step_of
    spent e f = rw (goes_on, e, f)

    pub moved : moves (move_of g table share) ≡ true → last ≡ false → step.Moved ≡ step_of g table share limit last
    unfolding step_of
    moved e f = rw (goes_on, e, f)
