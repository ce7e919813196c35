-- The two halves of question 8: the destinations are below n, and they ascend.
use Rattle.std.specs.Prelude.{ℕ, ◌+◌, ◌-◌, Bool, List, ltb, length, get_or}
use Rattle.theory.specs.Finite.{all}

unfoldable pub all_nodes : ℕ → List ℕ → Bool
all_nodes nodes destinations = all (length destinations) (λ k. ltb (get_or destinations k 0) nodes)

unfoldable pub all_ascending : List ℕ → Bool
all_ascending destinations = all (length destinations - 1) (λ k. ltb (get_or destinations k 0) (get_or destinations (k + 1) 0))
