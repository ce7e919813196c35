-- The chain tests the first m totals one by one, as the definition does.
use Rattle.std.proofs.Common.{◌≡◌, ℕ, zero, suc, ◌≤◌, Bool, ◌&&◌, leb, List, length, get_or, take, refl, sym, ◌∙◌, ap, add-one, arith, rules}
use borrow.Author.Tests.{tests}
use Rattle.std.proofs.lemmas.Iterator.{YieldsList-from_slice}
use Rattle.std.proofs.lemmas.Iterator.Search.{all_from_yields_List}
use Rattle.std.proofs.lemmas.List.Folds.{list_all_more}
use Rattle.std.specs.List.{list_all}
use Rattle.theory.specs.Finite.{all}
use Rattle.travel.specs.Links.{list_fits}
use Rattle.travel.proofs.table.totals_fit.Goals as goal

tested : (m : ℕ) (xs : List ℕ) (test : ℕ → Bool) → m ≤ length xs → list_all test (take m xs) ≡ all m (λ l. test (get_or xs l 0))
unfolding all
tested zero xs test h = refl
tested (suc m) xs test h =
    ap (λ n. list_all test (take n xs)) (sym (add-one m))
    ∙ list_all_more test xs m 0 h ∙ ap (λ b. b && test (get_or xs m 0)) (tested m xs test (omega arith))

pub returns : goal.returns
unfolding list_fits
returns c =
    let x = c.args in
    all_from_yields_List (λ y. leb y x.limit) _ _ _ c.all.ensures.ran (YieldsList-from_slice (take x.m x.totals.now) (cc)) (λ y b q k. search (rules, tests))
    ∙ tested x.m x.totals.now (λ y. leb y x.limit) (search rules)
