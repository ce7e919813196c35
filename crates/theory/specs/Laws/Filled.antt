-- Lists that a loop fills from the front.
use Rattle.std.specs.Prelude.{ℕ, zero, suc, ◌+◌, ◌-◌, ◌≤◌, ◌<◌, ◌≡◌, refl, List, ◌∷◌, ◌++◌, map, length, get_or, set, replicate}
use Rattle.std.proofs.Common.{arith, sym, ◌∙◌, ap, ⊎_elim, length-append, length-set, get_or-append-add, get_or-set_same, get_or-set_other, ext_get_or, below_more}
use Rattle.std.proofs.lemmas.List.{length-replicate, get_or-replicate}
use Rattle.std.proofs.Math.ListN.{get_or-append}
use Rattle.theory.specs.Finite.{tabulate}
use Rattle.theory.specs.Laws.Finite.{order, length-tabulate, get_d_tabulate}

-- A list of a size has f 0, .., f (k - 1), and d past them.
pub record Filled {A : Type 0} (f : ℕ → A) (d : A) (size k : ℕ) (xs : List A) : Type 0 where
  pub long : length xs ≡ size
  pub front : (i : ℕ) → i < k → get_or xs i d ≡ f i
  pub rest : (i : ℕ) → k ≤ i → i < size → get_or xs i d ≡ d

module _ {A : Type 0} {f : ℕ → A} {d : A} {size : ℕ} where
  pub filled_none : Filled f d size 0 (replicate size d)
  filled_none =
      record {
        long = length-replicate size d;
        front = λ i h. absurd (omega arith);
        rest = λ i h b. get_or-replicate size i d d b;
      }

  pub filled_more : {k : ℕ} {xs : List A} {v : A} → k < size → v ≡ f k → Filled f d size k xs → Filled f d size (k + 1) (set xs k v)
  filled_more {k} {xs} {v} h e w =
      record {
        long = length-set xs k v ∙ w.long;
        front = below_more _ k (λ i b. get_or-set_other xs k i v d (λ q. omega arith) ∙ w.front i b) (get_or-set_same xs k v d (omega (arith, w.long)) ∙ e);
        rest = λ i b c. get_or-set_other xs k i v d (λ q. omega arith) ∙ w.rest i (omega arith) c;
      }

  pub filled_is : {k : ℕ} {xs : List A} → k ≤ size → Filled f d size k xs → xs ≡ tabulate k f ++ replicate (size - k) d
  filled_is {k} {xs} h w = ext_get_or d xs (tabulate k f ++ replicate (size - k) d) (w.long ∙ sym whole) (λ i b. ⊎_elim (within i) (past i b) (order i k))
    where
      whole : length (tabulate k f ++ replicate (size - k) d) ≡ size
      whole = omega (arith, length-append (tabulate k f) (replicate (size - k) d), length-tabulate k f, length-replicate (size - k) d)

      within : (i : ℕ) → i < k → get_or xs i d ≡ get_or (tabulate k f ++ replicate (size - k) d) i d
      within i b =
          w.front i b
          ∙ sym (get_d_tabulate k f d i b)
          ∙ sym (get_or-append (tabulate k f) (replicate (size - k) d) d i (omega (arith, length-tabulate k f)))

      past : (i : ℕ) → i < length xs → k ≤ i → get_or xs i d ≡ get_or (tabulate k f ++ replicate (size - k) d) i d
      past i c b =
          let place : i ≡ length (tabulate k f) + (i - k) = omega (arith, length-tabulate k f) in
          w.rest i b (omega (arith, w.long))
          ∙ sym (get_or-replicate (size - k) (i - k) d d (omega (arith, w.long)))
          ∙ sym (get_or-append-add (tabulate k f) (replicate (size - k) d) (i - k) d)
          ∙ ap (λ j. get_or (tabulate k f ++ replicate (size - k) d) j d) (sym place)

-- A function of each element.
pub map-tabulate : {A B : Type 0} (g : A → B) (n : ℕ) (f : ℕ → A) → map g (tabulate n f) ≡ tabulate n (λ i. g (f i))
unfolding tabulate
map-tabulate g zero f = refl
map-tabulate g (suc n) f = ap (λ rest. g (f zero) ∷ rest) (map-tabulate g n (λ i. f (suc i)))
