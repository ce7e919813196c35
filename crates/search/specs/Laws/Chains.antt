-- The chains of the links with an end at a place: how they are built, from the last link down, and walked along.
use Rattle.std.specs.Prelude.{ℕ, ◌+◌, ◌-◌, ◌%◌, ◌≤◌, ◌<◌, ◌≡◌, refl, Bool, true, false, ◌&&◌, List, [], ◌∷◌, ◌++◌, length, set, replicate}
use Rattle.std.proofs.Common.{le_refl, arith, sym, ◌∙◌, length-set, get_or-set_same, get_or-set_other, ext_get_or}
use Rattle.std.proofs.Math.Path.{ap}
use Rattle.std.proofs.Math.Logic.{⊎_elim}
use Rattle.std.proofs.Math.Option.{none, some}
use Rattle.std.proofs.Math.ListN.{get_or, length-append, get_or-append, get_or-eq_default}
use Rattle.std.proofs.lemmas.List.{length-replicate, get_or-replicate}
use Rattle.std.proofs.Math.Seq.{get_or-append-add}
use Rattle.std.proofs.Math.Dec.{eqb, leb}
use borrow.Author.Tests.{eq-eqb, ne_eqb, eqb-true, le-leb, lt-leb, leb-true}
use Rattle.theory.specs.Finite.{first, tabulate}
use Rattle.theory.specs.Study.{column, closed, barred_to, no_link, link_mark}
use Rattle.theory.specs.Laws.Cases.{on-equal, on_test, on-option, true-false}
use Rattle.theory.specs.Laws.Finite.{order, and_left, and_right, Lowest, first_some, some_first, first-none, none_first, length-tabulate, get_d_tabulate}
use Rattle.search.specs.Given.{Roads}
use Rattle.search.specs.Chains.{end_of, lowest_from, chain_of, Linked, Chainable, Passed}

-- Chains can be made of links whose ends are among few enough nodes.
pub chainable : {nodes : ℕ} {links : List (List ℕ)} {times : List ℕ} → Roads nodes links times → Chainable links
chainable g =
    record {
      few-links = g.few-links;
      tail-node = λ l b. omega (arith, g.tail-node l b, g.few-nodes);
      head-node = λ l b. omega (arith, g.head-node l b, g.few-nodes);
    }

-- Both chains, put into two rows one after the other.
module _ (rows : List (List ℕ)) (two : length rows ≡ 2) where
  pub still-two : (into : List ℕ) → length (set rows 0 into) ≡ 2
  still-two into = length-set rows 0 into ∙ two

  pub linked-rows : {lorries : Bool} {links : List (List ℕ)} {into out : List ℕ} → into ≡ chain_of lorries links 1 → out ≡ chain_of lorries links 0
      → Linked lorries links (set (set rows 0 into) 1 out) × (length (set (set rows 0 into) 1 out) ≡ 2)
  linked-rows {into = into} {out = out} e h =
      let first : 0 < length rows = omega (arith, two) in
      let second : 1 < length (set rows 0 into) = omega (arith, still-two into) in (
        record {
          into = get_or-set_other (set rows 0 into) 1 0 out [] (λ e. omega arith) ∙ get_or-set_same rows 0 into [] first ∙ e;
          out = get_or-set_same (set rows 0 into) 1 out [] second ∙ h;
        },
        length-set (set rows 0 into) 1 out ∙ still-two into,
      )

-- Where a link ends: 256 places on from its node if the class is barred from it, and otherwise at its node if its head is open, and 128 places on
-- if that is closed.
module _ (lorries : Bool) (links : List (List ℕ)) (end l : ℕ) where
  pub place-barred : barred_to links lorries l ≡ true → end_of lorries links end l ≡ 256 + column end links l
  unfolding end_of
  place-barred off = rw off

  pub place-open : barred_to links lorries l ≡ false → (closed links l ≡ 1 → ⊥) → end_of lorries links end l ≡ column end links l
  unfolding end_of
  place-open on is_open = rw (on, ne_eqb (closed links l) 1 is_open)

  pub place-closed : barred_to links lorries l ≡ false → closed links l ≡ 1 → end_of lorries links end l ≡ 128 + column end links l
  unfolding end_of
  place-closed on e = rw (on, eq-eqb (closed links l) 1 e)

  -- The three ways in which a link ends.
  by_place : {C : Type 0} → (end_of lorries links end l ≡ 256 + column end links l → C)
      → (barred_to links lorries l ≡ false → closed links l ≡ 1 → end_of lorries links end l ≡ 128 + column end links l → C)
      → (barred_to links lorries l ≡ false → (closed links l ≡ 1 → ⊥) → end_of lorries links end l ≡ column end links l → C) → C
  by_place f g h =
      on_test (barred_to links lorries l) (λ off. f (place-barred off))
      (λ on. on-equal (closed links l) 1 (λ shut. g on shut (place-closed on shut)) (λ is_open. h on is_open (place-open on is_open)))

  -- So a place below 256 tells the node, and whether the head is closed, of a link that the class is not barred from.
  pub place-of-open : {k : ℕ} → k < 128 → end_of lorries links end l ≡ k
      → (barred_to links lorries l ≡ false) × (closed links l ≡ 1 → ⊥) × (column end links l ≡ k)
  place-of-open below e =
      by_place
      (λ at. absurd (omega (arith, at)))
      (λ on shut at. absurd (omega (arith, at)))
      (λ on is_open at. (on, is_open, sym at ∙ e))

  pub place-of-closed : {s : ℕ} → s < 128 → column end links l < 128 → end_of lorries links end l ≡ 128 + s
      → (barred_to links lorries l ≡ false) × (closed links l ≡ 1) × (column end links l ≡ s)
  place-of-closed below inside e =
      by_place
      (λ at. absurd (omega (arith, at)))
      (λ on shut at. (on, shut, omega (arith, at)))
      (λ on is_open at. absurd (omega (arith, at)))

  pub place-node : {place : ℕ} → column end links l < 128 → end_of lorries links end l ≡ place → column end links l ≡ place % 128
  place-node inside e = by_place (λ at. omega (arith, at)) (λ on shut at. omega (arith, at)) (λ on is_open at. omega (arith, at))

-- A link's row alone tells its ends.
pub end_row : (lorries : Bool) (links : List (List ℕ)) (end l : ℕ) → end_of lorries (get_or links l [] ∷ []) end 0 ≡ end_of lorries links end l
unfolding end_of barred_to
end_row lorries links end l = refl

-- Both ends of a link are among 128 nodes.
pub end-node : {links : List (List ℕ)} → Chainable links → (end l : ℕ) → end < 2 → l < length links → column end links l < 128
end-node g end l h b =
    on-equal end 0 (λ e. rw e (g.tail-node l b)) (λ n. let e : end ≡ 1 = omega (arith, n) in rw e (g.head-node l b))

-- A search goes by what its test says below n.
pub first_cong : (n : ℕ) (t u : ℕ → Bool) → ((i : ℕ) → i < n → t i ≡ u i) → first n t ≡ first n u
first_cong n t u same =
    on-option (first n u) (λ e. none_first n t (λ i h. same i h ∙ first-none n u e i h) ∙ sym e) (λ i e. found i e (first_some n u i e))
  where
    found : (i : ℕ) → first n u ≡ some i → Lowest n u i → first n t ≡ first n u
    found i e low =
        some_first n t i
        (record {
          below = low.below;
          fits = same i low.below ∙ low.fits;
          lower = λ k h. same k (omega (arith, low.below)) ∙ low.lower k h;
        })
        ∙ sym e

module _ (lorries : Bool) (links : List (List ℕ)) (end : ℕ) where
  -- No link is past the last.
  pub lowest-past : (j a : ℕ) → length links ≤ a → lowest_from lorries links end j a ≡ no_link
  unfolding lowest_from link_mark
  lowest-past j a h =
      ap link_mark (none_first (length links) (λ l. leb a l && eqb (end_of lorries links end l) j) (λ l b. rw (lt-leb a l (omega arith))))

  -- A link with an end at the place is the lowest from itself on.
  pub lowest-here : (j l : ℕ) → l < length links → end_of lorries links end l ≡ j → lowest_from lorries links end j l ≡ l
  unfolding lowest_from link_mark
  lowest-here j l h e =
      ap link_mark
      (some_first (length links) (λ k. leb l k && eqb (end_of lorries links end k) j) l
      (record { below = h; fits = rw (le-leb l l (le_refl l), eq-eqb (end_of lorries links end l) j e); lower = λ k b. rw (lt-leb l k b) }))

  -- Any other link is passed over.
  pub lowest-above : (j l : ℕ) → (end_of lorries links end l ≡ j → ⊥) → lowest_from lorries links end j l ≡ lowest_from lorries links end j (l + 1)
  unfolding lowest_from
  lowest-above j l away =
      ap link_mark
      (first_cong (length links) (λ k. leb l k && eqb (end_of lorries links end k) j) (λ k. leb (l + 1) k && eqb (end_of lorries links end k) j) (λ k h. at k))
    where
      at : (k : ℕ) → (leb l k && eqb (end_of lorries links end k) j) ≡ (leb (l + 1) k && eqb (end_of lorries links end k) j)
      at k =
          on-equal k l
          (λ e. rw (e, le-leb l l (le_refl l), ne_eqb (end_of lorries links end l) j away, lt-leb (l + 1) l (omega arith)))
          (λ n. ⊎_elim
          (λ b. rw (lt-leb l k b, lt-leb (l + 1) k (omega arith)))
          (λ b. rw (le-leb l k b, le-leb (l + 1) k (omega (arith, n))))
          (order k l))

  -- A chain has a part for the places and one for the links,
  abbrev by-node : List ℕ
  by-node = tabulate 384 (λ j. lowest_from lorries links end j 0)

  abbrev by-link : List ℕ
  by-link = tabulate 512 (λ l. lowest_from lorries links end (end_of lorries links end l) (l + 1))

  length-by-node : length by-node ≡ 384
  length-by-node = length-tabulate 384 (λ j. lowest_from lorries links end j 0)

  chain_length : length (chain_of lorries links end) ≡ 896
  unfolding chain_of
  chain_length =
      omega (arith, length-append by-node by-link, length-by-node, length-tabulate 512 (λ l. lowest_from lorries links end (end_of lorries links end l) (l + 1)))

  -- with a number for each place
  chain-node : (j : ℕ) → j < 384 → get_or (chain_of lorries links end) j 0 ≡ lowest_from lorries links end j 0
  unfolding chain_of
  chain-node j h =
      get_or-append by-node by-link 0 j (omega (arith, length-by-node)) ∙ get_d_tabulate 384 (λ i. lowest_from lorries links end i 0) 0 j h

  -- and for each link.
  chain_link : (l : ℕ) → l < 512 → get_or (chain_of lorries links end) (384 + l) 0 ≡ lowest_from lorries links end (end_of lorries links end l) (l + 1)
  unfolding chain_of
  chain_link l h =
      ap (λ n. get_or (by-node ++ by-link) (n + l) 0) (sym length-by-node)
      ∙ get_or-append-add by-node by-link l 0
      ∙ get_d_tabulate 512 (λ i. lowest_from lorries links end (end_of lorries links end i) (i + 1)) 0 l h

-- So where both chains are among rows there are two rows.
pub linked-two : {lorries : Bool} {links rows : List (List ℕ)} → Linked lorries links rows → 1 < length rows
linked-two {lorries} {links} {rows} w =
    ⊎_elim (λ h. h)
    (λ h. let none : length (chain_of lorries links 0) ≡ 0 = ap length (sym w.out ∙ get_or-eq_default rows [] h) in
    absurd (omega (arith, none, chain_length lorries links 0)))
    (order 1 (length rows))

-- The chains as they stand when the links from l on are in them.
pub record ChainedFrom (lorries : Bool) (links : List (List ℕ)) (end l : ℕ) (chain : List ℕ) : Type 0 where
  pub size : length chain ≡ 896
  pub at-node : (j : ℕ) → j < 384 → get_or chain j 0 ≡ lowest_from lorries links end j l
  pub at-link : (k : ℕ) → l ≤ k → k < 512 → get_or chain (384 + k) 0 ≡ lowest_from lorries links end (end_of lorries links end k) (k + 1)

module _ (lorries : Bool) (links : List (List ℕ)) (end : ℕ) where
  -- They begin with no link,
  pub chains-begin : {chain : List ℕ} → chain ≡ replicate 896 no_link → ChainedFrom lorries links end (length links) chain
  chains-begin {chain} chain≡ =
      record {
        size = ap length chain≡ ∙ length-replicate 896 no_link;
        at-node = λ j b. empty j (omega arith) ∙ sym (lowest-past lorries links end j (length links) (le_refl (length links)));
        at-link = λ k b c. empty (384 + k) (omega arith) ∙ sym (lowest-past lorries links end (end_of lorries links end k) (k + 1) (omega arith));
      }
    where
      empty : (i : ℕ) → i < 896 → get_or chain i 0 ≡ no_link
      empty i h = ap (λ xs. get_or xs i 0) chain≡ ∙ get_or-replicate 896 i no_link 0 h

  -- take in link l,
  module _ {l t : ℕ} {chain : List ℕ} (h : l < length links) (few : length links ≤ 512) (t≡ : t ≡ end_of lorries links end l) (t-node : t < 384)
      (w : ChainedFrom lorries links end (l + 1) chain) where
    pub chains-take : ChainedFrom lorries links end l (set (set chain (384 + l) (get_or chain t 0)) t l)
    chains-take =
        record {
          size = length-set one t l ∙ one_size;
          at-node = λ j b. on-equal j t (here j) (there j b);
          at-link = λ k b c. get_or-set_other one t (384 + k) l 0 (λ e. omega arith) ∙ on-equal k l (at-l k) (above k b c);
        }
      where
        one : List ℕ
        one = set chain (384 + l) (get_or chain t 0)

        one_size : length one ≡ 896
        one_size = length-set chain (384 + l) (get_or chain t 0) ∙ w.size

        here : (j : ℕ) → j ≡ t → get_or (set one t l) j 0 ≡ lowest_from lorries links end j l
        here j e = rw e (get_or-set_same one t l 0 (omega (arith, one_size)) ∙ sym (lowest-here lorries links end t l h (sym t≡)))

        there : (j : ℕ) → j < 384 → (j ≡ t → ⊥) → get_or (set one t l) j 0 ≡ lowest_from lorries links end j l
        there j b away =
            get_or-set_other one t j l 0 away
            ∙ get_or-set_other chain (384 + l) j (get_or chain t 0) 0 (λ e. omega arith)
            ∙ w.at-node j b
            ∙ sym (lowest-above lorries links end j l (λ e. away (sym e ∙ sym t≡)))

        at-l : (k : ℕ) → k ≡ l → get_or one (384 + k) 0 ≡ lowest_from lorries links end (end_of lorries links end k) (k + 1)
        at-l k e = rw e (get_or-set_same chain (384 + l) (get_or chain t 0) 0 (omega (arith, w.size)) ∙ rw (← t≡) (w.at-node t t-node))

        above : (k : ℕ) → l ≤ k → k < 512 → (k ≡ l → ⊥) → get_or one (384 + k) 0 ≡ lowest_from lorries links end (end_of lorries links end k) (k + 1)
        above k b c away =
            get_or-set_other chain (384 + l) (384 + k) (get_or chain t 0) 0 (λ e. away (omega arith)) ∙ w.at-link k (omega (arith, away)) c

  -- and end with all of them.
  pub chains-end : {chain : List ℕ} → ChainedFrom lorries links end 0 chain → chain ≡ chain_of lorries links end
  chains-end {chain} w =
      ext_get_or 0 chain (chain_of lorries links end) (w.size ∙ sym (chain_length lorries links end)) (λ i h. ⊎_elim (node i) (link i (omega (arith, w.size))) (order i 384))
    where
      node : (i : ℕ) → i < 384 → get_or chain i 0 ≡ get_or (chain_of lorries links end) i 0
      node i b = w.at-node i b ∙ sym (chain-node lorries links end i b)

      link : (i : ℕ) → i < 896 → 384 ≤ i → get_or chain i 0 ≡ get_or (chain_of lorries links end) i 0
      link i c b =
          let place : i ≡ 384 + (i - 384) = omega arith in
          ap (λ a. get_or chain a 0) place
          ∙ w.at-link (i - 384) (omega arith) (omega arith)
          ∙ sym (chain_link lorries links end (i - 384) (omega arith))
          ∙ ap (λ a. get_or (chain_of lorries links end) a 0) (sym place)

-- What the lowest link from a on with an end at place j is.
record Chosen (lorries : Bool) (links : List (List ℕ)) (end j a r : ℕ) : Type 0 where
  on_chain : (r ≡ no_link → ⊥) → (r < length links) × (end_of lorries links end r ≡ j)
  between : (k : ℕ) → a ≤ k → k < length links → k < r → end_of lorries links end k ≡ j → ⊥
  no_lower : a ≤ no_link → a ≤ r

chosen : (lorries : Bool) (links : List (List ℕ)) (end j a : ℕ) → Chosen lorries links end j a (lowest_from lorries links end j a)
unfolding lowest_from link_mark
chosen lorries links end j a =
    on-option (first (length links) (λ l. leb a l && eqb (end_of lorries links end l) j))
    (λ e. rw e (none_left e))
    (λ i e. rw e (found i (first_some (length links) (λ l. leb a l && eqb (end_of lorries links end l) j) i e)))
  where
    unfit : (k : ℕ) → a ≤ k → (leb a k && eqb (end_of lorries links end k) j) ≡ false → end_of lorries links end k ≡ j → ⊥
    unfit k b e t = true-false (rw (le-leb a k b, eq-eqb (end_of lorries links end k) j t)) e

    none_left : first (length links) (λ l. leb a l && eqb (end_of lorries links end l) j) ≡ none → Chosen lorries links end j a no_link
    none_left e =
        record {
          on_chain = λ some-link. absurd (some-link refl);
          between = λ k b c d. unfit k b (first-none (length links) (λ l. leb a l && eqb (end_of lorries links end l) j) e k c);
          no_lower = λ b. b;
        }

    found : (i : ℕ) → Lowest (length links) (λ l. leb a l && eqb (end_of lorries links end l) j) i → Chosen lorries links end j a i
    found i low =
        record {
          on_chain = λ some-link. (low.below, eqb-true (end_of lorries links end i) j (and_right (leb a i) (eqb (end_of lorries links end i) j) low.fits));
          between = λ k b c d. unfit k b (low.lower k d);
          no_lower = λ b. leb-true a i (and_left (leb a i) (eqb (end_of lorries links end i) j) low.fits);
        }

-- A walk along a chain begins with no link passed,
module _ {lorries : Bool} {links : List (List ℕ)} {end : ℕ} {chain : List ℕ} (few : length links ≤ 512) (w : chain ≡ chain_of lorries links end) {j : ℕ} {P : ℕ → Type 0} where
  pub chain-begins : {l : ℕ} → j < 384 → l ≡ get_or chain j 0 → Passed lorries links end j P l
  chain-begins h e =
      let lowest : get_or chain j 0 ≡ lowest_from lorries links end j 0 = ap (λ xs. get_or xs j 0) w ∙ chain-node lorries links end j h in
      let low = rw (← lowest, ← e) at (chosen lorries links end j 0) in
      record { on_chain = low.on_chain; passed = λ i b c t. absurd (low.between i (omega arith) b c t) }

  -- and goes on to a higher link.
  pub chain-goes : {l k l' : ℕ} → Passed lorries links end j P l → (l ≡ no_link → ⊥) → P l → k ≡ l → l' ≡ get_or chain (384 + k) 0
      → (l < l') × Passed lorries links end j P l'
  chain-goes {l} {k} at some-link holds k≡ e =
      let (below, here) = at.on_chain some-link in
      let next : get_or chain (384 + k) 0 ≡ lowest_from lorries links end j (l + 1) =
      rw (k≡, w) (chain_link lorries links end l (omega arith) ∙ ap (λ i. lowest_from lorries links end i (l + 1)) here) in
      let low = rw (← next, ← e) at (chosen lorries links end j (l + 1)) in (
        omega (arith, low.no_lower (omega arith)),
        record {
          on_chain = low.on_chain;
          passed = λ i b c t.
              ⊎_elim (λ under. at.passed i b under t)
              (λ over. on-equal i l (λ same. rw same holds) (λ off. absurd (low.between i (omega (arith, off)) b c t)))
              (order i l);
        },
      )

-- What is known of the links passed may be weakened.
pub chain-map : {lorries : Bool} {links : List (List ℕ)} {end j l : ℕ} {P Q : ℕ → Type 0} → Passed lorries links end j P l → ((i : ℕ) → i < length links → P i → Q i)
    → Passed lorries links end j Q l
chain-map at f = record { on_chain = at.on_chain; passed = λ i b c t. f i b (at.passed i b c t) }
