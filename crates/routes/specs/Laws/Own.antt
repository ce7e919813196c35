-- The walk along the links into a closed destination, by which these are written beside the links with open heads.
use Rattle.std.specs.Prelude.{◌≡◌, ℕ, ◌+◌, ◌<◌, ◌≤◌, min, Bool, true, false, not, ◌&&◌, ◌||◌, List, [], length, get_or, ◌==◌, ◌≢◌, nat_lt, slice_index, slice_index_or, slice_set, refl}
use Rattle.std.proofs.Common.{le_refl, arith, sym, ◌∙◌, ⊎_elim, length-set, get_or-set_same, get_or-set_other, lt-ltb, le-ltb, ne_eqb}
use Rattle.std.proofs.Math.Path.{ap, subst}
use Rattle.std.proofs.lemmas.List.{set-get_or}
use Rattle.std.proofs.Math.Bool.{or-true, and-false}
use Rattle.std.proofs.Math.Option.{some}
use Rattle.theory.specs.Finite.{first}
use Rattle.theory.specs.Routes.{distances}
use Rattle.theory.specs.Study.{tail, head, closed, node_of, of_lorries, no_link, link_mark}
use Rattle.theory.specs.Laws.Cases.{on-equal, on-option, on_test}
use Rattle.theory.specs.Laws.Finite.{order, Lowest, first_some, some_first, first-none}
use Rattle.theory.specs.Laws.Next.{fits-through}
use Rattle.theory.specs.Laws.Padded.{get_d_default}
use Rattle.theory.specs.Laws.Permission.{may-own, may-closed, not-barred}
use Rattle.search.specs.Search.{routing_from}
use Rattle.search.specs.Given.{class_of}
use Rattle.search.specs.Chains.{end_of, chain_of, Passed}
use Rattle.search.specs.Lanes.{EachSearchable, Found}
use Rattle.search.specs.Laws.Chains.{place-closed, place-of-closed, first_cong, chain-begins, chain-goes}
use Rattle.search.specs.Laws.Lanes.{own-chain}
use Rattle.routes.specs.Next.{fitting, fitting_below, first_below, OwnBelow}
use Rattle.routes.specs.Table.{link_marks, OpenRow}
use Rattle.routes.specs.Laws.Next.{unfit, elsewhere, fit, link-marks-filled}

-- A search whose test holds of one number more finds the lower of that and what it found.
first-added : (n : ℕ) (t u : ℕ → Bool) (l : ℕ) → l < n → l < no_link → u l ≡ true → ((i : ℕ) → i < n → (i ≢ l) → t i ≡ u i)
    → link_mark (first n u) ≡ min (link_mark (first n t)) l
unfolding link_mark
first-added n t u l h few holds same =
    on-option (first n t)
    (λ e. rw (e, new (λ i b c. first-none n t e i b)) (omega arith))
    (λ i e. rw e (found i (first_some n t i e)))
  where
    new : ((i : ℕ) → i < n → i < l → t i ≡ false) → first n u ≡ some l
    new none_below =
        some_first n u l
        (record { below = h; fits = holds; lower = λ i b. sym (same i (omega arith) (λ e. omega arith)) ∙ none_below i (omega arith) b })

    found : (i : ℕ) → Lowest n t i → link_mark (first n u) ≡ min i l
    found i low =
        ⊎_elim
        (λ before. rw (old before) (omega arith))
        (λ after. rw (new (λ a b c. low.lower a (omega arith))) (omega arith))
        (order i l)
      where
        old : i < l → first n u ≡ some i
        old before =
            some_first n u i
            (record {
              below = low.below;
              fits = sym (same i low.below (λ e. omega arith)) ∙ low.fits;
              lower = λ a b. sym (same a (omega (arith, low.below)) (λ e. omega arith)) ∙ low.lower a b;
            })

module _ (nodes : ℕ) (links : List (List ℕ)) (times : List ℕ) (s j : ℕ) where
  -- A link with a closed head that fits leads into the destination.
  closed-own : (l : ℕ) → l < length links → closed links l ≡ 1 → fitting nodes links times s j l ≡ true → end_of (of_lorries s) links 1 l ≡ 128 + node_of s
  unfolding routing_from
  closed-own l c shut e =
      let (y, own, t) = fits-through (routing_from nodes links times s) (distances (routing_from nodes links times s)) j l c e in
      place-closed (of_lorries s) links 1 l (not-barred links s l t.usable) shut ∙ ap (λ i. 128 + i) (may-closed links s l shut t.usable)

  -- No link is below link 0.
  open-below : (l : ℕ) → (not (closed links l == 1) && fitting nodes links times s j l) ≡ fitting_below nodes links times s 0 j l
  open-below l = rw (le-ltb l 0 (omega arith))

  -- A link from p on and below p' makes no difference to the test, if it does not fit where it leads into the closed destination.
  same-below : {p p' : ℕ} → p ≤ p' → (l : ℕ) → l < length links
      → (p ≤ l → l < p' → end_of (of_lorries s) links 1 l ≡ 128 + node_of s → fitting nodes links times s j l ≡ false)
      → fitting_below nodes links times s p j l ≡ fitting_below nodes links times s p' j l
  same-below {p} {p'} up l c apart =
      ⊎_elim
      (λ under. rw (lt-ltb l p under, lt-ltb l p' (omega arith)))
      (λ from. ⊎_elim (between from) (λ over. rw (le-ltb l p from, le-ltb l p' over)) (order l p'))
      (order l p)
    where
      misfit : p ≤ l → l < p' → closed links l ≡ 1 → fitting nodes links times s j l ≡ false
      misfit from to shut = on_test (fitting nodes links times s j l) (λ e. apart from to (closed-own l c shut e)) (λ e. e)

      between : p ≤ l → l < p' → fitting_below nodes links times s p j l ≡ fitting_below nodes links times s p' j l
      between from to =
          on-equal (closed links l) 1
          (λ shut. rw (misfit from to shut, and-false (nat_lt l p || not (closed links l == 1)), and-false (nat_lt l p' || not (closed links l == 1))))
          (λ is_open. rw (ne_eqb (closed links l) 1 is_open, or-true (nat_lt l p), or-true (nat_lt l p')))

module _ {nodes : ℕ} {links : List (List ℕ)} {times group : List ℕ} (g : EachSearchable nodes links times group) {table : List (List ℕ)}
    (found : Found nodes links times group table) {k : ℕ} (b : k < 8) {into : List ℕ} (chain : into ≡ chain_of (class_of group) links 1) where
  -- The walk begins with the first fitting links with open heads,
  pub own-begins : {row : List ℕ} {place l : ℕ} → OpenRow nodes links times (slice_index group k) row → place ≡ 128 + node_of (slice_index group k)
      → l ≡ slice_index into place → OwnBelow nodes links times (slice_index group k) l row
  own-begins {row} {place} {l} w place≡ e =
      let inside : 128 + node_of (slice_index group k) < 384 = omega (arith, (g.each k b).destination-node, (g.each k b).roads.few-nodes) in
      let first-link : l ≡ get_or into (128 + node_of (slice_index group k)) 0 = rw place≡ at e in
      let none_before : Passed (of_lorries (slice_index group k)) links 1 (128 + node_of (slice_index group k)) (λ a. ⊥) l = chain-begins (g.each k b).roads.few-links (own-chain g 1 chain k b) inside first-link in
      record {
        chain = chain-begins (g.each k b).roads.few-links (own-chain g 1 chain k b) inside first-link;
        filled =
            record {
              long = w.long;
              front = λ j h.
                  w.front j h
                  ∙ ap link_mark
                  (first_cong (length links) _ _
                  (λ a c. open-below nodes links times (slice_index group k) j a
                  ∙ same-below nodes links times (slice_index group k) j {p = 0} {p' = l} (omega arith) a c (λ from to on. absurd (none_before.passed a c to on))));
              rest = w.rest;
            };
      }

  module _ {row : List ℕ} {l : ℕ} (at : OwnBelow nodes links times (slice_index group k) l row) where
    -- ends with the first of all fitting links,
    pub own-ends : l ≡ no_link → row ≡ link_marks (routing_from nodes links times (slice_index group k))
    own-ends e =
        link-marks-filled (g.each k b)
        (record {
          long = at.filled.long;
          front = λ j h.
              at.filled.front j h
              ∙ ap link_mark (first_cong (length links) _ _ (λ a c. rw (lt-ltb a l (omega (arith, (g.each k b).roads.few-links)))));
          rest = at.filled.rest;
        })

    module _ (some-link : l ≡ no_link → ⊥) {i : ℕ} (i≡ : i ≡ l) where
      below : i < length links
      below = omega (arith, (at.chain.on_chain some-link).0)

      -- is otherwise at a link of the network,
      pub own_at : (i < length links) × (i < 512) × (tail links i < nodes) × (head links i < nodes)
      own_at =
          let roads = (g.each k b).roads in (below, omega (arith, below, roads.few-links), roads.tail-node i below, roads.head-node i below)

      own-writes : {t a r l' : ℕ} → t ≡ tail links i → a ≡ head links i
          → (slice_index (slice_index_or table a []) k + slice_index times i ≡ slice_index (slice_index_or table t []) k → r ≡ min (slice_index row t) l)
          → ((slice_index (slice_index_or table a []) k + slice_index times i ≢ slice_index (slice_index_or table t []) k) → r ≡ slice_index row t) → l' ≡ slice_index into (384 + i)
          → (l < l') × OwnBelow nodes links times (slice_index group k) l' (slice_set row t r)
      own-writes {t} {a} {r} {l'} t≡ a≡ lowered kept e = (
        higher,
        record {
          chain = (chain-goes (g.each k b).roads.few-links (own-chain g 1 chain k b) at.chain some-link refl i≡ e).1;
          filled =
              record {
                long = length-set row t r ∙ at.filled.long;
                front = λ j h. on-equal j t (λ same. rw (same, get_or-set_same row t r no_link inside) here) (there j h);
                rest = λ j c d. get_or-set_other row t j r no_link (λ same. omega (arith, tail-node)) ∙ at.filled.rest j c d;
              };
        },
      )
        where
          s : ℕ
          s = slice_index group k

          onward : (l < l') × Passed (of_lorries s) links 1 (128 + node_of s) (λ x. x ≤ l) l'
          onward =
              chain-goes (g.each k b).roads.few-links (own-chain g 1 chain k b)
              (record { on_chain = at.chain.on_chain; passed = λ x c d on. omega arith }) some-link (le_refl l) i≡ e

          higher : l < l'
          higher = onward.0

          tail-node : t < nodes
          tail-node = omega (arith, (g.each k b).roads.tail-node i below)

          inside : t < length row
          inside = omega (arith, tail-node, at.filled.long, (g.each k b).roads.few-nodes)

          -- Other links than this one do not count.
          others : (j x : ℕ) → x < length links → (x ≢ l) → fitting_below nodes links times s l j x ≡ fitting_below nodes links times s l' j x
          others j x c away = same-below nodes links times s j (omega (arith, higher)) x c (λ from to on. absurd (away (omega (arith, onward.1.passed x c to on))))

          -- Where it does not fit, the first fitting link stays.
          stays : (j : ℕ) → fitting nodes links times s j i ≡ false → first_below nodes links times s l j ≡ first_below nodes links times s l' j
          stays j misfit =
              ap link_mark
              (first_cong (length links) _ _
              (λ x c. on-equal x l (λ same. same-below nodes links times s j (omega (arith, higher)) x c (λ from to on. rw (same, ← i≡) misfit)) (others j x c)))

          there : (j : ℕ) → j < nodes → (j ≢ t) → slice_index_or (slice_set row t r) j no_link ≡ first_below nodes links times s l' j
          there j h away =
              get_or-set_other row t j r no_link away
              ∙ at.filled.front j h
              ∙ stays j (elsewhere g found h b i below (λ leaves. away (sym leaves ∙ sym t≡)))

          old : get_or row t 0 ≡ first_below nodes links times s l t
          old = get_d_default row t 0 no_link inside ∙ at.filled.front t tail-node

          took : fitting nodes links times s t l ≡ true → min (first_below nodes links times s l t) l ≡ first_below nodes links times s l' t
          took fits =
              sym (first-added (length links) (fitting_below nodes links times s l t) (fitting_below nodes links times s l' t) l (omega (arith, below))
              (omega (arith, below, (g.each k b).roads.few-links)) (rw (lt-ltb l l' higher) fits) (others t))

          usable-fits : get_or (slice_index_or table a []) k 0 + slice_index times i ≡ slice_index (slice_index_or table t []) k → fitting nodes links times s t l ≡ true
          usable-fits same =
              let roads = (g.each k b).roads in
              let inside : head links i < 128 = omega (arith, roads.head-node i below, roads.few-nodes) in
              let (on, shut, own) =
              place-of-closed (of_lorries s) links 1 i (omega (arith, (g.each k b).destination-node, roads.few-nodes)) inside
              (rw (← i≡) at (at.chain.on_chain some-link).1) in
              rw i≡ at (fit g found tail-node b i below (may-own links s i on own) (sym t≡) (rw (← a≡) same))

          here : r ≡ first_below nodes links times s l' t
          here =
              on-equal (slice_index (slice_index_or table a []) k + slice_index times i) (slice_index (slice_index_or table t []) k)
              (λ same. lowered same ∙ ap (λ x. min x l) old ∙ took (usable-fits same))
              (λ differ. kept differ ∙ old ∙ stays t (unfit g found tail-node b i below (λ same. differ (rw a≡ same))))

      -- and goes on to a higher one, when the row has been lowered to it where it gives its tail the mark.
      pub own-goes : {t a l' : ℕ} {row' : List ℕ} → t ≡ tail links i → a ≡ head links i
          → (slice_index (slice_index_or table a []) k + slice_index times i ≡ slice_index (slice_index_or table t []) k → row' ≡ slice_set row t (min (slice_index row t) l))
          → ((slice_index (slice_index_or table a []) k + slice_index times i ≢ slice_index (slice_index_or table t []) k) → row' ≡ row) → l' ≡ slice_index into (384 + i)
          → (l < l') × OwnBelow nodes links times (slice_index group k) l' row'
      own-goes {t} {a} {l'} {row'} t≡ a≡ took stays e =
          on-equal (slice_index (slice_index_or table a []) k + slice_index times i) (slice_index (slice_index_or table t []) k)
          (λ same. rw (took same) (own-writes t≡ a≡ (λ _. refl) (λ differ. absurd (differ same)) e))
          (λ differ.
          let After : List ℕ → Type 0 = λ x. (l < l') × OwnBelow nodes links times (slice_index group k) l' x in
          rw (stays differ) (subst After (set-get_or row t 0) (own-writes t≡ a≡ (λ same. absurd (differ same)) (λ _. refl) e)))
