-- The walk along the links out of a node that keeps, for each destination of a group, the first link that the last 16 bits of times and marks do not
-- rule out.
use Rattle.std.specs.Prelude.{◌≡◌, ℕ, ◌+◌, ◌%◌, ◌<◌, Bool, List, [], length, get_or, replicate, ◌≢◌, slice_index, slice_index_or, refl}
use Rattle.std.proofs.Math.Nat.{mod-add-mod}
use Rattle.std.proofs.Common.{arith, sym, ◌∙◌, ap}
use Rattle.std.proofs.lemmas.List.{length-replicate, get_or-replicate}
use Rattle.theory.specs.Study.{head, no_link}
use Rattle.theory.specs.Laws.Cases.{on-equal}
use Rattle.search.specs.Given.{class_of}
use Rattle.search.specs.Chains.{chain_of, Chainable}
use Rattle.search.specs.Lanes.{EachSearchable, Found}
use Rattle.search.specs.Laws.Chains.{chain-begins, chain-goes, chain-map}
use Rattle.routes.specs.Next.{Unfit, Lows, RowKept, RuledOut, EachCandidate}
use Rattle.routes.specs.Laws.Next.{unfit}

-- A link that is ruled out by the last 16 bits does not fit.
module _ {nodes : ℕ} {links : List (List ℕ)} {times group : List ℕ} (g : EachSearchable nodes links times group) {table lows : List (List ℕ)}
    (found : Found nodes links times group table) (low : Lows nodes table lows) {j : ℕ} (h : j < nodes) where
  pub ruled-out-unfit : {i l : ℕ} → i < 8 → RuledOut (class_of group) links times lows j i l → Unfit nodes links times (slice_index group i) j l
  ruled-out-unfit {i} b at =
      rw (g.one_class i b) (chain-map at (λ a c differ. unfit g found h b a c (λ same. differ (low_same a c same))))
    where
      low_same : (a : ℕ) → a < length links → slice_index (slice_index_or table (head links a) []) i + slice_index times a ≡ slice_index (slice_index_or table j []) i
          → (slice_index (slice_index_or lows (head links a) []) i + slice_index times a) % 65536 ≡ slice_index (slice_index_or lows j []) i
      low_same a c same =
          rw (low.each j h i b, low.each (head links a) ((g.each i b).roads.head-node a c) i b)
          (mod-add-mod (slice_index (slice_index_or table (head links a) []) i) 65536 (slice_index times a) ∙ ap (λ x. x % 65536) same)

-- The walk,
module _ {lorries : Bool} {links : List (List ℕ)} (g : Chainable links) {times : List ℕ} {lows : List (List ℕ)} {out : List ℕ} (chain : out ≡ chain_of lorries links 0) {j : ℕ} where
  -- begins at the lowest link, with none kept,
  pub walk_begins : {l : ℕ} → j < 128 → l ≡ slice_index out j → EachCandidate lorries links times lows j l (replicate 8 no_link)
  walk_begins h e =
      record {
        size = length-replicate 8 no_link;
        chain = chain-begins g.few-links chain (omega arith) e;
        each = λ i b.
            record {
              none_yet = λ q. chain-begins g.few-links chain (omega arith) e;
              found = λ some-link. absurd (some-link (get_or-replicate 8 i no_link 0 b));
            };
      }

  module _ {l : ℕ} {row : List ℕ} (at : EachCandidate lorries links times lows j l row) where
    module _ (some-link : l ≡ no_link → ⊥) {k : ℕ} (k≡ : k ≡ l) where
      -- is at a link, or past the last,
      pub walk_at : (k < length links) × (k < 512) × (head links k < 128)
      walk_at =
          let below : k < length links = omega (arith, (at.chain.on_chain some-link).0) in
          (below, omega (arith, g.few-links), g.head-node k below)

      -- and goes on from it to a higher one.
      pub walk-goes : {a time : ℕ} {row' : List ℕ} {l' : ℕ} → a ≡ head links k → time ≡ slice_index times k % 65536
          → RowKept (slice_index_or lows j []) (slice_index_or lows a []) time l row 8 row' → l' ≡ slice_index out (384 + k)
          → (l < l') × EachCandidate lorries links times lows j l' row'
      walk-goes {a} {time} {row'} {l'} a≡ time≡ kept e =
          let (higher, on) = chain-goes g.few-links chain at.chain some-link refl k≡ e in (
            higher,
            record { size = kept.size ∙ at.size; chain = on; each = λ i b. record { none_yet = still i b; found = keeps i b } },
          )
        where
          given : (i : ℕ) → (slice_index (slice_index_or lows a []) i + time) % 65536 ≡ (slice_index (slice_index_or lows (head links l) []) i + slice_index times l) % 65536
          given i = rw (a≡, time≡, k≡) (omega arith)

          still : (i : ℕ) → i < 8 → slice_index row' i ≡ no_link → RuledOut lorries links times lows j i l'
          still i b none = on-equal (slice_index row i) no_link passes (λ was. absurd (was (sym ((kept.done i b).stays was) ∙ none)))
            where
              passes : get_or row i 0 ≡ no_link → RuledOut lorries links times lows j i l'
              passes was =
                  (chain-goes g.few-links chain ((at.each i b).none_yet was) some-link
                  (λ same. some-link (sym ((kept.done i b).took was (given i ∙ same)) ∙ none)) k≡ e).1

          keeps : (i : ℕ) → i < 8 → (slice_index row' i ≢ no_link) → RuledOut lorries links times lows j i (slice_index row' i)
          keeps i b some =
              on-equal (slice_index row i) no_link
              (λ was. on-equal ((slice_index (slice_index_or lows a []) i + time) % 65536) (slice_index (slice_index_or lows j []) i)
              (λ same. rw ((kept.done i b).took was same) ((at.each i b).none_yet was))
              (λ differ. absurd (some ((kept.done i b).none was differ))))
              (λ was. rw ((kept.done i b).stays was) ((at.each i b).found was))
