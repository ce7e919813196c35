-- The table of next links: how its rows are written.
use Rattle.std.specs.Prelude.{◌≡◌, ℕ, ◌+◌, ◌-◌, ◌<◌, ◌≤◌, min, ◌↔◌, Bool, true, false, not, get_or, List, [], ◌++◌, length, take, drop, map, replicate, slice_index, slice_index_or}
use Rattle.std.proofs.Common.{rules, arith, ◌∙◌, ap, ⊎_elim, inl, inr, length-drop, length-take-le, get_or-take, get_or-drop}
use Rattle.std.proofs.Math.Path.{refl}
use Rattle.theory.specs.Laws.Cases.{true-false}
use Rattle.theory.specs.Laws.Finite.{order}
use Rattle.std.proofs.lemmas.List.{length-map, length-replicate, get_or-replicate, get_or-append_right, places}
use Rattle.std.proofs.Math.Bool.{beq}
use Rattle.theory.specs.Routes.{Routing, next_links}
use Rattle.theory.specs.Study.{no_link, link_mark}
use Rattle.theory.specs.Laws.Next.{length-next}
use Rattle.search.specs.Search.{routing_from}
use Rattle.search.specs.Groups.{Unused}
use Rattle.search.specs.Laws.Groups.{destinations-from, group-at}
use Rattle.routes.specs.Table.{link_marks, no_links, NextRow, RowsPut, GroupChosen, RowChosen, ChosenBelow, EachChosen, NextsTo, RowsEnd}

-- No row is written at first, and then rows are written after others.
module _ {Put : ℕ → List ℕ → Type 0} {table₀ : List (List ℕ)} {first : ℕ} where
  pub rows_none : RowsPut Put table₀ first first table₀
  rows_none = record { size = refl; put = λ q b c. absurd (omega arith); rest = λ q off. refl }

  pub rows_join : {k past : ℕ} {table table' : List (List ℕ)} → RowsPut Put table₀ first k table → first ≤ k → k ≤ past
      → RowsPut Put table k past table' → RowsPut Put table₀ first past table'
  rows_join {k} w low high v =
      record {
        size = v.size ∙ w.size;
        put = λ q b c. ⊎_elim (λ d. rw (v.rest q (λ e f. omega arith)) (w.put q b d)) (λ d. v.put q d c) (order q k);
        rest = λ q off. v.rest q (λ b c. off (omega arith) c) ∙ w.rest q (λ b c. off b (omega arith));
      }

-- Rows that are set to no link end after the nodes,
pub empty-ends : (nodes n : ℕ) → RowsEnd nodes (replicate n no_links)
unfolding no_links
empty-ends nodes n =
    record {
      long = λ k b. rw (get_or-replicate n k no_links [] (omega (arith, length-replicate n no_links))) (length-replicate 128 no_link);
      rest = λ k b i c d. rw (get_or-replicate n k no_links [] (omega (arith, length-replicate n no_links))) (get_or-replicate 128 i no_link no_link d);
    }

-- and so do next links.
link-marks-end : (q : Routing) → q.nodes ≤ 128 → (i : ℕ) → q.nodes ≤ i → i < 128 → slice_index_or (link_marks q) i no_link ≡ no_link
unfolding link_marks
link-marks-end q few i low high =
    get_or-append_right (map link_mark (next_links q)) (replicate (128 - q.nodes) no_link) q.nodes i no_link (length-map (next_links q) link_mark ∙ length-next q) low
    ∙ get_or-replicate (128 - q.nodes) (i - q.nodes) no_link no_link (omega arith)

pub next-ends : {nodes : ℕ} (links : List (List ℕ)) (destinations trips times : List ℕ) (k : ℕ) {row : List ℕ} → nodes ≤ 128
    → NextRow nodes links destinations trips times k row → (i : ℕ) → nodes ≤ i → i < 128 → slice_index_or row i no_link ≡ no_link
unfolding no_links routing_from
next-ends {nodes} links destinations trips times k {row} few next i low high =
    ⊎_elim
    (λ full. rw full (link-marks-end (routing_from nodes links times (slice_index destinations k)) few i low high))
    (λ none. rw none.0 (get_or-replicate 128 i no_link no_link high))
    next

-- A table whose rows from `first` on and below `past` have become others.
abbrev pub with-rows : List (List ℕ) → List (List ℕ) → ℕ → ℕ → List (List ℕ)
with-rows table rows first past = take first table ++ (rows ++ drop (past - first) (drop first table))

module _ (table rows : List (List ℕ)) (first past : ℕ) (low : first ≤ past) (long : past ≤ length table) (size : length rows ≡ past - first) where
  with-size : length (with-rows table rows first past) ≡ length table
  with-size = search (rules, places)

  with-own : (q : ℕ) → first ≤ q → q < past → slice_index_or (with-rows table rows first past) q [] ≡ slice_index_or rows (q - first) []
  with-own q b c = grind (arith, places)

  with-rest : (q : ℕ) → (first ≤ q → q < past → ⊥) → slice_index_or (with-rows table rows first past) q [] ≡ slice_index_or table q []
  with-rest q off = grind (arith, places)

-- The groups are done one after the other: none at first,
module _ (nodes : ℕ) (links : List (List ℕ)) (destinations trips times : List ℕ) (used : Bool) where
  pub chosen_none : (table : List (List ℕ)) → ChosenBelow nodes links destinations trips times used table 0 table
  chosen_none table = let none : min 0 (length destinations) ≡ 0 = omega arith in record { begins = refl; rows = rw none rows_none }

module _ {nodes : ℕ} {links : List (List ℕ)} {destinations trips times : List ℕ} {used : Bool} {table₀ table : List (List ℕ)} {first : ℕ}
    (w : ChosenBelow nodes links destinations trips times used table₀ first table) where
  module _ {past : ℕ} (inside : first < length destinations) (past≡ : past ≡ min (first + 8) (length destinations)) where
    chosen-more : {table' : List (List ℕ)} → RowsPut (RowChosen nodes links destinations trips times used table₀) table first past table'
        → ChosenBelow nodes links destinations trips times used table₀ (first + 8) table'
    chosen-more v =
        let all : min first (length destinations) ≡ first = omega (arith, inside) in
        record { begins = omega (arith, w.begins); rows = rw (← past≡) (rows_join (rw all at w.rows) (omega arith) (omega (arith, inside)) v) }

    -- whose rows end after the nodes, as they were,
    pub part-size : past ≤ length table → length (take (past - first) (drop first table)) ≡ past - first
    part-size long = length-take-le (past - first) (drop first table) (omega (arith, length-drop first table))

    pub part-ends : RowsEnd nodes table₀ → past ≤ length table → RowsEnd nodes (take (past - first) (drop first table))
    part-ends ends long =
        record {
          long = λ k b. rw (own k (omega (arith, part-size long))) (ends.long (first + k) (omega (arith, part-size long, w.rows.size)));
          rest = λ k b. rw (own k (omega (arith, part-size long))) (ends.rest (first + k) (omega (arith, part-size long, w.rows.size)));
        }
      where
        own : (k : ℕ) → k < past - first → slice_index_or (take (past - first) (drop first table)) k [] ≡ slice_index_or table₀ (first + k) []
        own k b = get_or-take (past - first) (drop first table) k [] b ∙ get_or-drop first table k [] ∙ w.rows.rest (first + k) (λ b c. omega arith)

    -- then one more, whose rows are written,
    pub chosen-put : (rows : List (List ℕ)) → past ≤ length table → length rows ≡ past - first
        → NextsTo nodes links (destinations-from destinations first past) times rows
        → ChosenBelow nodes links destinations trips times used table₀ (first + 8) (with-rows table rows first past)
    chosen-put rows long size v =
        let low : first ≤ past = omega (arith, inside, past≡) in
        chosen-more
        (record {
          size = with-size table rows first past low long size;
          put = λ q b c.
              let at = group-at destinations inside past≡ (q - first) (omega arith) in
              let place : first + (q - first) ≡ q = omega arith in
              inl (with-own table rows first past low long size q b c
              ∙ v (q - first) (omega arith)
              ∙ ap (λ s. link_marks (routing_from nodes links times s)) (at ∙ ap (λ a. get_or destinations a 0) place));
          rest = with-rest table rows first past low long size;
        })

    -- or are left as they were,
    pub chosen-left : (any : Bool) → (any ≡ false) ↔ Unused nodes trips first past → beq any used ≡ false
        → ChosenBelow nodes links destinations trips times used table₀ (first + 8) table
    chosen-left any some other =
        chosen-more (record { size = refl; put = λ q b c. inr (w.rows.rest q (λ e d. omega arith), left used any some other q b c); rest = λ q off. refl })
      where
        left : (used any : Bool) → (any ≡ false) ↔ Unused nodes trips first past → beq any used ≡ false → (k : ℕ) → first ≤ k → k < past
            → GroupChosen (not used) nodes destinations trips k
        left true false some other k b c = λ q same d. some.0 refl q (omega (arith, w.begins)) (omega (arith, w.begins, past≡))
        left false true some other k b c = λ nobody.
            true-false refl (some.1 (λ q e d. nobody q (omega (arith, w.begins)) (omega (arith, past≡))))
        left true true some other k b c = true-false refl other
        left false false some other k b c = true-false refl other

  -- and all in the end.
  pub chosen-all : length destinations ≤ first → EachChosen nodes links destinations trips times used table₀ table
  chosen-all h k b = w.rows.put k (omega arith) (omega arith)

-- Rows of groups to which somebody goes are next links, and the others have no link, as before.
module _ (nodes : ℕ) (links : List (List ℕ)) (destinations trips times : List ℕ) (table₀ table : List (List ℕ)) where
  pub used-nexts : EachChosen nodes links destinations trips times true table₀ table
      → ((k : ℕ) → k < length destinations → slice_index_or table₀ k [] ≡ no_links)
      → (k : ℕ) → k < length destinations → NextRow nodes links destinations trips times k (slice_index_or table k [])
  used-nexts chosen empty k b =
      ⊎_elim (λ full. inl full) (λ left. inr (left.0 ∙ empty k b, left.1 k refl b, left.1)) (chosen k b)
