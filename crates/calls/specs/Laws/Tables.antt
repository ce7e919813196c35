-- The tables that start, pass and run leave: each passes the audit's questions at its share, and so the bound holds of it.
use Rattle.std.specs.Prelude.{ℕ, ◌+◌, ◌*◌, ◌≤◌, ◌<◌, ◌≡◌, refl, true, List, ◌++◌, length, get_or, drop}
use Rattle.std.proofs.Common.{drop_at, arith, sym, ◌∙◌, ap, length-append, length-drop}
use Rattle.std.proofs.Math.Option.{some}
use Rattle.std.proofs.Math.ListN.{get_or-append}
use Rattle.theory.specs.Finite.{tabulate}
use Rattle.theory.specs.Network.{Network, Sound, total_trips}
use Rattle.theory.specs.Flows.{Carries, totals_fit, times, total}
use Rattle.theory.specs.Routes.{loading}
use Rattle.theory.specs.Cost.{cost, gap}
use Rattle.theory.specs.Moves.{Shared, table_size, started, move, after_moves}
use Rattle.theory.specs.Laws.Finite.{get_d_tabulate}
use Rattle.theory.specs.Laws.Conserving.{permitted-permits}
use Rattle.theory.specs.Laws.Local.{carries_same, totals_fit-same}
use Rattle.theory.specs.Laws.Routings.{Timed, times-timed, routing-consistent}
use Rattle.theory.specs.Laws.Loading.{length-loading, loading-carries, loading-total, loading-totals-fit}
use Rattle.theory.specs.Laws.Bound.{bound}
use Rattle.theory.specs.Laws.Tables.{length-added, length-doubled}
use Rattle.theory.specs.Laws.Moves.{Pass, moved, move-share, move-carries, move-fits}
use Rattle.theory.specs.Laws.Runs.{tables-have}
use Rattle.calls.specs.Study.{network_of}
use Rattle.calls.specs.Questions.{share_fits}
use Rattle.calls.specs.Calls.{overwritten}
use Rattle.calls.specs.Laws.Questions.{Passed, SharePassed}
use Rattle.calls.specs.Laws.Networks.{share-range, range-share, sound}
use Rattle.calls.specs.Laws.Reach.{passed-carries, served}

-- The numbers that a call writes over the first p·m numbers of a table are what the definitions read of it.
pub overwritten-front : (new old : List ℕ) (i : ℕ) → i < length new → get_or new i 0 ≡ get_or (overwritten new old) i 0
unfolding overwritten
overwritten-front new old i p = sym (get_or-append new (drop (length new) old) 0 i p)

pub overwritten-length : (new old : List ℕ) → length new ≤ length old → length (overwritten new old) ≡ length old
unfolding overwritten
overwritten-length new old p = omega (arith, length-append new (drop (length new) old), length-drop (length new) old)

-- A table written over one of the same size leaves what was there before both.
pub overwritten-twice : (new old before : List ℕ) → length new ≡ length old → overwritten new (overwritten old before) ≡ overwritten new before
unfolding overwritten
overwritten-twice new old before e =
    rw e (ap (λ rest. new ++ rest) (drop_at old (drop (length old) before) (length old) refl))

module _ (file : List ℕ) (h : Passed file) where
  abbrev g : Network
  g = network_of file

  abbrev is-sound : Sound g
  is-sound = sound file h.described

  empty-timed : Timed g (tabulate g.links (λ l. g.height l 0))
  empty-timed l p = rw (get_d_tabulate g.links (λ i. g.height i 0) 0 l p) (is-sound.some-time l 0 p)

  -- The loading at the times of any table carries the trips at share 1, and no link of it has more than T.
  loading-at-table : (x : Shared) → Carries g 1 (loading g (times g x.share x.table))
  loading-at-table x =
      loading-carries g is-sound (times g x.share x.table) (times-timed g is-sound x.share x.table)
      (served file h (times g x.share x.table) (times-timed g is-sound x.share x.table))

  loading-total-at : (x : Shared) (l : ℕ) → l < g.links → total g (loading g (times g x.share x.table)) l ≤ total_trips g
  loading-total-at x =
      loading-total g is-sound (times g x.share x.table) (times-timed g is-sound x.share x.table)
      (served file h (times g x.share x.table) (times-timed g is-sound x.share x.table))

  -- A table that carries the trips at a share within its range, and whose totals fit, passes questions 14 to 16 and 20.
  carried-passes : (share : ℕ) (table : List ℕ) → share_fits share ≡ true → totals_fit g share table ≡ true → Carries g share table → SharePassed file table share
  carried-passes share table fits totals c =
      record { share-fits = fits; totals-fit = totals; conserving = c.conserving; permitting = permitted-permits g table c.permitted }

  -- The start's table does at share 1,
  pub started-passes : SharePassed file (started g).table 1
  unfolding started
  started-passes =
      let t = tabulate g.links (λ l. g.height l 0) in
      let at-empty = served file h t empty-timed in
      carried-passes 1 _ (range-share 1 (omega arith) (omega arith)) (loading-totals-fit g is-sound t empty-timed at-empty)
      (loading-carries g is-sound t empty-timed at-empty)

  pub started-length : length (started g).table ≡ table_size g
  unfolding started
  started-length = length-loading g (tabulate g.links (λ l. g.height l 0))

  -- and so does every table that a pass makes of one that does, at its new share.
  pub moved_passes : (x x' : Shared) → SharePassed file x.table x.share → move g x ≡ some x' → SharePassed file x'.table x'.share
  moved_passes x x' p e =
      let range = share-range x.share p.share-fits in
      let rises = move-share g x x' range.0 e in
      carried-passes x'.share x'.table (range-share x'.share (omega arith) rises.1) (move-fits g x x' e p.totals-fit (loading-total-at x))
      (move-carries g x x' e (passed-carries file x.table x.share p) (loading-at-table x))

  pub moved_length : (x x' : Shared) → move g x ≡ some x' → length x'.table ≡ table_size g
  moved_length x x' e = go x' (moved g x x' e)
    where
      go : (x' : Shared) → Pass g x (some x') → length x'.table ≡ table_size g
      go _ (Pass.adds a b c) = length-added g x.table _ _
      go _ (Pass.doubles a b) = length-doubled g x.table

  -- Every table of a run passes them at its share.
  pub run-passes : (i : ℕ) → SharePassed file (after_moves g i).table (after_moves g i).share
  unfolding started
  run-passes = tables-have g (λ x. SharePassed file x.table x.share) started-passes (λ x x' p e. moved_passes x x' p e)

  pub run_length : (i : ℕ) → length (after_moves g i).table ≡ table_size g
  run_length =
      tables-have g (λ x. length x.table ≡ table_size g) started-length (λ x x' p e. moved_length x x' e)

  -- Written over the first numbers of a longer table, a table passes as it did before.
  pub overwritten-passes : (new old : List ℕ) (share : ℕ) → length new ≡ table_size g → SharePassed file new share → SharePassed file (overwritten new old) share
  overwritten-passes new old share size p =
      let same : (i : ℕ) → i < table_size g → get_or new i 0 ≡ get_or (overwritten new old) i 0 = λ i q. overwritten-front new old i (omega arith) in
      carried-passes share (overwritten new old) p.share-fits (sym (totals_fit-same g new (overwritten new old) same share) ∙ p.totals-fit)
      (carries_same g new (overwritten new old) same share (passed-carries file new share p))

  -- The bound of any table at a share of at least 1.
  pub table-bound : (table : List ℕ) (share : ℕ) → 1 ≤ share → (other : ℕ) (rival : List ℕ) → Carries g other rival
      → other * cost g share table ≤ share * cost g other rival + 64 * other * gap g share table
  table-bound table share some-share =
      bound g is-sound share table (routing-consistent g is-sound (times g share table) (times-timed g is-sound share table)) some-share
