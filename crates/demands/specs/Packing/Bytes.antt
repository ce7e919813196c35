-- Numbers written as bytes and read back, wherever they stand in a list of bytes, and parts of such a list.
use Rattle.std.specs.Prelude.{ℕ, zero, suc, ◌+◌, ◌/◌, ◌%◌, ◌<◌, ◌^◌, ◌≡◌, List, [], ◌++◌, length, take, drop}
use Rattle.std.proofs.Common.{arith, sym, ◌∙◌, ap, append_assoc, append-nil, ⊎_elim, length-append, get_or-append-add}
use Rattle.std.proofs.Math.Seq.{get_or-append_seam, take-append_seam, drop-append_seam}
use Rattle.study.specs.Bytes.{u16, u32}
use Rattle.theory.specs.Finite.{rows}
use Rattle.theory.specs.Laws.Finite.{below_suc}
use Rattle.calls.specs.Pack.{bytes16, bytes32}
use Rattle.calls.specs.Laws.Pack.{length16}

-- A u16 after any bytes and before any bytes is read back at its place.
pub u16-at : (front : List ℕ) (x : ℕ) (after : List ℕ) → x < 65536 → u16 (front ++ bytes16 x ++ after) (length front) ≡ x
unfolding u16 bytes16
u16-at front x after h = rw (append_assoc, get_or-append_seam, get_or-append-add) (omega arith)

-- So is a u32: its low half, and after it its high half.
pub u32-at : (front : List ℕ) (x : ℕ) (after : List ℕ) → x < 2 ^ 32 → u32 (front ++ bytes32 x ++ after) (length front) ≡ x
unfolding u32 bytes32
u32-at front x after h = omega (arith, low, high)
  where
    bytes : List ℕ
    bytes = front ++ (bytes16 (x % 65536) ++ bytes16 (x / 65536)) ++ after

    low : u16 bytes (length front) ≡ x % 65536
    low = simp append_assoc (simp append_assoc at (u16-at front (x % 65536) (bytes16 (x / 65536) ++ after) (omega arith)))

    place : length (front ++ bytes16 (x % 65536)) ≡ length front + 2
    place = rw (length-append, length16)

    high : u16 bytes (length front + 2) ≡ x / 65536
    high = rw (← place) (simp append_assoc (simp append_assoc at (u16-at (front ++ bytes16 (x % 65536)) (x / 65536) after (omega arith))))

-- A part that stands between two others is what is found at its place, of its length.
pub part_at : (front middle after : List ℕ) → take (length middle) (drop (length front) (front ++ middle ++ after)) ≡ middle
part_at front middle after = rw (append_assoc, drop-append_seam, take-append_seam)

-- One of several rows, one after the other, stands after the rows before it.
pub rows_split : (count : ℕ) (row : ℕ → List ℕ) (k : ℕ) → k < count → (later : List ℕ) × (rows count row ≡ rows k row ++ row k ++ later)
unfolding rows
rows_split zero row k h = absurd (omega arith)
rows_split (suc count) row k h =
    ⊎_elim
    (λ below. let (later, split) = rows_split count row k below in (later ++ row count, ap (λ list. list ++ row count) split ∙ append_assoc (rows k row ++ row k) later (row count)))
    (λ here. ([], rw here (sym (append-nil (rows count row ++ row count)))))
    (below_suc count k h)
