-- The lists of powers: how they are put, and times read off them. Every law holds of any power q and any list i within its limits.
use Rattle.std.specs.Prelude.{◌≡◌, ℕ, zero, suc, ◌+◌, ◌-◌, ◌*◌, ◌/◌, ◌^◌, ◌<◌, ◌≤◌, List, [], length, slice_index, slice_index_or, slice_set}
use Rattle.std.proofs.Common.{lt_of_le_of_lt, mul_assoc, mul-le-mul, mul-le-mul_left, mul-lt-mul_of_pos_right, add-sub_of_le, pow-suc, arith, sym, ◌∙◌, inl, inr, ⊎_elim, pow-add, get_or-set_same, get_or-set_other}
use Rattle.std.proofs.Math.Nat.{mul-div-mul_right, pow-le-pow_left, pow-lt-pow_left, one-le-pow}
use Rattle.std.proofs.Math.Path.{ap}
use Rattle.theory.specs.Finite.{sum}
use Rattle.theory.specs.Flows.{step_time}
use Rattle.theory.specs.Laws.Finite.{below_suc}
use Rattle.theory.specs.Laws.Times.{pow-mul}
use Rattle.travel.specs.Links.{scaled_power, row_power, row_time}
use Rattle.theory.specs.Study.{AllFourth}
use borrow.Rule.Slice.PartMut.{put_mid}
use Rattle.std.proofs.lemmas.Grind.{elements}
use Rattle.travel.specs.Ranges.{LinksFit, Powers, ListTo, CurveFits, ListAt, LinkPowers, HasLists, CurveRoom}

-- Four factors of 256, in two parts.
powers-256 : (i : ℕ) → i ≤ 4 → 4294967296 ≡ 256 ^ (4 - i) * 256 ^ i
powers-256 i few = let both : 4 - i + i ≡ 4 = omega arith in ap (λ x. 256 ^ x) (sym both) ∙ pow-add 256 (4 - i) i

module _ (i r : ℕ) where
  -- Of the four factors of a number of a list none is more than 256, so the number is at most 256⁴,
  pub scaled-most : r ≤ 256 → i ≤ 4 → scaled_power i r ≤ 4294967296
  scaled-most h few =
      let low : 64 ≤ 256 = omega arith in
      rw (powers-256 i few) (mul-le-mul (pow-le-pow_left h (4 - i)) (pow-le-pow_left low i))

  -- and below step 256 it has 32 bits, as not every factor of it is 64.
  pub scaled-below : r < 256 → i ≤ 3 → scaled_power i r < 4294967296
  scaled-below h few =
      let low : 64 ≤ 256 = omega arith in
      rw (powers-256 i (omega arith))
      (lt_of_le_of_lt (mul-le-mul_left (r ^ (4 - i)) (pow-le-pow_left low i))
      (mul-lt-mul_of_pos_right (pow-lt-pow_left h (λ e. omega arith)) (one-le-pow i 256 (omega arith))))

-- That of step 2k is that of step k times 2^(4 - i).
pub scaled-double : (i k : ℕ) → scaled_power i (2 * k) ≡ 2 ^ (4 - i) * scaled_power i k
scaled-double i k = rw (pow-mul 2 k (4 - i)) (mul_assoc (2 ^ (4 - i)) (k ^ (4 - i)) (64 ^ i))

-- All four lists have that of every power that fits.
pub all-lists : (links : List (List ℕ)) → LinksFit links → HasLists 1540 links
all-lists links fit l h = omega (arith, (fit.link l h).some-power)

-- There is room for the curves of links in 769 places where every power is 4, and in 1,540 for any that fit.
module _ (links : List (List ℕ)) {places : ℕ} where
  pub room-one : AllFourth links → places ≡ 769 → CurveRoom links places
  room-one fourth are = record { room = inl are; has-list = λ l h. omega (arith, fourth l h, are) }

  pub room-all : LinksFit links → places ≡ 1540 → CurveRoom links places
  room-all fit are = record { room = inr are; has-list = rw are (all-lists links fit) }

-- The lists that are put there are those of the links' powers.
pub link-powers : {links : List (List ℕ)} {places : ℕ} {curves : List ℕ} → CurveRoom links places → Powers curves × (length curves ≡ places) → LinkPowers links curves
link-powers room put = record { powers = put.0; has-list = λ l h. rw put.1 (room.has-list l h) }

-- Each of the links has its list there.
pub list_at : {links : List (List ℕ)} {curves : List ℕ} {l list : ℕ} → LinksFit links → LinkPowers links curves → l < length links
    → list ≡ 512 + 257 * (4 - row_power (slice_index_or links l [])) → ListAt curves (slice_index_or links l []) list
list_at {l = l} fit powers below is =
    record { powers = powers.powers; fit = fit.link l below; has-list = powers.has-list l below; begins = is }

-- What a tread rises above the free time, b·r^q / 64^q.
abbrev pub risen_at : ℕ → ℕ → ℕ → ℕ
risen_at b q r = b * r ^ q / 64 ^ q

-- It is b times number r of the power's list, divided by 64⁴.
pub scaled-time : (b q r : ℕ) → q ≤ 4 → b * scaled_power (4 - q) r / 16777216 ≡ risen_at b q r
scaled-time b q r h =
    let back : 4 - (4 - q) ≡ q = omega arith in
    let whole : 16777216 ≡ 64 ^ q * 64 ^ (4 - q) = ap (λ x. 64 ^ x) (sym (add-sub_of_le h)) ∙ pow-add 64 q (4 - q) in
    rw (back, ← mul_assoc b (r ^ q) (64 ^ (4 - q)))
    (ap (λ x. b * r ^ q * 64 ^ (4 - q) / x) whole
    ∙ mul-div-mul_right (b * r ^ q) (64 ^ q) (one-le-pow (4 - q) 64 (omega arith)))

-- The numbers of a list are put one after the other: that of step 0, which is 0,
pub put_first : (i : ℕ) (list : List ℕ) → i ≤ 3 → 0 < length list → ListTo 1 i (slice_set list 0 0)
put_first i list few h r below =
    let first : r ≡ 0 = omega arith in
    let some : 4 - i ≡ suc (3 - i) = omega arith in
    rw (first, some, pow-suc 0 (3 - i)) (get_or-set_same list 0 0 0 h ∙ omega arith)

-- then the next,
pub put_more : (n i : ℕ) (list : List ℕ) (x : ℕ) → ListTo n i list → x ≡ scaled_power i n → n < length list → ListTo (n + 1) i (slice_set list n x)
put_more n i list x so_far is h r below =
    ⊎_elim (λ p. get_or-set_other list n r x 0 (λ e. omega arith) ∙ so_far r p)
    (λ e. rw e (get_or-set_same list n x 0 h ∙ is))
    (below_suc n r (omega arith))

-- and that of an even step 2k by that of step k.
pub put_even : (k i : ℕ) (list : List ℕ) → 1 ≤ k → ListTo (2 * k) i list → 2 ^ (4 - i) * slice_index list k ≡ scaled_power i (2 * k)
put_even k i list some so_far = ap (λ x. 2 ^ (4 - i) * x) (so_far k (omega arith)) ∙ sym (scaled-double i k)

-- There are so many lists, and the first k of them are put.
pub record ListsTo (k lists : ℕ) (curves : List ℕ) : Type 0 where
  pub size : length curves ≡ 512 + 257 * lists
  pub power : (i r : ℕ) → i < k → r ≤ 256 → slice_index curves (512 + 257 * i + r) ≡ scaled_power i r

-- A list after a part of it is written: how long it is, and what stands in the part.
pub size_at : (a k : ℕ) (xs ys : List ℕ) → a + k ≤ length xs → length ys ≡ k → length (put_mid a k xs ys) ≡ length xs
size_at a k xs ys h e = grind (arith, elements)

part_at : (a k r : ℕ) (xs ys : List ℕ) → a ≤ length xs → r < length ys → slice_index (put_mid a k xs ys) (a + r) ≡ slice_index ys r
part_at a k r xs ys h p = grind (arith, elements)

-- The first list is put in its part of the curves,
pub lists-first : (lists : ℕ) (before list : List ℕ) → ListTo 257 0 list → length list ≡ 257 → length before ≡ 512 + 257 * lists → 1 ≤ lists
    → ListsTo 1 lists (put_mid 512 257 before list)
lists-first lists before list put long size some =
    record {
      size = size_at 512 257 before list (omega arith) long ∙ size;
      power = λ i r p h.
          let first : i ≡ 0 = omega arith in
          rw first (part_at 512 257 r before list (omega arith) (omega arith) ∙ put r (omega arith));
    }

-- and after the last all are there.
pub lists-all : (lists : ℕ) (curves : List ℕ) → 1 ≤ lists → lists ≤ 4 → ListsTo lists lists curves → Powers curves
lists-all lists curves some few all =
    record { lists = lists; some-list = some; few-lists = few; size = all.size; power = all.power }

-- The list of a link's power has a number for each tread r of the link.
module _ (link : List ℕ) (list : ℕ) (curves : List ℕ) (g : CurveFits link list curves) (r : ℕ) where
  -- It is the power of r in parts of 64⁴, at most 256⁴,
  power-most : r ≤ 256 → slice_index curves (list + r) ≤ 4294967296
  power-most h = rw (g.power r h) (scaled-most (4 - row_power link) r h (omega arith))

  -- and of 32 bits below step 256.
  pub power_below : r < 256 → slice_index curves (list + r) < 4294967296
  power_below h =
      rw (g.power r (omega arith)) (scaled-below (4 - row_power link) r h (omega (arith, g.fit.some-power)))

  -- Multiplied by the rise it has 64 bits,
  pub rise-most : r ≤ 256 → slice_index link 3 * slice_index curves (list + r) ≤ 16383 * 4294967296
  rise-most h = mul-le-mul g.fit.rise-fits (power-most h)

  -- and divided by 64⁴ that is what the tread rises,
  pub rise-at : r ≤ 256 → slice_index link 3 * slice_index curves (list + r) / 16777216 ≡ risen_at (slice_index link 3) (row_power link) r
  rise-at h =
      ap (λ x. slice_index link 3 * x / 16777216) (g.power r h) ∙ scaled-time (slice_index link 3) (row_power link) r g.fit.power-fits

  -- which with the free time is the link's time.
  pub time-at : r ≤ 256 → slice_index link 2 + slice_index link 3 * slice_index curves (list + r) / 16777216 ≡ row_time link r
  unfolding step_time
  time-at h = ap (λ x. slice_index link 2 + x) (rise-at h)

-- The heights of the treads below a step: the free time for each, and what each rises.
pub heights-risen : (a b q r : ℕ) → a * r + sum r (risen_at b q) ≡ sum r (step_time a b q)
unfolding sum step_time
heights-risen a b q zero = omega arith
heights-risen a b q (suc r) = let so_far = heights-risen a b q r in omega arith
