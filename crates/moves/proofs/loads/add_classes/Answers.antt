-- `add_classes` meets its contract: the cars' loading is added to the table, and the lorries' to its part behind.
use Prim.Native.Nat.{ℕ, ◌+◌, ◌*◌, ◌-◌, ◌≤◌}
use mathlib.Core.List.{List}
use mathlib.Core.Path.{◌≡◌, ◌∙◌, ap}
use native.Mathlib.Nat.{mul-le-mul}
use native.Mathlib.Omega.{arith}
use lib.ListN.{length}
use Rattle.moves.specs.Loading.{volume_rows, added_rows, Addable}
use Rattle.moves.specs.Laws.Classes.{cars-addable, middle-within, lorries-addable, classes-added}
use Rattle.moves.proofs.loads.add_classes.Goals as goal

-- The commodities are those of the cars and those of the lorries.
module _ {n m p : ℕ} {nexts volumes : List (List ℕ)} {weight : ℕ} {table : List ℕ} (w : Addable n m p nexts volumes weight table)
    {cars : ℕ} (h : cars ≤ p) where
  parted : cars + (p - cars) ≡ p
  parted = omega arith

  given : Addable n m (cars + (p - cars)) nexts volumes weight table
  given = rw parted w

  -- All rows together are small.
  few : (cars + (p - cars)) * m ≤ 32768
  few = mul-le-mul {n₂ = 64} {m₂ = 512} given.few-commodities given.few-links

pub add_loadings-requires : goal.add_loadings-requires
add_loadings-requires c = cars-addable c.car_count-cars.result _ (given c.requires c.car_count-cars.ensures.1)

pub overflow_mul-middle : goal.overflow_mul-middle
overflow_mul-middle c = omega (arith, few c.requires c.car_count-cars.ensures.1)

pub overflow_mul-end : goal.overflow_mul-end
overflow_mul-end c = omega (arith, few c.requires c.car_count-cars.ensures.1)

pub overflow_add-end : goal.overflow_add-end
overflow_add-end c = omega (arith, few c.requires c.car_count-cars.ensures.1)

pub offset_bounds-table-middle : goal.offset_bounds-table-middle
offset_bounds-table-middle c = omega (arith, few c.requires c.car_count-cars.ensures.1)

pub slice_bounds-add_loadings-count : goal.slice_bounds-add_loadings-count
slice_bounds-add_loadings-count c = omega arith

pub slice_bounds-add_loadings-start : goal.slice_bounds-add_loadings-start
slice_bounds-add_loadings-start c = omega arith

pub slice_bounds-add_loadings-end : goal.slice_bounds-add_loadings-end
slice_bounds-add_loadings-end c =
    middle-within c.car_count-cars.result _ (given c.requires c.car_count-cars.ensures.1) c.add_loadings.ensures

pub offset_bounds-next-cars : goal.offset_bounds-next-cars
offset_bounds-next-cars c = omega (arith, c.requires.few-commodities)

pub slice_bounds-add_loadings-count-then-cars-commodities : goal.slice_bounds-add_loadings-count-then-cars-commodities
slice_bounds-add_loadings-count-then-cars-commodities c = omega (arith, c.requires.has-rows.0)

pub slice_bounds-add_loadings-start-then-cars-commodities : goal.slice_bounds-add_loadings-start-then-cars-commodities
slice_bounds-add_loadings-start-then-cars-commodities c = omega (arith, c.requires.has-rows.0)

pub slice_bounds-add_loadings-end-then-cars-commodities : goal.slice_bounds-add_loadings-end-then-cars-commodities
slice_bounds-add_loadings-end-then-cars-commodities c = omega arith

pub offset_bounds-volumes-cars : goal.offset_bounds-volumes-cars
offset_bounds-volumes-cars c = omega (arith, c.requires.few-commodities)

pub slice_bounds-add_loadings-count-then-cars-commodities-2 : goal.slice_bounds-add_loadings-count-then-cars-commodities-2
slice_bounds-add_loadings-count-then-cars-commodities-2 c = omega (arith, c.requires.has-rows.1)

pub slice_bounds-add_loadings-start-then-cars-commodities-2 : goal.slice_bounds-add_loadings-start-then-cars-commodities-2
slice_bounds-add_loadings-start-then-cars-commodities-2 c = omega (arith, c.requires.has-rows.1)

pub slice_bounds-add_loadings-end-then-cars-commodities-2 : goal.slice_bounds-add_loadings-end-then-cars-commodities-2
slice_bounds-add_loadings-end-then-cars-commodities-2 c = omega arith

pub add_loadings-requires-then-cars-commodities : goal.add_loadings-requires-then-cars-commodities
add_loadings-requires-then-cars-commodities c =
    lorries-addable c.car_count-cars.result _ (given c.requires c.car_count-cars.ensures.1) c.add_loadings.ensures

-- What both calls leave is the loading of all commodities.
pub returns-then-cars-commodities : goal.returns-then-cars-commodities
returns-then-cars-commodities c =
    let x = c.args in
    let few-cars = c.car_count-cars.ensures.1 in
    classes-added c.car_count-cars.result _ (given c.requires few-cars) c.add_loadings.ensures c.add_loadings-then-cars-commodities.ensures
    ∙ ap (λ count. added_rows (count * x.m) x.weight (volume_rows x.nodes x.m count x.next.now x.volumes.now) x.table.now) (parted c.requires few-cars)

pub returns-else-cars-commodities : goal.returns-else-cars-commodities
returns-else-cars-commodities c =
    let x = c.args in
    let all : c.car_count-cars.result ≡ length x.commodities.now = omega (arith, c.car_count-cars.ensures.1, c.if-cars-commodities.false) in
    c.add_loadings.ensures
    ∙ ap (λ count. added_rows (count * x.m) x.weight (volume_rows x.nodes x.m count x.next.now x.volumes.now) x.table.now) all
