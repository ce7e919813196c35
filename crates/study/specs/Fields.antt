-- The fields of the sections, read from a section's own bytes. The crates above cite these names and their laws, and never a place
-- in the bytes.
use Rattle.std.specs.Prelude.{ℕ, ◌+◌, ◌*◌, ◌≤◌, cond, List, ltb, length}
use Rattle.study.specs.Bytes.{byte, u16}

-- Links, each of the version's bytes: five u16, tail, head, free time a, rise b, capacity c, and in 12 bytes a sixth, the power q (A.5).
unfoldable pub tail : List ℕ → ℕ → ℕ → ℕ
tail link_bytes link_size link = u16 link_bytes (link_size * link)

unfoldable pub head : List ℕ → ℕ → ℕ → ℕ
head link_bytes link_size link = u16 link_bytes (link_size * link + 2)

unfoldable pub free_time : List ℕ → ℕ → ℕ → ℕ
free_time link_bytes link_size link = u16 link_bytes (link_size * link + 4)

unfoldable pub rise : List ℕ → ℕ → ℕ → ℕ
rise link_bytes link_size link = u16 link_bytes (link_size * link + 6)

unfoldable pub capacity : List ℕ → ℕ → ℕ → ℕ
capacity link_bytes link_size link = u16 link_bytes (link_size * link + 8)

-- (A.5) A link of 10 bytes, as in versions 1 and 2, has power 4.
unfoldable pub power : List ℕ → ℕ → ℕ → ℕ
power link_bytes link_size link = cond (ltb link_size 12) 4 (u16 link_bytes (link_size * link + 10))

-- Destinations: p node numbers, u16.
unfoldable pub destination : List ℕ → ℕ → ℕ
destination destination_bytes k = u16 destination_bytes (2 * k)

-- Trips, and lorry trips (A.7): for each destination in order, for each node j from 0, u16 D(j,s). Of n nodes, destination k has the entries from
-- k * n on.
unfoldable pub trips : List ℕ → ℕ → ℕ → ℕ → ℕ
trips trip_bytes n k node = u16 trip_bytes (2 * (k * n + node))

-- Closed (A.2): for each node a byte, 1 for a closed node, 0 for open. Barred (A.7): for each link a byte, 1 where lorries are barred. Where there are
-- no such bytes, as in version 1, every node is open and no link is barred.
unfoldable pub mark_byte : List ℕ → ℕ → ℕ
mark_byte bytes number = byte bytes number

-- What a reader of a field asks of its section: that the bytes of that link, destination or entry are there.
unfoldable pub HasLink : List ℕ → ℕ → ℕ → Type 0
HasLink link_bytes link_size link = (10 ≤ link_size) × (link_size * link + link_size ≤ length link_bytes)

unfoldable pub HasDestination : List ℕ → ℕ → Type 0
HasDestination destination_bytes k = 2 * k + 2 ≤ length destination_bytes

unfoldable pub HasTrips : List ℕ → ℕ → ℕ → ℕ → Type 0
HasTrips trip_bytes n k node = 2 * (k * n + node) + 2 ≤ length trip_bytes
