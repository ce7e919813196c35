-- Document 02, A.1: the page of a table, 30 bytes a link, in link order.
use Rattle.std.specs.Prelude.{ℕ, ◌*◌, ◌/◌, List, ◌++◌}
use Rattle.text.specs.Decimal.{space, newline, decimal, hundredths, aligned}
use Rattle.theory.specs.Finite.{rows}
use Rattle.theory.specs.Network.{Network}
use Rattle.theory.specs.Flows.{total, time_at}

-- Volume is floor(100·S / W): hundredths of a trip.
abbrev pub volume : ℕ → ℕ → ℕ
volume share flow = 100 * flow / share

-- Columns 1 to 3 hold the link, 5 to 7 the tail, 9 to 11 the head, 13 to 20 the volume, 22 to 29 the time in minutes, then a line feed.
-- Each is right-aligned, and all else is spaces.
unfoldable pub page_line : ℕ → ℕ → ℕ → ℕ → ℕ → List ℕ
page_line link tail head volume time =
    aligned 3 (decimal link)
    ++ space
    ++ aligned 3 (decimal tail)
    ++ space
    ++ aligned 3 (decimal head)
    ++ space
    ++ aligned 8 (hundredths volume)
    ++ space
    ++ aligned 8 (hundredths time)
    ++ newline

-- The line of a link in a table with a share: its volume, and its time t, which is in hundredths of a minute.
unfoldable pub line_of : Network → ℕ → List ℕ → ℕ → List ℕ
line_of g share table l =
    page_line l (g.tail l) (g.head l) (volume share (total g table l)) (time_at g share (total g table) l)

unfoldable pub page_of : Network → ℕ → List ℕ → List ℕ
page_of g share table = rows g.links (line_of g share table)
