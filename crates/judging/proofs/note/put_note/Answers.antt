-- `put_note` meets its contract: what is written is the note, by j and the share.
use native.Mathlib.Nat.{mul-le-mul}
use native.Mathlib.Omega.{arith}
use Rattle.judging.specs.Study.{study_of}
use Rattle.judging.specs.Laws.Classes.{few-commodities}
use Rattle.judging.specs.Laws.Noted.{writable, note-adds, note-doubles, note-rests}
use Rattle.judging.proofs.note.put_note.Goals as goal

pub put_links-requires : goal.put_links-requires
put_links-requires c =
    let noted = c.requires.0 in
    (writable noted.ready c.complete_next_links.ensures, noted.holds)

pub returns-then-j-gt0 : goal.returns-then-j-gt0
returns-then-j-gt0 c =
    let x = c.args in
    note-adds (study_of x.nodes x.links.now x.commodities.now x.trips.now) x.times.now x.j x.doubled x.note.now c.requires.0.ready c.complete_next_links.ensures c.if-j-gt0.true c.put_links.ensures

pub overflow_mul-commodities : goal.overflow_mul-commodities
overflow_mul-commodities c =
    let ready = c.requires.0.ready in
    omega (arith, mul-le-mul (few-commodities ready) ready.few-nodes)

pub returns-then-doubled-le1024 : goal.returns-then-doubled-le1024
returns-then-doubled-le1024 c =
    let x = c.args in
    note-doubles (study_of x.nodes x.links.now x.commodities.now x.trips.now) x.times.now x.j x.doubled x.note.now c.if-j-gt0.false c.if-doubled-le1024.true c.put_no_links.ensures

pub returns-else-doubled-le1024 : goal.returns-else-doubled-le1024
returns-else-doubled-le1024 c =
    let x = c.args in
    note-rests (study_of x.nodes x.links.now x.commodities.now x.trips.now) x.times.now x.j x.doubled x.note.now c.if-j-gt0.false c.if-doubled-le1024.false
