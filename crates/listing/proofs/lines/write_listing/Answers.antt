-- `listing::lines::write_listing` meets its contract: a refusal is one line, and any other answer is its lines with those of the links behind.
use native.Mathlib.Omega.{arith}
use Rattle.text.specs.Laws.Put as puts
use Rattle.listing.specs.Laws as laws
use Rattle.listing.specs.Listing.{ending_word}
use Rattle.listing.proofs.lines.write_listing.Goals as goal

pub returns-then-refusal-ne0 : goal.returns-then-refusal-ne0
unfolding ending_word
returns-then-refusal-ne0 c =
    let a = c.args in
    let lines = laws.refused-listing a.answer a.m a.flows.now a.times.now c.if-refusal-ne0.true in
    let put = puts.at-start c.put_number_line.ensures.put (omega arith) in
    record { value = rw lines put.0; out_after = rw lines put.1 }

pub returns : goal.returns
returns c =
    let a = c.args in
    let lines = laws.accepted-listing a.answer a.m a.flows.now a.times.now c.if-refusal-ne0.false in
    let put = puts.at-start (puts.then c.put_answer_lines-at.ensures.put c.put_link_lines.ensures.put) (omega arith) in
    record { value = rw lines put.0; out_after = rw lines put.1 }
