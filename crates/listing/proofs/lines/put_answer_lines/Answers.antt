-- `listing::lines::put_answer_lines` meets its contract: its calls put the lines one behind the other.
use Prim.Native.Nat.{◌≤◌}
use native.Mathlib.Omega.{arith}
use Rattle.text.specs.Laws.Put as puts
use Rattle.listing.specs.Listing.{judged_word, share_word, gap_word, cost_word, over_word}
use Rattle.listing.specs.Lines.{answer_lines}
use Rattle.listing.proofs.lines.put_answer_lines.Goals as goal
use Rattle.listing.proofs.lines.put_answer_lines.Goals.{After-put_number_line-at-4}

-- They end within 114 bytes.
ends : (c : After-put_number_line-at-4) → c.put_number_line-at-4.result ≤ 114
ends c =
    omega (
      arith,
      c.put_ending_line-at.ensures.upper_bound,
      c.put_number_line-at.ensures.upper_bound,
      c.put_number_line-at-2.ensures.upper_bound,
      c.put_number_line-at-3.ensures.upper_bound,
      c.put_number_line-at-4.ensures.upper_bound,
    )

pub put_number_line-requires : goal.put_number_line-requires
put_number_line-requires c =
    omega (
      arith,
      ends (goal.at.put_number_line-requires c).After-put_number_line-at-4,
      c.requires,
      puts.same_length c.put_ending_line-at.ensures.put,
      puts.same_length c.put_number_line-at.ensures.put,
      puts.same_length c.put_number_line-at-2.ensures.put,
      puts.same_length c.put_number_line-at-3.ensures.put,
      puts.same_length c.put_number_line-at-4.ensures.put,
    )

pub returns : goal.returns
unfolding answer_lines judged_word share_word gap_word cost_word over_word
returns c =
    record {
      put = puts.then
          (puts.then
          (puts.then
          (puts.then
          (puts.then c.put_ending_line-at.ensures.put c.put_number_line-at.ensures.put)
          c.put_number_line-at-2.ensures.put)
          c.put_number_line-at-3.ensures.put)
          c.put_number_line-at-4.ensures.put)
          c.put_number_line.ensures.put;
      upper_bound = omega (arith, ends (goal.at.returns c).After-put_number_line-at-4, c.put_number_line.ensures.upper_bound);
    }

pub shape_of-out : goal.shape_of-out
shape_of-out c = puts.same_length (returns c).put
