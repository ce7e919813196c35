-- `listing::lines::put_ending` meets its contract: each arm puts the word of its ending.
use borrow.Author.Rules.{rules}
use Rattle.listing.specs.Listing.{ending_word}
use Rattle.listing.proofs.lines.put_ending.Goals as goal

pub returns-in-Reached : goal.returns-in-Reached
unfolding ending_word
returns-in-Reached c =
    record { put = rw c.in-Reached.is c.put_text.ensures; upper_bound = search rules }

pub returns-in-Finest : goal.returns-in-Finest
unfolding ending_word
returns-in-Finest c =
    record { put = rw c.in-Finest.is c.put_text-in-Finest.ensures; upper_bound = search rules }

pub returns-in-Spent : goal.returns-in-Spent
unfolding ending_word
returns-in-Spent c =
    record { put = rw c.in-Spent.is c.put_text-in-Spent.ensures; upper_bound = search rules }

pub returns-in-Waiting : goal.returns-in-Waiting
unfolding ending_word
returns-in-Waiting c =
    record { put = rw c.in-Waiting.is c.put_text-in-Waiting.ensures; upper_bound = search rules }

pub returns-in-Refused : goal.returns-in-Refused
unfolding ending_word
returns-in-Refused c =
    record { put = rw c.in-Refused.is c.put_text-in-Refused.ensures; upper_bound = search rules }
