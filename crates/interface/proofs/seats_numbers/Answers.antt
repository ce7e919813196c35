-- `interface::seats_numbers` meets its contract: eight seats are their eight answers.
use Rattle.std.proofs.Common.{◌≡◌, length, arith}
use Rattle.interface.specs.Seats.{eight-seats}
use Rattle.interface.proofs.seats_numbers.Goals as goal

pub returns : goal.returns
returns c =
    let long : length c.args.seats ≡ 8 = omega arith in
    rw (eight-seats c.args.seats long) (rw (c.seat_numbers.ensures, c.seat_numbers-2.ensures, c.seat_numbers-3.ensures, c.seat_numbers-4.ensures, c.seat_numbers-5.ensures, c.seat_numbers-6.ensures, c.seat_numbers-7.ensures, c.seat_numbers-8.ensures))
