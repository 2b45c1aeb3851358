-- The promises of the calls make a run, and the law of the run begun is its own.
use Rattle.choosing.proofs.Booking.{booked}
use Rattle.choosing.proofs.reading.Reading.of.Goals as goal

pub returns : goal.returns
returns g c =
    let begun = c.begin-run.ensures in
    record {
      first = _;
      last = _;
      after = _;
      given_back = _;
      begins = begun.begins;
      drains = c.drain-drained.ensures;
      ends = c.end-selector.ensures;
      law = booked g.S.Selector.meaning g.S.Selector.moves _ _ _ _ _ _ _ _ _ _ begun.keeps c.drain-drained.ensures c.end-selector.ensures;
    }
