use Rattle.std.proofs.Common.{refl}
use Rattle.commands.proofs.perform.move_data.Goals as goal

pub returns-in-TestUnitReady-clause-ending : goal.returns-in-TestUnitReady-clause-ending
returns-in-TestUnitReady-clause-ending g c = rw c.in-TestUnitReady.is (c.tell.ensures.ending (g.M.Medium.meaning c.args.medium.now))

pub returns-in-RequestSense-clause-ending : goal.returns-in-RequestSense-clause-ending
returns-in-RequestSense-clause-ending g c =
    rw (c.tell-in-RequestSense.ensures.ending (g.M.Medium.meaning c.args.medium.now), c.sense_data.ensures, c.from.ensures, c.in-RequestSense.is) refl

pub returns-in-Inquiry-clause-ending : goal.returns-in-Inquiry-clause-ending
returns-in-Inquiry-clause-ending g c =
    rw (c.tell-in-Inquiry.ensures.ending (g.M.Medium.meaning c.args.medium.now), c.inquiry_data.ensures, c.in-Inquiry.is) refl

pub returns-in-ReadCapacity-clause-ending : goal.returns-in-ReadCapacity-clause-ending
returns-in-ReadCapacity-clause-ending g c =
    rw (c.tell-in-ReadCapacity.ensures.ending (g.M.Medium.meaning c.args.medium.now), c.capacity_data.ensures, c.in-ReadCapacity.is) refl
