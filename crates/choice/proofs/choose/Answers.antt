-- Open without them: the next turn of the loop, and that it comes nearer to the room. `pick_more` takes the invariant, and speaks of the list after the push.
use Rattle.choice.proofs.Picking.{pick_more, room_left, nearer}
use Rattle.choice.proofs.choose.Goals as goal

pub loop-chosen-preserved : goal.loop-chosen-preserved
loop-chosen-preserved c =
    rw
    c.push.ensures
    (pick_more
    c.loop-chosen.invariant
    (room_left _ c.is_full.ensures c.loop-chosen-test.true)
    c.in-Some.n
    (rw (c.used.ensures.elements, c.in-Some.is) at c.best_of.ensures))

pub loop-chosen-smaller : goal.loop-chosen-smaller
loop-chosen-smaller c = nearer _ _ c.push.ensures (room_left _ c.is_full.ensures c.loop-chosen-test.true)
