-- Open without them: a row that is stored, by one law each.
use Rattle.layout.specs.Layout.{store_of, sound}
use Rattle.lupinadze.proofs.Overlapping.{from_key, from_none}
use Rattle.lupinadze.proofs.asked.lupinadze_overlap_start.Goals as goal

pub returns-in-Ok-Some : goal.returns-in-Ok-Some
returns-in-Ok-Some c =
    let e = rw c.in-Ok-Some.field-0-is at c.in-Ok-Some.ensures in
    from_key (sound c.args.store.now) (store_of c.args.store.now).catalog.tablets c.args.tablet c.args.other.now c.args.out.now c.tablet_at.result c.tablet_at.ensures
    c.if-other-lt-TABLET_BYTES.false e.0 e.1
    c.give_key.ensures.count c.give_key.ensures.list

pub returns-in-Ok-None : goal.returns-in-Ok-None
returns-in-Ok-None c =
    let e = rw c.in-Ok-None.field-0-is at c.in-Ok-None.ensures in
    from_none (sound c.args.store.now) (store_of c.args.store.now).catalog.tablets c.args.tablet c.args.other.now c.args.out.now c.tablet_at.result c.tablet_at.ensures
    c.if-other-lt-TABLET_BYTES.false e.0 e.1
