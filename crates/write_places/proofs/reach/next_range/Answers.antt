use Rattle.std.proofs.Common.{length, arith}
use Rattle.levels.specs.Nested.{parts_of}
use Rattle.write_places.proofs.Reached.{range_first, range_closed}
use Rattle.write_places.proofs.reach.next_range.Goals as goal

pub returns-then-end-place : goal.returns-then-end-place
returns-then-end-place g c =
    let first = c.item_place-first.ensures in
    let behind = c.item_place.ensures in
    range_first (parts_of c.args.parts.now) (parts_of c.args.rest.now) (length c.args.parts.now) (length c.args.rest.now) c.args.list.now.offsets c.args.place c.args.to _ _ _ _ first.rises c.requires.foot c.requires.within c.next_run-start.ensures first.start behind.start behind.within

pub returns : goal.returns
returns g c =
    let first = c.item_place-first-2.ensures in
    let behind = c.item_place-2.ensures in
    let e = c.closed_end-end.ensures in
    range_closed (parts_of c.args.parts.now) (parts_of c.args.rest.now) (length c.args.parts.now) (length c.args.rest.now) c.args.list.now.offsets c.args.place c.args.to _ _ _ first.rises c.requires.foot c.requires.within e.closed (omega (arith, e.after, c.if-end-place.false)) e.within first.start behind.start behind.within
