use Rattle.std.proofs.Common.{◌≡◌, ◌+◌, ◌-◌, arith}
use Rattle.levels.specs.Stretch.{AreFull}
use Rattle.levels.proofs.Stretches.{many_lists, first_list}
use Rattle.levels.proofs.walk.stretch_of_items.Goals as goal
use Rattle.levels.proofs.walk.stretch_of_items.Goals.{in-Repetition, in-Definition}

pub returns : goal.returns
returns g c =
    let end = c.match-level.end in
    let list = c.args.list.now in
    elim c.match-level.branch [
      | in-Repetition w ↦
          let e = w.end-is in
          let back : end - 1 + 1 ≡ end = omega (arith, e) in
          let full : AreFull list.is_optional list.validity list.offsets c.args.place end = rw e c.requires.full in
          first_list _ _ _ _ _ _ _ _ _ _ _ e (omega (arith, c.bit-up.ensures)) c.item_range-first.ensures.start (rw back at c.item_range-last.ensures.end) full (omega (arith, e)) (omega (arith, e, c.requires.some)) c.item_range-last.ensures.within c.requires.fits c.requires.beneath
      | in-Definition w ↦
          let e = w.end-is in
          let found = w.full_end-end.ensures in
          let back : end - 1 + 1 ≡ end = omega (arith, e, found.after) in
          let full : AreFull list.is_optional list.validity list.offsets c.args.place end = rw e found.full in
          many_lists _ _ _ _ _ _ _ _ _ _ _ w.in-Definition.is (omega (arith, c.bit-up.ensures)) c.item_range-first.ensures.start (rw back at c.item_range-last.ensures.end) full (omega (arith, e, found.after)) (omega (arith, e, found.within)) c.item_range-last.ensures.within c.requires.fits c.requires.beneath
    ]
