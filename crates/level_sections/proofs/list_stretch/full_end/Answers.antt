use Rattle.std.proofs.Common.{◌∙◌, sym, arith}
use Rattle.level_sections.proofs.Full.{full-more}
use Rattle.level_sections.proofs.list_stretch.full_end.Goals as goal

pub loop-end-preserved : goal.loop-end-preserved
loop-end-preserved g c =
    let h = c.loop-end.invariant in
    let list = c.args.list.now in
    record {
      after = omega (arith, h.after);
      before = omega (arith, c.loop-end-test.true);
      full = full-more list.is_optional list.validity list.offsets c.args.place c.loop-end.end _ _ (sym c.is_there.ensures ∙ c.if-not-is_there.false) c.item_place.ensures.start c.item_place-in-loop-end.ensures.start c.if-item_place.false c.item_place.ensures.rises (omega (arith, c.loop-end-test.true, c.requires.within)) h.full;
    }
