use Rattle.std.proofs.Common.{◌-◌, refl, arith}
use Rattle.levels.specs.Nested.{parts_of}
use Rattle.level_sections.proofs.Bytes.{told-as, told-end, told-more}
use Rattle.level_sections.proofs.Repeats.{listed}
use Rattle.level_sections.proofs.Walked.{walked-none, walked-step}
use Rattle.level_sections.proofs.tell.+tell.Goals as goal

pub tell-returns-in-Lists : goal.tell-returns-in-Lists
tell-returns-in-Lists t c =
    let list = c.in-Lists.list.now in
    λ y. told-as _ _ _ _ (listed c.args.level list.is_optional list.validity list.offsets (parts_of c.args.parts.now) c.args.above c.args.from (c.args.to - c.args.from) c.requires.well.fits c.in-Lists.ensures) (c.tell_lists.ensures y)

pub tell-returns-in-LargeLists : goal.tell-returns-in-LargeLists
tell-returns-in-LargeLists t c =
    let list = c.in-LargeLists.list.now in
    λ y. told-as _ _ _ _ (listed c.args.level list.is_optional list.validity list.offsets (parts_of c.args.parts.now) c.args.above c.args.from (c.args.to - c.args.from) c.requires.well.fits c.in-LargeLists.ensures) (c.tell_lists-in-LargeLists.ensures y)

pub tell_stretches-loop-place-preserved : goal.tell_stretches-loop-place-preserved
tell_stretches-loop-place-preserved t c =
    let h = c.loop-place.invariant in
    let e = c.in-Some.ensures in
    let here = c.loop-place.here in
    record {
      after = omega (arith, h.after, e.after.0);
      before = e.after.1;
      first = omega arith;
      def = h.def;
      depth = h.depth;
      told = told-more c.loop-place.told c.tell_stretch.new.told _ _ _ _ e.told (walked-step c.args.level (parts_of c.args.parts.now) here (record { rep = here.depth; def = here.def; depth = here.depth }) c.loop-place.place c.in-Some.next c.args.to refl refl refl e.after.0 e.after.1) h.told;
    }

pub tell_stretches-returns : goal.tell_stretches-returns
tell_stretches-returns t c = λ y. told-end c.loop-place.told _ _ (walked-none c.args.level (parts_of c.args.parts.now) c.loop-place.here c.loop-place.place (c.args.to - c.loop-place.place) (omega (arith, c.loop-place-test.false))) c.loop-place.invariant.told
