use Rattle.std.proofs.Common.{◌-◌, ◌^◌, ◌<◌, ◌++◌, ◌∙◌, ℕ, List, All, refl, arith, subst, sym}
use Rattle.levels.specs.Nested.{parts_of}
use Rattle.pq_runs.specs.Writing.{Keeps}
use Rattle.pq_runs.proofs.Packs.{kept_then}
use Rattle.pq_runs.proofs.Steps.{finished}
use Rattle.level_sections.proofs.Listed.{items-step}
use Rattle.level_sections.proofs.Repeats.{listed}
use Rattle.level_sections.specs.Walk.{walked}
use Rattle.level_sections.proofs.Walked.{walked-step, walked-none, goes_on, goes_end}
use Rattle.level_sections.proofs.Within.{walked-below}
use Rattle.level_sections.proofs.walk.+walk.Goals as goal

pub walk_stretches-loop-place-preserved : goal.walk_stretches-loop-place-preserved
walk_stretches-loop-place-preserved t c =
    let e = c.in_ok-place.ensures in
    record {
      after = omega (arith, c.loop-place.invariant.after, e.after.0);
      before = e.after.1;
      first = omega arith;
      def = c.loop-place.invariant.def;
      depth = c.loop-place.invariant.depth;
      width = e.width ∙ c.loop-place.invariant.width;
      kept = kept_then c.args.out.now.items c.loop-place.out.items c.step.new.out.items c.loop-place.invariant.kept e.kept;
      added = λ start xs k. goes_on start c.loop-place.out.items c.step.new.out.items c.loop-place.writer c.step.new.writer _ (walked c.args.level (parts_of c.args.parts.now) c.loop-place.here c.loop-place.place (c.in_ok-place.place - c.loop-place.place)) _ _
          (walked-step c.args.level (parts_of c.args.parts.now) c.loop-place.here (record { rep = c.loop-place.here.depth; def = c.loop-place.here.def; depth = c.loop-place.here.depth }) c.loop-place.place c.in_ok-place.place c.args.to refl refl refl e.after.0 e.after.1) e.added (c.loop-place.invariant.added start xs k);
    }

pub walk_stretches-returns-clause-added : goal.walk_stretches-returns-clause-added
walk_stretches-returns-clause-added t c = λ start xs k.
    goes_end start c.loop-place.out.items c.loop-place.writer _ _ (walked-none c.args.level (parts_of c.args.parts.now) c.loop-place.here c.loop-place.place (c.args.to - c.loop-place.place) (omega arith)) (c.loop-place.invariant.added start xs k)

pub walk-returns-in-Lists-clause-added : goal.walk-returns-in-Lists-clause-added
walk-returns-in-Lists-clause-added t c =
    let list = c.in-Lists.list.now in
    let e = listed c.args.level list.is_optional list.validity list.offsets (parts_of c.args.parts.now) c.args.above c.args.from (c.args.to - c.args.from) c.requires.well.fits c.in-Lists.ensures in
    finished c.walk_lists.result (λ f start xs k. subst (λ (ys : List ℕ). Keeps start c.walk_lists.new.out.items c.walk_lists.new.writer (xs ++ ys)) e (f start xs k)) c.walk_lists.ensures.added

pub walk-returns-in-LargeLists-clause-added : goal.walk-returns-in-LargeLists-clause-added
walk-returns-in-LargeLists-clause-added t c =
    let list = c.in-LargeLists.list.now in
    let e = listed c.args.level list.is_optional list.validity list.offsets (parts_of c.args.parts.now) c.args.above c.args.from (c.args.to - c.args.from) c.requires.well.fits c.in-LargeLists.ensures in
    finished c.walk_lists-in-LargeLists.result (λ f start xs k. subst (λ (ys : List ℕ). Keeps start c.walk_lists-in-LargeLists.new.out.items c.walk_lists-in-LargeLists.new.writer (xs ++ ys)) e (f start xs k)) c.walk_lists-in-LargeLists.ensures.added

pub walk_lists_of_items-loop-place-preserved : goal.walk_lists_of_items-loop-place-preserved
walk_lists_of_items-loop-place-preserved t c =
    let e = c.in_ok-place.ensures in
    record {
      after = omega (arith, c.loop-place.invariant.after, e.after.0);
      before = e.after.1;
      width = e.width ∙ c.loop-place.invariant.width;
      kept = kept_then c.args.out.now.items c.loop-place.out.items c.advance.new.out.items c.loop-place.invariant.kept e.kept;
      added = λ start xs k. goes_on start c.loop-place.out.items c.advance.new.out.items c.loop-place.writer c.advance.new.writer _ (walked c.args.level (parts_of c.args.parts.now) c.args.above c.loop-place.place (c.in_ok-place.place - c.loop-place.place)) _ _
          (items-step c.args.level (parts_of c.args.parts.now) c.args.above c.loop-place.place c.in_ok-place.place c.args.to c.requires.items c.requires.well.fits (omega (arith, e.after.0)) e.after.1) e.added (c.loop-place.invariant.added start xs k);
    }

pub walk_lists_of_items-returns-clause-added : goal.walk_lists_of_items-returns-clause-added
walk_lists_of_items-returns-clause-added t c = λ start xs k.
    goes_end start c.loop-place.out.items c.loop-place.writer _ _ (walked-none c.args.level (parts_of c.args.parts.now) c.args.above c.loop-place.place (c.args.to - c.loop-place.place) (omega arith)) (c.loop-place.invariant.added start xs k)

pub walk_blocks-loop-place-preserved : goal.walk_blocks-loop-place-preserved
walk_blocks-loop-place-preserved t c =
    let e = c.in_ok-place.ensures in
    record {
      after = omega (arith, c.loop-place.invariant.after, e.after.0);
      before = e.after.1;
      first = omega arith;
      def = c.loop-place.invariant.def;
      depth = c.loop-place.invariant.depth;
      width = e.width ∙ c.loop-place.invariant.width;
      kept = kept_then c.args.out.now.items c.loop-place.out.items c.walk_block.new.out.items c.loop-place.invariant.kept e.kept;
      added = λ start xs k. goes_on start c.loop-place.out.items c.walk_block.new.out.items c.loop-place.writer c.walk_block.new.writer _ (walked c.args.level (parts_of c.args.parts.now) c.loop-place.front c.loop-place.place (c.in_ok-place.place - c.loop-place.place)) _ _
          (walked-step c.args.level (parts_of c.args.parts.now) c.loop-place.front (record { rep = c.loop-place.front.depth; def = c.loop-place.front.def; depth = c.loop-place.front.depth }) c.loop-place.place c.in_ok-place.place c.args.to refl refl refl e.after.0 e.after.1) e.added (c.loop-place.invariant.added start xs k);
    }

pub walk_blocks-returns-clause-added : goal.walk_blocks-returns-clause-added
walk_blocks-returns-clause-added t c = λ start xs k.
    goes_end start c.loop-place.out.items c.loop-place.writer _ _ (walked-none c.args.level (parts_of c.args.parts.now) c.loop-place.front c.loop-place.place (c.args.to - c.loop-place.place) (omega arith)) (c.loop-place.invariant.added start xs k)

pub walk_block-push_told-requires : goal.walk_block-push_told-requires
walk_block-push_told-requires t c =
    record { holds = subst (All (λ v. v < 2 ^ c.args.writer.now.width)) (sym (c.as_slice.ensures ∙ c.tell_block.ensures c.if-tell_block.true)) (walked-below c.args.level (parts_of c.args.parts.now) c.args.above c.args.place (c.block_end-next.result - c.args.place) c.args.writer.now.width c.requires.low.first c.requires.holds) }

pub walk_block-returns-then-tell_block-clause-added : goal.walk_block-returns-then-tell_block-clause-added
walk_block-returns-then-tell_block-clause-added t c = λ start xs k.
    subst (λ (ys : List ℕ). Keeps start c.push_told.new.out.items c.push_told.new.writer (xs ++ ys)) (c.as_slice.ensures ∙ c.tell_block.ensures c.if-tell_block.true) (c.in_ok-push_told.ensures.added start xs k)
