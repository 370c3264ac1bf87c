use Rattle.std.proofs.Common.{◌+◌, ◌-◌, ◌≤◌, ◌∙◌, arith}
use Rattle.levels.specs.Nested.{parts_of}
use Rattle.pq_runs.proofs.Packs.{kept_then}
use Rattle.level_sections.specs.Blocks.{flat_level, levels_from}
use Rattle.level_sections.proofs.Walked.{goes_on, goes_end}
use Rattle.level_sections.proofs.Blocks.{reaches-less, from-split, from-none}
use Rattle.level_sections.proofs.block.push_blocks.Goals as goal

pub push_block-requires-clause-reaches : goal.push_block-requires-clause-reaches
push_block-requires-clause-reaches c = reaches-less c.args.to _ (parts_of c.args.parts.now) (omega (arith, c.min-count.ensures, c.loop-place-test.true)) c.requires.reaches

pub loop-place-preserved : goal.loop-place-preserved
loop-place-preserved c =
    let h = c.loop-place.invariant in
    let e = c.in_ok-push_block.ensures in
    let level = flat_level (parts_of c.args.parts.now) c.args.def in
    let within : c.loop-place.place + c.min-count.result ≤ c.args.to = omega (arith, c.min-count.ensures, c.loop-place-test.true) in
    record {
      after = omega (arith, h.after);
      before = within;
      width = e.width ∙ h.width;
      kept = kept_then c.args.out.now.items c.loop-place.out.items c.push_block.new.out.items h.kept e.kept;
      added = λ start xs k. goes_on start c.loop-place.out.items c.push_block.new.out.items c.loop-place.writer c.push_block.new.writer _ (levels_from level c.loop-place.place c.min-count.result) _ _ (from-split level c.loop-place.place c.min-count.result c.args.to within) e.added (h.added start xs k);
    }

pub returns-clause-added : goal.returns-clause-added
returns-clause-added c = λ start xs k. goes_end start c.loop-place.out.items c.loop-place.writer _ _ (from-none _ c.loop-place.place (c.args.to - c.loop-place.place) (omega (arith, c.loop-place-test.false))) (c.loop-place.invariant.added start xs k)
