use Rattle.std.proofs.Common.{◌+◌, ◌-◌, ◌≤◌, arith}
use Rattle.levels.specs.Nested.{parts_of}
use Rattle.level_sections.specs.Blocks.{flat_level}
use Rattle.level_sections.proofs.Blocks.{reaches-less, from-split, from-none}
use Rattle.level_sections.proofs.Bytes.{told-more, told-end, told-as}
use Rattle.level_sections.proofs.tell.tell_levels.Goals as goal

pub flat_bytes-bytes-requires-clause-reaches : goal.flat_bytes-bytes-requires-clause-reaches
flat_bytes-bytes-requires-clause-reaches c = reaches-less c.args.to _ (parts_of c.args.parts.now) (omega (arith, c.min-count.ensures, c.loop-place-test.true)) c.requires.reaches

pub loop-place-preserved : goal.loop-place-preserved
loop-place-preserved c =
    let h = c.loop-place.invariant in
    let level = flat_level (parts_of c.args.parts.now) c.args.def in
    let within : c.loop-place.place + c.min-count.result ≤ c.args.to = omega (arith, c.min-count.ensures, c.loop-place-test.true) in
    record {
      after = omega (arith, h.after);
      before = within;
      told = told-more c.loop-place.told c.push_block.new.self _ _ _ _ (told-as _ _ _ _ c.flat_bytes-bytes.ensures (c.push_block.ensures c.if-not-push_block.false)) (from-split level c.loop-place.place c.min-count.result c.args.to within) h.told;
    }

pub returns : goal.returns
returns c = λ t. told-end c.loop-place.told _ _ (from-none _ c.loop-place.place (c.args.to - c.loop-place.place) (omega (arith, c.loop-place-test.false))) c.loop-place.invariant.told
