use Rattle.std.proofs.Common.{◌+◌, ◌==◌, ◌∙◌, sym, ap, refl, arith, length}
use Rattle.std.specs.Prelude.{slice_index, bit_and}
use Rattle.std.specs.Int.{bit_at}
use Rattle.levels.specs.Nested.{part_of, parts_of}
use Rattle.level_sections.proofs.Blocks.{part-more, parts-end, bit_most}
use Rattle.level_sections.proofs.block.add_parts.Goals as goal

pub loop-part-preserved : goal.loop-part-preserved
loop-part-preserved c =
    let e = c.part_word-is_optional.ensures in
    let h = c.loop-part.invariant in
    let next = bit_and c.loop-part.alive c.part_word-is_optional.result.1 in
    record {
      size = c.add_bits.ensures.size;
      reaches = (rw c.in-Some.ensures.cases.0 at h.reaches).1;
      low = λ i b. omega (arith, h.low i b, ap length c.in-Some.ensures.cases.0, c.add_bits.ensures.each i b, bit_most c.part_word-is_optional.result.0 next i);
      same = λ i b.
          part-more (part_of c.in-Some.part.now) (parts_of c.in-Some.beneath.now) (slice_index c.loop-part.levels i) (slice_index c.add_bits.new.levels i) i (c.args.place + i) c.loop-part.alive c.part_word-is_optional.result.1 next refl (e.bits i b) (rw (← e.optional) (c.add_bits.ensures.each i (omega (arith, b, c.requires.few))))
          ∙ (rw c.in-Some.ensures.cases.0 at h.same i b);
    }

pub returns-clause-each : goal.returns-clause-each
returns-clause-each c = λ i b. sym (parts-end (bit_at c.loop-part.alive i == 1) c.loop-part.rest.now (slice_index c.loop-part.levels i) (c.args.place + i) c.in_default.ensures.cases) ∙ c.loop-part.invariant.same i b
