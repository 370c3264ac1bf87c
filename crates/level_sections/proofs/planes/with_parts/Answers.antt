use Rattle.std.proofs.Common.{◌+◌, ◌==◌, ◌≤◌, ◌∙◌, sym, ap, refl, arith, length}
use Rattle.std.specs.Prelude.{bit_and}
use Rattle.std.specs.Int.{bit_at}
use Rattle.levels.specs.Nested.{part_of, parts_of}
use Rattle.level_sections.specs.Planes.{plane_number}
use Rattle.level_sections.proofs.Blocks.{parts-end}
use Rattle.level_sections.proofs.PlaneNumbers.{bit-most, parts-optional, parts-required}
use Rattle.level_sections.proofs.planes.with_parts.Goals as goal

pub loop-part-preserved-then-is_optional : goal.loop-part-preserved-then-is_optional
loop-part-preserved-then-is_optional c =
    let e = c.part_word-is_optional.ensures in
    let h = c.loop-part.invariant in
    let next = bit_and c.loop-part.alive c.part_word-is_optional.result.1 in
    let longer = ap length c.in-Some.ensures.cases.0 in
    record {
      reaches = (rw c.in-Some.ensures.cases.0 at h.reaches).1;
      low = λ i b.
          let few : plane_number c.loop-part.sums i + bit_at next i ≤ 7 = omega (arith, h.low i b, longer, bit-most next i) in
          omega (arith, h.low i b, longer, c.with_bits-sums.ensures i few, bit-most next i);
      same = λ i b def.
          let few : plane_number c.loop-part.sums i + bit_at next i ≤ 7 = omega (arith, h.low i b, longer, bit-most next i) in
          parts-optional (part_of c.in-Some.part.now) (parts_of c.in-Some.beneath.now) def (plane_number c.loop-part.sums i) (plane_number c.with_bits-sums.result i) i (c.args.place + i) c.loop-part.alive c.part_word-is_optional.result.1 next (sym e.optional ∙ c.if-is_optional.true) refl (e.bits i b) (c.with_bits-sums.ensures i few)
          ∙ (rw c.in-Some.ensures.cases.0 at h.same i b def);
    }

pub loop-part-preserved : goal.loop-part-preserved
loop-part-preserved c =
    let e = c.part_word-is_optional.ensures in
    let h = c.loop-part.invariant in
    let next = bit_and c.loop-part.alive c.part_word-is_optional.result.1 in
    record {
      reaches = (rw c.in-Some.ensures.cases.0 at h.reaches).1;
      low = λ i b. omega (arith, h.low i b, ap length c.in-Some.ensures.cases.0);
      same = λ i b def.
          parts-required (part_of c.in-Some.part.now) (parts_of c.in-Some.beneath.now) (def + plane_number c.loop-part.sums i) i (c.args.place + i) c.loop-part.alive c.part_word-is_optional.result.1 next (sym e.optional ∙ c.if-is_optional.false) refl (e.bits i b)
          ∙ (rw c.in-Some.ensures.cases.0 at h.same i b def);
    }

pub returns : goal.returns
returns c = λ i b def. sym (parts-end (bit_at c.loop-part.alive i == 1) c.loop-part.rest.now (def + plane_number c.loop-part.sums i) (c.args.place + i) c.in_default.ensures.cases) ∙ c.loop-part.invariant.same i b def
