use Rattle.std.proofs.Common.{◌≡◌, ◌+◌, ◌∙◌, true, sym, ap, refl, arith, length}
use Rattle.std.specs.Int.{bit_at}
use Rattle.levels.specs.Nested.{part_of}
use Rattle.level_sections.specs.Blocks.{part_optional}
use Rattle.level_sections.proofs.Blocks.{level-null, level-word, level-there, level-required, no_parts, zero_bit, one_bit}
use Rattle.level_sections.proofs.block.front_at.Goals as goal

pub returns-then-word-eq0 : goal.returns-then-word-eq0
returns-then-word-eq0 c =
    let e = c.part_word-is_optional.ensures in
    λ i b. c.loop-part.invariant.same i b ∙ rw c.in-Some.ensures.cases.0 (level-null _ _ _ _ (sym (e.bits i b) ∙ zero_bit _ i c.if-word-eq0.true))

pub returns-then-word-full : goal.returns-then-word-full
returns-then-word-full c =
    let e = c.part_word-is_optional.ensures in
    let h = c.loop-part.invariant in (
      λ i b. h.same i b ∙ rw c.in-Some.ensures.cases.0 (level-word _ _ _ _ i _ (e.bits i b) (sym e.optional ∙ c.if-is_optional.true)),
      (rw c.in-Some.ensures.cases.0 at h.reaches).1,
      omega (arith, h.low, ap length c.in-Some.ensures.cases.0),
    )

pub loop-part-preserved-else-word-full : goal.loop-part-preserved-else-word-full
loop-part-preserved-else-word-full c =
    let e = c.part_word-is_optional.ensures in
    let h = c.loop-part.invariant in
    let optional : part_optional (part_of c.in-Some.part.now) ≡ true = sym e.optional ∙ c.if-is_optional.true in
    record {
      reaches = (rw c.in-Some.ensures.cases.0 at h.reaches).1;
      low = omega (arith, h.low, ap length c.in-Some.ensures.cases.0);
      same = λ i b. h.same i b ∙ rw c.in-Some.ensures.cases.0 (level-there _ _ _ _ _ (sym (e.bits i b) ∙ one_bit _ i (ap (λ w. bit_at w i) c.if-word-full.false ∙ c.full_word-full.ensures i b)) (rw optional refl));
    }

pub loop-part-preserved : goal.loop-part-preserved
loop-part-preserved c =
    let e = c.part_word-is_optional.ensures in
    let h = c.loop-part.invariant in
    record {
      reaches = (rw c.in-Some.ensures.cases.0 at h.reaches).1;
      low = omega (arith, h.low, ap length c.in-Some.ensures.cases.0);
      same = λ i b. h.same i b ∙ rw c.in-Some.ensures.cases.0 (level-required _ _ _ _ (sym e.optional ∙ c.if-is_optional.false));
    }

pub returns : goal.returns
returns c = λ i b. c.loop-part.invariant.same i b ∙ no_parts c.loop-part.rest.now c.loop-part.level (c.args.place + i) c.in_default.ensures.cases
