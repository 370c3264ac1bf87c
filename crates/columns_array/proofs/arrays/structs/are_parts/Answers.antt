use Rattle.std.proofs.Common.{◌<◌, length, sym, true≢false, ◌∙◌, arith}
use Rattle.columns_array.proofs.Parts.{step_at, sound_at, fit_len}
use Rattle.columns_array.proofs.arrays.structs.are_parts.Goals as goal

pub returns-then-len-clause-fit : goal.returns-then-len-clause-fit
returns-then-len-clause-fit c = (
  λ h. absurd (true≢false (sym h)),
  λ h. absurd (omega (arith, c.if-len.true, c.len.ensures, c.len-2.ensures, c.args.fields.now.ok.0, c.args.values.now.ok.0, fit_len c.args.size c.args.fields.now.items c.args.values.now.items h)),
)

pub returns-then-not-is_same_type-clause-fit : goal.returns-then-not-is_same_type-clause-fit
returns-then-not-is_same_type-clause-fit c =
    let k : c.loop-i.i < length c.args.values.now.items = omega (arith, c.loop-i-test.true, c.len-i-end.ensures, c.args.values.now.ok.0) in
    let j : c.loop-i.i < length c.args.fields.now.items = omega (arith, k, c.if-len.false, c.len.ensures, c.len-2.ensures, c.args.fields.now.ok.0, c.args.values.now.ok.0) in
    let st = step_at c.args.size c.args.fields.now.items c.args.values.now.items c.loop-i.i c.index-field.result.now c.index-value.result.now j k c.index-field.ensures c.index-value.ensures in (
      λ h. absurd (true≢false (sym h)),
      λ h. absurd (true≢false (sym (c.is_same_type.ensures.1 ((st.0 (c.loop-i.invariant.parts.0 h)).0.0 ∙ sym c.data_type.ensures)) ∙ c.if-not-is_same_type.true)),
    )

pub loop-i-preserved : goal.loop-i-preserved
loop-i-preserved c =
    let k : c.loop-i.i < length c.args.values.now.items = omega (arith, c.loop-i-test.true, c.len-i-end.ensures, c.args.values.now.ok.0) in
    let j : c.loop-i.i < length c.args.fields.now.items = omega (arith, k, c.if-len.false, c.len.ensures, c.len-2.ensures, c.args.fields.now.ok.0, c.args.values.now.ok.0) in
    let st = step_at c.args.size c.args.fields.now.items c.args.values.now.items c.loop-i.i c.index-field.result.now c.index-value.result.now j k c.index-field.ensures c.index-value.ensures in
    let same = c.is_same_type.ensures.0 c.if-not-is_same_type.false ∙ c.data_type.ensures in
    let size = sym c.len-in-loop-i.ensures ∙ c.if-len-size.false in
    record {
      parts = (λ h. (st.0 (c.loop-i.invariant.parts.0 h)).1, λ h. c.loop-i.invariant.parts.1 (st.1 ((same, size), h)));
      sound = λ h. c.loop-i.invariant.sound (sound_at c.args.size c.args.values.now.items c.loop-i.i c.index-value.result.now k c.index-value.ensures c.know.ensures size h);
    }
