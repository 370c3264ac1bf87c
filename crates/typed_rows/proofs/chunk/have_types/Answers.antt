use Rattle.std.proofs.Common.{◌<◌, length, refl, sym, ap, ◌∙◌, arith}
use Rattle.std.proofs.lemmas.Bool.{false≢true}
use Rattle.columns_core.specs.View.{type_view}
use Rattle.columns_core.specs.declared.types.Field.{Field}
use Rattle.typed_rows.proofs.Walk.{front, same_number, typed_more, typed_step}
use Rattle.typed_rows.proofs.chunk.have_types.Goals as goal

pub returns-then-fields-arrays : goal.returns-then-fields-arrays
returns-then-fields-arrays c = (λ h. absurd (false≢true h), λ e. absurd (c.if-fields-arrays.true (same_number c.args.fields.now c.args.arrays.now e)))

pub returns-then-not-is_same_type : goal.returns-then-not-is_same_type
returns-then-not-is_same_type c =
    let i = c.fields.i in
    let h : i < length c.args.fields.now = c.fields-test.true in
    let lf = front c.args.fields.now i c.index-fields-i.result h c.index-fields-i.is in
    let lx = front c.args.arrays.now i c.index-arrays-i.result (omega (arith, h, c.if-fields-arrays.false)) c.index-arrays-i.is in
    (λ q. absurd (false≢true q), λ e. c.if-not-is_same_type.ensures.1 (sym (ap (λ (f : Field). type_view f.data_type) c.index-fields-i.is) ∙ ((typed_step c.args.fields.now c.args.arrays.now i c.index-fields-i.result c.index-arrays-i.result lf lx (c.fields.invariant.needed e)).0 ∙ sym c.data_type.ensures)))

pub fields-preserved : goal.fields-preserved
fields-preserved c =
    let i = c.fields.i in
    let h : i < length c.args.fields.now = c.fields-test.true in
    let lf = front c.args.fields.now i c.index-fields-i.result h c.index-fields-i.is in
    let lx = front c.args.arrays.now i c.index-arrays-i.result (omega (arith, h, c.if-fields-arrays.false)) c.index-arrays-i.is in
    record {
      enough = λ e. c.fields.invariant.enough (typed_more c.args.fields.now c.args.arrays.now i c.index-fields-i.result c.index-arrays-i.result lf lx (ap (λ (f : Field). type_view f.data_type) c.index-fields-i.is ∙ (c.if-not-is_same_type.ensures.0 refl ∙ c.data_type.ensures)) e);
      needed = λ e. (typed_step c.args.fields.now c.args.arrays.now i c.index-fields-i.result c.index-arrays-i.result lf lx (c.fields.invariant.needed e)).1;
    }
