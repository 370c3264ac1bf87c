use Rattle.std.proofs.Common.{◌≤◌, ◌<◌, List, length, refl, sym, ap, subst, arith}
use Rattle.std.proofs.lemmas.Bool.{false≢true}
use Rattle.columns_core.specs.Measures.{nesting}
use Rattle.columns_core.specs.Tree.{TypeTree}
use Rattle.columns_core.specs.View.{type_view}
use Rattle.columns_core.specs.declared.types.Field.{Field}
use Rattle.typed_rows.proofs.Walk.{front}
use Rattle.pq_tree.specs.declared.types.Encoding.{Encoding}
use Rattle.row_groups.specs.Groups.{IsNumbered}
use Rattle.row_groups.proofs.Counted.{same_number, numbered_step, numbered_more, shallow_step}
use Rattle.row_groups.proofs.numbers.are_numbered.Goals as goal

pub returns-then-fields-encodings : goal.returns-then-fields-encodings
returns-then-fields-encodings c = (λ h. absurd (false≢true h), λ e. absurd (c.if-fields-encodings.true (same_number c.args.fields.now c.args.encodings.now e)))

pub is_numbered-requires : goal.is_numbered-requires
is_numbered-requires c =
    let i = c.fields.i in
    let fs = c.args.fields.now in
    let ess = c.args.encodings.now in
    let h : i < length fs = c.fields-test.true in
    let lf = front fs i c.index-fields-i.result h c.index-fields-i.is in
    let le = front ess i c.index-encodings-i.result (omega (arith, h, c.if-fields-encodings.false)) c.index-encodings-i.is in
    subst (λ (t : TypeTree). nesting t ≤ 128) (ap (λ (f : Field). type_view f.data_type) c.index-fields-i.is) ((shallow_step fs ess i c.index-fields-i.result c.index-encodings-i.result lf le c.fields.invariant.shallow).0)

pub returns-then-not-is_numbered : goal.returns-then-not-is_numbered
returns-then-not-is_numbered c =
    let i = c.fields.i in
    let fs = c.args.fields.now in
    let ess = c.args.encodings.now in
    let h : i < length fs = c.fields-test.true in
    let lf = front fs i c.index-fields-i.result h c.index-fields-i.is in
    let le = front ess i c.index-encodings-i.result (omega (arith, h, c.if-fields-encodings.false)) c.index-encodings-i.is in (
      λ q. absurd (false≢true q),
      λ e.
          c.if-not-is_numbered.ensures.1
          (subst (λ (t : TypeTree). IsNumbered t c.deref.result.now) (ap (λ (f : Field). type_view f.data_type) c.index-fields-i.is)
          (subst (λ (es : List Encoding). IsNumbered (type_view c.index-fields-i.result.data_type) es) (sym c.deref.ensures.value) (numbered_step fs ess i c.index-fields-i.result c.index-encodings-i.result lf le (c.fields.invariant.needed e)).0)),
    )

pub fields-preserved : goal.fields-preserved
fields-preserved c =
    let i = c.fields.i in
    let fs = c.args.fields.now in
    let ess = c.args.encodings.now in
    let h : i < length fs = c.fields-test.true in
    let lf = front fs i c.index-fields-i.result h c.index-fields-i.is in
    let le = front ess i c.index-encodings-i.result (omega (arith, h, c.if-fields-encodings.false)) c.index-encodings-i.is in
    record {
      enough = λ e. c.fields.invariant.enough (numbered_more fs ess i c.index-fields-i.result c.index-encodings-i.result lf le
          (subst (λ (es : List Encoding). IsNumbered (type_view c.index-fields-i.result.data_type) es) c.deref.ensures.value
          (subst (λ (t : TypeTree). IsNumbered t c.deref.result.now) (sym (ap (λ (f : Field). type_view f.data_type) c.index-fields-i.is)) (c.if-not-is_numbered.ensures.0 refl))) e);
      needed = λ e. (numbered_step fs ess i c.index-fields-i.result c.index-encodings-i.result lf le (c.fields.invariant.needed e)).1;
      shallow = (shallow_step fs ess i c.index-fields-i.result c.index-encodings-i.result lf le c.fields.invariant.shallow).1;
    }
