use Rattle.std.proofs.Common.{◌≡◌, ◌∙◌, Some, false, true, ap, sym, subst}
use Rattle.columns_slots.specs.Slots.{child_of, null_slots}
use Rattle.nested_paths.specs.ValueMasks.{IsValueMask, holds_values}
use Rattle.nested_paths.proofs.Values.{keyed_nowhere, keyed_stays, keyed_present, empty_is}
use Rattle.nested_paths.proofs.merge.entry_mask.Goals as goal

pub returns-then-not-holds_values-clause-ok : goal.returns-then-not-holds_values-clause-ok
returns-then-not-holds_values-clause-ok c =
    let a = c.args.keyed.now in
    let lacks : holds_values (child_of a) ≡ false = ap holds_values (sym c.values.ensures) ∙ sym c.holds_values.ensures ∙ c.if-not-holds_values.true in
    empty_is a _ c.empty_mask.result c.len.ensures (keyed_nowhere a c.know.ensures.parts lacks) c.empty_mask.ensures.ok

pub returns-then-null_count-eq0-clause-ok : goal.returns-then-null_count-eq0-clause-ok
returns-then-null_count-eq0-clause-ok c =
    let a = c.args.keyed.now in
    let holds : holds_values (child_of a) ≡ true = ap holds_values (sym c.values.ensures) ∙ sym c.holds_values.ensures ∙ c.if-not-holds_values.false in
    let none : null_slots (child_of a) ≡ 0 = ap null_slots (sym c.values-2.ensures) ∙ sym c.null_count.ensures ∙ c.if-null_count-eq0.true in
    keyed_stays a c.know.ensures.parts c.know.ensures.sound holds none

pub returns-clause-ok : goal.returns-clause-ok
returns-clause-ok c =
    let a = c.args.keyed.now in
    let holds : holds_values (child_of a) ≡ true = ap holds_values (sym c.values.ensures) ∙ sym c.holds_values.ensures ∙ c.if-not-holds_values.false in
    subst (λ m. IsValueMask a (Some m)) (sym c.in_ok-present_mask.ensures.ok) (keyed_present a c.know.ensures.parts holds)
