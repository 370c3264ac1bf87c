use Rattle.std.proofs.Common.{◌≡◌, ◌∙◌, List, ap, inr, subst}
use Rattle.std.specs.Prelude.{IfErr, OnOk}
use Rattle.columns_array.specs.Boxed.{boxed}
use Rattle.levels.specs.declared.nested.Nested.{Nested}
use Rattle.leaf_pages.proofs.Causes.{each_err}
use Rattle.leaf_pages.specs.Columns.{IsOfValues, IsTooWide, MisfitsAlong, PathColumn, column_along, leaf_column}
use Rattle.leaf_pages.proofs.conditions.check_flat.Goals as goal

pub returns-clause-ok : goal.returns-clause-ok
returns-clause-ok c =
    let a = boxed c.args.array.now in
    let same : column_along c.args.type_.now c.deref.result.now a ≡ leaf_column c.args.type_.now a = ap (λ (xs : List Nested). column_along c.args.type_.now xs a) c.deref.ensures.value ∙ c.in_ok-nested.ensures.ok in
    subst (λ (x : PathColumn). OnOk c.check_along.result (IsOfValues x)) same c.check_along.ensures.ok

pub returns-clause-held : goal.returns-clause-held
returns-clause-held c =
    let a = boxed c.args.array.now in
    let same : column_along c.args.type_.now c.deref.result.now a ≡ leaf_column c.args.type_.now a = ap (λ (xs : List Nested). column_along c.args.type_.now xs a) c.deref.ensures.value ∙ c.in_ok-nested.ensures.ok in
    subst (λ (x : PathColumn). OnOk c.check_along.result (¬ IsTooWide x)) same c.check_along.ensures.held

pub returns-clause-err : goal.returns-clause-err
returns-clause-err c =
    let a = boxed c.args.array.now in
    let same : column_along c.args.type_.now c.deref.result.now a ≡ leaf_column c.args.type_.now a = ap (λ (xs : List Nested). column_along c.args.type_.now xs a) c.deref.ensures.value ∙ c.in_ok-nested.ensures.ok in
    each_err c.check_along.result _ _ (λ e h. inr h) (subst (λ (x : PathColumn). IfErr c.check_along.result (MisfitsAlong x)) same c.check_along.ensures.err)
