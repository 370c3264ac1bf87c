use Rattle.std.proofs.Common.{inl, inr}
use Rattle.columns_array.specs.Boxed.{boxed}
use Rattle.levels.specs.Nested.{parts_of}
use Rattle.write_pages.proofs.ColumnLists.{is_column, node_same}
use Rattle.write_pages.proofs.columns.push_column.Goals as goal

pub returns-in-Err-clause-err : goal.returns-in-Err-clause-err
returns-in-Err-clause-err c = elim c.in-Err.ensures.err [ inl m ↦ inl m | inr h ↦ inr (c.in_ok-type_.type_, node_same c.in_ok-type_.type_ c.args.type_.now c.in_ok-type_.ensures.same, h) ]

pub returns-clause-ok : goal.returns-clause-ok
returns-clause-ok c =
    is_column c.args.options c.in_ok-type_.type_ c.args.type_.now (parts_of c.args.nested.now) (boxed c.args.array.now) c.args.encoding c.args.columns.now.items _ c.in-Ok.pages c.in_ok-type_.ensures.same c.in_ok-push-in-Ok.ensures.items c.in-Ok.ensures.fits c.in-Ok.ensures.ok
