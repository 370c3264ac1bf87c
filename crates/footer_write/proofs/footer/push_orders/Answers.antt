use Rattle.std.proofs.Common.{◌<◌, ◌^◌, length, rules, subst, sym}
use Rattle.pq_thrift.specs.Value.{list, values_of}
use Rattle.pq_tree.specs.Columns.{column_of}
use Rattle.pq_tree.specs.Described.{column_view}
use Rattle.pq_tree.specs.Tree.{columns_of}
use Rattle.pq_tree.specs.TreeViews.{schema_view}
use Rattle.pq_files.specs.Written.{empty, one}
use Rattle.thrift_fields.specs.Appended.{AppendsField}
use Rattle.thrift_fields.proofs.Chains.{count_is, list_field}
use Rattle.footer_write.proofs.Nodes.{same_const, same_length}
use Rattle.footer_write.proofs.footer.push_orders.Goals as goal

pub returns : goal.returns
returns c =
    let columns = c.columns-columns.result.now in
    let leaves = columns_of (schema_view c.args.schema.now) in
    let small : length columns < 2 ^ 64 = search rules in
    let same = same_const (one 1 empty) columns leaves (same_length column_view column_of columns leaves c.columns-columns.ensures) in
    subst (λ vs. AppendsField c.args.last c.args.id (list 12 (values_of vs)) c.args.out.now.items c.push_each_order.new.out.items) same
    (list_field (search rules) small (sym (count_is (λ d. one 1 empty) columns)) c.in_ok-push_list_head.ensures c.in_ok-push_each_order.ensures)
