use Rattle.std.proofs.Common.{subst}
use Rattle.columns_core.specs.Shapes.{leaf_type}
use Rattle.columns_core.specs.Tree.{TypeTree}
use Rattle.joined_statistics.specs.Orders.{IsOrderOf}
use Rattle.write_pages.proofs.JoinedRows.{each_some}
use Rattle.write_pages.proofs.known_pages.order_of_pages.Goals as goal

pub returns-clause-order : goal.returns-clause-order
returns-clause-order c =
    each_some c.text_order.result _ _ (λ o. subst (λ (t : TypeTree). IsOrderOf o (leaf_type t)) c.data_type.ensures) c.text_order.ensures

pub returns-clause-wanted : goal.returns-clause-wanted
returns-clause-wanted c = each_some c.text_order.result _ _ (λ o h. c.if-not-is_wanted.false) c.text_order.ensures
