use Rattle.std.proofs.Common.{◌≡◌, ◌∙◌, ap, subst}
use Rattle.columns_core.specs.Shapes.{leaf_type}
use Rattle.columns_core.specs.View.{type_view}
use Rattle.joined_statistics.specs.Orders.{AreBytes, AreSigned, AreUnsigned}
use Rattle.joined_statistics.proofs.Stated.{leaf_base}
use Rattle.joined_statistics.proofs.order.text_order.Goals as goal

pub returns-then-are_signed : goal.returns-then-are_signed
returns-then-are_signed c =
    subst AreSigned (ap leaf_type c.base-base.ensures ∙ leaf_base (type_view c.args.data_type.now)) (c.are_signed.ensures c.if-are_signed.true)

pub returns-then-are_unsigned : goal.returns-then-are_unsigned
returns-then-are_unsigned c =
    subst AreUnsigned (ap leaf_type c.base-base.ensures ∙ leaf_base (type_view c.args.data_type.now)) (c.are_unsigned.ensures c.if-are_unsigned.true)

pub returns-then-are_bytes : goal.returns-then-are_bytes
returns-then-are_bytes c =
    subst AreBytes (ap leaf_type c.base-base.ensures ∙ leaf_base (type_view c.args.data_type.now)) (c.are_bytes.ensures c.if-are_bytes.true)
