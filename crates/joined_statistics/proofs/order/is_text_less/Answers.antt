use Rattle.std.proofs.Common.{subst}
use Rattle.joined_statistics.specs.declared.order.TextOrder.{TextOrder}
use Rattle.joined_statistics.specs.Orders.{IsOrderOf}
use Rattle.joined_statistics.proofs.order.is_text_less.Goals as goal

pub returns-in-Signed-clause-less : goal.returns-in-Signed-clause-less
returns-in-Signed-clause-less c = λ e t p u v o.
    c.is_signed_less.ensures.less e t p u v (subst (λ (x : TextOrder). IsOrderOf x t) c.in-Signed.is o)

pub returns-in-Signed-clause-other : goal.returns-in-Signed-clause-other
returns-in-Signed-clause-other c = λ e t p u v o.
    c.is_signed_less.ensures.other e t p u v (subst (λ (x : TextOrder). IsOrderOf x t) c.in-Signed.is o)

pub returns-in-Unsigned-clause-less : goal.returns-in-Unsigned-clause-less
returns-in-Unsigned-clause-less c = λ e t p u v o.
    c.is_unsigned_less.ensures.less e t p u v (subst (λ (x : TextOrder). IsOrderOf x t) c.in-Unsigned.is o)

pub returns-in-Unsigned-clause-other : goal.returns-in-Unsigned-clause-other
returns-in-Unsigned-clause-other c = λ e t p u v o.
    c.is_unsigned_less.ensures.other e t p u v (subst (λ (x : TextOrder). IsOrderOf x t) c.in-Unsigned.is o)

pub returns-in-Bytes-clause-less : goal.returns-in-Bytes-clause-less
returns-in-Bytes-clause-less c = λ e t p u v o.
    c.are_bytes_less.ensures.less e t p u v (subst (λ (x : TextOrder). IsOrderOf x t) c.in-Bytes.is o)

pub returns-in-Bytes-clause-other : goal.returns-in-Bytes-clause-other
returns-in-Bytes-clause-other c = λ e t p u v o.
    c.are_bytes_less.ensures.other e t p u v (subst (λ (x : TextOrder). IsOrderOf x t) c.in-Bytes.is o)
