use Rattle.std.proofs.Common.{◌*◌, ◌/◌, ◌-◌, arith}
use Rattle.columns_core.proofs.Grown.{three_copies}
use Rattle.columns_core.proofs.mutable_bitmap.MutableBitmap.extend_constant.Goals as goal

pub returns-clause-ok : goal.returns-clause-ok
returns-clause-ok c =
    let a = c.until_byte-front.result in
    rw c.reserve.ensures.same at (three_copies c.reserve.new.self.0 c.push_copies.new.self.0 c.push_whole.new.self.0 c.push_copies-2.new.self.0 c.args.value a (8 * ((c.args.additional - a) / 8)) (c.args.additional - a - 8 * ((c.args.additional - a) / 8)) c.args.additional c.push_copies.ensures.same c.push_whole.ensures.same c.push_copies-2.ensures.same (omega (arith, c.until_byte-front.ensures.within)))
