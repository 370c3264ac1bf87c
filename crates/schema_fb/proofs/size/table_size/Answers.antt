use Rattle.std.proofs.Common.{◌+◌, ◌*◌, ◌%◌, ◌^◌, ◌≡◌, suc, arith}
use Rattle.schema_fb.specs.Layout.{gap}
use Rattle.schema_fb.proofs.Sizes.{sum_low}
use Rattle.schema_fb.proofs.size.table_size.Goals as goal

pub returns : goal.returns
returns c =
    let slots = c.args.slots in
    let back : (slots * 8 % 2 ^ 64 + 8) % 2 ^ 64 ≡ 8 * suc slots % 2 ^ 64 = omega arith in
    sum_low c.vtable_size.result _ (4 + 2 * slots + gap (4 + 2 * slots)) (8 * suc slots) c.vtable_size.ensures back
