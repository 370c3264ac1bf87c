use Rattle.std.proofs.Common.{◌≡◌, ◌*◌, ◌+◌, ◌/◌, ◌%◌, count_by, not, sym, ap, ◌∙◌, arith}
use Rattle.columns_core.specs.Bits.{bits_from}
use Rattle.columns_core.proofs.Packed.{count_fits, count_split}
use Rattle.columns_core.proofs.bit_runs.unset_in.Goals as goal

pub overflow_add-result : goal.overflow_add-result
overflow_add-result c =
    omega (arith, count_fits c.args.bytes.now c.args.from (8 * (c.args.length / 8)), count_fits c.args.bytes.now (c.args.from + 8 * (c.args.length / 8)) (c.args.length % 8), c.unset_whole.ensures, c.unset_single.ensures)

pub returns : goal.returns
returns c =
    let n = 8 * (c.args.length / 8) in
    let e : 8 * (c.args.length / 8) + c.args.length % 8 ≡ c.args.length = omega arith in
    rw (c.unset_whole.ensures, c.unset_single.ensures) (sym (count_split c.args.bytes.now c.args.from (8 * (c.args.length / 8)) (c.args.length % 8)) ∙ ap (λ m. count_by not (bits_from c.args.bytes.now c.args.from m)) e)
