use Rattle.std.proofs.Common.{◌+◌, ◌-◌, ◌*◌, ◌≤◌, length, arith}
use Rattle.write_values.proofs.FixedPlaces.{run_ends, run_is}
use Rattle.write_values.proofs.fixed.FixedStrings.run.Goals as goal

pub overflow_mul-from : goal.overflow_mul-from
overflow_mul-from c =
    let a = c.args.self.now.array.now in
    let ends : c.args.from * c.args.self.now.width + (c.args.to - c.args.from) * c.args.self.now.width ≤ length c.values.result.now = rw (c.args.self.now.is_width, c.values.ensures) (run_ends a.0 a.1.0 c.args.from c.args.to c.requires.ordered c.requires.within) in
    omega (arith, ends, c.values.type_inv)

pub overflow_mul-to : goal.overflow_mul-to
overflow_mul-to c =
    let a = c.args.self.now.array.now in
    let ends : c.args.from * c.args.self.now.width + (c.args.to - c.args.from) * c.args.self.now.width ≤ length c.values.result.now = rw (c.args.self.now.is_width, c.values.ensures) (run_ends a.0 a.1.0 c.args.from c.args.to c.requires.ordered c.requires.within) in
    omega (arith, ends, c.values.type_inv)

pub cut-requires : goal.cut-requires
cut-requires c =
    let a = c.args.self.now.array.now in
    rw (c.args.self.now.is_width, c.values.ensures) (run_ends a.0 a.1.0 c.args.from c.args.to c.requires.ordered c.requires.within)

pub returns : goal.returns
returns c =
    let a = c.args.self.now.array.now in
    rw (c.cut.ensures, c.args.self.now.is_width, c.values.ensures) (run_is a.0 a.1.0 c.args.from c.args.to c.requires.ordered c.requires.within)
