use Rattle.std.proofs.Common.{◌+◌, ◌*◌, ◌≤◌, ◌∙◌, length, ap, arith}
use Rattle.shredding.specs.Slot.{bytes}
use Rattle.write_values.proofs.FixedPlaces.{string_ends, string_is, string_size}
use Rattle.write_values.proofs.fixed.FixedStrings.string.Goals as goal

pub overflow_mul-i : goal.overflow_mul-i
overflow_mul-i c =
    let a = c.args.self.now.array.now in
    let ends : c.args.i * c.args.self.now.width + c.args.self.now.width ≤ length c.values.result.now = rw (c.args.self.now.is_width, c.values.ensures) (string_ends a.0 a.1.0 c.args.i c.requires) in
    omega (arith, ends, c.values.type_inv)

pub cut-requires : goal.cut-requires
cut-requires c =
    let a = c.args.self.now.array.now in
    rw (c.args.self.now.is_width, c.values.ensures) (string_ends a.0 a.1.0 c.args.i c.requires)

pub returns-clause-is : goal.returns-clause-is
returns-clause-is c =
    let a = c.args.self.now.array.now in
    ap bytes c.cut.ensures ∙ rw (c.args.self.now.is_width, c.values.ensures) (string_is a.0 a.1.0 c.args.i c.requires)

pub returns-clause-size : goal.returns-clause-size
returns-clause-size c =
    let a = c.args.self.now.array.now in
    ap length c.cut.ensures ∙ rw (c.args.self.now.is_width, c.values.ensures) (string_size a.0 a.1.0 c.args.i c.requires)
