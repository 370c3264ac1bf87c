use Rattle.std.proofs.Common.{◌-◌, ◌*◌, ◌∙◌, ℕ, ap}
use Rattle.columns_slots.specs.Tree.{leaf_array}
use Rattle.pq_tree.specs.Physical.{fixed}
use Rattle.write_values.specs.Fixed.{strings_in, width_in}
use Rattle.write_values.specs.Stored.{stored_at}
use Rattle.write_values.proofs.FixedPlaces.{run_size}
use Rattle.write_values.proofs.fixed.FixedStringsLeafValues.plain_size.Goals as goal

pub returns : goal.returns
returns c =
    let a = c.args.self.now.array.now in
    let w = width_in a.0 in
    let count = c.args.to - c.args.from in
    ap (λ (n : ℕ). count * n) c.args.self.now.is_width ∙ run_size w (stored_at (leaf_array a.0 (strings_in a.0 a.1.0) a.1.1) (fixed w)) c.args.from count
