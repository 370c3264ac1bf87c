use Rattle.std.proofs.Common.{◌*◌, ◌∙◌, ℕ, ap, sym}
use Rattle.std.specs.Prelude.{count_ones}
use Rattle.columns_slots.specs.Tree.{leaf_array}
use Rattle.pq_tree.specs.Physical.{fixed}
use Rattle.write_places.specs.Places.{picked}
use Rattle.write_places.proofs.Picked.{length_picked}
use Rattle.write_values.specs.Fixed.{strings_in, width_in}
use Rattle.write_values.specs.Stored.{stored_at}
use Rattle.write_values.proofs.FixedPlaces.{strings_size}
use Rattle.write_values.proofs.fixed.FixedStringsLeafValues.some_size.Goals as goal

pub returns : goal.returns
returns c =
    let a = c.args.self.now.array.now in
    let w = width_in a.0 in
    ap (λ (k : ℕ). count_ones c.args.bits * k) c.args.self.now.is_width
    ∙ (ap (λ (k : ℕ). k * w) (sym (length_picked c.args.bits c.args.from c.args.places c.requires.low))
    ∙ strings_size w (stored_at (leaf_array a.0 (strings_in a.0 a.1.0) a.1.1) (fixed w)) (picked c.args.bits c.args.from c.args.places))
