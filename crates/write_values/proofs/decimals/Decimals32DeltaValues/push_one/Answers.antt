use Rattle.std.proofs.Common.{◌≡◌, ◌<◌, ◌∙◌, length, map, ap, sym, arith, rules, SFits, to_z, of_z, refl}
use Rattle.std.specs.Int.{w32}
use Rattle.std.proofs.lemmas.Int.{to_z-of_z}
use Rattle.std.proofs.lemmas.List.{length-map}
use Rattle.shredding.specs.Slot.{number}
use Rattle.columns_core.specs.Natives.{value_i128}
use Rattle.columns_core.specs.Shapes.{base}
use Rattle.columns_slots.specs.Tree.{leaf_array}
use Rattle.pq_runs.proofs.Steps.{finished}
use Rattle.pq_tree.specs.Physical.{int32}
use Rattle.write_values.specs.Stored.{stored_at}
use Rattle.write_values.proofs.DecimalPlaces.{decimal_at, found_at}
use Rattle.write_values.proofs.Fed.{feeds_number}
use Rattle.write_values.proofs.decimals.Decimals32DeltaValues.push_one.Goals as goal

pub returns : goal.returns
returns c =
    let a = c.args.self.now.array.now in
    let i = c.args.i in
    let held : SFits w32 c.low_32.result = search rules in
    let same : to_z w32 (of_z w32 c.low_32.result) ≡ c.low_32.result = to_z-of_z w32 c.low_32.result held in
    let within : i < length a.1.0 = omega (arith, c.requires, length-map a.1.0 (value_i128 (base a.0))) in
    let is : number c.low_32.result ≡ stored_at (leaf_array a.0 (map (value_i128 (base a.0)) a.1.0) a.1.1) int32 i = ap number c.low_32.ensures ∙ decimal_at a.0 int32 a.1.0 a.1.1 i _ c.know.ensures.typed within (found_at c.values.result.now a.1.0 i c.values.ensures within) in
    finished c.push_i32.result (λ h. feeds_number w32 int32 c.args.out.now.items c.args.encoder.now c.push_i32.new.out.items c.push_i32.new.self c.low_32.result _ refl (sym is) (rw same at h)) c.push_i32.ensures.ok
