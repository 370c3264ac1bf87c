use Rattle.std.proofs.Common.{◌≡◌, ◌+◌, ℕ, sym, subst, arith}
use Rattle.columns_array.specs.Boxed.{all_boxed}
use Rattle.columns_slots.specs.Slots.{AreLong, first_len}
use Rattle.columns_slots.specs.Tree.{ArrayTrees}
use Rattle.typed_rows.proofs.Walk.{chunk_long}
use Rattle.typed_rows.proofs.chunk.are_rows_of.Goals as goal

pub fields_are_own-requires-clause-within : goal.fields_are_own-requires-clause-within
fields_are_own-requires-clause-within c =
    let z : 0 + c.rows_in.result ≡ first_len c.args.chunk.now = omega (arith, c.rows_in.ensures) in
    subst (λ (k : ℕ). AreLong k (all_boxed c.arrays-2.result.now)) (sym z) (subst (λ (cs : ArrayTrees). AreLong (first_len c.args.chunk.now) cs) (sym c.arrays-2.ensures) (chunk_long c.args.chunk.now c.know.ensures))
