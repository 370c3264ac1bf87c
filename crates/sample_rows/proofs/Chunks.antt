-- The arrays of the sample are of one length, and their rows are the sample's.
use Rattle.std.proofs.Common.{◌≡◌, ℕ, length, IfErr, IsErrOf, Result, Ok, Err, ap, sym, ◌∙◌}
use Rattle.std.proofs.lemmas.List.FromFn.{length-map-range_with_len}
use Rattle.shredding.specs.Slot.{Slot}
use Rattle.columns_array.specs.Chunks.{AreEven}
use Rattle.columns_base.specs.declared.error.A.TheVariants.{A8}
use Rattle.columns_base.specs.declared.error.Error.{Error}
use Rattle.columns_base.specs.declared.error.Error.TheVariants.{InvalidArgumentError, Memory}
use Rattle.columns_core.specs.Tree.{TypeTree}
use Rattle.columns_slots.proofs.Rows.{slots_counted}
use Rattle.columns_slots.specs.Slots.{tree_len}
use Rattle.columns_slots.specs.Tree.{ArrayTree, ArrayTrees, no_arrays, more_arrays}
use Rattle.sample_rows.specs.Columns.{AreColumns, IsColumn}

pub column_len : (t : TypeTree) (at : ℕ → Slot) (n : ℕ) (a : ArrayTree) → IsColumn t at n a → tree_len a ≡ n
column_len t at n a h = sym (slots_counted a) ∙ ap length h.slots_are ∙ length-map-range_with_len at 0 n

pub columns_even : (n : ℕ) (cs : ArrayTrees) → AreColumns n cs → AreEven cs
columns_even n no_arrays h = absurd h
columns_even n (more_arrays a no_arrays) h = absurd h
columns_even n (more_arrays a (more_arrays b no_arrays)) h = absurd h
columns_even n (more_arrays a (more_arrays b (more_arrays c no_arrays))) h =
    let x = column_len _ _ n a h.0 in
    (column_len _ _ n b h.1 ∙ sym x, (column_len _ _ n c h.2 ∙ sym x, tt))
columns_even n (more_arrays a (more_arrays b (more_arrays c (more_arrays d ds)))) h = absurd h

pub never_refused : {A : Type 0} (r : Result A Error) → IfErr r (λ e. e ≡ InvalidArgumentError A8) → (IsErrOf r (InvalidArgumentError A8) → ⊥) → IfErr r (λ e. e ≡ Memory)
never_refused (Ok a) h n = h
never_refused (Err e) h n = absurd (n (ap Err h))
