-- Intervals as 12 bytes.
use Rattle.std.proofs.Common.{◌≡◌, ℤ, pos, negsuc, true, false, true≢false, List, [], ◌∷◌, map, refl, sym, ap, ◌∙◌, arith, SFits}
use Rattle.std.specs.Int.{w32, cast_signed, cast_unsigned}
use Rattle.std.proofs.lemmas.Int.{to_z-of_z}
use Rattle.shredding.specs.Slot.{Value, bytes}
use Rattle.columns_core.specs.declared.types.IntervalUnit.TheVariants.{YearMonth}
use Rattle.columns_core.specs.Natives.{interval_bytes, two_power_32, value_i32, stores_i32}
use Rattle.columns_core.specs.Shapes.{leaf_type}
use Rattle.columns_core.specs.Tree.{TypeTree, t_int32, t_date32, t_time32, t_interval}
use Rattle.pq_tree.specs.Physical.{fixed}
use Rattle.pq_files.specs.Statistics.{has_order}
use Rattle.write_values.specs.Served.{are_months, is_served}

bits_are : (z : ℤ) → cast_unsigned w32 z ≡ two_power_32 z
bits_are (pos n) = refl
bits_are (negsuc n) = omega arith

-- the bits of a number that was handed on
pub in_two_powers : (z : ℤ) → SFits w32 z → cast_unsigned w32 (cast_signed w32 (cast_unsigned w32 z)) ≡ two_power_32 z
in_two_powers z f = ap (cast_unsigned w32) (to_z-of_z w32 z f) ∙ bits_are z

months_are : (t : TypeTree) (z : ℤ) → are_months t ≡ true → value_i32 t z ≡ bytes (interval_bytes z (pos 0) (pos 0))
months_are (t_interval YearMonth) z e = refl
months_are t z e = absurd (true≢false (sym e))

months_values : (t : TypeTree) (zs : List ℤ) → are_months t ≡ true → map (λ z. bytes (interval_bytes z (pos 0) (pos 0))) zs ≡ map (value_i32 t) zs
months_values t [] e = refl
months_values t (z ∷ zs) e = ap (λ (v : Value). v ∷ map (λ x. bytes (interval_bytes x (pos 0) (pos 0))) zs) (sym (months_are t z e)) ∙ ap (λ (vs : List Value). value_i32 t z ∷ vs) (months_values t zs e)

-- ---- types of intervals

pub months_served : (t : TypeTree) → stores_i32 t ≡ true → is_served t (fixed 12) ≡ true → are_months t ≡ true
months_served (t_interval YearMonth) e h = refl
months_served t_int32 e h = absurd (true≢false (sym h))
months_served t_date32 e h = absurd (true≢false (sym h))
months_served (t_time32 u) e h = absurd (true≢false (sym h))
months_served t e h = absurd (true≢false (sym e))

months_unordered : (t : TypeTree) → are_months t ≡ true → has_order (leaf_type t) ≡ false
months_unordered (t_interval YearMonth) e = refl
months_unordered t e = absurd (true≢false (sym e))

pub served_unordered : (t : TypeTree) → stores_i32 t ≡ true → is_served t (fixed 12) ≡ true → has_order (leaf_type t) ≡ false
served_unordered t e h = months_unordered t (months_served t e h)
