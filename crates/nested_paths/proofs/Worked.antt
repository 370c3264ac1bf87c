-- The examples.
use Rattle.std.proofs.Common.{◌≡◌, ℕ, zero, suc, ◌<◌, false, ◌&&◌, Some, [], ◌∷◌, refl, sym, ap, true≢false, arith}
use Rattle.std.proofs.Math.Bool.{and-true}
use Rattle.shredding.specs.Along.{along}
use Rattle.shredding.specs.Parts.{keeps, slots_from}
use Rattle.columns_slots.specs.Worked.{keyed}
use Rattle.levels.specs.Levels.{run, slot_pairs, path_pairs}
use Rattle.nested_paths.specs.Examples.{AreWorked, AreMerged, five_bits, keyed_bits, present_bits}
use Rattle.nested_paths.specs.LeafNulls.{is_value}
use Rattle.nested_paths.specs.PathLeaf.{leaf_mask}
use Rattle.nested_paths.specs.Seen.{leaf_slot}

keyed_at : (i : ℕ) → i < 4 → keeps (Some present_bits) i ≡ (keeps (Some keyed_bits) i && is_value (leaf_slot keyed i))
unfolding along
keyed_at zero l = refl
keyed_at (suc zero) l = refl
keyed_at (suc (suc zero)) l = refl
keyed_at (suc (suc (suc zero))) l = refl
keyed_at (suc (suc (suc (suc i)))) l = absurd (omega (arith, l))

nothing_at : (i : ℕ) → i < 2 → keeps (Some (false ∷ false ∷ [])) i ≡ false
nothing_at zero l = refl
nothing_at (suc zero) l = refl
nothing_at (suc (suc i)) l = absurd (omega (arith, l))

merged : AreMerged
unfolding along path_pairs run slot_pairs
merged =
    record {
      fits = record { count = refl; masks = λ o i l. refl };
      other_mask = λ f. true≢false (f.masks refl 2 (omega arith));
      other_length = λ f. absurd (omega (arith, f.count));
      keyed_nulls = record { parts = refl; fits = refl; nulls = λ o i l. keyed_at i l; required = λ r. absurd (true≢false r) };
      keyed_levels = refl;
      keys_alone = λ m. true≢false (m.nulls refl 1 (omega arith));
      other_levels = refl;
      nulls = record { parts = refl; fits = refl; nulls = λ o i l. nothing_at i l; required = λ r. absurd (true≢false r) };
      no_mask = λ m. true≢false (m.nulls refl 0 (omega arith));
      values = record { parts = refl; fits = refl; nulls = λ o i l. sym (and-true (keeps (Some five_bits) i)); required = λ r. refl };
      required = λ m. true≢false (sym (ap (λ parts. keeps (leaf_mask parts) 1) (m.required refl)));
    }

pub worked : AreWorked
unfolding slots_from
worked =
    record {
      flat = refl;
      list = refl;
      struct = refl;
      kinds_of_lists = refl;
      kinds_of_large_lists = refl;
      kinds_of_structs = refl;
      dictionary = refl;
      optional_leaf = refl;
      required_leaf = refl;
      required_list = refl;
      leaf_and_group = refl;
      list_and_leaf = refl;
      list_and_required = refl;
      repeated_leaf = refl;
      fewer_fields = refl;
      fixed_list = refl;
      fixed_list_first = refl;
      fields_first = refl;
      merged = merged;
    }
