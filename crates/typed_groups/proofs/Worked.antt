-- The worked chunk.
use Rattle.std.proofs.Common.{◌≡◌, Bool, true, false, true≢false, pos, All, List, [], ◌∷◌, refl, sym, ap, arith}
use Rattle.std.proofs.lemmas.List.Elements.{All-from_recursion}
use Rattle.shredding.specs.Parts.{slots_from}
use Rattle.shredding.specs.Shape.{AreOf, IsInRange, IsOf, leaf, signed}
use Rattle.shredding.specs.Slot.{Value, number, value, null}
use Rattle.columns_core.specs.Shapes.{shapes_of}
use Rattle.columns_slots.specs.Slots.{IsSound}
use Rattle.columns_slots.specs.Types.{is_leaf}
use Rattle.pq_headline.specs.Arrays.{rows_of}
use Rattle.pq_headline.specs.Openings.{CanBeWritten}
use Rattle.pq_tree.specs.Tree.{count_trees}
use Rattle.pq_tree.specs.declared.types.Encoding.{Encoding}
use Rattle.pq_tree.specs.declared.types.Encoding.TheVariants.{Plain, DeltaBinaryPacked}
use Rattle.schema_to_tree.specs.Conditions.{AreWritten}
use Rattle.schema_to_tree.specs.Table.{trees_of}
use Rattle.typed_groups.specs.Suiting.{Suits}
use Rattle.write_groups.specs.Laid.{AreChosen}
use Rattle.typed_groups.specs.Worked.{AreWorked, four_lists, four_numbers, four_rows, options, plain_each, two_fields, with_deltas}

lists_sound : IsSound four_lists
lists_sound =
    let small : List Value = number (pos 1) ∷ number (pos 2) ∷ number (pos 0) ∷ [] in
    ((omega arith, (omega arith, (omega arith, (omega arith, omega arith)))), refl, (refl, refl, All-from_recursion (IsInRange (signed 32)) small (omega arith, (omega arith, (omega arith, tt)))), refl)

numbers_sound : IsSound four_numbers
numbers_sound =
    let wide : List Value = number (pos 5) ∷ number (pos 6) ∷ number (pos 7) ∷ number (pos 8) ∷ [] in
    (tt, refl, All-from_recursion (IsInRange (signed 64)) wide (omega arith, (omega arith, (omega arith, (omega arith, tt)))))

rows : All (AreOf (shapes_of two_fields)) (rows_of four_rows)
unfolding slots_from
rows =
    let P = IsOf (leaf true (signed 32)) in
    let two = All-from_recursion P (value (number (pos 1)) ∷ value (number (pos 2)) ∷ []) (omega arith, (omega arith, tt)) in
    let none = All-from_recursion P [] tt in
    let one = All-from_recursion P (null ∷ []) (refl, tt) in
    All-from_recursion (AreOf (shapes_of two_fields)) (rows_of four_rows) ((two, (omega arith, tt)), ((refl, (omega arith, tt)), ((none, (omega arith, tt)), ((one, (omega arith, tt)), tt))))

are_written : AreWritten two_fields
are_written = record { structs = refl; decimals = refl; times = refl; types = refl; type_nesting = omega arith; tree_nesting = omega arith }

held : CanBeWritten two_fields
held = (refl, tt, (refl, tt, tt))

suits : (wanted statistics : Bool) (ess : List (List Encoding)) → AreChosen wanted two_fields (trees_of two_fields) ess → Suits wanted two_fields (options statistics) four_rows (trees_of two_fields) ess
suits wanted statistics ess asks =
    record { sound = (lists_sound, (numbers_sound, tt)); typed = (refl, (refl, tt)); even = (refl, tt); rows_are = rows; trees_are = refl; written = are_written; held = held; served = refl; encodings = asks }

first_of : List Encoding → Encoding
first_of [] = Plain
first_of (e ∷ es) = e

not_plain : (Plain ∷ []) ≡ (DeltaBinaryPacked ∷ []) → ⊥
unfolding first_of
not_plain e = absurd (by_name (ap first_of e))
  where
    by_name : Plain ≡ DeltaBinaryPacked → ⊥
    by_name h = cc

pub worked : AreWorked
worked = record {
  suits = suits false false plain_each (refl, (refl, tt));
  statistics = suits false true plain_each (refl, (refl, tt));
  deltas = suits true false with_deltas (refl, (refl, tt));
  no_deltas = λ h. not_plain h.encodings.1.0;
  fewer_encodings = λ h. h.encodings.1;
  no_columns = λ h. absurd (omega (arith, ap count_trees h.trees_are));
  other_order = λ h. true≢false (sym (ap is_leaf h.typed.0));
}
