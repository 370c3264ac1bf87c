-- Decimals by place, as they are stored.
use Rattle.std.proofs.Common.{◌≡◌, ℕ, zero, suc, ◌<◌, ℤ, pos, true, true≢false, List, [], ◌∷◌, length, map, get_or, refl, sym, ap, subst, ◌∙◌, arith}
use Rattle.std.specs.List.{AllByRecursion as Each}
use Rattle.shredding.specs.Shape.{LeafType, decimal}
use Rattle.shredding.specs.Slot.{Value, number}
use Rattle.columns_core.specs.Natives.{within_signed, value_i128, stores_i128}
use Rattle.columns_core.specs.Shapes.{base, leaf_type}
use Rattle.columns_core.specs.Tree.{TypeTree, t_decimal}
use Rattle.columns_slots.specs.Tree.{Mask, leaf_array}
use Rattle.pq_tree.specs.Physical.{Physical}
use Rattle.levels.specs.declared.nested.Nested.{Nested}
use Rattle.levels.specs.Nested.{parts_of, nested_column}
use Rattle.nested_paths.specs.LeafNulls.{value_at}
use Rattle.page_statistics.specs.Spelled.{IsSpelled, bound_text}
use Rattle.write_places.specs.Places.{path_places}
use Rattle.pq_files.specs.Once.{HasBytes}
use Rattle.std.specs.Int.{w128, cast_unsigned}
use Rattle.write_values.specs.declared.decimals.DecimalForm.{DecimalForm}
use Rattle.write_values.specs.declared.decimals.DecimalForm.TheVariants.{Int32, Int64, Fixed}
use Rattle.write_values.specs.Decimals.{HasWide, IsForm, form_physical, held_decimal, held_value, stored_decimal}
use Rattle.write_values.specs.Numbers.{at_place}
use Rattle.write_values.specs.Rows.{AppendsRow}
use Rattle.write_values.specs.Stored.{stored_at, stored_value}
use Rattle.write_values.proofs.DecimalBytes.{all_below}
use Rattle.write_values.proofs.AlikeColumns.{columns_alike}
use Rattle.write_values.proofs.Picked.{number_here}
use Rattle.write_values.proofs.ServedTypes.{IsHeld, decimal_is, decimal_stored, leaf_base}
use Rattle.write_values.proofs.WideColumns.{HasRoom, form_room, held_holds, held_same, places_held}

-- ---- types of decimals

pub decimals_are : (t : TypeTree) → stores_i128 t ≡ true → leaf_type t ≡ decimal
decimals_are (t_decimal p s) e = refl
decimals_are t e = absurd (true≢false (sym e))

-- ---- at a place

-- what is stored at a place for the decimal there
pub decimal_at : (t : TypeTree) (p : Physical) (zs : List ℤ) (m : Mask) (i : ℕ) (z : ℤ) → stores_i128 (base t) ≡ true → i < length zs → z ≡ get_or zs i z → stored_decimal p (within_signed 128 z) ≡ stored_at (leaf_array t (map (value_i128 (base t)) zs) m) p i
decimal_at t p zs m i z e h is =
    let here : number (within_signed 128 z) ≡ at_place (map (value_i128 (base t)) zs) i = number_here (value_i128 (base t)) zs i z h is in
    let type : decimal ≡ leaf_type t = sym (decimals_are (base t) e) ∙ leaf_base t in
    sym (decimal_is p (within_signed 128 z)) ∙ ap (stored_value decimal p) here ∙ ap (λ (l : LeafType). stored_value l p (at_place (map (value_i128 (base t)) zs) i)) type

pub decimal_here : (t : TypeTree) (p : Physical) (zs : List ℤ) (m : Mask) (i : ℕ) (z : ℤ) (a b : List ℕ) → stores_i128 (base t) ≡ true → i < length zs → z ≡ get_or zs i z → AppendsRow p a b (stored_decimal p (within_signed 128 z) ∷ []) → AppendsRow p a b (stored_at (leaf_array t (map (value_i128 (base t)) zs) m) p i ∷ [])
decimal_here t p zs m i z a b e h is r = subst (λ (v : Value). AppendsRow p a b (v ∷ [])) (decimal_at t p zs m i z e h is) r

-- what statistics see of a decimal that is held
pub held_here : (t : TypeTree) (p : Physical) (zs : List ℤ) (i : ℕ) → HasRoom p → IsHeld decimal p (at_place (map (value_i128 t) zs) i) → at_place (map (held_value p) zs) i ≡ at_place (map (value_i128 t) zs) i
held_here t p [] zero r h = refl
held_here t p [] (suc i) r h = refl
held_here t p (z ∷ zs) zero r h = ap number (held_same p (within_signed 128 z) r h)
held_here t p (z ∷ zs) (suc i) r h = held_here t p zs i r h

pub all_here : (t : TypeTree) (p : Physical) (zs : List ℤ) (places : List ℕ) → HasRoom p → Each (λ i. IsHeld decimal p (at_place (map (value_i128 t) zs) i)) places → Each (λ i. at_place (map (held_value p) zs) i ≡ at_place (map (value_i128 t) zs) i) places
all_here t p zs [] r h = tt
all_here t p zs (i ∷ is) r h = (held_here t p zs i r h.0, all_here t p zs is r h.1)

pub found_at : (xs ys : List ℤ) (i : ℕ) → xs ≡ ys → i < length ys → get_or xs i (pos 0) ≡ get_or ys i (get_or xs i (pos 0))
found_at xs ys i e l = rw e (same ys i (pos 0) (get_or ys i (pos 0)) l)
  where
    same : (zs : List ℤ) (i : ℕ) (d k : ℤ) → i < length zs → get_or zs i d ≡ get_or zs i k
    same [] i d k l = absurd (omega (arith, l))
    same (z ∷ zs) zero d k l = refl
    same (z ∷ zs) (suc i) d k l = same zs i d k (omega (arith, l))

-- ---- as bounds

form_bytes : (form : DecimalForm) (z : ℤ) → HasBytes (stored_decimal (form_physical form) z)
form_bytes Int32 z = tt
form_bytes Int64 z = tt
form_bytes (Fixed n) z = all_below n (cast_unsigned w128 z)

pub decimal_bound : (t : TypeTree) (form : DecimalForm) (zs : List ℤ) (i : ℕ) (z : ℤ) (s : List ℕ) → IsForm form → stores_i128 t ≡ true → i < length zs → z ≡ get_or zs i z → s ≡ bound_text (form_physical form) (stored_decimal (form_physical form) (held_decimal (form_physical form) (within_signed 128 z))) → IsSpelled (leaf_type t) (form_physical form) s (at_place (map (held_value (form_physical form)) zs) i)
decimal_bound t form zs i z s f e h is text =
    let p = form_physical form in
    let y = held_decimal p (within_signed 128 z) in
    let one : IsSpelled decimal p s (number y) = record { stored = stored_decimal p y; is_stored = decimal_stored p y (held_holds form (within_signed 128 z) f); has_bytes = λ d. form_bytes form y; is = text } in
    subst (λ (v : Value). IsSpelled (leaf_type t) p s v) (number_here (held_value p) zs i z h is) (subst (λ (l : LeafType). IsSpelled l p s (number y)) (sym (decimals_are t e)) one)

-- the column that statistics see is that of the decimals, which are held
pub held_column : (t : TypeTree) (form : DecimalForm) (zs : List ℤ) (m : Mask) (nested : List Nested) → IsForm form → stores_i128 (base t) ≡ true → ¬ HasWide (leaf_type (base t)) (form_physical form) (nested_column (value_at (leaf_array t (map (value_i128 (base t)) zs) m)) nested)
    → nested_column (at_place (map (held_value (form_physical form)) zs)) nested ≡ nested_column (value_at (leaf_array t (map (value_i128 (base t)) zs) m)) nested
held_column t form zs m nested f e n =
    let p = form_physical form in
    let v = value_at (leaf_array t (map (value_i128 (base t)) zs) m) in
    let r = form_room form f in
    let held = places_held (leaf_type (base t)) p v nested (λ d. r) n in
    let all = subst (λ (l : LeafType). Each (λ i. IsHeld l p (v i)) (path_places (parts_of nested))) (decimals_are (base t) e) held in
    columns_alike (at_place (map (held_value p) zs)) v nested (all_here (base t) p zs (path_places (parts_of nested)) r all)
