-- The sample's lists and texts stay within their offsets.
use Rattle.std.proofs.Common.{◌≡◌, ◌⊎◌, ℕ, suc, ◌≤◌, false, List, [], ◌∷◌, ◌++◌, length, map, nat_le, ◌&&◌, Option, Some, None, sum_by, inl, inr, refl, sym, subst, ap, ◌∙◌, arith}
use Rattle.std.specs.List.{AllByRecursion}
use Rattle.std.proofs.lemmas.List.{length-append, length-map}
use Rattle.std.proofs.lemmas.List.Elements.{All-from_recursion, recursion_from_All}
use Rattle.std.proofs.lemmas.List.Sums.{count_by-le-length, sum_by-append, sum_by-cons}
use Rattle.shredding.specs.Local.{inside}
use Rattle.shredding.specs.Shape.{Way, in_struct}
use Rattle.shredding.specs.Shred.{Triple, column, shred}
use Rattle.shredding.specs.Slot.{Slot, Slots, Value, truth, number, bytes, fields, slot_at}
use Rattle.pq_files.specs.Page.{values_in}
use Rattle.pq_headline.specs.Columns.{ArrowColumn, field_columns}
use Rattle.pq_headline.specs.FieldReasons.{PassesLists, PassesTexts, text_size}
use Rattle.pq_headline.specs.Rows.{field_slots}
use Rattle.pq_tree.specs.Tree.{Leaf}
use Rattle.sample_rows.specs.Fields.{id_field, items_field, tag_field}
use Rattle.sample_sizes.proofs.Fine.{IsFine, are_fine, as_slots}
use Rattle.sample_sizes.proofs.Slim.{IsSlot, option_weight, rows_few, triple_weight, weight}
use Rattle.sample_sizes.specs.Laws.{IsWithinOffsets, OffsetsHold}
use Rattle.sample_sizes.specs.Rows.{IsRow}

-- ---- lists
pub few_items : (w : Way) (r : ℕ) (limits : List ℕ) (ts : List Triple) → AllByRecursion (λ n. 3000000 ≤ n) limits → length ts ≤ 3000000 → PassesLists w r limits ts → ⊥
few_items w r [] ts l h p = absurd p
few_items w r (limit ∷ limits) ts l h (inl p) = absurd (omega (arith, p, count_by-le-length (λ (t : Triple). nat_le t.repetition r && nat_le (inside w r) t.definition) ts, h, l.0))
few_items w r (limit ∷ limits) ts l h (inr p) = few_items w (suc r) limits ts l.1 h p

-- ---- texts
text_light : (v : Value) → text_size v ≤ weight v
text_light (truth b) = omega arith
text_light (number z) = omega arith
text_light (bytes bs) = omega arith

texts_light : (ts : List Triple) → sum_by text_size (values_in ts) ≤ sum_by triple_weight ts
texts_light [] = omega arith
texts_light (t ∷ ts) = by t.value refl (texts_light ts)
  where
    by : (o : Option Value) → t.value ≡ o → sum_by text_size (values_in ts) ≤ sum_by triple_weight ts → sum_by text_size (values_in (t ∷ ts)) ≤ sum_by triple_weight (t ∷ ts)
    by None e rest =
        let same : values_in (t ∷ ts) ≡ values_in ts = rw e refl in
        omega (arith, rest, sum_by-cons triple_weight t ts, ap (sum_by text_size) same)
    by (Some v) e rest =
        let same : values_in (t ∷ ts) ≡ v ∷ values_in ts = rw e refl in
        omega (arith, rest, sum_by-cons triple_weight t ts, ap option_weight e, text_light v, ap (sum_by text_size) same, sum_by-cons text_size v (values_in ts))

-- ---- a column of the schema
pub within : (c : ArrowColumn) (l : Leaf) (ss : List Slot) → IsFine c l → AllByRecursion IsSlot ss → length ss ≤ 1000000 → IsWithinOffsets c ss
within c l ss f h few before piece behind e p =
    let k = rows_few c.way ss f.slim h in
    let long : length piece ≤ 3000000 = omega (arith, ap length e, length-append before (piece ++ behind), length-append piece behind, k.short, few) in
    let weighs : sum_by triple_weight piece ≤ 24000000 = omega (arith, ap (sum_by triple_weight) e, sum_by-append triple_weight before (piece ++ behind), sum_by-append triple_weight piece behind, k.light, few) in
    not p long weighs
  where
    not : PassesLists c.way 1 c.limits piece ⊎ PassesTexts c.data_type (values_in piece) → length piece ≤ 3000000 → sum_by triple_weight piece ≤ 24000000 → ⊥
    not (inl q) long weighs = few_items c.way 1 c.limits piece f.limits long q
    not (inr q) long weighs = absurd (omega (arith, f.texts (values_in piece) q, texts_light piece, weighs))

-- ---- a column of a field
field_column : (place : ℕ) (w : Way) (rows : List Slots) → column (in_struct false place w) (map fields rows) ≡ column w (field_slots place rows)
unfolding shred
field_column place w [] = refl
field_column place w (r ∷ rs) = ap (λ ts. shred w (slot_at r place) 0 0 0 ++ ts) (field_column place w rs)

same_lists : (place : ℕ) (w : Way) (r : ℕ) (limits : List ℕ) (ts : List Triple) → PassesLists w (suc r) limits ts → PassesLists (in_struct false place w) (suc r) limits ts
same_lists place w r [] ts h = absurd h
same_lists place w r (limit ∷ limits) ts (inl h) = inl h
same_lists place w r (limit ∷ limits) ts (inr h) = inr (same_lists place w (suc r) limits ts h)

field_within : (place : ℕ) (c d : ArrowColumn) (l : Leaf) (rows : List Slots) → d.way ≡ in_struct false place c.way → IsFine d l → AllByRecursion IsSlot (map fields rows) → length rows ≤ 1000000
    → c.limits ≡ d.limits → c.data_type ≡ d.data_type → IsWithinOffsets c (field_slots place rows)
field_within place c d l rows w f ss few limits texts before piece behind e p =
    let own : column d.way (map fields rows) ≡ before ++ (piece ++ behind) = ap (λ v. column v (map fields rows)) w ∙ field_column place c.way rows ∙ e in
    within d l (map fields rows) f ss (omega (arith, few, length-map rows fields)) before piece behind own (of p)
  where
    of : PassesLists c.way 1 c.limits piece ⊎ PassesTexts c.data_type (values_in piece) → PassesLists d.way 1 d.limits piece ⊎ PassesTexts d.data_type (values_in piece)
    of (inl q) = inl (subst (λ v. PassesLists v 1 d.limits piece) (sym w) (subst (λ ns. PassesLists (in_struct false place c.way) 1 ns piece) limits (same_lists place c.way 0 c.limits piece q)))
    of (inr q) = inr (subst (λ t. PassesTexts t (values_in piece)) texts q)

pub offsets_hold : OffsetsHold
offsets_hold rows h =
    let ss = as_slots rows (recursion_from_All IsRow rows h.are) in
    let ids : AllByRecursion (λ c. IsWithinOffsets c (field_slots 0 rows)) (field_columns id_field) = (field_within 0 _ _ _ rows refl are_fine.0 ss h.few refl refl, tt) in
    let tags : AllByRecursion (λ c. IsWithinOffsets c (field_slots 1 rows)) (field_columns tag_field) = (field_within 1 _ _ _ rows refl are_fine.1.0 ss h.few refl refl, tt) in
    let lists : AllByRecursion (λ c. IsWithinOffsets c (field_slots 2 rows)) (field_columns items_field) = (field_within 2 _ _ _ rows refl are_fine.1.1.0 ss h.few refl refl, tt) in (
      All-from_recursion (λ c. IsWithinOffsets c (field_slots 0 rows)) (field_columns id_field) ids,
      (
        All-from_recursion (λ c. IsWithinOffsets c (field_slots 1 rows)) (field_columns tag_field) tags,
        (All-from_recursion (λ c. IsWithinOffsets c (field_slots 2 rows)) (field_columns items_field) lists, tt),
      ),
    )
