-- No page of the sample's rows is too large.
use Rattle.std.proofs.Common.{◌≡◌, ◌<◌, List, [], ◌∷◌, length, map, Option, Some, None, inl, inr, arith}
use Rattle.std.specs.List.{AllByRecursion}
use Rattle.std.proofs.lemmas.List.{length-map}
use Rattle.std.proofs.lemmas.List.Elements.{recursion_from_All}
use Rattle.shredding.specs.Cut.{cut}
use Rattle.shredding.specs.Shred.{Triple, column}
use Rattle.shredding.specs.Slot.{Slot, Slots, Value, fields}
use Rattle.columns_core.specs.Shapes.{leaf_type}
use Rattle.pq_files.specs.Layout.{plain_length, rows_per_page}
use Rattle.pq_files.specs.Page.{values_in}
use Rattle.pq_files.specs.Reasons.{AnyOf}
use Rattle.pq_files.specs.Room.{max_size, room}
use Rattle.pq_files.specs.Stored.{AreStored}
use Rattle.pq_headline.specs.Columns.{ArrowColumn, schema_columns}
use Rattle.pq_headline.specs.Output.{HasLargeDictionary, HasLargePage, SomeIsLarge, Style}
use Rattle.pq_tree.specs.Tree.{Leaf, columns_of}
use Rattle.sample_rows.specs.Fields.{sample_fields}
use Rattle.sample_sizes.proofs.Fine.{AreFine, IsFine, IsPart, are_fine, as_slots, column_small, cut_each}
use Rattle.sample_sizes.specs.Laws.{NoDecimalIsWide, NoPageIsLarge}
use Rattle.sample_sizes.specs.Rows.{IsRow}
use Rattle.schema_to_tree.specs.Table.{schema_of}

-- a page whose room passes the sizes
abbrev IsLargePage : ArrowColumn → Leaf → List Slot → Type 0
IsLargePage c l page = (triples : List Triple) × AreStored (leaf_type c.data_type) l.physical (column c.way page) triples × (max_size < room (length triples) (plain_length l.physical (values_in triples)))

not_large : (c : ArrowColumn) (l : Leaf) (page : List Slot) → IsFine c l → IsPart 1000000 page → IsLargePage c l page → ⊥
not_large c l page f p h =
    let k = column_small c l page h.0 f p.are h.1 in
    absurd (omega (arith, h.2, f.light.length_is (values_in h.0), k.short, k.light, p.few))

none_large : (c : ArrowColumn) (l : Leaf) (pages : List (List Slot)) → IsFine c l → AllByRecursion (IsPart 1000000) pages → AnyOf (IsLargePage c l) pages → ⊥
none_large c l [] f p h = absurd h
none_large c l (page ∷ pages) f p (inl h) = not_large c l page f p.0 h
none_large c l (page ∷ pages) f p (inr h) = none_large c l pages f p.1 h

no_large_page : (s : Style) (c : ArrowColumn) (l : Leaf) (d : Option (List (Option Value))) (ss : List Slot) → IsFine c l → d ≡ None → IsPart 1000000 ss → HasLargePage s (record { arrow = c; physical = l.physical; entries = d }) ss → ⊥
no_large_page s c l (Some es) ss f n p h = absurd (cc n)
no_large_page s c l None ss f n p h =
    none_large c l (cut ss (Some (rows_per_page s.page_limit (plain_length l.physical (values_in h.0)) (length ss)))) f (cut_each 1000000 _ ss p.are p.few) h.2

no_large_dictionary : (c : ArrowColumn) (l : Leaf) (d : Option (List (Option Value))) → d ≡ None → HasLargeDictionary (record { arrow = c; physical = l.physical; entries = d }) → ⊥
no_large_dictionary c l (Some es) n h = absurd (cc n)
no_large_dictionary c l None n h = absurd h.1

no_large : (s : Style) (rows : List Slots) (cs : List ArrowColumn) (ls : List Leaf) (ds : List (Option (List (Option Value)))) → AreFine cs ls → AllByRecursion (λ d. d ≡ None) ds → IsPart 1000000 (map fields rows) → SomeIsLarge s rows cs ls ds → ⊥
no_large s rows [] ls ds f n p h = absurd h
no_large s rows (c ∷ cs) [] ds f n p h = absurd h
no_large s rows (c ∷ cs) (l ∷ ls) [] f n p h = absurd h
no_large s rows (c ∷ cs) (l ∷ ls) (d ∷ ds) f n p (inl h) = no_large_page s c l d (map fields rows) f.0 n.0 p h
no_large s rows (c ∷ cs) (l ∷ ls) (d ∷ ds) f n p (inr (inl h)) = no_large_dictionary c l d n.0 h
no_large s rows (c ∷ cs) (l ∷ ls) (d ∷ ds) f n p (inr (inr h)) = no_large s rows cs ls ds f.1 n.1 p h

pub no_page_is_large : NoPageIsLarge
no_page_is_large s rows ds h n =
    no_large s rows (schema_columns sample_fields) (columns_of (schema_of sample_fields)) ds are_fine (recursion_from_All (λ d. d ≡ None) ds n)
    (record { are = as_slots rows (recursion_from_All IsRow rows h.are); few = omega (arith, h.few, length-map rows fields) })

pub no_decimal_is_wide : NoDecimalIsWide
no_decimal_is_wide rows (inl h) = absurd (cc h.0)
no_decimal_is_wide rows (inr (inl h)) = absurd (cc h.0)
no_decimal_is_wide rows (inr (inr (inl h))) = absurd (cc h.0)
no_decimal_is_wide rows (inr (inr (inr h))) = absurd h
