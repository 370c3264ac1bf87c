-- What is written is read again, and what is read was written so: types.
use Rattle.std.proofs.Common.{◌≡◌, ℕ, ℤ, zero, suc, ◌^◌, ◌<◌, ◌≤◌, Bool, List, [], ◌∷◌, ◌++◌, length, Option, Some, IfSome, IsUtf8, refl, sym, ap, subst, ◌∙◌, arith}
use Rattle.columns_core.specs.Measures.{nesting}
use Rattle.columns_core.specs.Tree.{TypeTree, t_null, t_boolean, t_int8, t_int16, t_int32, t_int64, t_uint8, t_uint16, t_uint32, t_uint64, t_float16, t_float32, t_float64, t_timestamp, t_date32, t_date64, t_time32, t_time64, t_duration, t_interval, t_binary, t_fixed_size_binary, t_large_binary, t_utf8, t_large_utf8, t_list, t_fixed_size_list, t_large_list, t_struct, t_union, t_map, t_dictionary, t_decimal, t_decimal256, t_extension, FieldTree, FieldTrees}
use Rattle.columns_core.specs.declared.types.TimeUnit.{TimeUnit}
use Rattle.columns_core.specs.declared.types.IntegerType.{IntegerType}
use Rattle.schema_codec.specs.declared.tag.Tag.{Tag}
use Rattle.schema_codec.specs.declared.tag.Tag.TheVariants.{Plain, Leaf, Nested}
use Rattle.schema_codec.specs.declared.tag.Simple.{Simple}
use Rattle.schema_codec.specs.declared.tag.Simple.TheVariants as simple
use Rattle.schema_codec.specs.declared.tag.Measured.{Measured}
use Rattle.schema_codec.specs.declared.tag.Measured.TheVariants as measured
use Rattle.schema_codec.specs.declared.tag.Container.{Container}
use Rattle.schema_codec.specs.declared.tag.Container.TheVariants as container
use Rattle.schema_codec.specs.Parse.{Parse, under, both}
use Rattle.schema_codec.specs.Ranges.{IsSize, AreIds}
use Rattle.schema_codec.specs.Reading.{size_at, truth_at, unit_at, interval_unit_at, key_type_at, tag_at, text_at, ids_at, optional_text_at, field_with, fields_with, leaf_at, nested_with, parts_with, type_at}
use Rattle.schema_codec.specs.Spelling.{size_bytes, truth_bytes, text_bytes, ids_bytes, optional_text_bytes, type_bytes, field_bytes}
use Rattle.schema_codec.specs.Tags.{tags, tag_number, simple_tree, unit_number, interval_number, key_number}
use Rattle.schema_codec.specs.Proved.Formats.{AreBytes, bind_some, some_parts, Again, Takes, under_again, under_takes, both_again, both_takes, size_again, size_takes, text_again, text_takes, Anything, known_takes, truth_again, truth_takes}
use Rattle.schema_codec.specs.Proved.Parts.{unit_again, unit_takes, interval_again, interval_takes, key_again, key_takes, ids_again, ids_takes, optional_text_again, optional_text_takes}
use Rattle.schema_codec.specs.Proved.Types.{Fit, FieldFit, FieldsFit, field_again, field_takes, all_bytes, fields_again, fields_takes}

-- ---- tags

abbrev pub number_of_tag : Tag → ℕ
number_of_tag (Plain s) = tag_number (simple_tree s)
number_of_tag (Leaf measured.Timestamp) = 13
number_of_tag (Leaf measured.Time32) = 16
number_of_tag (Leaf measured.Time64) = 17
number_of_tag (Leaf measured.Duration) = 18
number_of_tag (Leaf measured.Interval) = 19
number_of_tag (Leaf measured.FixedSizeBinary) = 21
number_of_tag (Leaf measured.Decimal) = 32
number_of_tag (Leaf measured.Decimal256) = 33
number_of_tag (Nested container.List) = 25
number_of_tag (Nested container.FixedSizeList) = 26
number_of_tag (Nested container.LargeList) = 27
number_of_tag (Nested container.Struct) = 28
number_of_tag (Nested container.Union) = 29
number_of_tag (Nested container.Map) = 30
number_of_tag (Nested container.Dictionary) = 31
number_of_tag (Nested container.Extension) = 34

tag_takes : Takes tag_at (λ tag. number_of_tag tag ∷ []) Anything
unfolding tag_at
tag_takes = known_takes tags number_of_tag (refl, (refl, (refl, (refl, (refl, (refl, (refl, (refl, (refl, (refl, (refl, (refl, (refl, (refl, (refl, (refl, (refl, (refl, (refl, (refl, (refl, (refl, (refl, (refl, (refl, (refl, (refl, (refl, (refl, (refl, (refl, (refl, (refl, (refl, (refl, tt)))))))))))))))))))))))))))))))))))

-- ---- what is read is spelled so

-- the parts of a type behind its tag
record Parted (n d : ℕ) (t : TypeTree) (bytes rest : List ℕ) : Type 0 where
  pub parts : List ℕ
  pub spelled : type_bytes t ≡ n ∷ parts
  pub same : bytes ≡ parts ++ rest
  pub fits : Fit d t
  pub after : AreBytes rest

arm : {A : Type 0} (one : Parse A) (spell : A → List ℕ) (F : A → Type 0) → Takes one spell F → (f : A → TypeTree) (n d : ℕ) → ((x : A) → type_bytes (f x) ≡ n ∷ spell x) → ((x : A) → F x → Fit d (f x))
    → (bytes : List ℕ) (t : TypeTree) (rest : List ℕ) → AreBytes bytes → under f one bytes ≡ Some (t, rest) → Parted n d t bytes rest
arm one spell F takes f n d spelled fit bytes t rest are e =
    let x = under_takes one spell F takes f bytes t rest are e in
    let parted : Parted n d (f x.0) bytes rest = record { parts = spell x.0; spelled = spelled x.0; same = x.2.parts; fits = fit x.0 x.2.fits; after = x.2.after } in
    subst (λ (u : TypeTree). Parted n d u bytes rest) x.1 parted

abbrev read : TypeTree → List ℕ → Option (TypeTree × List ℕ)
read t rest = Some (t, rest)

plain_parted : (s : Simple) (d : ℕ) (t : TypeTree) (bytes rest : List ℕ) → AreBytes bytes → type_bytes (simple_tree s) ≡ tag_number (simple_tree s) ∷ [] → Fit d (simple_tree s) → read (simple_tree s) bytes ≡ read t rest
    → Parted (tag_number (simple_tree s)) d t bytes rest
plain_parted s d t bytes rest are spelled fit e =
    let same = some_parts (simple_tree s, bytes) (t, rest) e in
    let parted : Parted (tag_number (simple_tree s)) d (simple_tree s) bytes bytes = record { parts = []; spelled = spelled; same = refl; fits = fit; after = are } in
    subst (λ (u : TypeTree). Parted (tag_number (simple_tree s)) d u bytes rest) same.0 (subst (λ (r : List ℕ). Parted (tag_number (simple_tree s)) d (simple_tree s) bytes r) same.1 parted)

plain_takes : (s : Simple) (d : ℕ) (bytes : List ℕ) (t : TypeTree) (rest : List ℕ) → AreBytes bytes → read (simple_tree s) bytes ≡ read t rest → Parted (tag_number (simple_tree s)) (suc d) t bytes rest
plain_takes simple.Null d bytes t rest are e = plain_parted simple.Null (suc d) t bytes rest are refl (tt, omega arith) e
plain_takes simple.Boolean d bytes t rest are e = plain_parted simple.Boolean (suc d) t bytes rest are refl (tt, omega arith) e
plain_takes simple.Int8 d bytes t rest are e = plain_parted simple.Int8 (suc d) t bytes rest are refl (tt, omega arith) e
plain_takes simple.Int16 d bytes t rest are e = plain_parted simple.Int16 (suc d) t bytes rest are refl (tt, omega arith) e
plain_takes simple.Int32 d bytes t rest are e = plain_parted simple.Int32 (suc d) t bytes rest are refl (tt, omega arith) e
plain_takes simple.Int64 d bytes t rest are e = plain_parted simple.Int64 (suc d) t bytes rest are refl (tt, omega arith) e
plain_takes simple.UInt8 d bytes t rest are e = plain_parted simple.UInt8 (suc d) t bytes rest are refl (tt, omega arith) e
plain_takes simple.UInt16 d bytes t rest are e = plain_parted simple.UInt16 (suc d) t bytes rest are refl (tt, omega arith) e
plain_takes simple.UInt32 d bytes t rest are e = plain_parted simple.UInt32 (suc d) t bytes rest are refl (tt, omega arith) e
plain_takes simple.UInt64 d bytes t rest are e = plain_parted simple.UInt64 (suc d) t bytes rest are refl (tt, omega arith) e
plain_takes simple.Float16 d bytes t rest are e = plain_parted simple.Float16 (suc d) t bytes rest are refl (tt, omega arith) e
plain_takes simple.Float32 d bytes t rest are e = plain_parted simple.Float32 (suc d) t bytes rest are refl (tt, omega arith) e
plain_takes simple.Float64 d bytes t rest are e = plain_parted simple.Float64 (suc d) t bytes rest are refl (tt, omega arith) e
plain_takes simple.Date32 d bytes t rest are e = plain_parted simple.Date32 (suc d) t bytes rest are refl (tt, omega arith) e
plain_takes simple.Date64 d bytes t rest are e = plain_parted simple.Date64 (suc d) t bytes rest are refl (tt, omega arith) e
plain_takes simple.Binary d bytes t rest are e = plain_parted simple.Binary (suc d) t bytes rest are refl (tt, omega arith) e
plain_takes simple.LargeBinary d bytes t rest are e = plain_parted simple.LargeBinary (suc d) t bytes rest are refl (tt, omega arith) e
plain_takes simple.Utf8 d bytes t rest are e = plain_parted simple.Utf8 (suc d) t bytes rest are refl (tt, omega arith) e
plain_takes simple.LargeUtf8 d bytes t rest are e = plain_parted simple.LargeUtf8 (suc d) t bytes rest are refl (tt, omega arith) e

abbrev two_sizes : ℕ × ℕ → List ℕ
two_sizes p = size_bytes p.0 ++ size_bytes p.1

abbrev AreSizes : ℕ × ℕ → Type 0
AreSizes p = IsSize p.0 × IsSize p.1

two_take : Takes (both size_at size_at) two_sizes AreSizes
two_take = both_takes size_at size_bytes IsSize size_at size_bytes IsSize size_takes size_takes

two_again : Again (both size_at size_at) two_sizes AreSizes
two_again = both_again size_at size_bytes IsSize size_at size_bytes IsSize size_again size_again

abbrev zone_bytes : TimeUnit × Option (List ℕ) → List ℕ
zone_bytes p = unit_number p.0 ∷ optional_text_bytes p.1

abbrev ZoneFits : TimeUnit × Option (List ℕ) → Type 0
ZoneFits p = Anything p.0 × IfSome p.1 IsUtf8

zone_takes : Takes (both unit_at optional_text_at) zone_bytes ZoneFits
zone_takes = both_takes unit_at (λ u. unit_number u ∷ []) Anything optional_text_at optional_text_bytes (λ o. IfSome o IsUtf8) unit_takes optional_text_takes

zone_again : Again (both unit_at optional_text_at) zone_bytes ZoneFits
zone_again = both_again unit_at (λ u. unit_number u ∷ []) Anything optional_text_at optional_text_bytes (λ o. IfSome o IsUtf8) unit_again optional_text_again

leaf_takes : (m : Measured) (d : ℕ) (bytes : List ℕ) (t : TypeTree) (rest : List ℕ) → AreBytes bytes → leaf_at m bytes ≡ Some (t, rest) → Parted (number_of_tag (Leaf m)) (suc d) t bytes rest
leaf_takes measured.Timestamp d bytes t rest are e = arm (both unit_at optional_text_at) zone_bytes ZoneFits zone_takes (λ p. t_timestamp p.0 p.1) 13 (suc d) (λ _. refl) (λ _ h. (h.1, omega arith)) bytes t rest are e
leaf_takes measured.Time32 d bytes t rest are e = arm unit_at (λ u. unit_number u ∷ []) Anything unit_takes t_time32 16 (suc d) (λ _. refl) (λ _ h. (tt, omega arith)) bytes t rest are e
leaf_takes measured.Time64 d bytes t rest are e = arm unit_at (λ u. unit_number u ∷ []) Anything unit_takes t_time64 17 (suc d) (λ _. refl) (λ _ h. (tt, omega arith)) bytes t rest are e
leaf_takes measured.Duration d bytes t rest are e = arm unit_at (λ u. unit_number u ∷ []) Anything unit_takes t_duration 18 (suc d) (λ _. refl) (λ _ h. (tt, omega arith)) bytes t rest are e
leaf_takes measured.Interval d bytes t rest are e = arm interval_unit_at (λ u. interval_number u ∷ []) Anything interval_takes t_interval 19 (suc d) (λ _. refl) (λ _ h. (tt, omega arith)) bytes t rest are e
leaf_takes measured.FixedSizeBinary d bytes t rest are e = arm size_at size_bytes IsSize size_takes t_fixed_size_binary 21 (suc d) (λ _. refl) (λ _ h. (h, omega arith)) bytes t rest are e
leaf_takes measured.Decimal d bytes t rest are e = arm (both size_at size_at) two_sizes AreSizes two_take (λ p. t_decimal p.0 p.1) 32 (suc d) (λ _. refl) (λ _ h. (h, omega arith)) bytes t rest are e
leaf_takes measured.Decimal256 d bytes t rest are e = arm (both size_at size_at) two_sizes AreSizes two_take (λ p. t_decimal256 p.0 p.1) 33 (suc d) (λ _. refl) (λ _ h. (h, omega arith)) bytes t rest are e

-- ---- types with types within

abbrev sized_bytes : FieldTree × ℕ → List ℕ
sized_bytes p = field_bytes p.0 ++ size_bytes p.1

abbrev SizedFits : ℕ → FieldTree × ℕ → Type 0
SizedFits d p = FieldFit d p.0 × IsSize p.1

abbrev sorted_bytes : FieldTree × Bool → List ℕ
sorted_bytes p = field_bytes p.0 ++ truth_bytes p.1

abbrev SortedFits : ℕ → FieldTree × Bool → Type 0
SortedFits d p = FieldFit d p.0 × Anything p.1

abbrev union_bytes : FieldTrees × (Option (List ℤ) × Bool) → List ℕ
union_bytes p = all_bytes p.0 ++ (ids_bytes p.1.0 ++ truth_bytes p.1.1)

abbrev UnionFits : ℕ → FieldTrees × (Option (List ℤ) × Bool) → Type 0
UnionFits d p = FieldsFit d p.0 × (IfSome p.1.0 AreIds × Anything p.1.1)

abbrev dictionary_bytes : IntegerType × (TypeTree × Bool) → List ℕ
dictionary_bytes p = key_number p.0 ∷ (type_bytes p.1.0 ++ truth_bytes p.1.1)

abbrev DictionaryFits : ℕ → IntegerType × (TypeTree × Bool) → Type 0
DictionaryFits d p = Anything p.0 × (Fit d p.1.0 × Anything p.1.1)

abbrev extension_bytes : List ℕ × (TypeTree × Option (List ℕ)) → List ℕ
extension_bytes p = text_bytes p.0 ++ (type_bytes p.1.0 ++ optional_text_bytes p.1.1)

abbrev ExtensionFits : ℕ → List ℕ × (TypeTree × Option (List ℕ)) → Type 0
ExtensionFits d p = IsUtf8 p.0 × (Fit d p.1.0 × IfSome p.1.1 IsUtf8)

module _ (d : ℕ) (one : Parse TypeTree) where
  sized_takes : Takes one type_bytes (Fit d) → Takes (both (field_with one) size_at) sized_bytes (SizedFits d)
  sized_takes takes = both_takes (field_with one) field_bytes (FieldFit d) size_at size_bytes IsSize (field_takes d one takes) size_takes

  sized_again : Again one type_bytes (Fit d) → Again (both (field_with one) size_at) sized_bytes (SizedFits d)
  sized_again again = both_again (field_with one) field_bytes (FieldFit d) size_at size_bytes IsSize (field_again d one again) size_again

  sorted_takes : Takes one type_bytes (Fit d) → Takes (both (field_with one) truth_at) sorted_bytes (SortedFits d)
  sorted_takes takes = both_takes (field_with one) field_bytes (FieldFit d) truth_at truth_bytes Anything (field_takes d one takes) truth_takes

  sorted_again : Again one type_bytes (Fit d) → Again (both (field_with one) truth_at) sorted_bytes (SortedFits d)
  sorted_again again = both_again (field_with one) field_bytes (FieldFit d) truth_at truth_bytes Anything (field_again d one again) truth_again

  union_takes : Takes one type_bytes (Fit d) → Takes (both (fields_with one) (both ids_at truth_at)) union_bytes (UnionFits d)
  union_takes takes = both_takes (fields_with one) all_bytes (FieldsFit d) (both ids_at truth_at) (λ p. ids_bytes p.0 ++ truth_bytes p.1) (λ p. IfSome p.0 AreIds × Anything p.1) (fields_takes d one takes) (both_takes ids_at ids_bytes (λ o. IfSome o AreIds) truth_at truth_bytes Anything ids_takes truth_takes)

  union_again : Again one type_bytes (Fit d) → Again (both (fields_with one) (both ids_at truth_at)) union_bytes (UnionFits d)
  union_again again = both_again (fields_with one) all_bytes (FieldsFit d) (both ids_at truth_at) (λ p. ids_bytes p.0 ++ truth_bytes p.1) (λ p. IfSome p.0 AreIds × Anything p.1) (fields_again d one again) (both_again ids_at ids_bytes (λ o. IfSome o AreIds) truth_at truth_bytes Anything ids_again truth_again)

  dictionary_takes : Takes one type_bytes (Fit d) → Takes (both key_type_at (both one truth_at)) dictionary_bytes (DictionaryFits d)
  dictionary_takes takes = both_takes key_type_at (λ k. key_number k ∷ []) Anything (both one truth_at) (λ p. type_bytes p.0 ++ truth_bytes p.1) (λ p. Fit d p.0 × Anything p.1) key_takes (both_takes one type_bytes (Fit d) truth_at truth_bytes Anything takes truth_takes)

  dictionary_again : Again one type_bytes (Fit d) → Again (both key_type_at (both one truth_at)) dictionary_bytes (DictionaryFits d)
  dictionary_again again = both_again key_type_at (λ k. key_number k ∷ []) Anything (both one truth_at) (λ p. type_bytes p.0 ++ truth_bytes p.1) (λ p. Fit d p.0 × Anything p.1) key_again (both_again one type_bytes (Fit d) truth_at truth_bytes Anything again truth_again)

  extension_takes : Takes one type_bytes (Fit d) → Takes (both text_at (both one optional_text_at)) extension_bytes (ExtensionFits d)
  extension_takes takes = both_takes text_at text_bytes IsUtf8 (both one optional_text_at) (λ p. type_bytes p.0 ++ optional_text_bytes p.1) (λ p. Fit d p.0 × IfSome p.1 IsUtf8) text_takes (both_takes one type_bytes (Fit d) optional_text_at optional_text_bytes (λ o. IfSome o IsUtf8) takes optional_text_takes)

  extension_again : Again one type_bytes (Fit d) → Again (both text_at (both one optional_text_at)) extension_bytes (ExtensionFits d)
  extension_again again = both_again text_at text_bytes IsUtf8 (both one optional_text_at) (λ p. type_bytes p.0 ++ optional_text_bytes p.1) (λ p. Fit d p.0 × IfSome p.1 IsUtf8) text_again (both_again one type_bytes (Fit d) optional_text_at optional_text_bytes (λ o. IfSome o IsUtf8) again optional_text_again)

nested_takes : (c : Container) (d : ℕ) (one : Parse TypeTree) → Takes one type_bytes (Fit d) → (bytes : List ℕ) (t : TypeTree) (rest : List ℕ) → AreBytes bytes → nested_with one c bytes ≡ Some (t, rest) → Parted (number_of_tag (Nested c)) (suc d) t bytes rest
nested_takes container.List d one takes bytes t rest are e = arm (field_with one) field_bytes (FieldFit d) (field_takes d one takes) t_list 25 (suc d) (λ _. refl) (λ _ h. (h.0, omega (arith, h.1))) bytes t rest are e
nested_takes container.FixedSizeList d one takes bytes t rest are e = arm (both (field_with one) size_at) sized_bytes (SizedFits d) (sized_takes d one takes) (λ p. t_fixed_size_list p.0 p.1) 26 (suc d) (λ _. refl) (λ _ h. ((h.0.0, h.1), omega (arith, h.0.1))) bytes t rest are e
nested_takes container.LargeList d one takes bytes t rest are e = arm (field_with one) field_bytes (FieldFit d) (field_takes d one takes) t_large_list 27 (suc d) (λ _. refl) (λ _ h. (h.0, omega (arith, h.1))) bytes t rest are e
nested_takes container.Struct d one takes bytes t rest are e = arm (fields_with one) all_bytes (FieldsFit d) (fields_takes d one takes) t_struct 28 (suc d) (λ _. refl) (λ _ h. (h.0, omega (arith, h.1))) bytes t rest are e
nested_takes container.Union d one takes bytes t rest are e = arm (both (fields_with one) (both ids_at truth_at)) union_bytes (UnionFits d) (union_takes d one takes) (λ p. t_union p.0 p.1.0 p.1.1) 29 (suc d) (λ _. refl) (λ _ h. ((h.0.0, h.1.0), omega (arith, h.0.1))) bytes t rest are e
nested_takes container.Map d one takes bytes t rest are e = arm (both (field_with one) truth_at) sorted_bytes (SortedFits d) (sorted_takes d one takes) (λ p. t_map p.0 p.1) 30 (suc d) (λ _. refl) (λ _ h. (h.0.0, omega (arith, h.0.1))) bytes t rest are e
nested_takes container.Dictionary d one takes bytes t rest are e = arm (both key_type_at (both one truth_at)) dictionary_bytes (DictionaryFits d) (dictionary_takes d one takes) (λ p. t_dictionary p.0 p.1.0 p.1.1) 31 (suc d) (λ _. refl) (λ _ h. (h.1.0.0, omega (arith, h.1.0.1))) bytes t rest are e
nested_takes container.Extension d one takes bytes t rest are e = arm (both text_at (both one optional_text_at)) extension_bytes (ExtensionFits d) (extension_takes d one takes) (λ p. t_extension p.0 p.1.0 p.1.1) 34 (suc d) (λ _. refl) (λ _ h. ((h.0, h.1.0.0, h.1.1), omega (arith, h.1.0.1))) bytes t rest are e

parts_take : (d : ℕ) (one : Parse TypeTree) → Takes one type_bytes (Fit d) → (tag : Tag) (bytes : List ℕ) (t : TypeTree) (rest : List ℕ) → AreBytes bytes → parts_with one tag bytes ≡ Some (t, rest)
    → Parted (number_of_tag tag) (suc d) t bytes rest
parts_take d one takes (Plain s) bytes t rest are e = plain_takes s d bytes t rest are e
parts_take d one takes (Leaf m) bytes t rest are e = leaf_takes m d bytes t rest are e
parts_take d one takes (Nested c) bytes t rest are e = nested_takes c d one takes bytes t rest are e

pub type_takes : (d : ℕ) → Takes (type_at d) type_bytes (Fit d)
unfolding type_at
type_takes zero bytes t rest are e = absurd cc
type_takes (suc d) bytes t rest are e =
    let k = bind_some (tag_at bytes) (λ tag. parts_with (type_at d) tag.0 tag.1) (t, rest) e in
    let tag = tag_takes bytes k.0.0 k.0.1 are k.1 in
    let p = parts_take d (type_at d) (type_takes d) k.0.0 k.0.1 t rest tag.after k.2 in
    let parts : bytes ≡ type_bytes t ++ rest =
    tag.parts ∙ ap (λ (u : List ℕ). number_of_tag k.0.0 ∷ u) p.same ∙ ap (λ (u : List ℕ). u ++ rest) (sym p.spelled) in
    record { parts = parts; fits = p.fits; after = p.after }

-- ---- what is spelled so is read again

pub type_again : (d : ℕ) → Again (type_at d) type_bytes (Fit d)
unfolding type_at tag_at
type_again zero t rest fits small = absurd (nests t fits.1)
  where
    nests : (u : TypeTree) → nesting u ≤ 0 → ⊥
    nests (t_list item) h = absurd (omega arith)
    nests (t_fixed_size_list item size) h = absurd (omega arith)
    nests (t_large_list item) h = absurd (omega arith)
    nests (t_struct fs) h = absurd (omega arith)
    nests (t_union fs ids sparse) h = absurd (omega arith)
    nests (t_map entry sorted) h = absurd (omega arith)
    nests (t_dictionary key value sorted) h = absurd (omega arith)
    nests (t_extension name inner metadata) h = absurd (omega arith)
    nests _ h = absurd (omega arith)
type_again (suc d) t rest fits small = inside (type_again d) t fits small
  where
    inside : Again (type_at d) type_bytes (Fit d) → (u : TypeTree) → Fit (suc d) u → length (type_bytes u) < 2 ^ 32 → type_at (suc d) (type_bytes u ++ rest) ≡ Some (u, rest)
    inside again t_null fits small = refl
    inside again t_boolean fits small = refl
    inside again t_int8 fits small = refl
    inside again t_int16 fits small = refl
    inside again t_int32 fits small = refl
    inside again t_int64 fits small = refl
    inside again t_uint8 fits small = refl
    inside again t_uint16 fits small = refl
    inside again t_uint32 fits small = refl
    inside again t_uint64 fits small = refl
    inside again t_float16 fits small = refl
    inside again t_float32 fits small = refl
    inside again t_float64 fits small = refl
    inside again t_date32 fits small = refl
    inside again t_date64 fits small = refl
    inside again t_binary fits small = refl
    inside again t_large_binary fits small = refl
    inside again t_utf8 fits small = refl
    inside again t_large_utf8 fits small = refl
    inside again (t_timestamp u z) fits small = under_again (both unit_at optional_text_at) zone_bytes ZoneFits zone_again (λ p. t_timestamp p.0 p.1) (u, z) rest (tt, fits.0) (omega arith)
    inside again (t_time32 u) fits small = under_again unit_at (λ v. unit_number v ∷ []) Anything unit_again t_time32 u rest tt (omega arith)
    inside again (t_time64 u) fits small = under_again unit_at (λ v. unit_number v ∷ []) Anything unit_again t_time64 u rest tt (omega arith)
    inside again (t_duration u) fits small = under_again unit_at (λ v. unit_number v ∷ []) Anything unit_again t_duration u rest tt (omega arith)
    inside again (t_interval u) fits small = under_again interval_unit_at (λ v. interval_number v ∷ []) Anything interval_again t_interval u rest tt (omega arith)
    inside again (t_fixed_size_binary size) fits small = under_again size_at size_bytes IsSize size_again t_fixed_size_binary size rest fits.0 (omega arith)
    inside again (t_decimal a b) fits small = under_again (both size_at size_at) two_sizes AreSizes two_again (λ p. t_decimal p.0 p.1) (a, b) rest fits.0 (omega arith)
    inside again (t_decimal256 a b) fits small = under_again (both size_at size_at) two_sizes AreSizes two_again (λ p. t_decimal256 p.0 p.1) (a, b) rest fits.0 (omega arith)
    inside again (t_list f) fits small = under_again (field_with (type_at d)) field_bytes (FieldFit d) (field_again d (type_at d) again) t_list f rest (fits.0, omega arith) (omega arith)
    inside again (t_fixed_size_list f size) fits small = under_again (both (field_with (type_at d)) size_at) sized_bytes (SizedFits d) (sized_again d (type_at d) again) (λ p. t_fixed_size_list p.0 p.1) (f, size) rest ((fits.0.0, omega arith), fits.0.1) (omega arith)
    inside again (t_large_list f) fits small = under_again (field_with (type_at d)) field_bytes (FieldFit d) (field_again d (type_at d) again) t_large_list f rest (fits.0, omega arith) (omega arith)
    inside again (t_struct fs) fits small = under_again (fields_with (type_at d)) all_bytes (FieldsFit d) (fields_again d (type_at d) again) t_struct fs rest (fits.0, omega arith) (omega arith)
    inside again (t_union fs ids sparse) fits small = under_again (both (fields_with (type_at d)) (both ids_at truth_at)) union_bytes (UnionFits d) (union_again d (type_at d) again) (λ p. t_union p.0 p.1.0 p.1.1) (fs, (ids, sparse)) rest ((fits.0.0, omega arith), (fits.0.1, tt)) (omega arith)
    inside again (t_map f sorted) fits small = under_again (both (field_with (type_at d)) truth_at) sorted_bytes (SortedFits d) (sorted_again d (type_at d) again) (λ p. t_map p.0 p.1) (f, sorted) rest ((fits.0, omega arith), tt) (omega arith)
    inside again (t_dictionary key value sorted) fits small = under_again (both key_type_at (both (type_at d) truth_at)) dictionary_bytes (DictionaryFits d) (dictionary_again d (type_at d) again) (λ p. t_dictionary p.0 p.1.0 p.1.1) (key, (value, sorted)) rest (tt, ((fits.0, omega arith), tt)) (omega arith)
    inside again (t_extension name inner metadata) fits small = under_again (both text_at (both (type_at d) optional_text_at)) extension_bytes (ExtensionFits d) (extension_again d (type_at d) again) (λ p. t_extension p.0 p.1.0 p.1.1) (name, (inner, metadata)) rest (fits.0.0, ((fits.0.1, omega arith), fits.0.2)) (omega arith)
