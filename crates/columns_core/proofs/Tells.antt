-- The derived `==` on types tells whether their trees are equal.
use Rattle.std.proofs.Common.{◌≡◌, ℕ, ℤ, ◌+◌, List, [], ◌∷◌, map, Bool, ◌&&◌, true, false, true≢false, Option, Some, None, String, Global, string_bytes, option_map, unwrap_or, refl, ap, sym, subst, ◌∙◌, rules}
use Rattle.std.specs.Bool.{Decides}
use Rattle.columns_core.specs.Tree.{TypeTree, t_null, t_boolean, t_int8, t_int16, t_int32, t_int64, t_uint8, t_uint16, t_uint32, t_uint64, t_float16, t_float32, t_float64, t_timestamp, t_date32, t_date64, t_time32, t_time64, t_duration, t_interval, t_binary, t_fixed_size_binary, t_large_binary, t_utf8, t_large_utf8, t_list, t_fixed_size_list, t_large_list, t_struct, t_union, t_map, t_dictionary, t_decimal, t_decimal256, t_extension, FieldTree, field, FieldTrees, no_fields, more_fields}
use Rattle.columns_core.specs.View.{type_view, field_view, fields_view, type_step, field_step}
use Rattle.columns_core.specs.declared.types.DataType.{DataType, ind-DataType, the_lemmas, roll-DataType, map-DataType, Timestamp as Timestamp', Time32 as Time32', Time64 as Time64', Duration as Duration', Interval as Interval', FixedSizeBinary as FixedSizeBinary', List as List', FixedSizeList as FixedSizeList', LargeList as LargeList', Struct as Struct', Union as Union', Map as Map', Dictionary as Dictionary', Decimal as Decimal', Decimal256 as Decimal256', Extension as Extension'}
use Rattle.columns_core.specs.declared.types.DataType.TheOpen.{DataType-F, Field-F}
use Rattle.columns_core.specs.declared.types.Field.{Field, roll-Field, map-Field, out-roll-Field, out-Field, fold-roll-Field, fold_out-Field, ind-Field}
use Rattle.columns_core.specs.contracts.types.DataType.{enum, as_values, the_make, the_eta, the_beta}
use Rattle.columns_core.specs.contracts.types.DataTypePartialEq.TheImpl as type_impl
use Rattle.columns_core.specs.contracts.types.FieldPartialEq.TheImpl as field_impl
use Rattle.columns_core.specs.contracts.types.DataTypePartialEq.TheImpl.Laws as type_laws
use Rattle.columns_core.specs.contracts.types.FieldPartialEq.TheImpl.Laws as field_laws
use Rattle.columns_core.specs.contracts.types.TimeUnitPartialEq.TheImpl as unit_impl
use Rattle.columns_core.specs.contracts.types.IntervalUnitPartialEq.TheImpl as interval_impl
use Rattle.columns_core.specs.contracts.types.IntegerTypePartialEq.TheImpl as key_impl
use Rattle.std.specs.contracts.prelude.BoolPartialEq.TheImpl as bool_impl
use Rattle.columns_core.proofs.Compared.{place, Apart, Alike, by_decides}
use denote.Enum.Declared.{Choice}
use Rattle.std.specs.declared.vec.Vec.{Vec}
use Rattle.std.specs.declared.boxed.Box.{Box}
use Rattle.std.specs.Cmp.Lexicographic.{pointwise}
use Rattle.std.specs.List.{AllByRecursion as All'}
use Rattle.std.proofs.lemmas.Bool.Decides.{Decides-like, Decides-and, Decides-eqb, Decides-int_eq, Decides-at}
use Rattle.columns_core.specs.declared.types.TimeUnit.{TimeUnit}
use Rattle.columns_core.specs.declared.types.TimeUnit.TheVariants.{Second, Millisecond, Microsecond, Nanosecond}
use Rattle.columns_core.specs.declared.types.IntervalUnit.{IntervalUnit}
use Rattle.columns_core.specs.declared.types.IntervalUnit.TheVariants.{YearMonth, DayTime, MonthDayNano}
use Rattle.columns_core.specs.declared.types.IntegerType.{IntegerType}
use Rattle.columns_core.specs.declared.types.IntegerType.TheVariants.{Int8, Int16, Int32, Int64, UInt8, UInt16, UInt32, UInt64}
use Rattle.std.specs.String.{string_eq}
use Rattle.std.specs.Option.{option_eq}
use Rattle.std.proofs.lemmas.Slice.Eq.{bytes_eq-Decides, slice_eq-Decides}
use Rattle.std.specs.Ordering.{int_eq}
use mathlib.Core.Logic.{inl, inr}
use Rattle.columns_core.specs.Meta.{Meta, entry_eq, meta_eq}
use Rattle.columns_core.specs.declared.types.DataType.TheBlock.{member-DataType}
use Rattle.columns_core.specs.declared.types.DataType.TheShapes.{former-DataType-Struct-0}
use Rattle.columns_core.specs.declared.types.DataType.TheViews.{rolls-Null, rolls-Boolean, rolls-Int8, rolls-Int16, rolls-Int32, rolls-Int64, rolls-UInt8, rolls-UInt16, rolls-UInt32, rolls-UInt64, rolls-Float16, rolls-Float32, rolls-Float64, rolls-Timestamp, rolls-Date32, rolls-Date64, rolls-Time32, rolls-Time64, rolls-Duration, rolls-Interval, rolls-Binary, rolls-FixedSizeBinary, rolls-LargeBinary, rolls-Utf8, rolls-LargeUtf8, rolls-List, rolls-FixedSizeList, rolls-LargeList, rolls-Struct, rolls-Union, rolls-Map, rolls-Dictionary, rolls-Decimal, rolls-Decimal256, rolls-Extension}

abbrev tree_tag : TypeTree → ℕ
tree_tag t_null = 0
tree_tag t_boolean = 1
tree_tag t_int8 = 2
tree_tag t_int16 = 3
tree_tag t_int32 = 4
tree_tag t_int64 = 5
tree_tag t_uint8 = 6
tree_tag t_uint16 = 7
tree_tag t_uint32 = 8
tree_tag t_uint64 = 9
tree_tag t_float16 = 10
tree_tag t_float32 = 11
tree_tag t_float64 = 12
tree_tag (t_timestamp x0 x1) = 13
tree_tag t_date32 = 14
tree_tag t_date64 = 15
tree_tag (t_time32 x0) = 16
tree_tag (t_time64 x0) = 17
tree_tag (t_duration x0) = 18
tree_tag (t_interval x0) = 19
tree_tag t_binary = 20
tree_tag (t_fixed_size_binary x0) = 21
tree_tag t_large_binary = 22
tree_tag t_utf8 = 23
tree_tag t_large_utf8 = 24
tree_tag (t_list x0) = 25
tree_tag (t_fixed_size_list x0 x1) = 26
tree_tag (t_large_list x0) = 27
tree_tag (t_struct x0) = 28
tree_tag (t_union x0 x1 x2) = 29
tree_tag (t_map x0 x1) = 30
tree_tag (t_dictionary x0 x1 x2) = 31
tree_tag (t_decimal x0 x1) = 32
tree_tag (t_decimal256 x0 x1) = 33
tree_tag (t_extension x0 x1 x2) = 34

abbrev TellsType : DataType → Type 0
TellsType a = (b : DataType) → Decides ((type_impl.ghosts).eq a b) (type_view a ≡ type_view b)

abbrev TellsField : Field → Type 0
TellsField a = (b : Field) → Decides ((field_impl.ghosts).eq a b) (field_view a ≡ field_view b)

abbrev seen : Choice (enum.parts) → TypeTree
seen c = type_view (the_make c)

abbrev compare : Choice (enum.parts) → Choice (enum.parts) → Bool
compare c d = type_laws.unfolded (the_make c) (the_make d)

tags : (c : Choice (enum.parts)) → tree_tag (seen c) ≡ 0 + place (enum.parts) c
tags (inl v) = search (rules, the_lemmas)
tags (inr (inl v)) = search (rules, the_lemmas)
tags (inr (inr (inl v))) = search (rules, the_lemmas)
tags (inr (inr (inr (inl v)))) = search (rules, the_lemmas)
tags (inr (inr (inr (inr (inl v))))) = search (rules, the_lemmas)
tags (inr (inr (inr (inr (inr (inl v)))))) = search (rules, the_lemmas)
tags (inr (inr (inr (inr (inr (inr (inl v))))))) = search (rules, the_lemmas)
tags (inr (inr (inr (inr (inr (inr (inr (inl v)))))))) = search (rules, the_lemmas)
tags (inr (inr (inr (inr (inr (inr (inr (inr (inl v))))))))) = search (rules, the_lemmas)
tags (inr (inr (inr (inr (inr (inr (inr (inr (inr (inl v)))))))))) = search (rules, the_lemmas)
tags (inr (inr (inr (inr (inr (inr (inr (inr (inr (inr (inl v))))))))))) = search (rules, the_lemmas)
tags (inr (inr (inr (inr (inr (inr (inr (inr (inr (inr (inr (inl v)))))))))))) = search (rules, the_lemmas)
tags (inr (inr (inr (inr (inr (inr (inr (inr (inr (inr (inr (inr (inl v))))))))))))) = search (rules, the_lemmas)
tags (inr (inr (inr (inr (inr (inr (inr (inr (inr (inr (inr (inr (inr (inl v)))))))))))))) = search (rules, the_lemmas)
tags (inr (inr (inr (inr (inr (inr (inr (inr (inr (inr (inr (inr (inr (inr (inl v))))))))))))))) = search (rules, the_lemmas)
tags (inr (inr (inr (inr (inr (inr (inr (inr (inr (inr (inr (inr (inr (inr (inr (inl v)))))))))))))))) = search (rules, the_lemmas)
tags (inr (inr (inr (inr (inr (inr (inr (inr (inr (inr (inr (inr (inr (inr (inr (inr (inl v))))))))))))))))) = search (rules, the_lemmas)
tags (inr (inr (inr (inr (inr (inr (inr (inr (inr (inr (inr (inr (inr (inr (inr (inr (inr (inl v)))))))))))))))))) = search (rules, the_lemmas)
tags (inr (inr (inr (inr (inr (inr (inr (inr (inr (inr (inr (inr (inr (inr (inr (inr (inr (inr (inl v))))))))))))))))))) = search (rules, the_lemmas)
tags (inr (inr (inr (inr (inr (inr (inr (inr (inr (inr (inr (inr (inr (inr (inr (inr (inr (inr (inr (inl v)))))))))))))))))))) = search (rules, the_lemmas)
tags (inr (inr (inr (inr (inr (inr (inr (inr (inr (inr (inr (inr (inr (inr (inr (inr (inr (inr (inr (inr (inl v))))))))))))))))))))) = search (rules, the_lemmas)
tags (inr (inr (inr (inr (inr (inr (inr (inr (inr (inr (inr (inr (inr (inr (inr (inr (inr (inr (inr (inr (inr (inl v)))))))))))))))))))))) = search (rules, the_lemmas)
tags (inr (inr (inr (inr (inr (inr (inr (inr (inr (inr (inr (inr (inr (inr (inr (inr (inr (inr (inr (inr (inr (inr (inl v))))))))))))))))))))))) = search (rules, the_lemmas)
tags (inr (inr (inr (inr (inr (inr (inr (inr (inr (inr (inr (inr (inr (inr (inr (inr (inr (inr (inr (inr (inr (inr (inr (inl v)))))))))))))))))))))))) = search (rules, the_lemmas)
tags (inr (inr (inr (inr (inr (inr (inr (inr (inr (inr (inr (inr (inr (inr (inr (inr (inr (inr (inr (inr (inr (inr (inr (inr (inl v))))))))))))))))))))))))) = search (rules, the_lemmas)
tags (inr (inr (inr (inr (inr (inr (inr (inr (inr (inr (inr (inr (inr (inr (inr (inr (inr (inr (inr (inr (inr (inr (inr (inr (inr (inl v)))))))))))))))))))))))))) = search (rules, the_lemmas)
tags (inr (inr (inr (inr (inr (inr (inr (inr (inr (inr (inr (inr (inr (inr (inr (inr (inr (inr (inr (inr (inr (inr (inr (inr (inr (inr (inl v))))))))))))))))))))))))))) = search (rules, the_lemmas)
tags (inr (inr (inr (inr (inr (inr (inr (inr (inr (inr (inr (inr (inr (inr (inr (inr (inr (inr (inr (inr (inr (inr (inr (inr (inr (inr (inr (inl v)))))))))))))))))))))))))))) = search (rules, the_lemmas)
tags (inr (inr (inr (inr (inr (inr (inr (inr (inr (inr (inr (inr (inr (inr (inr (inr (inr (inr (inr (inr (inr (inr (inr (inr (inr (inr (inr (inr (inl v))))))))))))))))))))))))))))) = search (rules, the_lemmas)
tags (inr (inr (inr (inr (inr (inr (inr (inr (inr (inr (inr (inr (inr (inr (inr (inr (inr (inr (inr (inr (inr (inr (inr (inr (inr (inr (inr (inr (inr (inl v)))))))))))))))))))))))))))))) = search (rules, the_lemmas)
tags (inr (inr (inr (inr (inr (inr (inr (inr (inr (inr (inr (inr (inr (inr (inr (inr (inr (inr (inr (inr (inr (inr (inr (inr (inr (inr (inr (inr (inr (inr (inl v))))))))))))))))))))))))))))))) = search (rules, the_lemmas)
tags (inr (inr (inr (inr (inr (inr (inr (inr (inr (inr (inr (inr (inr (inr (inr (inr (inr (inr (inr (inr (inr (inr (inr (inr (inr (inr (inr (inr (inr (inr (inr (inl v)))))))))))))))))))))))))))))))) = search (rules, the_lemmas)
tags (inr (inr (inr (inr (inr (inr (inr (inr (inr (inr (inr (inr (inr (inr (inr (inr (inr (inr (inr (inr (inr (inr (inr (inr (inr (inr (inr (inr (inr (inr (inr (inr (inl v))))))))))))))))))))))))))))))))) = search (rules, the_lemmas)
tags (inr (inr (inr (inr (inr (inr (inr (inr (inr (inr (inr (inr (inr (inr (inr (inr (inr (inr (inr (inr (inr (inr (inr (inr (inr (inr (inr (inr (inr (inr (inr (inr (inr (inl v)))))))))))))))))))))))))))))))))) = search (rules, the_lemmas)
tags (inr (inr (inr (inr (inr (inr (inr (inr (inr (inr (inr (inr (inr (inr (inr (inr (inr (inr (inr (inr (inr (inr (inr (inr (inr (inr (inr (inr (inr (inr (inr (inr (inr (inr (inl v))))))))))))))))))))))))))))))))))) = search (rules, the_lemmas)
tags (inr (inr (inr (inr (inr (inr (inr (inr (inr (inr (inr (inr (inr (inr (inr (inr (inr (inr (inr (inr (inr (inr (inr (inr (inr (inr (inr (inr (inr (inr (inr (inr (inr (inr (inr v))))))))))))))))))))))))))))))))))) = absurd v

apart : Apart (enum.parts) compare
apart = (λ x y. rw (the_beta (inl x), the_beta (inr y)) refl, λ x y. rw (the_beta (inr x), the_beta (inl y)) refl, (λ x y. rw (the_beta (inr (inl x)), the_beta (inr (inr y))) refl, λ x y. rw (the_beta (inr (inr x)), the_beta (inr (inl y))) refl, (λ x y. rw (the_beta (inr (inr (inl x))), the_beta (inr (inr (inr y)))) refl, λ x y. rw (the_beta (inr (inr (inr x))), the_beta (inr (inr (inl y)))) refl, (λ x y. rw (the_beta (inr (inr (inr (inl x)))), the_beta (inr (inr (inr (inr y))))) refl, λ x y. rw (the_beta (inr (inr (inr (inr x)))), the_beta (inr (inr (inr (inl y))))) refl, (λ x y. rw (the_beta (inr (inr (inr (inr (inl x))))), the_beta (inr (inr (inr (inr (inr y)))))) refl, λ x y. rw (the_beta (inr (inr (inr (inr (inr x))))), the_beta (inr (inr (inr (inr (inl y)))))) refl, (λ x y. rw (the_beta (inr (inr (inr (inr (inr (inl x)))))), the_beta (inr (inr (inr (inr (inr (inr y))))))) refl, λ x y. rw (the_beta (inr (inr (inr (inr (inr (inr x)))))), the_beta (inr (inr (inr (inr (inr (inl y))))))) refl, (λ x y. rw (the_beta (inr (inr (inr (inr (inr (inr (inl x))))))), the_beta (inr (inr (inr (inr (inr (inr (inr y)))))))) refl, λ x y. rw (the_beta (inr (inr (inr (inr (inr (inr (inr x))))))), the_beta (inr (inr (inr (inr (inr (inr (inl y)))))))) refl, (λ x y. rw (the_beta (inr (inr (inr (inr (inr (inr (inr (inl x)))))))), the_beta (inr (inr (inr (inr (inr (inr (inr (inr y))))))))) refl, λ x y. rw (the_beta (inr (inr (inr (inr (inr (inr (inr (inr x)))))))), the_beta (inr (inr (inr (inr (inr (inr (inr (inl y))))))))) refl, (λ x y. rw (the_beta (inr (inr (inr (inr (inr (inr (inr (inr (inl x))))))))), the_beta (inr (inr (inr (inr (inr (inr (inr (inr (inr y)))))))))) refl, λ x y. rw (the_beta (inr (inr (inr (inr (inr (inr (inr (inr (inr x))))))))), the_beta (inr (inr (inr (inr (inr (inr (inr (inr (inl y)))))))))) refl, (λ x y. rw (the_beta (inr (inr (inr (inr (inr (inr (inr (inr (inr (inl x)))))))))), the_beta (inr (inr (inr (inr (inr (inr (inr (inr (inr (inr y))))))))))) refl, λ x y. rw (the_beta (inr (inr (inr (inr (inr (inr (inr (inr (inr (inr x)))))))))), the_beta (inr (inr (inr (inr (inr (inr (inr (inr (inr (inl y))))))))))) refl, (λ x y. rw (the_beta (inr (inr (inr (inr (inr (inr (inr (inr (inr (inr (inl x))))))))))), the_beta (inr (inr (inr (inr (inr (inr (inr (inr (inr (inr (inr y)))))))))))) refl, λ x y. rw (the_beta (inr (inr (inr (inr (inr (inr (inr (inr (inr (inr (inr x))))))))))), the_beta (inr (inr (inr (inr (inr (inr (inr (inr (inr (inr (inl y)))))))))))) refl, (λ x y. rw (the_beta (inr (inr (inr (inr (inr (inr (inr (inr (inr (inr (inr (inl x)))))))))))), the_beta (inr (inr (inr (inr (inr (inr (inr (inr (inr (inr (inr (inr y))))))))))))) refl, λ x y. rw (the_beta (inr (inr (inr (inr (inr (inr (inr (inr (inr (inr (inr (inr x)))))))))))), the_beta (inr (inr (inr (inr (inr (inr (inr (inr (inr (inr (inr (inl y))))))))))))) refl, (λ x y. rw (the_beta (inr (inr (inr (inr (inr (inr (inr (inr (inr (inr (inr (inr (inl x))))))))))))), the_beta (inr (inr (inr (inr (inr (inr (inr (inr (inr (inr (inr (inr (inr y)))))))))))))) refl, λ x y. rw (the_beta (inr (inr (inr (inr (inr (inr (inr (inr (inr (inr (inr (inr (inr x))))))))))))), the_beta (inr (inr (inr (inr (inr (inr (inr (inr (inr (inr (inr (inr (inl y)))))))))))))) refl, (λ x y. rw (the_beta (inr (inr (inr (inr (inr (inr (inr (inr (inr (inr (inr (inr (inr (inl x)))))))))))))), the_beta (inr (inr (inr (inr (inr (inr (inr (inr (inr (inr (inr (inr (inr (inr y))))))))))))))) refl, λ x y. rw (the_beta (inr (inr (inr (inr (inr (inr (inr (inr (inr (inr (inr (inr (inr (inr x)))))))))))))), the_beta (inr (inr (inr (inr (inr (inr (inr (inr (inr (inr (inr (inr (inr (inl y))))))))))))))) refl, (λ x y. rw (the_beta (inr (inr (inr (inr (inr (inr (inr (inr (inr (inr (inr (inr (inr (inr (inl x))))))))))))))), the_beta (inr (inr (inr (inr (inr (inr (inr (inr (inr (inr (inr (inr (inr (inr (inr y)))))))))))))))) refl, λ x y. rw (the_beta (inr (inr (inr (inr (inr (inr (inr (inr (inr (inr (inr (inr (inr (inr (inr x))))))))))))))), the_beta (inr (inr (inr (inr (inr (inr (inr (inr (inr (inr (inr (inr (inr (inr (inl y)))))))))))))))) refl, (λ x y. rw (the_beta (inr (inr (inr (inr (inr (inr (inr (inr (inr (inr (inr (inr (inr (inr (inr (inl x)))))))))))))))), the_beta (inr (inr (inr (inr (inr (inr (inr (inr (inr (inr (inr (inr (inr (inr (inr (inr y))))))))))))))))) refl, λ x y. rw (the_beta (inr (inr (inr (inr (inr (inr (inr (inr (inr (inr (inr (inr (inr (inr (inr (inr x)))))))))))))))), the_beta (inr (inr (inr (inr (inr (inr (inr (inr (inr (inr (inr (inr (inr (inr (inr (inl y))))))))))))))))) refl, (λ x y. rw (the_beta (inr (inr (inr (inr (inr (inr (inr (inr (inr (inr (inr (inr (inr (inr (inr (inr (inl x))))))))))))))))), the_beta (inr (inr (inr (inr (inr (inr (inr (inr (inr (inr (inr (inr (inr (inr (inr (inr (inr y)))))))))))))))))) refl, λ x y. rw (the_beta (inr (inr (inr (inr (inr (inr (inr (inr (inr (inr (inr (inr (inr (inr (inr (inr (inr x))))))))))))))))), the_beta (inr (inr (inr (inr (inr (inr (inr (inr (inr (inr (inr (inr (inr (inr (inr (inr (inl y)))))))))))))))))) refl, (λ x y. rw (the_beta (inr (inr (inr (inr (inr (inr (inr (inr (inr (inr (inr (inr (inr (inr (inr (inr (inr (inl x)))))))))))))))))), the_beta (inr (inr (inr (inr (inr (inr (inr (inr (inr (inr (inr (inr (inr (inr (inr (inr (inr (inr y))))))))))))))))))) refl, λ x y. rw (the_beta (inr (inr (inr (inr (inr (inr (inr (inr (inr (inr (inr (inr (inr (inr (inr (inr (inr (inr x)))))))))))))))))), the_beta (inr (inr (inr (inr (inr (inr (inr (inr (inr (inr (inr (inr (inr (inr (inr (inr (inr (inl y))))))))))))))))))) refl, (λ x y. rw (the_beta (inr (inr (inr (inr (inr (inr (inr (inr (inr (inr (inr (inr (inr (inr (inr (inr (inr (inr (inl x))))))))))))))))))), the_beta (inr (inr (inr (inr (inr (inr (inr (inr (inr (inr (inr (inr (inr (inr (inr (inr (inr (inr (inr y)))))))))))))))))))) refl, λ x y. rw (the_beta (inr (inr (inr (inr (inr (inr (inr (inr (inr (inr (inr (inr (inr (inr (inr (inr (inr (inr (inr x))))))))))))))))))), the_beta (inr (inr (inr (inr (inr (inr (inr (inr (inr (inr (inr (inr (inr (inr (inr (inr (inr (inr (inl y)))))))))))))))))))) refl, (λ x y. rw (the_beta (inr (inr (inr (inr (inr (inr (inr (inr (inr (inr (inr (inr (inr (inr (inr (inr (inr (inr (inr (inl x)))))))))))))))))))), the_beta (inr (inr (inr (inr (inr (inr (inr (inr (inr (inr (inr (inr (inr (inr (inr (inr (inr (inr (inr (inr y))))))))))))))))))))) refl, λ x y. rw (the_beta (inr (inr (inr (inr (inr (inr (inr (inr (inr (inr (inr (inr (inr (inr (inr (inr (inr (inr (inr (inr x)))))))))))))))))))), the_beta (inr (inr (inr (inr (inr (inr (inr (inr (inr (inr (inr (inr (inr (inr (inr (inr (inr (inr (inr (inl y))))))))))))))))))))) refl, (λ x y. rw (the_beta (inr (inr (inr (inr (inr (inr (inr (inr (inr (inr (inr (inr (inr (inr (inr (inr (inr (inr (inr (inr (inl x))))))))))))))))))))), the_beta (inr (inr (inr (inr (inr (inr (inr (inr (inr (inr (inr (inr (inr (inr (inr (inr (inr (inr (inr (inr (inr y)))))))))))))))))))))) refl, λ x y. rw (the_beta (inr (inr (inr (inr (inr (inr (inr (inr (inr (inr (inr (inr (inr (inr (inr (inr (inr (inr (inr (inr (inr x))))))))))))))))))))), the_beta (inr (inr (inr (inr (inr (inr (inr (inr (inr (inr (inr (inr (inr (inr (inr (inr (inr (inr (inr (inr (inl y)))))))))))))))))))))) refl, (λ x y. rw (the_beta (inr (inr (inr (inr (inr (inr (inr (inr (inr (inr (inr (inr (inr (inr (inr (inr (inr (inr (inr (inr (inr (inl x)))))))))))))))))))))), the_beta (inr (inr (inr (inr (inr (inr (inr (inr (inr (inr (inr (inr (inr (inr (inr (inr (inr (inr (inr (inr (inr (inr y))))))))))))))))))))))) refl, λ x y. rw (the_beta (inr (inr (inr (inr (inr (inr (inr (inr (inr (inr (inr (inr (inr (inr (inr (inr (inr (inr (inr (inr (inr (inr x)))))))))))))))))))))), the_beta (inr (inr (inr (inr (inr (inr (inr (inr (inr (inr (inr (inr (inr (inr (inr (inr (inr (inr (inr (inr (inr (inl y))))))))))))))))))))))) refl, (λ x y. rw (the_beta (inr (inr (inr (inr (inr (inr (inr (inr (inr (inr (inr (inr (inr (inr (inr (inr (inr (inr (inr (inr (inr (inr (inl x))))))))))))))))))))))), the_beta (inr (inr (inr (inr (inr (inr (inr (inr (inr (inr (inr (inr (inr (inr (inr (inr (inr (inr (inr (inr (inr (inr (inr y)))))))))))))))))))))))) refl, λ x y. rw (the_beta (inr (inr (inr (inr (inr (inr (inr (inr (inr (inr (inr (inr (inr (inr (inr (inr (inr (inr (inr (inr (inr (inr (inr x))))))))))))))))))))))), the_beta (inr (inr (inr (inr (inr (inr (inr (inr (inr (inr (inr (inr (inr (inr (inr (inr (inr (inr (inr (inr (inr (inr (inl y)))))))))))))))))))))))) refl, (λ x y. rw (the_beta (inr (inr (inr (inr (inr (inr (inr (inr (inr (inr (inr (inr (inr (inr (inr (inr (inr (inr (inr (inr (inr (inr (inr (inl x)))))))))))))))))))))))), the_beta (inr (inr (inr (inr (inr (inr (inr (inr (inr (inr (inr (inr (inr (inr (inr (inr (inr (inr (inr (inr (inr (inr (inr (inr y))))))))))))))))))))))))) refl, λ x y. rw (the_beta (inr (inr (inr (inr (inr (inr (inr (inr (inr (inr (inr (inr (inr (inr (inr (inr (inr (inr (inr (inr (inr (inr (inr (inr x)))))))))))))))))))))))), the_beta (inr (inr (inr (inr (inr (inr (inr (inr (inr (inr (inr (inr (inr (inr (inr (inr (inr (inr (inr (inr (inr (inr (inr (inl y))))))))))))))))))))))))) refl, (λ x y. rw (the_beta (inr (inr (inr (inr (inr (inr (inr (inr (inr (inr (inr (inr (inr (inr (inr (inr (inr (inr (inr (inr (inr (inr (inr (inr (inl x))))))))))))))))))))))))), the_beta (inr (inr (inr (inr (inr (inr (inr (inr (inr (inr (inr (inr (inr (inr (inr (inr (inr (inr (inr (inr (inr (inr (inr (inr (inr y)))))))))))))))))))))))))) refl, λ x y. rw (the_beta (inr (inr (inr (inr (inr (inr (inr (inr (inr (inr (inr (inr (inr (inr (inr (inr (inr (inr (inr (inr (inr (inr (inr (inr (inr x))))))))))))))))))))))))), the_beta (inr (inr (inr (inr (inr (inr (inr (inr (inr (inr (inr (inr (inr (inr (inr (inr (inr (inr (inr (inr (inr (inr (inr (inr (inl y)))))))))))))))))))))))))) refl, (λ x y. rw (the_beta (inr (inr (inr (inr (inr (inr (inr (inr (inr (inr (inr (inr (inr (inr (inr (inr (inr (inr (inr (inr (inr (inr (inr (inr (inr (inl x)))))))))))))))))))))))))), the_beta (inr (inr (inr (inr (inr (inr (inr (inr (inr (inr (inr (inr (inr (inr (inr (inr (inr (inr (inr (inr (inr (inr (inr (inr (inr (inr y))))))))))))))))))))))))))) refl, λ x y. rw (the_beta (inr (inr (inr (inr (inr (inr (inr (inr (inr (inr (inr (inr (inr (inr (inr (inr (inr (inr (inr (inr (inr (inr (inr (inr (inr (inr x)))))))))))))))))))))))))), the_beta (inr (inr (inr (inr (inr (inr (inr (inr (inr (inr (inr (inr (inr (inr (inr (inr (inr (inr (inr (inr (inr (inr (inr (inr (inr (inl y))))))))))))))))))))))))))) refl, (λ x y. rw (the_beta (inr (inr (inr (inr (inr (inr (inr (inr (inr (inr (inr (inr (inr (inr (inr (inr (inr (inr (inr (inr (inr (inr (inr (inr (inr (inr (inl x))))))))))))))))))))))))))), the_beta (inr (inr (inr (inr (inr (inr (inr (inr (inr (inr (inr (inr (inr (inr (inr (inr (inr (inr (inr (inr (inr (inr (inr (inr (inr (inr (inr y)))))))))))))))))))))))))))) refl, λ x y. rw (the_beta (inr (inr (inr (inr (inr (inr (inr (inr (inr (inr (inr (inr (inr (inr (inr (inr (inr (inr (inr (inr (inr (inr (inr (inr (inr (inr (inr x))))))))))))))))))))))))))), the_beta (inr (inr (inr (inr (inr (inr (inr (inr (inr (inr (inr (inr (inr (inr (inr (inr (inr (inr (inr (inr (inr (inr (inr (inr (inr (inr (inl y)))))))))))))))))))))))))))) refl, (λ x y. rw (the_beta (inr (inr (inr (inr (inr (inr (inr (inr (inr (inr (inr (inr (inr (inr (inr (inr (inr (inr (inr (inr (inr (inr (inr (inr (inr (inr (inr (inl x)))))))))))))))))))))))))))), the_beta (inr (inr (inr (inr (inr (inr (inr (inr (inr (inr (inr (inr (inr (inr (inr (inr (inr (inr (inr (inr (inr (inr (inr (inr (inr (inr (inr (inr y))))))))))))))))))))))))))))) refl, λ x y. rw (the_beta (inr (inr (inr (inr (inr (inr (inr (inr (inr (inr (inr (inr (inr (inr (inr (inr (inr (inr (inr (inr (inr (inr (inr (inr (inr (inr (inr (inr x)))))))))))))))))))))))))))), the_beta (inr (inr (inr (inr (inr (inr (inr (inr (inr (inr (inr (inr (inr (inr (inr (inr (inr (inr (inr (inr (inr (inr (inr (inr (inr (inr (inr (inl y))))))))))))))))))))))))))))) refl, (λ x y. rw (the_beta (inr (inr (inr (inr (inr (inr (inr (inr (inr (inr (inr (inr (inr (inr (inr (inr (inr (inr (inr (inr (inr (inr (inr (inr (inr (inr (inr (inr (inl x))))))))))))))))))))))))))))), the_beta (inr (inr (inr (inr (inr (inr (inr (inr (inr (inr (inr (inr (inr (inr (inr (inr (inr (inr (inr (inr (inr (inr (inr (inr (inr (inr (inr (inr (inr y)))))))))))))))))))))))))))))) refl, λ x y. rw (the_beta (inr (inr (inr (inr (inr (inr (inr (inr (inr (inr (inr (inr (inr (inr (inr (inr (inr (inr (inr (inr (inr (inr (inr (inr (inr (inr (inr (inr (inr x))))))))))))))))))))))))))))), the_beta (inr (inr (inr (inr (inr (inr (inr (inr (inr (inr (inr (inr (inr (inr (inr (inr (inr (inr (inr (inr (inr (inr (inr (inr (inr (inr (inr (inr (inl y)))))))))))))))))))))))))))))) refl, (λ x y. rw (the_beta (inr (inr (inr (inr (inr (inr (inr (inr (inr (inr (inr (inr (inr (inr (inr (inr (inr (inr (inr (inr (inr (inr (inr (inr (inr (inr (inr (inr (inr (inl x)))))))))))))))))))))))))))))), the_beta (inr (inr (inr (inr (inr (inr (inr (inr (inr (inr (inr (inr (inr (inr (inr (inr (inr (inr (inr (inr (inr (inr (inr (inr (inr (inr (inr (inr (inr (inr y))))))))))))))))))))))))))))))) refl, λ x y. rw (the_beta (inr (inr (inr (inr (inr (inr (inr (inr (inr (inr (inr (inr (inr (inr (inr (inr (inr (inr (inr (inr (inr (inr (inr (inr (inr (inr (inr (inr (inr (inr x)))))))))))))))))))))))))))))), the_beta (inr (inr (inr (inr (inr (inr (inr (inr (inr (inr (inr (inr (inr (inr (inr (inr (inr (inr (inr (inr (inr (inr (inr (inr (inr (inr (inr (inr (inr (inl y))))))))))))))))))))))))))))))) refl, (λ x y. rw (the_beta (inr (inr (inr (inr (inr (inr (inr (inr (inr (inr (inr (inr (inr (inr (inr (inr (inr (inr (inr (inr (inr (inr (inr (inr (inr (inr (inr (inr (inr (inr (inl x))))))))))))))))))))))))))))))), the_beta (inr (inr (inr (inr (inr (inr (inr (inr (inr (inr (inr (inr (inr (inr (inr (inr (inr (inr (inr (inr (inr (inr (inr (inr (inr (inr (inr (inr (inr (inr (inr y)))))))))))))))))))))))))))))))) refl, λ x y. rw (the_beta (inr (inr (inr (inr (inr (inr (inr (inr (inr (inr (inr (inr (inr (inr (inr (inr (inr (inr (inr (inr (inr (inr (inr (inr (inr (inr (inr (inr (inr (inr (inr x))))))))))))))))))))))))))))))), the_beta (inr (inr (inr (inr (inr (inr (inr (inr (inr (inr (inr (inr (inr (inr (inr (inr (inr (inr (inr (inr (inr (inr (inr (inr (inr (inr (inr (inr (inr (inr (inl y)))))))))))))))))))))))))))))))) refl, (λ x y. rw (the_beta (inr (inr (inr (inr (inr (inr (inr (inr (inr (inr (inr (inr (inr (inr (inr (inr (inr (inr (inr (inr (inr (inr (inr (inr (inr (inr (inr (inr (inr (inr (inr (inl x)))))))))))))))))))))))))))))))), the_beta (inr (inr (inr (inr (inr (inr (inr (inr (inr (inr (inr (inr (inr (inr (inr (inr (inr (inr (inr (inr (inr (inr (inr (inr (inr (inr (inr (inr (inr (inr (inr (inr y))))))))))))))))))))))))))))))))) refl, λ x y. rw (the_beta (inr (inr (inr (inr (inr (inr (inr (inr (inr (inr (inr (inr (inr (inr (inr (inr (inr (inr (inr (inr (inr (inr (inr (inr (inr (inr (inr (inr (inr (inr (inr (inr x)))))))))))))))))))))))))))))))), the_beta (inr (inr (inr (inr (inr (inr (inr (inr (inr (inr (inr (inr (inr (inr (inr (inr (inr (inr (inr (inr (inr (inr (inr (inr (inr (inr (inr (inr (inr (inr (inr (inl y))))))))))))))))))))))))))))))))) refl, (λ x y. rw (the_beta (inr (inr (inr (inr (inr (inr (inr (inr (inr (inr (inr (inr (inr (inr (inr (inr (inr (inr (inr (inr (inr (inr (inr (inr (inr (inr (inr (inr (inr (inr (inr (inr (inl x))))))))))))))))))))))))))))))))), the_beta (inr (inr (inr (inr (inr (inr (inr (inr (inr (inr (inr (inr (inr (inr (inr (inr (inr (inr (inr (inr (inr (inr (inr (inr (inr (inr (inr (inr (inr (inr (inr (inr (inr y)))))))))))))))))))))))))))))))))) refl, λ x y. rw (the_beta (inr (inr (inr (inr (inr (inr (inr (inr (inr (inr (inr (inr (inr (inr (inr (inr (inr (inr (inr (inr (inr (inr (inr (inr (inr (inr (inr (inr (inr (inr (inr (inr (inr x))))))))))))))))))))))))))))))))), the_beta (inr (inr (inr (inr (inr (inr (inr (inr (inr (inr (inr (inr (inr (inr (inr (inr (inr (inr (inr (inr (inr (inr (inr (inr (inr (inr (inr (inr (inr (inr (inr (inr (inl y)))))))))))))))))))))))))))))))))) refl, (λ x y. rw (the_beta (inr (inr (inr (inr (inr (inr (inr (inr (inr (inr (inr (inr (inr (inr (inr (inr (inr (inr (inr (inr (inr (inr (inr (inr (inr (inr (inr (inr (inr (inr (inr (inr (inr (inl x)))))))))))))))))))))))))))))))))), the_beta (inr (inr (inr (inr (inr (inr (inr (inr (inr (inr (inr (inr (inr (inr (inr (inr (inr (inr (inr (inr (inr (inr (inr (inr (inr (inr (inr (inr (inr (inr (inr (inr (inr (inr y))))))))))))))))))))))))))))))))))) refl, λ x y. rw (the_beta (inr (inr (inr (inr (inr (inr (inr (inr (inr (inr (inr (inr (inr (inr (inr (inr (inr (inr (inr (inr (inr (inr (inr (inr (inr (inr (inr (inr (inr (inr (inr (inr (inr (inr x)))))))))))))))))))))))))))))))))), the_beta (inr (inr (inr (inr (inr (inr (inr (inr (inr (inr (inr (inr (inr (inr (inr (inr (inr (inr (inr (inr (inr (inr (inr (inr (inr (inr (inr (inr (inr (inr (inr (inr (inr (inl y))))))))))))))))))))))))))))))))))) refl, (λ x y. rw (the_beta (inr (inr (inr (inr (inr (inr (inr (inr (inr (inr (inr (inr (inr (inr (inr (inr (inr (inr (inr (inr (inr (inr (inr (inr (inr (inr (inr (inr (inr (inr (inr (inr (inr (inr (inl x))))))))))))))))))))))))))))))))))), the_beta (inr (inr (inr (inr (inr (inr (inr (inr (inr (inr (inr (inr (inr (inr (inr (inr (inr (inr (inr (inr (inr (inr (inr (inr (inr (inr (inr (inr (inr (inr (inr (inr (inr (inr (inr y)))))))))))))))))))))))))))))))))))) refl, λ x y. rw (the_beta (inr (inr (inr (inr (inr (inr (inr (inr (inr (inr (inr (inr (inr (inr (inr (inr (inr (inr (inr (inr (inr (inr (inr (inr (inr (inr (inr (inr (inr (inr (inr (inr (inr (inr (inr x))))))))))))))))))))))))))))))))))), the_beta (inr (inr (inr (inr (inr (inr (inr (inr (inr (inr (inr (inr (inr (inr (inr (inr (inr (inr (inr (inr (inr (inr (inr (inr (inr (inr (inr (inr (inr (inr (inr (inr (inr (inr (inl y)))))))))))))))))))))))))))))))))))) refl, tt)))))))))))))))))))))))))))))))))))

abbrev first_part : FieldTrees → FieldTree
first_part no_fields = field [] t_null false []
first_part (more_fields f fs) = f

abbrev later_parts : FieldTrees → FieldTrees
later_parts no_fields = no_fields
later_parts (more_fields f fs) = fs

tells_fields : (fs gs : List Field) → All' TellsField fs → Decides (pointwise (field_impl.ghosts).eq fs gs) (fields_view fs ≡ fields_view gs)
tells_fields [] [] h = (λ e. refl, λ e. refl)
tells_fields [] (g ∷ gs) h = (λ e. absurd (true≢false (sym e)), λ e. cc)
tells_fields (f ∷ fs) [] h = (λ e. absurd (true≢false (sym e)), λ e. cc)
tells_fields (f ∷ fs) (g ∷ gs) h =
    Decides-like _ (λ e. rw (e.0, e.1) refl) (λ e. (ap first_part e, ap later_parts e)) (Decides-and _ _ (h.0 g) (tells_fields fs gs h.1))

tells_bool : (a b : Bool) → Decides ((bool_impl.ghosts).eq a b) (a ≡ b)
tells_bool true true = (λ e. refl, λ e. refl)
tells_bool false false = (λ e. refl, λ e. refl)
tells_bool true false = (λ e. absurd (true≢false (sym e)), λ e. absurd (true≢false e))
tells_bool false true = (λ e. absurd (true≢false (sym e)), λ e. absurd (true≢false (sym e)))

tells_unit : (a b : TimeUnit) → Decides ((unit_impl.ghosts).eq a b) (a ≡ b)
tells_unit Second Second = (λ e. refl, λ e. refl)
tells_unit Millisecond Millisecond = (λ e. refl, λ e. refl)
tells_unit Microsecond Microsecond = (λ e. refl, λ e. refl)
tells_unit Nanosecond Nanosecond = (λ e. refl, λ e. refl)
tells_unit a b = (λ e. absurd (true≢false (sym e)), λ e. cc)

tells_interval_unit : (a b : IntervalUnit) → Decides ((interval_impl.ghosts).eq a b) (a ≡ b)
tells_interval_unit YearMonth YearMonth = (λ e. refl, λ e. refl)
tells_interval_unit DayTime DayTime = (λ e. refl, λ e. refl)
tells_interval_unit MonthDayNano MonthDayNano = (λ e. refl, λ e. refl)
tells_interval_unit a b = (λ e. absurd (true≢false (sym e)), λ e. cc)

tells_key : (a b : IntegerType) → Decides ((key_impl.ghosts).eq a b) (a ≡ b)
tells_key Int8 Int8 = (λ e. refl, λ e. refl)
tells_key Int16 Int16 = (λ e. refl, λ e. refl)
tells_key Int32 Int32 = (λ e. refl, λ e. refl)
tells_key Int64 Int64 = (λ e. refl, λ e. refl)
tells_key UInt8 UInt8 = (λ e. refl, λ e. refl)
tells_key UInt16 UInt16 = (λ e. refl, λ e. refl)
tells_key UInt32 UInt32 = (λ e. refl, λ e. refl)
tells_key UInt64 UInt64 = (λ e. refl, λ e. refl)
tells_key a b = (λ e. absurd (true≢false (sym e)), λ e. cc)

tells_text : (a b : String Global) → Decides (string_eq a b) (string_bytes a ≡ string_bytes b)
tells_text a b = bytes_eq-Decides (string_bytes a) (string_bytes b)

tells_option : (a b : Option (String Global)) → Decides (option_eq string_eq a b) (option_map string_bytes a ≡ option_map string_bytes b)
tells_option None None = (λ e. refl, λ e. refl)
tells_option None (Some b) = (λ e. absurd (true≢false (sym e)), λ e. cc)
tells_option (Some a) None = (λ e. absurd (true≢false (sym e)), λ e. cc)
tells_option (Some a) (Some b) = Decides-like _ (λ e. ap Some e) (λ e. ap (λ o. unwrap_or o []) e) (tells_text a b)

tells_ints : (xs ys : List ℤ) → Decides (pointwise int_eq xs ys) (xs ≡ ys)
tells_ints xs ys = slice_eq-Decides Decides-int_eq xs ys _ refl

tells_ids : (a b : Option (Vec ℤ Global)) → Decides (option_eq (λ x y. pointwise int_eq x.items y.items) a b) (option_map (λ v. v.items) a ≡ option_map (λ v. v.items) b)
tells_ids None None = (λ e. refl, λ e. refl)
tells_ids None (Some b) = (λ e. absurd (true≢false (sym e)), λ e. cc)
tells_ids (Some a) None = (λ e. absurd (true≢false (sym e)), λ e. cc)
tells_ids (Some a) (Some b) = Decides-like _ (λ e. ap Some e) (λ e. ap (λ o. unwrap_or o []) e) (tells_ints a.items b.items)

tells_null : Alike (enum.parts) compare seen (inl tt)
tells_null y = rw (the_beta (inl tt)) (λ e. refl, λ e. refl)

tells_boolean : Alike (enum.parts) compare seen (inr (inl tt))
tells_boolean y = rw (the_beta (inr (inl tt))) (λ e. refl, λ e. refl)

tells_int8 : Alike (enum.parts) compare seen (inr (inr (inl tt)))
tells_int8 y = rw (the_beta (inr (inr (inl tt)))) (λ e. refl, λ e. refl)

tells_int16 : Alike (enum.parts) compare seen (inr (inr (inr (inl tt))))
tells_int16 y = rw (the_beta (inr (inr (inr (inl tt))))) (λ e. refl, λ e. refl)

tells_int32 : Alike (enum.parts) compare seen (inr (inr (inr (inr (inl tt)))))
tells_int32 y = rw (the_beta (inr (inr (inr (inr (inl tt)))))) (λ e. refl, λ e. refl)

tells_int64 : Alike (enum.parts) compare seen (inr (inr (inr (inr (inr (inl tt))))))
tells_int64 y = rw (the_beta (inr (inr (inr (inr (inr (inl tt))))))) (λ e. refl, λ e. refl)

tells_uint8 : Alike (enum.parts) compare seen (inr (inr (inr (inr (inr (inr (inl tt)))))))
tells_uint8 y = rw (the_beta (inr (inr (inr (inr (inr (inr (inl tt)))))))) (λ e. refl, λ e. refl)

tells_uint16 : Alike (enum.parts) compare seen (inr (inr (inr (inr (inr (inr (inr (inl tt))))))))
tells_uint16 y = rw (the_beta (inr (inr (inr (inr (inr (inr (inr (inl tt))))))))) (λ e. refl, λ e. refl)

tells_uint32 : Alike (enum.parts) compare seen (inr (inr (inr (inr (inr (inr (inr (inr (inl tt)))))))))
tells_uint32 y = rw (the_beta (inr (inr (inr (inr (inr (inr (inr (inr (inl tt)))))))))) (λ e. refl, λ e. refl)

tells_uint64 : Alike (enum.parts) compare seen (inr (inr (inr (inr (inr (inr (inr (inr (inr (inl tt))))))))))
tells_uint64 y = rw (the_beta (inr (inr (inr (inr (inr (inr (inr (inr (inr (inl tt))))))))))) (λ e. refl, λ e. refl)

tells_float16 : Alike (enum.parts) compare seen (inr (inr (inr (inr (inr (inr (inr (inr (inr (inr (inl tt)))))))))))
tells_float16 y = rw (the_beta (inr (inr (inr (inr (inr (inr (inr (inr (inr (inr (inl tt)))))))))))) (λ e. refl, λ e. refl)

tells_float32 : Alike (enum.parts) compare seen (inr (inr (inr (inr (inr (inr (inr (inr (inr (inr (inr (inl tt))))))))))))
tells_float32 y = rw (the_beta (inr (inr (inr (inr (inr (inr (inr (inr (inr (inr (inr (inl tt))))))))))))) (λ e. refl, λ e. refl)

tells_float64 : Alike (enum.parts) compare seen (inr (inr (inr (inr (inr (inr (inr (inr (inr (inr (inr (inr (inl tt)))))))))))))
tells_float64 y = rw (the_beta (inr (inr (inr (inr (inr (inr (inr (inr (inr (inr (inr (inr (inl tt)))))))))))))) (λ e. refl, λ e. refl)

view_timestamp : (x0 : TimeUnit) (x1 : Option (String Global)) → type_view (Timestamp' x0 x1) ≡ t_timestamp x0 (option_map string_bytes x1)
view_timestamp x0 x1 = search (rules, the_lemmas)

abbrev timestamp_part0 : TypeTree → TimeUnit
timestamp_part0 (t_timestamp x0 x1) = x0
timestamp_part0 t = Second

abbrev timestamp_part1 : TypeTree → Option (List ℕ)
timestamp_part1 (t_timestamp x0 x1) = x1
timestamp_part1 t = None

tells_timestamp : (x0 : TimeUnit) (x1 : Option (String Global)) → Alike (enum.parts) compare seen (inr (inr (inr (inr (inr (inr (inr (inr (inr (inr (inr (inr (inr (inl (x0, (x1, tt))))))))))))))))
tells_timestamp x0 x1 y =
    rw (the_beta (inr (inr (inr (inr (inr (inr (inr (inr (inr (inr (inr (inr (inr (inl (x0, (x1, tt)))))))))))))))), the_beta (inr (inr (inr (inr (inr (inr (inr (inr (inr (inr (inr (inr (inr (inl y)))))))))))))))
    (Decides-like _ (λ e. view_timestamp x0 x1 ∙ rw (e.0, e.1) refl ∙ sym (view_timestamp y.0 y.1.0)) (λ e. let p = sym (view_timestamp x0 x1) ∙ e ∙ view_timestamp y.0 y.1.0 in (ap timestamp_part0 p, ap timestamp_part1 p))
    (Decides-and _ _ (tells_unit x0 y.0) (tells_option x1 y.1.0)))

tells_date32 : Alike (enum.parts) compare seen (inr (inr (inr (inr (inr (inr (inr (inr (inr (inr (inr (inr (inr (inr (inl tt)))))))))))))))
tells_date32 y = rw (the_beta (inr (inr (inr (inr (inr (inr (inr (inr (inr (inr (inr (inr (inr (inr (inl tt)))))))))))))))) (λ e. refl, λ e. refl)

tells_date64 : Alike (enum.parts) compare seen (inr (inr (inr (inr (inr (inr (inr (inr (inr (inr (inr (inr (inr (inr (inr (inl tt))))))))))))))))
tells_date64 y = rw (the_beta (inr (inr (inr (inr (inr (inr (inr (inr (inr (inr (inr (inr (inr (inr (inr (inl tt))))))))))))))))) (λ e. refl, λ e. refl)

view_time32 : (x0 : TimeUnit) → type_view (Time32' x0) ≡ t_time32 x0
view_time32 x0 = search (rules, the_lemmas)

abbrev time32_part0 : TypeTree → TimeUnit
time32_part0 (t_time32 x0) = x0
time32_part0 t = Second

tells_time32 : (x0 : TimeUnit) → Alike (enum.parts) compare seen (inr (inr (inr (inr (inr (inr (inr (inr (inr (inr (inr (inr (inr (inr (inr (inr (inl (x0, tt))))))))))))))))))
tells_time32 x0 y =
    rw (the_beta (inr (inr (inr (inr (inr (inr (inr (inr (inr (inr (inr (inr (inr (inr (inr (inr (inl (x0, tt)))))))))))))))))), the_beta (inr (inr (inr (inr (inr (inr (inr (inr (inr (inr (inr (inr (inr (inr (inr (inr (inl y))))))))))))))))))
    (Decides-like _ (λ e. view_time32 x0 ∙ ap (t_time32) e ∙ sym (view_time32 y.0)) (λ e. let p = sym (view_time32 x0) ∙ e ∙ view_time32 y.0 in ap time32_part0 p)
    (tells_unit x0 y.0))

view_time64 : (x0 : TimeUnit) → type_view (Time64' x0) ≡ t_time64 x0
view_time64 x0 = search (rules, the_lemmas)

abbrev time64_part0 : TypeTree → TimeUnit
time64_part0 (t_time64 x0) = x0
time64_part0 t = Second

tells_time64 : (x0 : TimeUnit) → Alike (enum.parts) compare seen (inr (inr (inr (inr (inr (inr (inr (inr (inr (inr (inr (inr (inr (inr (inr (inr (inr (inl (x0, tt)))))))))))))))))))
tells_time64 x0 y =
    rw (the_beta (inr (inr (inr (inr (inr (inr (inr (inr (inr (inr (inr (inr (inr (inr (inr (inr (inr (inl (x0, tt))))))))))))))))))), the_beta (inr (inr (inr (inr (inr (inr (inr (inr (inr (inr (inr (inr (inr (inr (inr (inr (inr (inl y)))))))))))))))))))
    (Decides-like _ (λ e. view_time64 x0 ∙ ap (t_time64) e ∙ sym (view_time64 y.0)) (λ e. let p = sym (view_time64 x0) ∙ e ∙ view_time64 y.0 in ap time64_part0 p)
    (tells_unit x0 y.0))

view_duration : (x0 : TimeUnit) → type_view (Duration' x0) ≡ t_duration x0
view_duration x0 = search (rules, the_lemmas)

abbrev duration_part0 : TypeTree → TimeUnit
duration_part0 (t_duration x0) = x0
duration_part0 t = Second

tells_duration : (x0 : TimeUnit) → Alike (enum.parts) compare seen (inr (inr (inr (inr (inr (inr (inr (inr (inr (inr (inr (inr (inr (inr (inr (inr (inr (inr (inl (x0, tt))))))))))))))))))))
tells_duration x0 y =
    rw (the_beta (inr (inr (inr (inr (inr (inr (inr (inr (inr (inr (inr (inr (inr (inr (inr (inr (inr (inr (inl (x0, tt)))))))))))))))))))), the_beta (inr (inr (inr (inr (inr (inr (inr (inr (inr (inr (inr (inr (inr (inr (inr (inr (inr (inr (inl y))))))))))))))))))))
    (Decides-like _ (λ e. view_duration x0 ∙ ap (t_duration) e ∙ sym (view_duration y.0)) (λ e. let p = sym (view_duration x0) ∙ e ∙ view_duration y.0 in ap duration_part0 p)
    (tells_unit x0 y.0))

view_interval : (x0 : IntervalUnit) → type_view (Interval' x0) ≡ t_interval x0
view_interval x0 = search (rules, the_lemmas)

abbrev interval_part0 : TypeTree → IntervalUnit
interval_part0 (t_interval x0) = x0
interval_part0 t = YearMonth

tells_interval : (x0 : IntervalUnit) → Alike (enum.parts) compare seen (inr (inr (inr (inr (inr (inr (inr (inr (inr (inr (inr (inr (inr (inr (inr (inr (inr (inr (inr (inl (x0, tt)))))))))))))))))))))
tells_interval x0 y =
    rw (the_beta (inr (inr (inr (inr (inr (inr (inr (inr (inr (inr (inr (inr (inr (inr (inr (inr (inr (inr (inr (inl (x0, tt))))))))))))))))))))), the_beta (inr (inr (inr (inr (inr (inr (inr (inr (inr (inr (inr (inr (inr (inr (inr (inr (inr (inr (inr (inl y)))))))))))))))))))))
    (Decides-like _ (λ e. view_interval x0 ∙ ap (t_interval) e ∙ sym (view_interval y.0)) (λ e. let p = sym (view_interval x0) ∙ e ∙ view_interval y.0 in ap interval_part0 p)
    (tells_interval_unit x0 y.0))

tells_binary : Alike (enum.parts) compare seen (inr (inr (inr (inr (inr (inr (inr (inr (inr (inr (inr (inr (inr (inr (inr (inr (inr (inr (inr (inr (inl tt)))))))))))))))))))))
tells_binary y = rw (the_beta (inr (inr (inr (inr (inr (inr (inr (inr (inr (inr (inr (inr (inr (inr (inr (inr (inr (inr (inr (inr (inl tt)))))))))))))))))))))) (λ e. refl, λ e. refl)

view_fixed_size_binary : (x0 : ℕ) → type_view (FixedSizeBinary' x0) ≡ t_fixed_size_binary x0
view_fixed_size_binary x0 = search (rules, the_lemmas)

abbrev fixed_size_binary_part0 : TypeTree → ℕ
fixed_size_binary_part0 (t_fixed_size_binary x0) = x0
fixed_size_binary_part0 t = 0

tells_fixed_size_binary : (x0 : ℕ) → Alike (enum.parts) compare seen (inr (inr (inr (inr (inr (inr (inr (inr (inr (inr (inr (inr (inr (inr (inr (inr (inr (inr (inr (inr (inr (inl (x0, tt)))))))))))))))))))))))
tells_fixed_size_binary x0 y =
    rw (the_beta (inr (inr (inr (inr (inr (inr (inr (inr (inr (inr (inr (inr (inr (inr (inr (inr (inr (inr (inr (inr (inr (inl (x0, tt))))))))))))))))))))))), the_beta (inr (inr (inr (inr (inr (inr (inr (inr (inr (inr (inr (inr (inr (inr (inr (inr (inr (inr (inr (inr (inr (inl y)))))))))))))))))))))))
    (Decides-like _ (λ e. view_fixed_size_binary x0 ∙ ap (t_fixed_size_binary) e ∙ sym (view_fixed_size_binary y.0)) (λ e. let p = sym (view_fixed_size_binary x0) ∙ e ∙ view_fixed_size_binary y.0 in ap fixed_size_binary_part0 p)
    (Decides-eqb x0 y.0))

tells_large_binary : Alike (enum.parts) compare seen (inr (inr (inr (inr (inr (inr (inr (inr (inr (inr (inr (inr (inr (inr (inr (inr (inr (inr (inr (inr (inr (inr (inl tt)))))))))))))))))))))))
tells_large_binary y = rw (the_beta (inr (inr (inr (inr (inr (inr (inr (inr (inr (inr (inr (inr (inr (inr (inr (inr (inr (inr (inr (inr (inr (inr (inl tt)))))))))))))))))))))))) (λ e. refl, λ e. refl)

tells_utf8 : Alike (enum.parts) compare seen (inr (inr (inr (inr (inr (inr (inr (inr (inr (inr (inr (inr (inr (inr (inr (inr (inr (inr (inr (inr (inr (inr (inr (inl tt))))))))))))))))))))))))
tells_utf8 y = rw (the_beta (inr (inr (inr (inr (inr (inr (inr (inr (inr (inr (inr (inr (inr (inr (inr (inr (inr (inr (inr (inr (inr (inr (inr (inl tt))))))))))))))))))))))))) (λ e. refl, λ e. refl)

tells_large_utf8 : Alike (enum.parts) compare seen (inr (inr (inr (inr (inr (inr (inr (inr (inr (inr (inr (inr (inr (inr (inr (inr (inr (inr (inr (inr (inr (inr (inr (inr (inl tt)))))))))))))))))))))))))
tells_large_utf8 y = rw (the_beta (inr (inr (inr (inr (inr (inr (inr (inr (inr (inr (inr (inr (inr (inr (inr (inr (inr (inr (inr (inr (inr (inr (inr (inr (inl tt)))))))))))))))))))))))))) (λ e. refl, λ e. refl)

view_list : (x0 : Box Field Global) → type_view (List' x0) ≡ t_list (field_view x0.value)
view_list x0 = search (rules, the_lemmas)

abbrev list_part0 : TypeTree → FieldTree
list_part0 (t_list x0) = x0
list_part0 t = field [] t false []

tells_list : (x0 : Box Field Global) → TellsField x0.value → Alike (enum.parts) compare seen (inr (inr (inr (inr (inr (inr (inr (inr (inr (inr (inr (inr (inr (inr (inr (inr (inr (inr (inr (inr (inr (inr (inr (inr (inr (inl (x0, tt)))))))))))))))))))))))))))
tells_list x0 h y =
    rw (the_beta (inr (inr (inr (inr (inr (inr (inr (inr (inr (inr (inr (inr (inr (inr (inr (inr (inr (inr (inr (inr (inr (inr (inr (inr (inr (inl (x0, tt))))))))))))))))))))))))))), the_beta (inr (inr (inr (inr (inr (inr (inr (inr (inr (inr (inr (inr (inr (inr (inr (inr (inr (inr (inr (inr (inr (inr (inr (inr (inr (inl y)))))))))))))))))))))))))))
    (Decides-like _ (λ e. view_list x0 ∙ ap (t_list) e ∙ sym (view_list y.0)) (λ e. let p = sym (view_list x0) ∙ e ∙ view_list y.0 in ap list_part0 p)
    (h y.0.value))

view_fixed_size_list : (x0 : Box Field Global) (x1 : ℕ) → type_view (FixedSizeList' x0 x1) ≡ t_fixed_size_list (field_view x0.value) x1
view_fixed_size_list x0 x1 = search (rules, the_lemmas)

abbrev fixed_size_list_part0 : TypeTree → FieldTree
fixed_size_list_part0 (t_fixed_size_list x0 x1) = x0
fixed_size_list_part0 t = field [] t false []

abbrev fixed_size_list_part1 : TypeTree → ℕ
fixed_size_list_part1 (t_fixed_size_list x0 x1) = x1
fixed_size_list_part1 t = 0

tells_fixed_size_list : (x0 : Box Field Global) (x1 : ℕ) → TellsField x0.value → Alike (enum.parts) compare seen (inr (inr (inr (inr (inr (inr (inr (inr (inr (inr (inr (inr (inr (inr (inr (inr (inr (inr (inr (inr (inr (inr (inr (inr (inr (inr (inl (x0, (x1, tt)))))))))))))))))))))))))))))
tells_fixed_size_list x0 x1 h y =
    rw (the_beta (inr (inr (inr (inr (inr (inr (inr (inr (inr (inr (inr (inr (inr (inr (inr (inr (inr (inr (inr (inr (inr (inr (inr (inr (inr (inr (inl (x0, (x1, tt))))))))))))))))))))))))))))), the_beta (inr (inr (inr (inr (inr (inr (inr (inr (inr (inr (inr (inr (inr (inr (inr (inr (inr (inr (inr (inr (inr (inr (inr (inr (inr (inr (inl y))))))))))))))))))))))))))))
    (Decides-like _ (λ e. view_fixed_size_list x0 x1 ∙ rw (e.0, e.1) refl ∙ sym (view_fixed_size_list y.0 y.1.0)) (λ e. let p = sym (view_fixed_size_list x0 x1) ∙ e ∙ view_fixed_size_list y.0 y.1.0 in (ap fixed_size_list_part0 p, ap fixed_size_list_part1 p))
    (Decides-and _ _ (h y.0.value) (Decides-eqb x1 y.1.0)))

view_large_list : (x0 : Box Field Global) → type_view (LargeList' x0) ≡ t_large_list (field_view x0.value)
view_large_list x0 = search (rules, the_lemmas)

abbrev large_list_part0 : TypeTree → FieldTree
large_list_part0 (t_large_list x0) = x0
large_list_part0 t = field [] t false []

tells_large_list : (x0 : Box Field Global) → TellsField x0.value → Alike (enum.parts) compare seen (inr (inr (inr (inr (inr (inr (inr (inr (inr (inr (inr (inr (inr (inr (inr (inr (inr (inr (inr (inr (inr (inr (inr (inr (inr (inr (inr (inl (x0, tt)))))))))))))))))))))))))))))
tells_large_list x0 h y =
    rw (the_beta (inr (inr (inr (inr (inr (inr (inr (inr (inr (inr (inr (inr (inr (inr (inr (inr (inr (inr (inr (inr (inr (inr (inr (inr (inr (inr (inr (inl (x0, tt))))))))))))))))))))))))))))), the_beta (inr (inr (inr (inr (inr (inr (inr (inr (inr (inr (inr (inr (inr (inr (inr (inr (inr (inr (inr (inr (inr (inr (inr (inr (inr (inr (inr (inl y)))))))))))))))))))))))))))))
    (Decides-like _ (λ e. view_large_list x0 ∙ ap (t_large_list) e ∙ sym (view_large_list y.0)) (λ e. let p = sym (view_large_list x0) ∙ e ∙ view_large_list y.0 in ap large_list_part0 p)
    (h y.0.value))

view_struct : (x0 : Vec Field Global) → type_view (Struct' x0) ≡ t_struct (fields_view x0.items)
view_struct x0 = search (rules, the_lemmas)

abbrev struct_part0 : TypeTree → FieldTrees
struct_part0 (t_struct x0) = x0
struct_part0 t = no_fields

tells_struct : (x0 : Vec Field Global) → All' TellsField x0.items → Alike (enum.parts) compare seen (inr (inr (inr (inr (inr (inr (inr (inr (inr (inr (inr (inr (inr (inr (inr (inr (inr (inr (inr (inr (inr (inr (inr (inr (inr (inr (inr (inr (inl (x0, tt))))))))))))))))))))))))))))))
tells_struct x0 h y =
    rw (the_beta (inr (inr (inr (inr (inr (inr (inr (inr (inr (inr (inr (inr (inr (inr (inr (inr (inr (inr (inr (inr (inr (inr (inr (inr (inr (inr (inr (inr (inl (x0, tt)))))))))))))))))))))))))))))), the_beta (inr (inr (inr (inr (inr (inr (inr (inr (inr (inr (inr (inr (inr (inr (inr (inr (inr (inr (inr (inr (inr (inr (inr (inr (inr (inr (inr (inr (inl y))))))))))))))))))))))))))))))
    (Decides-like _ (λ e. view_struct x0 ∙ ap (t_struct) e ∙ sym (view_struct y.0)) (λ e. let p = sym (view_struct x0) ∙ e ∙ view_struct y.0 in ap struct_part0 p)
    (tells_fields x0.items y.0.items h))

view_union : (x0 : Vec Field Global) (x1 : Option (Vec ℤ Global)) (x2 : Bool) → type_view (Union' x0 x1 x2) ≡ t_union (fields_view x0.items) (option_map (λ v. v.items) x1) x2
view_union x0 x1 x2 = search (rules, the_lemmas)

abbrev union_part0 : TypeTree → FieldTrees
union_part0 (t_union x0 x1 x2) = x0
union_part0 t = no_fields

abbrev union_part1 : TypeTree → Option (List ℤ)
union_part1 (t_union x0 x1 x2) = x1
union_part1 t = None

abbrev union_part2 : TypeTree → Bool
union_part2 (t_union x0 x1 x2) = x2
union_part2 t = false

tells_union : (x0 : Vec Field Global) (x1 : Option (Vec ℤ Global)) (x2 : Bool) → All' TellsField x0.items → Alike (enum.parts) compare seen (inr (inr (inr (inr (inr (inr (inr (inr (inr (inr (inr (inr (inr (inr (inr (inr (inr (inr (inr (inr (inr (inr (inr (inr (inr (inr (inr (inr (inr (inl (x0, (x1, (x2, tt)))))))))))))))))))))))))))))))))
tells_union x0 x1 x2 h y =
    rw (the_beta (inr (inr (inr (inr (inr (inr (inr (inr (inr (inr (inr (inr (inr (inr (inr (inr (inr (inr (inr (inr (inr (inr (inr (inr (inr (inr (inr (inr (inr (inl (x0, (x1, (x2, tt))))))))))))))))))))))))))))))))), the_beta (inr (inr (inr (inr (inr (inr (inr (inr (inr (inr (inr (inr (inr (inr (inr (inr (inr (inr (inr (inr (inr (inr (inr (inr (inr (inr (inr (inr (inr (inl y)))))))))))))))))))))))))))))))
    (Decides-like _ (λ e. view_union x0 x1 x2 ∙ rw (e.0, e.1.0, e.1.1) refl ∙ sym (view_union y.0 y.1.0 y.1.1.0)) (λ e. let p = sym (view_union x0 x1 x2) ∙ e ∙ view_union y.0 y.1.0 y.1.1.0 in (ap union_part0 p, (ap union_part1 p, ap union_part2 p)))
    (Decides-and _ _ (tells_fields x0.items y.0.items h) (Decides-and _ _ (tells_ids x1 y.1.0) (tells_bool x2 y.1.1.0))))

view_map : (x0 : Box Field Global) (x1 : Bool) → type_view (Map' x0 x1) ≡ t_map (field_view x0.value) x1
view_map x0 x1 = search (rules, the_lemmas)

abbrev map_part0 : TypeTree → FieldTree
map_part0 (t_map x0 x1) = x0
map_part0 t = field [] t false []

abbrev map_part1 : TypeTree → Bool
map_part1 (t_map x0 x1) = x1
map_part1 t = false

tells_map : (x0 : Box Field Global) (x1 : Bool) → TellsField x0.value → Alike (enum.parts) compare seen (inr (inr (inr (inr (inr (inr (inr (inr (inr (inr (inr (inr (inr (inr (inr (inr (inr (inr (inr (inr (inr (inr (inr (inr (inr (inr (inr (inr (inr (inr (inl (x0, (x1, tt)))))))))))))))))))))))))))))))))
tells_map x0 x1 h y =
    rw (the_beta (inr (inr (inr (inr (inr (inr (inr (inr (inr (inr (inr (inr (inr (inr (inr (inr (inr (inr (inr (inr (inr (inr (inr (inr (inr (inr (inr (inr (inr (inr (inl (x0, (x1, tt))))))))))))))))))))))))))))))))), the_beta (inr (inr (inr (inr (inr (inr (inr (inr (inr (inr (inr (inr (inr (inr (inr (inr (inr (inr (inr (inr (inr (inr (inr (inr (inr (inr (inr (inr (inr (inr (inl y))))))))))))))))))))))))))))))))
    (Decides-like _ (λ e. view_map x0 x1 ∙ rw (e.0, e.1) refl ∙ sym (view_map y.0 y.1.0)) (λ e. let p = sym (view_map x0 x1) ∙ e ∙ view_map y.0 y.1.0 in (ap map_part0 p, ap map_part1 p))
    (Decides-and _ _ (h y.0.value) (tells_bool x1 y.1.0)))

view_dictionary : (x0 : IntegerType) (x1 : Box DataType Global) (x2 : Bool) → type_view (Dictionary' x0 x1 x2) ≡ t_dictionary x0 (type_view x1.value) x2
view_dictionary x0 x1 x2 = search (rules, the_lemmas)

abbrev dictionary_part0 : TypeTree → IntegerType
dictionary_part0 (t_dictionary x0 x1 x2) = x0
dictionary_part0 t = Int8

abbrev dictionary_part1 : TypeTree → TypeTree
dictionary_part1 (t_dictionary x0 x1 x2) = x1
dictionary_part1 t = t

abbrev dictionary_part2 : TypeTree → Bool
dictionary_part2 (t_dictionary x0 x1 x2) = x2
dictionary_part2 t = false

tells_dictionary : (x0 : IntegerType) (x1 : Box DataType Global) (x2 : Bool) → TellsType x1.value → Alike (enum.parts) compare seen (inr (inr (inr (inr (inr (inr (inr (inr (inr (inr (inr (inr (inr (inr (inr (inr (inr (inr (inr (inr (inr (inr (inr (inr (inr (inr (inr (inr (inr (inr (inr (inl (x0, (x1, (x2, tt)))))))))))))))))))))))))))))))))))
tells_dictionary x0 x1 x2 h y =
    rw (the_beta (inr (inr (inr (inr (inr (inr (inr (inr (inr (inr (inr (inr (inr (inr (inr (inr (inr (inr (inr (inr (inr (inr (inr (inr (inr (inr (inr (inr (inr (inr (inr (inl (x0, (x1, (x2, tt))))))))))))))))))))))))))))))))))), the_beta (inr (inr (inr (inr (inr (inr (inr (inr (inr (inr (inr (inr (inr (inr (inr (inr (inr (inr (inr (inr (inr (inr (inr (inr (inr (inr (inr (inr (inr (inr (inr (inl y)))))))))))))))))))))))))))))))))
    (Decides-like _ (λ e. view_dictionary x0 x1 x2 ∙ rw (e.0, e.1.0, e.1.1) refl ∙ sym (view_dictionary y.0 y.1.0 y.1.1.0)) (λ e. let p = sym (view_dictionary x0 x1 x2) ∙ e ∙ view_dictionary y.0 y.1.0 y.1.1.0 in (ap dictionary_part0 p, (ap dictionary_part1 p, ap dictionary_part2 p)))
    (Decides-and _ _ (tells_key x0 y.0) (Decides-and _ _ (h y.1.0.value) (tells_bool x2 y.1.1.0))))

view_decimal : (x0 : ℕ) (x1 : ℕ) → type_view (Decimal' x0 x1) ≡ t_decimal x0 x1
view_decimal x0 x1 = search (rules, the_lemmas)

abbrev decimal_part0 : TypeTree → ℕ
decimal_part0 (t_decimal x0 x1) = x0
decimal_part0 t = 0

abbrev decimal_part1 : TypeTree → ℕ
decimal_part1 (t_decimal x0 x1) = x1
decimal_part1 t = 0

tells_decimal : (x0 : ℕ) (x1 : ℕ) → Alike (enum.parts) compare seen (inr (inr (inr (inr (inr (inr (inr (inr (inr (inr (inr (inr (inr (inr (inr (inr (inr (inr (inr (inr (inr (inr (inr (inr (inr (inr (inr (inr (inr (inr (inr (inr (inl (x0, (x1, tt)))))))))))))))))))))))))))))))))))
tells_decimal x0 x1 y =
    rw (the_beta (inr (inr (inr (inr (inr (inr (inr (inr (inr (inr (inr (inr (inr (inr (inr (inr (inr (inr (inr (inr (inr (inr (inr (inr (inr (inr (inr (inr (inr (inr (inr (inr (inl (x0, (x1, tt))))))))))))))))))))))))))))))))))), the_beta (inr (inr (inr (inr (inr (inr (inr (inr (inr (inr (inr (inr (inr (inr (inr (inr (inr (inr (inr (inr (inr (inr (inr (inr (inr (inr (inr (inr (inr (inr (inr (inr (inl y))))))))))))))))))))))))))))))))))
    (Decides-like _ (λ e. view_decimal x0 x1 ∙ rw (e.0, e.1) refl ∙ sym (view_decimal y.0 y.1.0)) (λ e. let p = sym (view_decimal x0 x1) ∙ e ∙ view_decimal y.0 y.1.0 in (ap decimal_part0 p, ap decimal_part1 p))
    (Decides-and _ _ (Decides-eqb x0 y.0) (Decides-eqb x1 y.1.0)))

view_decimal256 : (x0 : ℕ) (x1 : ℕ) → type_view (Decimal256' x0 x1) ≡ t_decimal256 x0 x1
view_decimal256 x0 x1 = search (rules, the_lemmas)

abbrev decimal256_part0 : TypeTree → ℕ
decimal256_part0 (t_decimal256 x0 x1) = x0
decimal256_part0 t = 0

abbrev decimal256_part1 : TypeTree → ℕ
decimal256_part1 (t_decimal256 x0 x1) = x1
decimal256_part1 t = 0

tells_decimal256 : (x0 : ℕ) (x1 : ℕ) → Alike (enum.parts) compare seen (inr (inr (inr (inr (inr (inr (inr (inr (inr (inr (inr (inr (inr (inr (inr (inr (inr (inr (inr (inr (inr (inr (inr (inr (inr (inr (inr (inr (inr (inr (inr (inr (inr (inl (x0, (x1, tt))))))))))))))))))))))))))))))))))))
tells_decimal256 x0 x1 y =
    rw (the_beta (inr (inr (inr (inr (inr (inr (inr (inr (inr (inr (inr (inr (inr (inr (inr (inr (inr (inr (inr (inr (inr (inr (inr (inr (inr (inr (inr (inr (inr (inr (inr (inr (inr (inl (x0, (x1, tt)))))))))))))))))))))))))))))))))))), the_beta (inr (inr (inr (inr (inr (inr (inr (inr (inr (inr (inr (inr (inr (inr (inr (inr (inr (inr (inr (inr (inr (inr (inr (inr (inr (inr (inr (inr (inr (inr (inr (inr (inr (inl y)))))))))))))))))))))))))))))))))))
    (Decides-like _ (λ e. view_decimal256 x0 x1 ∙ rw (e.0, e.1) refl ∙ sym (view_decimal256 y.0 y.1.0)) (λ e. let p = sym (view_decimal256 x0 x1) ∙ e ∙ view_decimal256 y.0 y.1.0 in (ap decimal256_part0 p, ap decimal256_part1 p))
    (Decides-and _ _ (Decides-eqb x0 y.0) (Decides-eqb x1 y.1.0)))

view_extension : (x0 : String Global) (x1 : Box DataType Global) (x2 : Option (String Global)) → type_view (Extension' x0 x1 x2) ≡ t_extension (string_bytes x0) (type_view x1.value) (option_map string_bytes x2)
view_extension x0 x1 x2 = search (rules, the_lemmas)

abbrev extension_part0 : TypeTree → List ℕ
extension_part0 (t_extension x0 x1 x2) = x0
extension_part0 t = []

abbrev extension_part1 : TypeTree → TypeTree
extension_part1 (t_extension x0 x1 x2) = x1
extension_part1 t = t

abbrev extension_part2 : TypeTree → Option (List ℕ)
extension_part2 (t_extension x0 x1 x2) = x2
extension_part2 t = None

tells_extension : (x0 : String Global) (x1 : Box DataType Global) (x2 : Option (String Global)) → TellsType x1.value → Alike (enum.parts) compare seen (inr (inr (inr (inr (inr (inr (inr (inr (inr (inr (inr (inr (inr (inr (inr (inr (inr (inr (inr (inr (inr (inr (inr (inr (inr (inr (inr (inr (inr (inr (inr (inr (inr (inr (inl (x0, (x1, (x2, tt))))))))))))))))))))))))))))))))))))))
tells_extension x0 x1 x2 h y =
    rw (the_beta (inr (inr (inr (inr (inr (inr (inr (inr (inr (inr (inr (inr (inr (inr (inr (inr (inr (inr (inr (inr (inr (inr (inr (inr (inr (inr (inr (inr (inr (inr (inr (inr (inr (inr (inl (x0, (x1, (x2, tt)))))))))))))))))))))))))))))))))))))), the_beta (inr (inr (inr (inr (inr (inr (inr (inr (inr (inr (inr (inr (inr (inr (inr (inr (inr (inr (inr (inr (inr (inr (inr (inr (inr (inr (inr (inr (inr (inr (inr (inr (inr (inr (inl y))))))))))))))))))))))))))))))))))))
    (Decides-like _ (λ e. view_extension x0 x1 x2 ∙ rw (e.0, e.1.0, e.1.1) refl ∙ sym (view_extension y.0 y.1.0 y.1.1.0)) (λ e. let p = sym (view_extension x0 x1 x2) ∙ e ∙ view_extension y.0 y.1.0 y.1.1.0 in (ap extension_part0 p, (ap extension_part1 p, ap extension_part2 p)))
    (Decides-and _ _ (tells_text x0 y.0) (Decides-and _ _ (h y.1.0.value) (tells_option x2 y.1.1.0))))

tells_by : (a b : DataType) → Alike (enum.parts) compare seen (as_values a) → Decides ((type_impl.ghosts).eq a b) (type_view a ≡ type_view b)
tells_by a b h =
    let d = by_decides (enum.parts) compare seen tree_tag 0 tags apart (as_values a) (as_values b) h in
    Decides-at _ _ (type_laws.is a b)
    (subst (λ z. Decides (type_laws.unfolded z b) (type_view z ≡ type_view b)) (the_eta a)
    (subst (λ w. Decides (type_laws.unfolded (the_make (as_values a)) w) (type_view (the_make (as_values a)) ≡ type_view w)) (the_eta b) d))

abbrev KnownType : Type 0
KnownType = (a : DataType) × TellsType a

abbrev KnownField : Type 0
KnownField = (f : Field) × TellsField f

all_known : (es : List KnownField) → All' TellsField (map (λ e. e.0) es)
all_known [] = tt
all_known (e ∷ es) = (e.1, all_known es)

tells_at : (c : Choice (enum.parts)) → Alike (enum.parts) compare seen c → TellsType (the_make c)
tells_at c h b = tells_by (the_make c) b (subst (Alike (enum.parts) compare seen) (sym (the_beta c)) h)

abbrev plain_field : Box KnownField Global → Box Field Global
plain_field x = record { ptr = x.ptr; alloc = x.alloc; value = x.value.0 }

abbrev plain_type : Box KnownType Global → Box DataType Global
plain_type x = record { ptr = x.ptr; alloc = x.alloc; value = x.value.0 }

abbrev plain_struct : Vec KnownField Global → Vec Field Global
plain_struct v = (former-DataType-Struct-0).map KnownField Field (λ e. e.0) v

abbrev plain_union : Vec KnownField Global → Vec Field Global
plain_union v = (former-DataType-Struct-0).map KnownField Field (λ e. e.0) v

abbrev plain : DataType-F KnownType KnownField → DataType-F DataType Field
plain = map-DataType KnownType KnownField DataType Field (λ e. e.0) (λ e. e.0)

type_case : (y : DataType-F KnownType KnownField) → TellsType (roll-DataType (plain y))
type_case DataType-F.Null = subst TellsType (sym rolls-Null) (tells_at (inl tt) tells_null)
type_case DataType-F.Boolean = subst TellsType (sym rolls-Boolean) (tells_at (inr (inl tt)) tells_boolean)
type_case DataType-F.Int8 = subst TellsType (sym rolls-Int8) (tells_at (inr (inr (inl tt))) tells_int8)
type_case DataType-F.Int16 = subst TellsType (sym rolls-Int16) (tells_at (inr (inr (inr (inl tt)))) tells_int16)
type_case DataType-F.Int32 = subst TellsType (sym rolls-Int32) (tells_at (inr (inr (inr (inr (inl tt))))) tells_int32)
type_case DataType-F.Int64 = subst TellsType (sym rolls-Int64) (tells_at (inr (inr (inr (inr (inr (inl tt)))))) tells_int64)
type_case DataType-F.UInt8 = subst TellsType (sym rolls-UInt8) (tells_at (inr (inr (inr (inr (inr (inr (inl tt))))))) tells_uint8)
type_case DataType-F.UInt16 = subst TellsType (sym rolls-UInt16) (tells_at (inr (inr (inr (inr (inr (inr (inr (inl tt)))))))) tells_uint16)
type_case DataType-F.UInt32 = subst TellsType (sym rolls-UInt32) (tells_at (inr (inr (inr (inr (inr (inr (inr (inr (inl tt))))))))) tells_uint32)
type_case DataType-F.UInt64 = subst TellsType (sym rolls-UInt64) (tells_at (inr (inr (inr (inr (inr (inr (inr (inr (inr (inl tt)))))))))) tells_uint64)
type_case DataType-F.Float16 = subst TellsType (sym rolls-Float16) (tells_at (inr (inr (inr (inr (inr (inr (inr (inr (inr (inr (inl tt))))))))))) tells_float16)
type_case DataType-F.Float32 = subst TellsType (sym rolls-Float32) (tells_at (inr (inr (inr (inr (inr (inr (inr (inr (inr (inr (inr (inl tt)))))))))))) tells_float32)
type_case DataType-F.Float64 = subst TellsType (sym rolls-Float64) (tells_at (inr (inr (inr (inr (inr (inr (inr (inr (inr (inr (inr (inr (inl tt))))))))))))) tells_float64)
type_case (DataType-F.Timestamp x0 x1) = subst TellsType (sym (rolls-Timestamp x0 x1)) (tells_at (inr (inr (inr (inr (inr (inr (inr (inr (inr (inr (inr (inr (inr (inl (x0, (x1, tt)))))))))))))))) (tells_timestamp x0 x1))
type_case DataType-F.Date32 = subst TellsType (sym rolls-Date32) (tells_at (inr (inr (inr (inr (inr (inr (inr (inr (inr (inr (inr (inr (inr (inr (inl tt))))))))))))))) tells_date32)
type_case DataType-F.Date64 = subst TellsType (sym rolls-Date64) (tells_at (inr (inr (inr (inr (inr (inr (inr (inr (inr (inr (inr (inr (inr (inr (inr (inl tt)))))))))))))))) tells_date64)
type_case (DataType-F.Time32 x0) = subst TellsType (sym (rolls-Time32 x0)) (tells_at (inr (inr (inr (inr (inr (inr (inr (inr (inr (inr (inr (inr (inr (inr (inr (inr (inl (x0, tt)))))))))))))))))) (tells_time32 x0))
type_case (DataType-F.Time64 x0) = subst TellsType (sym (rolls-Time64 x0)) (tells_at (inr (inr (inr (inr (inr (inr (inr (inr (inr (inr (inr (inr (inr (inr (inr (inr (inr (inl (x0, tt))))))))))))))))))) (tells_time64 x0))
type_case (DataType-F.Duration x0) = subst TellsType (sym (rolls-Duration x0)) (tells_at (inr (inr (inr (inr (inr (inr (inr (inr (inr (inr (inr (inr (inr (inr (inr (inr (inr (inr (inl (x0, tt)))))))))))))))))))) (tells_duration x0))
type_case (DataType-F.Interval x0) = subst TellsType (sym (rolls-Interval x0)) (tells_at (inr (inr (inr (inr (inr (inr (inr (inr (inr (inr (inr (inr (inr (inr (inr (inr (inr (inr (inr (inl (x0, tt))))))))))))))))))))) (tells_interval x0))
type_case DataType-F.Binary = subst TellsType (sym rolls-Binary) (tells_at (inr (inr (inr (inr (inr (inr (inr (inr (inr (inr (inr (inr (inr (inr (inr (inr (inr (inr (inr (inr (inl tt))))))))))))))))))))) tells_binary)
type_case (DataType-F.FixedSizeBinary x0) = subst TellsType (sym (rolls-FixedSizeBinary x0)) (tells_at (inr (inr (inr (inr (inr (inr (inr (inr (inr (inr (inr (inr (inr (inr (inr (inr (inr (inr (inr (inr (inr (inl (x0, tt))))))))))))))))))))))) (tells_fixed_size_binary x0))
type_case DataType-F.LargeBinary = subst TellsType (sym rolls-LargeBinary) (tells_at (inr (inr (inr (inr (inr (inr (inr (inr (inr (inr (inr (inr (inr (inr (inr (inr (inr (inr (inr (inr (inr (inr (inl tt))))))))))))))))))))))) tells_large_binary)
type_case DataType-F.Utf8 = subst TellsType (sym rolls-Utf8) (tells_at (inr (inr (inr (inr (inr (inr (inr (inr (inr (inr (inr (inr (inr (inr (inr (inr (inr (inr (inr (inr (inr (inr (inr (inl tt)))))))))))))))))))))))) tells_utf8)
type_case DataType-F.LargeUtf8 = subst TellsType (sym rolls-LargeUtf8) (tells_at (inr (inr (inr (inr (inr (inr (inr (inr (inr (inr (inr (inr (inr (inr (inr (inr (inr (inr (inr (inr (inr (inr (inr (inr (inl tt))))))))))))))))))))))))) tells_large_utf8)
type_case (DataType-F.List x0) = subst TellsType (sym (rolls-List _)) (tells_at (inr (inr (inr (inr (inr (inr (inr (inr (inr (inr (inr (inr (inr (inr (inr (inr (inr (inr (inr (inr (inr (inr (inr (inr (inr (inl ((plain_field x0), tt))))))))))))))))))))))))))) (tells_list (plain_field x0) x0.value.1))
type_case (DataType-F.FixedSizeList x0 x1) = subst TellsType (sym (rolls-FixedSizeList _ x1)) (tells_at (inr (inr (inr (inr (inr (inr (inr (inr (inr (inr (inr (inr (inr (inr (inr (inr (inr (inr (inr (inr (inr (inr (inr (inr (inr (inr (inl ((plain_field x0), (x1, tt))))))))))))))))))))))))))))) (tells_fixed_size_list (plain_field x0) x1 x0.value.1))
type_case (DataType-F.LargeList x0) = subst TellsType (sym (rolls-LargeList _)) (tells_at (inr (inr (inr (inr (inr (inr (inr (inr (inr (inr (inr (inr (inr (inr (inr (inr (inr (inr (inr (inr (inr (inr (inr (inr (inr (inr (inr (inl ((plain_field x0), tt))))))))))))))))))))))))))))) (tells_large_list (plain_field x0) x0.value.1))
type_case (DataType-F.Struct x0) = subst TellsType (sym (rolls-Struct _)) (tells_at (inr (inr (inr (inr (inr (inr (inr (inr (inr (inr (inr (inr (inr (inr (inr (inr (inr (inr (inr (inr (inr (inr (inr (inr (inr (inr (inr (inr (inl ((plain_struct x0), tt)))))))))))))))))))))))))))))) (tells_struct (plain_struct x0) (all_known x0.items)))
type_case (DataType-F.Union x0 x1 x2) = subst TellsType (sym (rolls-Union _ x1 x2)) (tells_at (inr (inr (inr (inr (inr (inr (inr (inr (inr (inr (inr (inr (inr (inr (inr (inr (inr (inr (inr (inr (inr (inr (inr (inr (inr (inr (inr (inr (inr (inl ((plain_union x0), (x1, (x2, tt))))))))))))))))))))))))))))))))) (tells_union (plain_union x0) x1 x2 (all_known x0.items)))
type_case (DataType-F.Map x0 x1) = subst TellsType (sym (rolls-Map _ x1)) (tells_at (inr (inr (inr (inr (inr (inr (inr (inr (inr (inr (inr (inr (inr (inr (inr (inr (inr (inr (inr (inr (inr (inr (inr (inr (inr (inr (inr (inr (inr (inr (inl ((plain_field x0), (x1, tt))))))))))))))))))))))))))))))))) (tells_map (plain_field x0) x1 x0.value.1))
type_case (DataType-F.Dictionary x0 x1 x2) = subst TellsType (sym (rolls-Dictionary x0 _ x2)) (tells_at (inr (inr (inr (inr (inr (inr (inr (inr (inr (inr (inr (inr (inr (inr (inr (inr (inr (inr (inr (inr (inr (inr (inr (inr (inr (inr (inr (inr (inr (inr (inr (inl (x0, ((plain_type x1), (x2, tt))))))))))))))))))))))))))))))))))) (tells_dictionary x0 (plain_type x1) x2 x1.value.1))
type_case (DataType-F.Decimal x0 x1) = subst TellsType (sym (rolls-Decimal x0 x1)) (tells_at (inr (inr (inr (inr (inr (inr (inr (inr (inr (inr (inr (inr (inr (inr (inr (inr (inr (inr (inr (inr (inr (inr (inr (inr (inr (inr (inr (inr (inr (inr (inr (inr (inl (x0, (x1, tt))))))))))))))))))))))))))))))))))) (tells_decimal x0 x1))
type_case (DataType-F.Decimal256 x0 x1) = subst TellsType (sym (rolls-Decimal256 x0 x1)) (tells_at (inr (inr (inr (inr (inr (inr (inr (inr (inr (inr (inr (inr (inr (inr (inr (inr (inr (inr (inr (inr (inr (inr (inr (inr (inr (inr (inr (inr (inr (inr (inr (inr (inr (inl (x0, (x1, tt)))))))))))))))))))))))))))))))))))) (tells_decimal256 x0 x1))
type_case (DataType-F.Extension x0 x1 x2) = subst TellsType (sym (rolls-Extension x0 _ x2)) (tells_at (inr (inr (inr (inr (inr (inr (inr (inr (inr (inr (inr (inr (inr (inr (inr (inr (inr (inr (inr (inr (inr (inr (inr (inr (inr (inr (inr (inr (inr (inr (inr (inr (inr (inr (inl (x0, ((plain_type x1), (x2, tt)))))))))))))))))))))))))))))))))))))) (tells_extension x0 (plain_type x1) x2 x1.value.1))

entry_tells : (p q : List ℕ × List ℕ) → Decides (entry_eq p q) (p ≡ q)
entry_tells p q =
    Decides-like _ (λ e. let h : (p.0, p.1) ≡ (q.0, q.1) = rw (e.0, e.1) refl in h) (λ e. (ap (λ r. r.0) e, ap (λ r. r.1) e)) (Decides-and _ _ (bytes_eq-Decides p.0 q.0) (bytes_eq-Decides p.1 q.1))

pub tells_meta : (m n : Meta) → Decides (meta_eq m n) (m ≡ n)
tells_meta m n = slice_eq-Decides entry_tells m n _ refl

view_roll : (z : Field-F DataType Field) → field_view (roll-Field z) ≡ field (string_bytes z.name) (type_view z.data_type) z.is_nullable z.metadata
view_roll z = fold-roll-Field TypeTree FieldTree type_step field_step z

view_out : (b : Field) → field_view b ≡ field (string_bytes (out-Field b).name) (type_view (out-Field b).data_type) (out-Field b).is_nullable (out-Field b).metadata
view_out b = fold_out-Field TypeTree FieldTree type_step field_step b

abbrev label_of : FieldTree → List ℕ
label_of (field n t b m) = n

abbrev type_of : FieldTree → TypeTree
type_of (field n t b m) = t

abbrev nullable_of : FieldTree → Bool
nullable_of (field n t b m) = b

abbrev meta_of : FieldTree → Meta
meta_of (field n t b m) = m

field_case : (y : Field-F KnownType KnownField) → TellsField (roll-Field (map-Field KnownType KnownField DataType Field (λ e. e.0) (λ e. e.0) y))
field_case y b =
    let z = map-Field KnownType KnownField DataType Field (λ e. e.0) (λ e. e.0) y in
    let o = out-Field b in
    Decides-at _ _ (field_laws.is (roll-Field z) b)
    (subst (λ w. Decides (string_eq w.name o.name && (type_laws.family member-DataType w.data_type o.data_type && ((bool_impl.ghosts).eq w.is_nullable o.is_nullable && meta_eq w.metadata o.metadata))) (field_view (roll-Field z) ≡ field_view b)) (sym (out-roll-Field z))
    (Decides-like _ (λ e. view_roll z ∙ rw (e.0, e.1.0, e.1.1.0, e.1.1.1) refl ∙ sym (view_out b))
    (λ e. let p = sym (view_roll z) ∙ e ∙ view_out b in (ap label_of p, (ap type_of p, (ap nullable_of p, ap meta_of p))))
    (Decides-and _ _ (tells_text y.name o.name) (Decides-and _ _ (y.data_type.1 o.data_type) (Decides-and _ _ (tells_bool y.is_nullable o.is_nullable) (tells_meta y.metadata o.metadata))))))

pub tells : (a : DataType) → TellsType a
tells = ind-DataType TellsType TellsField (λ x y is. subst (λ z. TellsType (roll-DataType z)) is (type_case y)) (λ x y is. subst (λ z. TellsField (roll-Field z)) is (field_case y))

pub tells_field : (a : Field) → TellsField a
tells_field = ind-Field TellsType TellsField (λ x y is. subst (λ z. TellsType (roll-DataType z)) is (type_case y)) (λ x y is. subst (λ z. TellsField (roll-Field z)) is (field_case y))

each_tells : (fs : List Field) → All' TellsField fs
each_tells [] = tt
each_tells (f ∷ fs) = (tells_field f, each_tells fs)

pub tells_all : (fs gs : List Field) → Decides (pointwise (field_impl.ghosts).eq fs gs) (fields_view fs ≡ fields_view gs)
tells_all fs gs = tells_fields fs gs (each_tells fs)
