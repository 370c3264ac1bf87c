-- The derived `==` on the annotations of nodes tells whether they stand for the same.
use Rattle.std.proofs.Common.{◌≡◌, ℕ, ◌+◌, Bool, true, false, true≢false, Option, Some, None, unwrap_or, option_map, ap, sym, refl, ◌∙◌, arith}
use Rattle.std.specs.Bool.{Decides}
use Rattle.std.specs.Option.{option_eq}
use Rattle.std.proofs.lemmas.Bool.Decides.{Decides-like, Decides-and, Decides-eqb}
use Rattle.std.specs.contracts.prelude.BoolPartialEq.TheImpl as bool_impl
use Rattle.columns_base.specs.declared.physical.PhysicalType.{PhysicalType}
use Rattle.columns_base.specs.declared.physical.PhysicalType.TheVariants as P
use Rattle.columns_base.specs.contracts.physical.PhysicalTypePartialEq.TheImpl as physical_impl
use Rattle.pq_tree.specs.declared.types.Repetition.{Repetition}
use Rattle.pq_tree.specs.declared.types.Repetition.TheVariants as R
use Rattle.pq_tree.specs.declared.types.TimeUnit.{TimeUnit}
use Rattle.pq_tree.specs.declared.types.TimeUnit.TheVariants as U
use Rattle.pq_tree.specs.declared.types.IntegerType.{IntegerType}
use Rattle.pq_tree.specs.declared.types.IntegerType.TheVariants as I
use Rattle.pq_tree.specs.declared.types.ConvertedType.{ConvertedType}
use Rattle.pq_tree.specs.declared.types.ConvertedType.TheVariants as C
use Rattle.pq_tree.specs.declared.types.LogicalType.{LogicalType}
use Rattle.pq_tree.specs.declared.types.LogicalType.TheVariants as L
use Rattle.pq_tree.specs.contracts.types.RepetitionPartialEq.TheImpl as repetition_impl
use Rattle.pq_tree.specs.contracts.types.TimeUnitPartialEq.TheImpl as unit_impl
use Rattle.pq_tree.specs.contracts.types.IntegerTypePartialEq.TheImpl as integer_impl
use Rattle.pq_tree.specs.contracts.types.ConvertedTypePartialEq.TheImpl as converted_impl
use Rattle.pq_tree.specs.contracts.types.LogicalTypePartialEq.TheImpl as logical_impl
use Rattle.pq_tree.specs.Types as S
use Rattle.pq_tree.specs.Physical as F
use Rattle.pq_tree.specs.Views.{repetition_view, physical_view, unit_view, integer_view, converted_view, logical_view}

pub tells_some : {A B : Type 0} (eq : A → A → Bool) (see : A → B) → ((a b : A) → Decides (eq a b) (see a ≡ see b)) → (x y : Option A) → Decides (option_eq eq x y) (option_map see x ≡ option_map see y)
tells_some eq see tells None None = (λ e. refl, λ e. refl)
tells_some eq see tells None (Some b) = (λ e. absurd (true≢false (sym e)), λ e. cc)
tells_some eq see tells (Some a) None = (λ e. absurd (true≢false (sym e)), λ e. cc)
tells_some eq see tells (Some a) (Some b) = Decides-like _ (λ e. ap Some e) (λ e. ap (λ o. unwrap_or o (see a)) e) (tells a b)

tells_bool : (a b : Bool) → Decides ((bool_impl.ghosts).eq a b) (a ≡ b)
tells_bool true true = (λ e. refl, λ e. refl)
tells_bool false false = (λ e. refl, λ e. refl)
tells_bool true false = (λ e. absurd (true≢false (sym e)), λ e. absurd (true≢false e))
tells_bool false true = (λ e. absurd (true≢false (sym e)), λ e. absurd (true≢false (sym e)))

pub tells_repetition : (a b : Repetition) → Decides ((repetition_impl.ghosts).eq a b) (repetition_view a ≡ repetition_view b)
tells_repetition R.Required R.Required = (λ e. refl, λ e. refl)
tells_repetition R.Optional R.Optional = (λ e. refl, λ e. refl)
tells_repetition R.Repeated R.Repeated = (λ e. refl, λ e. refl)
tells_repetition a b = (λ e. absurd (true≢false (sym e)), λ e. cc)

tells_unit : (a b : TimeUnit) → Decides ((unit_impl.ghosts).eq a b) (unit_view a ≡ unit_view b)
tells_unit U.Milliseconds U.Milliseconds = (λ e. refl, λ e. refl)
tells_unit U.Microseconds U.Microseconds = (λ e. refl, λ e. refl)
tells_unit U.Nanoseconds U.Nanoseconds = (λ e. refl, λ e. refl)
tells_unit a b = (λ e. absurd (true≢false (sym e)), λ e. cc)

abbrev physical_number : F.Physical → ℕ
physical_number F.Physical.boolean = 0
physical_number F.Physical.int32 = 1
physical_number F.Physical.int64 = 2
physical_number F.Physical.int96 = 3
physical_number F.Physical.float = 4
physical_number F.Physical.double = 5
physical_number F.Physical.byte_array = 6
physical_number (F.Physical.fixed n) = 7

abbrev size_of : F.Physical → ℕ
size_of (F.Physical.fixed n) = n
size_of p = 0

pub tells_physical : (a b : PhysicalType) → Decides ((physical_impl.ghosts).eq a b) (physical_view a ≡ physical_view b)
tells_physical P.Boolean P.Boolean = (λ e. refl, λ e. refl)
tells_physical P.Int32 P.Int32 = (λ e. refl, λ e. refl)
tells_physical P.Int64 P.Int64 = (λ e. refl, λ e. refl)
tells_physical P.Int96 P.Int96 = (λ e. refl, λ e. refl)
tells_physical P.Float P.Float = (λ e. refl, λ e. refl)
tells_physical P.Double P.Double = (λ e. refl, λ e. refl)
tells_physical P.ByteArray P.ByteArray = (λ e. refl, λ e. refl)
tells_physical (P.FixedLenByteArray m) (P.FixedLenByteArray n) = Decides-like _ (λ e. ap F.Physical.fixed e) (λ e. ap size_of e) (Decides-eqb m n)
tells_physical a b = (λ e. absurd (true≢false (sym e)), λ e. absurd (omega (arith, ap physical_number e)))

abbrev converted_number : S.Converted → ℕ
converted_number S.Converted.utf8 = 0
converted_number S.Converted.map = 1
converted_number S.Converted.map_key_value = 2
converted_number S.Converted.list = 3
converted_number S.Converted.enum = 4
converted_number S.Converted.date = 5
converted_number S.Converted.time_millis = 6
converted_number S.Converted.time_micros = 7
converted_number S.Converted.timestamp_millis = 8
converted_number S.Converted.timestamp_micros = 9
converted_number S.Converted.json = 10
converted_number S.Converted.bson = 11
converted_number S.Converted.interval = 12
converted_number (S.Converted.decimal p s) = 20
converted_number (S.Converted.unsigned n) = 100 + n
converted_number (S.Converted.signed n) = 200 + n

abbrev converted_precision : S.Converted → ℕ
converted_precision (S.Converted.decimal p s) = p
converted_precision c = 0

abbrev converted_scale : S.Converted → ℕ
converted_scale (S.Converted.decimal p s) = s
converted_scale c = 0

pub tells_converted : (a b : ConvertedType) → Decides ((converted_impl.ghosts).eq a b) (converted_view a ≡ converted_view b)
tells_converted C.Utf8 C.Utf8 = (λ e. refl, λ e. refl)
tells_converted C.Map C.Map = (λ e. refl, λ e. refl)
tells_converted C.MapKeyValue C.MapKeyValue = (λ e. refl, λ e. refl)
tells_converted C.List C.List = (λ e. refl, λ e. refl)
tells_converted C.Enum C.Enum = (λ e. refl, λ e. refl)
tells_converted (C.Decimal p s) (C.Decimal q t) = Decides-like _ (λ e. λ i. S.Converted.decimal (e.0 i) (e.1 i)) (λ e. (ap converted_precision e, ap converted_scale e)) (Decides-and _ _ (Decides-eqb p q) (Decides-eqb s t))
tells_converted C.Date C.Date = (λ e. refl, λ e. refl)
tells_converted C.TimeMillis C.TimeMillis = (λ e. refl, λ e. refl)
tells_converted C.TimeMicros C.TimeMicros = (λ e. refl, λ e. refl)
tells_converted C.TimestampMillis C.TimestampMillis = (λ e. refl, λ e. refl)
tells_converted C.TimestampMicros C.TimestampMicros = (λ e. refl, λ e. refl)
tells_converted C.Uint8 C.Uint8 = (λ e. refl, λ e. refl)
tells_converted C.Uint16 C.Uint16 = (λ e. refl, λ e. refl)
tells_converted C.Uint32 C.Uint32 = (λ e. refl, λ e. refl)
tells_converted C.Uint64 C.Uint64 = (λ e. refl, λ e. refl)
tells_converted C.Int8 C.Int8 = (λ e. refl, λ e. refl)
tells_converted C.Int16 C.Int16 = (λ e. refl, λ e. refl)
tells_converted C.Int32 C.Int32 = (λ e. refl, λ e. refl)
tells_converted C.Int64 C.Int64 = (λ e. refl, λ e. refl)
tells_converted C.Json C.Json = (λ e. refl, λ e. refl)
tells_converted C.Bson C.Bson = (λ e. refl, λ e. refl)
tells_converted C.Interval C.Interval = (λ e. refl, λ e. refl)
tells_converted a b = (λ e. absurd (true≢false (sym e)), λ e. absurd (omega (arith, ap converted_number e)))

abbrev logical_number : S.Logical → ℕ
logical_number S.Logical.string = 0
logical_number S.Logical.map = 1
logical_number S.Logical.list = 2
logical_number S.Logical.enum = 3
logical_number S.Logical.date = 4
logical_number S.Logical.unknown = 5
logical_number S.Logical.json = 6
logical_number S.Logical.bson = 7
logical_number S.Logical.uuid = 8
logical_number (S.Logical.decimal p s) = 20
logical_number (S.Logical.time b u) = 21
logical_number (S.Logical.timestamp b u) = 22
logical_number (S.Logical.integer n true) = 100 + n
logical_number (S.Logical.integer n false) = 200 + n

tells_integer : (a b : IntegerType) → Decides ((integer_impl.ghosts).eq a b) (integer_view a ≡ integer_view b)
tells_integer I.Int8 I.Int8 = (λ e. refl, λ e. refl)
tells_integer I.Int16 I.Int16 = (λ e. refl, λ e. refl)
tells_integer I.Int32 I.Int32 = (λ e. refl, λ e. refl)
tells_integer I.Int64 I.Int64 = (λ e. refl, λ e. refl)
tells_integer I.UInt8 I.UInt8 = (λ e. refl, λ e. refl)
tells_integer I.UInt16 I.UInt16 = (λ e. refl, λ e. refl)
tells_integer I.UInt32 I.UInt32 = (λ e. refl, λ e. refl)
tells_integer I.UInt64 I.UInt64 = (λ e. refl, λ e. refl)
tells_integer a b = (λ e. absurd (true≢false (sym e)), λ e. absurd (omega (arith, ap logical_number e)))

abbrev logical_precision : S.Logical → ℕ
logical_precision (S.Logical.decimal p s) = p
logical_precision l = 0

abbrev logical_scale : S.Logical → ℕ
logical_scale (S.Logical.decimal p s) = s
logical_scale l = 0

abbrev adjusted_in : S.Logical → Bool
adjusted_in (S.Logical.time b u) = b
adjusted_in (S.Logical.timestamp b u) = b
adjusted_in l = false

abbrev unit_in : S.Logical → S.TimeUnit
unit_in (S.Logical.time b u) = u
unit_in (S.Logical.timestamp b u) = u
unit_in l = S.TimeUnit.millis

abbrev family : LogicalType → ℕ
family L.String = 0
family L.Map = 1
family L.List = 2
family L.Enum = 3
family (L.Decimal p s) = 4
family L.Date = 5
family (L.Time u b) = 6
family (L.Timestamp u b) = 7
family (L.Integer i) = 8
family L.Unknown = 9
family L.Json = 10
family L.Bson = 11
family L.Uuid = 12

abbrev family_of : S.Logical → ℕ
family_of S.Logical.string = 0
family_of S.Logical.map = 1
family_of S.Logical.list = 2
family_of S.Logical.enum = 3
family_of (S.Logical.decimal p s) = 4
family_of S.Logical.date = 5
family_of (S.Logical.time b u) = 6
family_of (S.Logical.timestamp b u) = 7
family_of (S.Logical.integer n b) = 8
family_of S.Logical.unknown = 9
family_of S.Logical.json = 10
family_of S.Logical.bson = 11
family_of S.Logical.uuid = 12

family_is : (l : LogicalType) → family_of (logical_view l) ≡ family l
family_is L.String = refl
family_is L.Map = refl
family_is L.List = refl
family_is L.Enum = refl
family_is (L.Decimal p s) = refl
family_is L.Date = refl
family_is (L.Time u b) = refl
family_is (L.Timestamp u b) = refl
family_is (L.Integer I.Int8) = refl
family_is (L.Integer I.Int16) = refl
family_is (L.Integer I.Int32) = refl
family_is (L.Integer I.Int64) = refl
family_is (L.Integer I.UInt8) = refl
family_is (L.Integer I.UInt16) = refl
family_is (L.Integer I.UInt32) = refl
family_is (L.Integer I.UInt64) = refl
family_is L.Unknown = refl
family_is L.Json = refl
family_is L.Bson = refl
family_is L.Uuid = refl

same_family : (a b : LogicalType) → logical_view a ≡ logical_view b → family a ≡ family b
same_family a b e = sym (family_is a) ∙ ap family_of e ∙ family_is b

pub tells_logical : (a b : LogicalType) → Decides ((logical_impl.ghosts).eq a b) (logical_view a ≡ logical_view b)
tells_logical L.String L.String = (λ e. refl, λ e. refl)
tells_logical L.Map L.Map = (λ e. refl, λ e. refl)
tells_logical L.List L.List = (λ e. refl, λ e. refl)
tells_logical L.Enum L.Enum = (λ e. refl, λ e. refl)
tells_logical (L.Decimal p s) (L.Decimal q t) = Decides-like _ (λ e. λ i. S.Logical.decimal (e.0 i) (e.1 i)) (λ e. (ap logical_precision e, ap logical_scale e)) (Decides-and _ _ (Decides-eqb p q) (Decides-eqb s t))
tells_logical L.Date L.Date = (λ e. refl, λ e. refl)
tells_logical (L.Time u a) (L.Time v b) = Decides-like _ (λ e. λ i. S.Logical.time (e.1 i) (e.0 i)) (λ e. (ap unit_in e, ap adjusted_in e)) (Decides-and _ _ (tells_unit u v) (tells_bool a b))
tells_logical (L.Timestamp u a) (L.Timestamp v b) = Decides-like _ (λ e. λ i. S.Logical.timestamp (e.1 i) (e.0 i)) (λ e. (ap unit_in e, ap adjusted_in e)) (Decides-and _ _ (tells_unit u v) (tells_bool a b))
tells_logical (L.Integer a) (L.Integer b) = tells_integer a b
tells_logical L.Unknown L.Unknown = (λ e. refl, λ e. refl)
tells_logical L.Json L.Json = (λ e. refl, λ e. refl)
tells_logical L.Bson L.Bson = (λ e. refl, λ e. refl)
tells_logical L.Uuid L.Uuid = (λ e. refl, λ e. refl)
tells_logical a b = (λ e. absurd (true≢false (sym e)), λ e. absurd (omega (arith, same_family a b e)))
