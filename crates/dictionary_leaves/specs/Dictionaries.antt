-- The column of a dictionary type between two calls (Arrow columnar format, "Dictionary-encoded Layout"; Parquet format, "Dictionary Page").
use Rattle.std.specs.Prelude.{◌≡◌, ◌⊎◌, ℕ, ◌<◌, ◌≤◌, Bool, true, false, ◌&&◌, ◌||◌, List, ◌∷◌, map, All, Option, Some}
use Rattle.columns_base.specs.declared.error.Error.{Error}
use Rattle.columns_base.specs.declared.error.Error.TheVariants.{Memory, Overflow}
use Rattle.columns_base.specs.declared.error.V.TheVariants.{V2}
use Rattle.columns_core.specs.Shapes.{base}
use Rattle.columns_core.specs.Tree.{TypeTree, t_null, t_boolean, t_uint64, t_timestamp, t_interval, t_dictionary, t_decimal}
use Rattle.columns_core.specs.declared.types.IntegerType.{IntegerType}
use Rattle.columns_slots.specs.Slots.{slots, type_of}
use Rattle.columns_slots.specs.Tree.{ArrayTree}
use Rattle.pq_headline.specs.FieldReasons.{key_room}
use Rattle.pq_files.specs.Plain.{InARow}
use Rattle.pq_headline.specs.Openings.{leaf_levels}
use Rattle.pq_headline.specs.Rows.{HasEntriesOf}
use Rattle.pq_pages.specs.Held.{AreEntriesIn}
use Rattle.pq_pages.specs.Outcomes.{Outcome, gives_dictionary, IsGiven, IsOfLevels}
use Rattle.pq_tree.specs.Physical.{Physical}
use Rattle.read_column.specs.Queues.{is_leaf_alone}
use Rattle.read_column.specs.Reading.{Reading, IsReading}
use Rattle.read_pieces.specs.Columns.{ColumnOpening, FailsAs, IsColumnOpening}
use Rattle.read_pieces.specs.Pieces.{IsPieceOf}
use Rattle.read_pieces.specs.declared.piece.ColumnPiece.{ColumnPiece}
use Rattle.read_state.specs.Initial.{IsWay}
use Rattle.read_state.specs.declared.init.InitNested.{InitNested}
use Rattle.read_types.specs.LeafTypes.{is_read}
use Rattle.read_types.specs.Reads.{limit_of, physical_of, stored_of, types_of}
use Rattle.dictionary_columns.specs.Keys.{key_physical, stored_keys}
use Rattle.dictionary_leaves.specs.Entries.{CannotEnter, HasEntries}
use Rattle.dictionary_leaves.specs.EntryTypes.{EntryReading}
use Rattle.read_column.specs.Foreseen.{foreseeing}
use Rattle.columns_slots.specs.Types.{entry_type, key_type}
use Rattle.shredding.specs.Along.{thin}
use Rattle.shredding.specs.Shred.{Triple}
use Rattle.shredding.specs.Slot.{Value, value}
use Rattle.dictionary_columns.specs.Laws.{HasKeys, before_others, entered_all, keys_of_column}
use Rattle.dictionary_leaves.specs.KeyColumns.{number_kind}

-- ---- the types that are read

-- types of entries: whole numbers, dates, times, timestamps, durations, texts and byte strings
abbrev pub may_be_entry : TypeTree → Bool
may_be_entry t_boolean = false
may_be_entry t_null = false
may_be_entry (t_decimal precision scale) = false
may_be_entry (t_interval unit) = false
may_be_entry t = true

-- those of a column beneath lists or structs too
abbrev pub entry_nests : TypeTree → Bool
entry_nests t_uint64 = false
entry_nests (t_timestamp unit zone_name) = false
entry_nests t = true

abbrev pub is_entry_read : List InitNested → TypeTree → Physical → Bool
is_entry_read parts t p = is_read t p && (may_be_entry t && (entry_nests t || is_leaf_alone parts))

-- Leaves of a type, without its extensions, are read as a dictionary under this physical type at the end of such a way.
abbrev pub is_dictionary_read : List InitNested → TypeTree → Physical → Bool
is_dictionary_read parts (t_dictionary key t is_sorted) p = is_entry_read parts (base t) p
is_dictionary_read parts t p = false

-- ---- its pieces

-- The dictionary page has these entries, so many in this body, and these outcomes behind it; as values of the entries' type they are those.
pub record HasDictionary (o : ColumnOpening) (vs : List Value) : Type 0 where
  pub n : ℕ
  pub body : List ℕ
  pub behind : List Outcome
  pub outcomes : o.outcomes ≡ gives_dictionary n body ∷ behind
  pub stored : List Value
  pub are : AreEntriesIn o.leaf n body stored
  pub entries : HasEntriesOf true o.column.data_type o.leaf.physical (Some stored) (Some (map Some vs))

-- A piece of the column, and its dictionary array, which has this type and all entries of the dictionary page in order.
pub record IsDictionaryPiece (o : ColumnOpening) (t : TypeTree) (ts : List Triple) (p : ColumnPiece) : Type 0 where
  pub values : List Value
  pub piece : IsPieceOf o.column t ts (Some (map Some values)) p
  pub dictionary : HasDictionary o values

-- ---- between two calls, once the entries were read

-- The entries are these values, in an array of the dictionary's entry type; the pieces were given, and the reader of the keys has given theirs. It
-- would have given them before any other pages behind those that it took.
pub record IsOpenDictionary (o : ColumnOpening) (t : TypeTree) (pieces : List (List Triple)) (key : IntegerType) (r : Reading) (a : ArrayTree) : Type 0 where
  pub keyed : key_type (base t) ≡ Some key
  pub typed : entry_type (base t) ≡ Some (type_of a)
  pub values : List Value
  pub stored : List Value
  pub body : List ℕ
  pub text : List ℕ
  pub behind : List Outcome
  pub has : HasKeys key o body text behind values stored
  pub failing : All FailsAs o.outcomes
  pub entries : slots a ≡ map value values
  pub key_pieces : List (List Triple)
  pub given : pieces ≡ entered_all values key_pieces
  pub reads : IsReading (stored_of (number_kind key)) 1 (keys_of_column key text behind values o) key_pieces r
  pub foreseen : (others : List Outcome) → All IsGiven others → All (IsOfLevels (leaf_levels o.leaf)) others → IsReading (stored_of (number_kind key)) 1 (before_others (keys_of_column key text behind values o) others) key_pieces (foreseeing others r)
  pub dictionary : HasDictionary o values

-- ---- before any page was read

-- The keys and entries of this type have these types, and the entries are read so under this physical type.
pub record AreParts (t : TypeTree) (p : Physical) (e : EntryReading) : Type 0 where
  pub keyed : key_type (base t) ≡ Some e.key
  pub typed : entry_type (base t) ≡ Some e.data_type
  pub physical : physical_of e.kind ≡ p
  pub made : types_of e.kind (base e.data_type) ≡ true
  pub may_be : may_be_entry (base e.data_type) ≡ true

-- The column of a dictionary type with such parts, of which no page was read: what its source gives, the parts of the way to its leaf, and how its
-- rows are read.
pub record IsUnreadDictionary (o : ColumnOpening) (t : TypeTree) (e : EntryReading) (given : List Outcome) (parts : List InitNested) (size : Option ℕ) (n : ℕ) : Type 0 where
  pub physical : Physical
  pub opening : IsColumnOpening o t physical
  pub are : AreParts t physical e
  pub outcomes : o.outcomes ≡ given
  pub way : IsWay parts (thin o.column.way)
  pub rows : o.rows ≡ n
  pub chunk_size : o.chunk_size ≡ size

-- ---- the dictionary page

-- The entries of a dictionary page, so many in this body, in an array of their type, and the page of their keys.
pub record AreRead (e : EntryReading) (n : ℕ) (body : List ℕ) (a : ArrayTree) (page : Outcome) : Type 0 where
  pub entries : HasEntries (stored_of e.kind) n body e.data_type a
  pub few : n ≤ key_room e.key
  pub text : List ℕ
  pub shown : page ≡ gives_dictionary n text
  pub keys : InARow (key_physical e.key) text (stored_keys e.key 0 n)

-- an error for which they are not read, with its cause: the body has not so many, they are too long, or they are more than the keys number
abbrev pub CannotRead : EntryReading → ℕ → List ℕ → Error → Type 0
CannotRead x n body e = (e ≡ Memory) ⊎ CannotEnter (stored_of x.kind) (limit_of x.kind) n body e ⊎ ((e ≡ Overflow V2) × (key_room x.key < n))
