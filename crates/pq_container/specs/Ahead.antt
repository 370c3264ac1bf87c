-- What stands in front of bytes, as a reader that goes from one value to the next says it.
use Rattle.std.specs.Prelude.{◌≡◌, ◌≤◌, ◌^◌, ℕ, ℤ, pos, List, ◌∷◌, ◌++◌, Option, Some, None}
use Rattle.pq_numbers.specs.Zigzag.{IsSigned}
use Rattle.pq_thrift.specs.declared.kind.Kind.{Kind}
use Rattle.pq_thrift.specs.declared.kind.Kind.TheVariants as kinds
use Rattle.pq_thrift.specs.Kinds.{kind_of}
use Rattle.pq_thrift.specs.Value.{Value, int64, binary, list, struct, Values, Fields, no_fields, field}
use Rattle.pq_thrift.specs.Grammar.{IsListHead, InField, IsElement, AreElements, AreFields, count, depth, values_depth, fields_depth}
use Rattle.pq_metadata.specs.FlatFooter.{SpellsSchema}
use Rattle.pq_metadata.specs.Footer.{GroupMeta, SpellsGroup}
use Rattle.pq_metadata.specs.Ids.{Each, get}
use Rattle.pq_tree.specs.Tree.{Element}
use Rattle.pq_container.specs.declared.chunks.ColumnNumbers.{ColumnNumbers}
use Rattle.pq_container.specs.RawChunk.{HasNumbers}

-- a text of which R holds, and the rest behind it
pub record Fronts (R : List ℕ → Type 0) (bytes rest : List ℕ) : Type 0 where
  pub text : List ℕ
  pub parts : bytes ≡ text ++ rest
  pub holds : R text

-- the same behind one byte
pub record FrontsBehind (byte : ℕ) (R : List ℕ → Type 0) (bytes rest : List ℕ) : Type 0 where
  pub middle : List ℕ
  pub parts : bytes ≡ byte ∷ middle
  pub fronts : Fronts R middle rest

-- a number of 32 bits
abbrev pub IsShort : ℤ → List ℕ → Type 0
IsShort z text = IsSigned (2 ^ 32) text z

-- a number of 64 bits
abbrev pub IsLong : ℤ → List ℕ → Type 0
IsLong z text = IsSigned (2 ^ 64) text z

-- the value of a field without others in it, whose kind has the number
pub record FrontsValue (number : ℕ) (bytes rest : List ℕ) : Type 0 where
  pub value : Value
  pub kind : Kind
  pub known : kind_of number ≡ Some kind
  pub fronts : Fronts (InField value (IsElement value) kind) bytes rest
  pub flat : depth value ≤ 1

-- fields behind one with the id `last`, to the end of their struct
pub record FrontsFields (last d : ℕ) (bytes rest : List ℕ) : Type 0 where
  pub fields : Fields
  pub fronts : Fronts (AreFields fields (pos last)) bytes rest
  pub shallow : fields_depth fields ≤ d

-- a last field with the id 5, where there is one
abbrev pub last_struct : Option Fields → Fields
last_struct None = no_fields
last_struct (Some fs) = field (pos 5) (struct fs) no_fields

-- the end of the struct of a data page, or statistics and that end
pub record FrontsLast (bytes rest : List ℕ) : Type 0 where
  pub inner : Option Fields
  pub fronts : Fronts (AreFields (last_struct inner) (pos 4)) bytes rest
  pub shallow : fields_depth (last_struct inner) ≤ 2

-- the fields of a struct, which say this
pub record FrontsSaying {A : Type 0} (Says : Fields → A → Type 0) (d : ℕ) (a : A) (bytes rest : List ℕ) : Type 0 where
  pub fields : Fields
  pub fronts : Fronts (AreFields fields (pos 0)) bytes rest
  pub shallow : fields_depth fields ≤ d
  pub says : Says fields a

-- a struct, which says this
pub record FrontsStruct {A : Type 0} (Says : Value → A → Type 0) (d : ℕ) (a : A) (bytes rest : List ℕ) : Type 0 where
  pub value : Value
  pub fronts : Fronts (IsElement value kinds.Struct) bytes rest
  pub shallow : depth value ≤ d
  pub says : Says value a

-- so many values of a list, one behind the other
pub record FrontsValues {A : Type 0} (Says : Value → A → Type 0) (number d n : ℕ) (xs : List A) (bytes rest : List ℕ) : Type 0 where
  pub values : Values
  pub many : count values ≡ n
  pub fronts : Fronts (AreElements values number) bytes rest
  pub shallow : values_depth values ≤ d
  pub are : Each Says values xs

-- the place of a dictionary page, where there is one, to the end of its struct
abbrev pub place_field : Option ℤ → Fields
place_field None = no_fields
place_field (Some z) = field (pos 11) (int64 z) no_fields

-- the struct of a column that states no statistics
pub record SaysColumn (fs : Fields) (c : ColumnNumbers) : Type 0 where
  pub numbers : HasNumbers fs c
  pub bare : get 12 fs ≡ None

-- the size and the rows of a group, to the end of its struct
abbrev pub rows_fields : ℤ → ℤ → Fields
rows_fields size rows = field (pos 2) (int64 size) (field (pos 3) (int64 rows) no_fields)

-- the writer's name, where there is one, to the end of its struct
abbrev pub created_field : Option (List ℕ) → Fields
created_field None = no_fields
created_field (Some s) = field (pos 6) (binary s) no_fields

-- the list of a schema's nodes as a field of one byte, behind one with the id 1
pub record FrontsSchema (s : List ℕ × ℕ × List Element) (bytes rest : List ℕ) : Type 0 where
  pub values : Values
  pub fronts : FrontsBehind 25 (IsElement (list 12 values) kinds.List) bytes rest
  pub shallow : values_depth values ≤ 100
  pub says : SpellsSchema values s

-- the rows of a file, and the head of the list of its groups
pub record FrontsGroupsHead (n : ℕ) (bytes rest : List ℕ) : Type 0 where
  pub rows : ℤ
  pub middle : List ℕ
  pub has_rows : FrontsBehind 22 (IsLong rows) bytes middle
  pub head : FrontsBehind 25 (λ t. IsListHead t 12 n) middle rest

-- the rows of a file and its groups, to the end of its struct
pub record FrontsGroups (gs : List GroupMeta) (bytes rest : List ℕ) : Type 0 where
  pub rows : ℤ
  pub values : Values
  pub creator : Option (List ℕ)
  pub fronts : Fronts (AreFields (field (pos 3) (int64 rows) (field (pos 4) (list 12 values) (created_field creator))) (pos 2)) bytes rest
  pub shallow : values_depth values ≤ 6
  pub are : Each SpellsGroup values gs
