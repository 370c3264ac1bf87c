-- Laws of the key and of what is inferred.
use Rattle.std.specs.Prelude.{◌≡◌, ◌≤◌, ℕ, List, [], ◌∷◌, ◌++◌, length, Bool, Option, Some, None, if◌then◌else◌}
use Rattle.std.specs.Cmp.Lexicographic.{slice_cmp}
use Rattle.std.specs.Ordering.{nat_cmp, is_eq}
use Rattle.columns_core.specs.Meta.{text_at}
use Rattle.columns_core.specs.Measures.{fields_nesting}
use Rattle.columns_core.specs.Tree.{FieldTrees}
use Rattle.columns_core.specs.View.{SchemaTree}
use Rattle.pq_tree.specs.Footers.{Key}
use Rattle.schema_codec.specs.Ranges.{IsSchema, max_nesting, max_length}
use Rattle.schema_key.specs.declared.infer.KeyRule.TheVariants.{Use}
use Rattle.schema_key.specs.Inferred.{gathered, inferred}
use Rattle.schema_key.specs.Key.{message, value_of, decoded, schema_entry}

-- base64 gives back what it was made of
abbrev pub IsDecodable : List ℕ → Type 0
IsDecodable bytes = decoded (value_of bytes) ≡ Some (message bytes)

-- Whatever pairs stand before it, and whatever the tree is, the schema whose bytes stand last is inferred.
abbrev pub IsInferredAgain : (SchemaTree → List ℕ) → (List ℕ → Option SchemaTree) → Type 0
IsInferredAgain bytes_of reads =
    (s : SchemaTree) (keys : List Key) (columns : FieldTrees) → IsSchema s → fields_nesting s.fields ≤ max_nesting → length (bytes_of s) ≤ max_length → IsDecodable (bytes_of s)
    → inferred reads Use (keys ++ schema_entry (bytes_of s) ∷ []) columns ≡ Some s

-- The same of one schema, of which nothing else is asked.
abbrev pub IsInferredFrom : (SchemaTree → List ℕ) → (List ℕ → Option SchemaTree) → SchemaTree → Type 0
IsInferredFrom bytes_of reads s =
    (keys : List Key) (columns : FieldTrees) → length (bytes_of s) ≤ max_length → IsDecodable (bytes_of s)
    → inferred reads Use (keys ++ schema_entry (bytes_of s) ∷ []) columns ≡ Some s

-- the two keys are the same bytes
abbrev pub is_same : List ℕ → List ℕ → Bool
is_same a b = is_eq (slice_cmp nat_cmp a b)

abbrev pub or_earlier : Option (List ℕ) → Option (List ℕ) → Option (List ℕ)
or_earlier None earlier = earlier
or_earlier (Some text) earlier = Some text

-- the text of the last pair of a key that has one
abbrev pub last_text : List ℕ → List Key → Option (List ℕ)
last_text key [] = None
last_text key (k ∷ ks) = or_earlier (last_text key ks) (if is_same key k.key then k.«value» else None)

-- of the pairs of a footer the last text of each key counts
abbrev pub TheLastCounts : Type 0
TheLastCounts = (key : List ℕ) (ks : List Key) → text_at key (gathered ks) ≡ last_text key ks
