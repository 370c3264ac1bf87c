-- The schema of a file: the one under its key, or that of its tree.
use Rattle.std.specs.Prelude.{ℕ, List, [], ◌∷◌, Option, Some, None}
use Rattle.columns_core.specs.Meta.{Meta, text_at, with_text, without_key}
use Rattle.columns_core.specs.Tree.{FieldTrees}
use Rattle.columns_core.specs.View.{SchemaTree}
use Rattle.pq_tree.specs.Footers.{Key}
use Rattle.schema_key.specs.declared.infer.KeyRule.{KeyRule}
use Rattle.schema_key.specs.declared.infer.KeyRule.TheVariants.{Use, Ignore}
use Rattle.schema_key.specs.Key.{schema_key, schema_under}

-- with a pair's text under its key; a pair without a text is passed over
abbrev pub with_value : Meta → List ℕ → Option (List ℕ) → Meta
with_value m key None = m
with_value m key (Some text) = with_text key text m

-- the pairs one after the other, so that of several texts of a key the last counts
abbrev pub with_pairs : Meta → List Key → Meta
with_pairs m [] = m
with_pairs m (k ∷ ks) = with_pairs (with_value m k.key k.«value») ks

abbrev pub gathered : List Key → Meta
gathered = with_pairs []

-- the text under the key that counts: under `Ignore` none does
abbrev pub counting : KeyRule → Meta → Option (List ℕ)
counting Use m = text_at schema_key m
counting Ignore m = None

-- the schema under the key, where one was found, else the tree's fields with the other pairs
abbrev pub schema_or : FieldTrees → Meta → Option SchemaTree → SchemaTree
schema_or columns m None = record { fields = columns; metadata = without_key schema_key m }
schema_or columns m (Some s) = s

abbrev pub or_fields : FieldTrees → Meta → Option (Option SchemaTree) → Option SchemaTree
or_fields columns m None = None
or_fields columns m (Some o) = Some (schema_or columns m o)

-- The schema of a file with these pairs, whose tree has these fields. None where the key that counts stands for no schema.
abbrev pub inferred : (List ℕ → Option SchemaTree) → KeyRule → List Key → FieldTrees → Option SchemaTree
inferred reads rule keys columns = or_fields columns (gathered keys) (schema_under reads (counting rule (gathered keys)))
