-- Worked examples of the key's value and of what counts.
use Rattle.std.specs.Prelude.{◌≡◌, ℕ, List, [], ◌∷◌, Option, Some, None}
use Rattle.columns_core.specs.Tree.{no_fields}
use Rattle.columns_core.specs.View.{SchemaTree}
use Rattle.pq_tree.specs.Footers.{Key}
use Rattle.schema_key.specs.declared.infer.KeyRule.TheVariants.{Use, Ignore}
use Rattle.schema_key.specs.Inferred.{gathered, counting, inferred}
use Rattle.schema_key.specs.Key.{schema_key, message, unframed}

abbrev pub pair : List ℕ → List ℕ → Key
pair key text = record { key = key; «value» = Some text }

abbrev pub bare : List ℕ → Key
bare key = record { key = key; «value» = None }

-- a codec that reads nothing
abbrev pub reads_nothing : List ℕ → Option SchemaTree
reads_nothing bytes = None

pub record AreWorked : Type 0 where
  pub framed : message (7 ∷ 8 ∷ []) ≡ 255 ∷ 255 ∷ 255 ∷ 255 ∷ 2 ∷ 0 ∷ 0 ∷ 0 ∷ 7 ∷ 8 ∷ []
  pub behind : unframed (255 ∷ 255 ∷ 255 ∷ 255 ∷ 2 ∷ 0 ∷ 0 ∷ 0 ∷ 7 ∷ 8 ∷ []) ≡ Some (7 ∷ 8 ∷ [])
  pub without_mark : unframed (255 ∷ 255 ∷ 255 ∷ 0 ∷ 9 ∷ []) ≡ Some (255 ∷ 255 ∷ 255 ∷ 0 ∷ 9 ∷ [])
  pub three : unframed (255 ∷ 255 ∷ 255 ∷ []) ≡ None
  pub mark_alone : unframed (255 ∷ 255 ∷ 255 ∷ 255 ∷ []) ≡ None
  pub seven : unframed (255 ∷ 255 ∷ 255 ∷ 255 ∷ 0 ∷ 0 ∷ 0 ∷ []) ≡ None
  pub last : gathered (pair (98 ∷ []) (1 ∷ []) ∷ pair (97 ∷ []) (2 ∷ []) ∷ pair (98 ∷ []) (3 ∷ []) ∷ bare (98 ∷ []) ∷ []) ≡ (97 ∷ [], 2 ∷ []) ∷ (98 ∷ [], 3 ∷ []) ∷ []
  pub used : counting Use (gathered (pair schema_key (1 ∷ []) ∷ [])) ≡ Some (1 ∷ [])
  pub ignored : inferred reads_nothing Ignore (pair schema_key (1 ∷ []) ∷ pair (97 ∷ []) (2 ∷ []) ∷ []) no_fields ≡ Some (record { fields = no_fields; metadata = (97 ∷ [], 2 ∷ []) ∷ [] })
  pub absent : inferred reads_nothing Use (bare schema_key ∷ []) no_fields ≡ Some (record { fields = no_fields; metadata = [] })
