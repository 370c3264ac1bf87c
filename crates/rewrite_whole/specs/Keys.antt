-- The key of a file's Arrow schema.
use Rattle.std.specs.Prelude.{ℕ, List, Option, None, cond}
use Rattle.pq_metadata.specs.Footer.{Key}
use Rattle.pq_files.specs.Room.{are_same, schema_key}

-- the text that a pair has under that key
abbrev pub text_in : Key → Option (List ℕ)
text_in k = cond (are_same k.key schema_key) k.«value» None
