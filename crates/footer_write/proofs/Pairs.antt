-- A list of pairs that has one.
use Rattle.std.proofs.Common.{◌≡◌, ◌<◌, List, [], ◌∷◌, length, map, Some, refl, arith}
use Rattle.pq_metadata.specs.Footer.{Key}
use Rattle.pq_files.specs.Written.{structs, key_value, keys_value}

pub some_keys : (ks : List Key) → 0 < length ks → keys_value ks ≡ Some (structs (map key_value ks))
some_keys [] h = absurd (omega arith)
some_keys (k ∷ ks) h = refl
