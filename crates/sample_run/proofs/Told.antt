-- The key of the sample's files tells their schema.
use Rattle.std.proofs.Common.{rules}
use Rattle.std.proofs.Common.{ℕ, zero, suc, ◌<◌, ◌≤◌, List, [], ◌∷◌, length, refl, ap, arith}
use Rattle.std.proofs.lemmas.Str.{IsUtf8-from_is_utf8}
use Rattle.std.specs.List.{AllByRecursion}
use Rattle.std.specs.List.Sorted.{IsStrictlySortedBy}
use Rattle.std.specs.Prelude.{codes}
use Rattle.std.specs.Str.{chars, is_utf8}
use lib.Utf8.{encode}
use Rattle.std.specs.Result.{result_ok}
use Rattle.base64.proofs.EngineFacts.{decode_of-encode_of}
use Rattle.base64.specs.Engines.{standard}
use Rattle.base64.specs.GeneralPurpose.{IsBytes}
use Rattle.sample_rows.specs.Fields.{item_field, sample_tree}
use Rattle.schema_codec.specs.Proved.Whole.{plain_again}
use Rattle.schema_codec.specs.Ranges.{FieldHasRanges, IsMetadata, IsSchema, max_length}
use Rattle.schema_codec.specs.Reading.{plain_reads}
use Rattle.schema_codec.specs.Spelling.{count_bytes, plain_bytes}
use Rattle.schema_key.proofs.Again.{inferred_again}
use Rattle.schema_key.specs.Key.{decoded, message, value_of}
use Rattle.schema_key.specs.Laws.{IsDecodable}
use Rattle.unique_rows.specs.Rewritten.{IsTold}
use Rattle.sample_run.specs.Files.{plain_codec, sample_asked}

empty : IsMetadata []
unfolding IsStrictlySortedBy
empty = record { texts = tt; ascends = tt }

item_is : FieldHasRanges item_field
unfolding is_utf8 chars encode
item_is = (IsUtf8-from_is_utf8 (codes "item") refl, tt, empty)

schema_is : IsSchema sample_tree
unfolding is_utf8 chars encode
schema_is = record {
  fields = ((IsUtf8-from_is_utf8 (codes "id") refl, tt, empty), ((IsUtf8-from_is_utf8 (codes "tag") refl, tt, empty), ((IsUtf8-from_is_utf8 (codes "items") refl, item_is, empty), tt)));
  metadata = empty;
}

below : (bs : List ℕ) → AllByRecursion (λ b. b < 256) bs → IsBytes bs
below [] h i = omega arith
below (b ∷ bs) h zero = h.0
below (b ∷ bs) h (suc i) = below bs h.1 i

are_bytes : IsBytes (message (plain_bytes sample_tree))
unfolding count_bytes
are_bytes = below (message (plain_bytes sample_tree)) (search (rules, arith))

decodable : IsDecodable (plain_bytes sample_tree)
unfolding decoded value_of
decodable = ap result_ok (decode_of-encode_of standard (message (plain_bytes sample_tree)) refl are_bytes)

small : length (plain_bytes sample_tree) ≤ max_length
unfolding count_bytes
small = omega arith

pub told : IsTold plain_codec sample_asked sample_tree
told columns = inferred_again plain_bytes plain_reads plain_again sample_tree [] columns schema_is (omega arith) small decodable
