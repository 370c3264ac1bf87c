-- What was attached is inferred.
use Rattle.std.proofs.Common.{◌≡◌, ℕ, ◌≤◌, false, ltb, List, [], ◌∷◌, ◌++◌, length, Option, Some, refl, ap, ◌∙◌, arith}
use Rattle.std.proofs.lemmas.Bool.{le-ltb}
use Rattle.std.specs.Cmp.{tied_itself}
use Rattle.std.specs.Cmp.Lexicographic.{slice_cmp, nat_list_cmp_total}
use Rattle.std.specs.Ordering.{nat_cmp, match_ordering}
use Rattle.std.specs.declared.cmp.Ordering.{Ordering}
use Rattle.std.specs.declared.cmp.Ordering.TheVariants.{Less, Equal, Greater}
use Rattle.columns_core.specs.Meta.{Meta, text_at, with_text}
use Rattle.columns_core.specs.Measures.{fields_nesting}
use Rattle.columns_core.specs.View.{SchemaTree}
use Rattle.pq_tree.specs.Footers.{Key}
use Rattle.schema_codec.specs.Ranges.{IsSchema, max_nesting, max_length}
use Rattle.schema_key.specs.Inferred.{with_value, with_pairs, gathered}
use Rattle.schema_key.specs.Key.{schema_key, message, value_of, schema_entry, unframed, schema_in}
use Rattle.schema_key.specs.Laws.{IsInferredAgain}

-- ---- the last pair

pub with_pairs_last : (m : Meta) (ks : List Key) (k : Key) → with_pairs m (ks ++ k ∷ []) ≡ with_value (with_pairs m ks) k.key k.«value»
with_pairs_last m [] k = refl
with_pairs_last m (l ∷ ks) k = with_pairs_last (with_value m l.key l.«value») ks k

itself : (key : List ℕ) → slice_cmp nat_cmp key key ≡ Equal
itself key = tied_itself nat_list_cmp_total key

found_there : (key text : List ℕ) (m : Meta) → text_at key ((key, text) ∷ m) ≡ Some text
found_there key text m = rw (itself key) refl

pub text_at-with_text : (key text : List ℕ) (m : Meta) → text_at key (with_text key text m) ≡ Some text
text_at-with_text key text [] = found_there key text []
text_at-with_text key text (e ∷ es) = at (slice_cmp nat_cmp key e.0) refl (text_at-with_text key text es)
  where
    at : (o : Ordering) → slice_cmp nat_cmp key e.0 ≡ o → text_at key (with_text key text es) ≡ Some text
        → text_at key (match_ordering o ((key, text) ∷ e ∷ es) ((e.0, text) ∷ es) (e ∷ with_text key text es)) ≡ Some text
    at Less is there = found_there key text (e ∷ es)
    at Equal is there = rw is refl
    at Greater is there = rw is there

-- ---- the frame

pub unframed-message : (bytes : List ℕ) → unframed (message bytes) ≡ Some bytes
unfolding unframed
unframed-message bytes =
    let four : ltb (length (message bytes)) 4 ≡ false = le-ltb _ _ (omega arith) in
    let eight : ltb (length (message bytes)) 8 ≡ false = le-ltb _ _ (omega arith) in
    rw (four, eight) refl

-- ---- the whole

pub inferred_again : (bytes_of : SchemaTree → List ℕ) (reads : List ℕ → Option SchemaTree)
    → ((s : SchemaTree) → IsSchema s → fields_nesting s.fields ≤ max_nesting → length (bytes_of s) ≤ max_length → reads (bytes_of s) ≡ Some s) → IsInferredAgain bytes_of reads
inferred_again bytes_of reads law s keys columns is nests small decodable =
    let bytes = bytes_of s in
    let last : gathered (keys ++ schema_entry bytes ∷ []) ≡ with_text schema_key (value_of bytes) (gathered keys) = with_pairs_last [] keys (schema_entry bytes) in
    let counts : text_at schema_key (gathered (keys ++ schema_entry bytes ∷ [])) ≡ Some (value_of bytes) =
    ap (text_at schema_key) last ∙ text_at-with_text schema_key (value_of bytes) (gathered keys) in
    let means : schema_in reads (value_of bytes) ≡ Some s = rw (decodable, unframed-message bytes) (law s is nests small) in
    rw (counts, means) refl
