-- The codec keeps its law: the bytes of a schema are read as that schema, and what is read does not nest deeper than it may.
use Rattle.std.proofs.Common.{◌≡◌, ℕ, ◌+◌, ◌^◌, ◌<◌, ◌≤◌, ◌==◌, Bool, true, false, cond, leb, ltb, List, [], ◌∷◌, ◌++◌, length, take, drop, Option, Some, None, refl, sym, ap, subst, ◌∙◌, arith}
use Rattle.std.proofs.lemmas.Bool.{le-leb, leb-true, le-ltb, ne_eqb}
use Rattle.std.proofs.lemmas.List.{length-append, append-nil, take-append-drop}
use Rattle.columns_core.specs.Measures.{fields_nesting}
use Rattle.columns_core.specs.Meta.{Meta}
use Rattle.columns_core.specs.Tree.{FieldTree, FieldTrees}
use Rattle.columns_core.specs.View.{SchemaTree, fields_of}
use Rattle.schema_codec.specs.Ranges.{IsSchema, IsBytes, max_nesting, max_length}
use Rattle.schema_codec.specs.Reading.{plain_reads}
use Rattle.schema_codec.specs.Spelling.{count_bytes, plain_bytes}
use Rattle.schema_codec.specs.Proved.Formats.{AreBytes, are_bytes, byte_of, bytes_behind, bind_some}
use Rattle.schema_codec.specs.Proved.Whole.{plain_again, plain_nests}
use Rattle.schema_fb.specs.Layout.{Cell, absent, number, below, Cells, no_cells, more_cells, Object, vector, table, front, table_size, object_bytes, below_bytes}
use Rattle.schema_fb.specs.Places.{byte_at, short_at, word_at, Table, table_at, slot, number_in, table_in, items_in}
use Rattle.schema_fb.specs.Reading.{metadata_in, field_at, allowance, shallow_schema, schema_in, message_at, flat_reads}
use Rattle.schema_fb.specs.Tables.{one, two, three, custom_metadata, fields_objects, schema_object, message, message_bytes, is_expressible, flat_bytes}
use Rattle.schema_fb.specs.Proved.Standing.{Stands, At, stands_first, stands_second, stands_within, word_stands, table_stands, front_within, count_length}
use Rattle.schema_fb.specs.Proved.Entries.{metadata_stands}
use Rattle.schema_fb.specs.Proved.Slots.{Small, Slotted, more_slots, number_slot, below_slot, absent_slot, byte_in, points_table, table_cost, vector_cost}
use Rattle.schema_fb.specs.Proved.Children.{list_of, fields_of-list_of, FieldsFit, vector_again}
use Rattle.schema_fb.specs.Proved.Fields.{field_again}

-- ---- the schema's table

schema_steps : (b : List ℕ) (t : Table) (fs : List FieldTree) (m : Meta) (rest more : ℕ) → slot b t 0 ≡ None → items_in (field_at b max_nesting) b t 1 (allowance b) ≡ Some (fs, rest) → metadata_in b t 2 rest ≡ Some (m, more)
    → schema_in b t ≡ shallow_schema fs m
unfolding schema_in
schema_steps b t fs m rest more none fields_read metadata_read = rw (none, fields_read, metadata_read) refl

shallow_again : (s : SchemaTree) → fields_nesting s.fields ≤ max_nesting → shallow_schema (list_of s.fields) s.metadata ≡ Some s
shallow_again s nests =
    let same = fields_of-list_of s.fields in
    let few : leb (fields_nesting s.fields) max_nesting ≡ true = le-leb (fields_nesting s.fields) max_nesting nests in
    ap (λ (fs : FieldTrees). cond (leb (fields_nesting fs) max_nesting) (Some (record { fields = fs; metadata = s.metadata })) None) same ∙ rw few refl

schema_cost : (kids : Object) (metadata : Cell) → length (object_bytes kids) + length (below_bytes (one metadata)) ≤ length (object_bytes (table (three absent (below kids) metadata)))
schema_cost kids metadata = omega (arith, table_cost (three absent (below kids) metadata), length-append (object_bytes kids) (below_bytes (one metadata)))

schema_again : (b : List ℕ) (t : Table) (s : SchemaTree) → Small b → IsSchema s → is_expressible s ≡ true → fields_nesting s.fields ≤ max_nesting → length (object_bytes (schema_object s)) ≤ length b
    → Slotted b t 0 (three absent (below (vector (fields_objects 0 s.fields))) (custom_metadata s.metadata)) → schema_in b t ≡ Some s
schema_again b t s long is expressible nests all s0 =
    let objects = fields_objects 0 s.fields in
    let meta = custom_metadata s.metadata in
    let cost = schema_cost (vector objects) meta in
    let inner = vector_cost objects in
    let s1 = more_slots b t 0 absent (two (below (vector objects)) meta) s0 in
    let s2 = more_slots b t 1 (below (vector objects)) (one meta) s1 in
    let fits : FieldsFit max_nesting s.fields = (expressible, is.fields, nests) in
    let fields_read = vector_again (field_at b max_nesting) b max_nesting long (field_again b long max_nesting) s.fields t 1 0 (allowance b) fits (below_slot b t 1 (vector objects) (one meta) s1) (omega (arith, cost, inner)) in
    let metadata_read = metadata_stands b t 2 s2.0 fields_read.0 s.metadata no_cells long is.metadata s2.1 (omega (arith, cost, inner, fields_read.2)) in
    schema_steps b t (list_of s.fields) s.metadata fields_read.0 metadata_read.0 (absent_slot b t 0 (two (below (vector objects)) meta) s0) fields_read.1 metadata_read.1 ∙ shallow_again s nests

-- ---- the message

message_steps : (b : List ℕ) (place : ℕ) (t u : Table) → table_at b place ≡ Some t → number_in byte_at 0 b t 1 ≡ Some 1 → table_in b t 2 ≡ Some u → message_at b place ≡ schema_in b u
unfolding message_at
message_steps b place t u at kind header = rw (at, kind, header) refl

abbrev message_cells : Object → Cells
message_cells header = more_cells (number 4) (three (number 1) (below header) absent)

abbrev schema_cells : SchemaTree → Cells
schema_cells s = three absent (below (vector (fields_objects 0 s.fields))) (custom_metadata s.metadata)

message_again : (b : List ℕ) (p : ℕ) (s : SchemaTree) → Small b → IsSchema s → is_expressible s ≡ true → fields_nesting s.fields ≤ max_nesting → At b p (message s) → message_at b (p + front (message s)) ≡ Some s
message_again b p s long is expressible nests at =
    let cells = message_cells (schema_object s) in
    let t = table_stands b p cells long (omega arith) at in
    let s0 : Slotted b t.0 0 cells = (p + front (table cells) + table_size cells, t.2) in
    let c1 = three (number 1) (below (schema_object s)) absent in
    let c2 = two (below (schema_object s)) absent in
    let s1 = more_slots b t.0 0 (number 4) c1 s0 in
    let s2 = more_slots b t.0 1 (number 1) c2 s1 in
    let kind = byte_in b t.0 1 1 0 (omega arith) (number_slot b t.0 1 1 c2 s1) in
    let points = below_slot b t.0 2 (schema_object s) (one absent) s2 in
    let u = points_table b t.0 2 (schema_cells s) long (omega arith) points in
    let within = stands_within b points.0 (object_bytes (schema_object s)) points.4 in
    message_steps b (p + front (table cells)) t.0 u.0 t.1 kind u.1 ∙ schema_again b u.0 s long is expressible nests (omega (arith, within)) u.2

-- ---- the bytes

whole_stands : (b : List ℕ) → Stands b 0 b
whole_stands b = record { before = []; after = []; whole = sym (append-nil b); there = refl }

abbrev zeros : List ℕ
zeros = 0 ∷ 0 ∷ 0 ∷ 0 ∷ []

flat_message : (b : List ℕ) (n : ℕ) → word_at b 0 ≡ Some n → 8 ≤ n → flat_reads b ≡ message_at b n
unfolding flat_reads
flat_message b n word some =
    let not_zero : (n == 0) ≡ false = ne_eqb n 0 (λ e. omega arith) in
    rw (word, not_zero) refl

begins : (n : ℕ) (o : Object) → Stands (count_bytes n ++ zeros ++ object_bytes o) 0 (count_bytes n)
begins n o =
    let b = count_bytes n ++ zeros ++ object_bytes o in
    stands_first b 0 (count_bytes n) zeros (stands_first b 0 (count_bytes n ++ zeros) (object_bytes o) (whole_stands b))

goes_on : (n : ℕ) (o : Object) → At (count_bytes n ++ zeros ++ object_bytes o) 8 o
goes_on n o =
    let b = count_bytes n ++ zeros ++ object_bytes o in
    let place : 0 + length (count_bytes n ++ zeros) ≡ 8 = omega (arith, length-append (count_bytes n) zeros, count_length n) in
    subst (λ (p : ℕ). Stands b p (object_bytes o)) place (stands_second b 0 (count_bytes n ++ zeros) (object_bytes o) (whole_stands b))

expressed_again : (s : SchemaTree) → IsSchema s → is_expressible s ≡ true → fields_nesting s.fields ≤ max_nesting → length (message_bytes s) ≤ max_length → flat_reads (message_bytes s) ≡ Some s
expressed_again s is expressible nests long =
    let b = message_bytes s in
    let n = 8 + front (message s) in
    let at = goes_on n (message s) in
    let within = stands_within b 8 (object_bytes (message s)) at in
    let small : n < 2 ^ 32 = omega (arith, within, front_within (message s)) in
    flat_message b n (word_stands b 0 n small (begins n (message s))) (omega arith) ∙ message_again b 8 s long is expressible nests at

plain_read : (rest : List ℕ) → flat_reads (zeros ++ rest) ≡ plain_reads rest
unfolding flat_reads word_at
plain_read rest =
    let long : ltb (length (zeros ++ rest)) (0 + 4) ≡ false = le-ltb (length (zeros ++ rest)) (0 + 4) (omega arith) in
    rw long refl

chosen_again : (s : SchemaTree) (c : Bool) → is_expressible s ≡ c → IsSchema s → fields_nesting s.fields ≤ max_nesting → length (cond c (message_bytes s) (zeros ++ plain_bytes s)) ≤ max_length
    → flat_reads (cond c (message_bytes s) (zeros ++ plain_bytes s)) ≡ Some s
chosen_again s true expressible is nests long = expressed_again s is expressible nests long
chosen_again s false not_so is nests long = plain_read (plain_bytes s) ∙ plain_again s is nests (omega arith)

pub flat_again : (s : SchemaTree) → IsSchema s → fields_nesting s.fields ≤ max_nesting → length (flat_bytes s) ≤ max_length → flat_reads (flat_bytes s) ≡ Some s
unfolding flat_bytes
flat_again s is nests long = chosen_again s (is_expressible s) refl is nests long

-- ---- what is read does not nest deeper

either : {A : Type 0} (c : Bool) (x y : Option A) (z : A) (P : Type 0) → (x ≡ Some z → P) → (y ≡ Some z → P) → cond c x y ≡ Some z → P
either true x y z P left right e = left e
either false x y z P left right e = right e

shallow_nests : (c : Bool) (made s : SchemaTree) → leb (fields_nesting made.fields) max_nesting ≡ c → cond c (Some made) None ≡ Some s → fields_nesting s.fields ≤ max_nesting
shallow_nests true made s few e =
    let same : made ≡ s = cc in
    subst (λ (t : SchemaTree). fields_nesting t.fields ≤ max_nesting) same (leb-true (fields_nesting made.fields) max_nesting few)
shallow_nests false made s few e = absurd cc

schema_nests : (b : List ℕ) (t : Table) (s : SchemaTree) → schema_in b t ≡ Some s → fields_nesting s.fields ≤ max_nesting
unfolding schema_in
schema_nests b t s e =
    let first = bind_some (number_in short_at 0 b t 0) _ s e in
    let second = bind_some (items_in (field_at b max_nesting) b t 1 (allowance b)) _ s first.2 in
    let third = bind_some (metadata_in b t 2 second.0.1) _ s second.2 in
    let made : SchemaTree = record { fields = fields_of second.0.0; metadata = third.0.0 } in
    either (first.0 == 0) (shallow_schema second.0.0 third.0.0) None s (fields_nesting s.fields ≤ max_nesting) (shallow_nests (leb (fields_nesting made.fields) max_nesting) made s refl) (λ none. absurd cc) third.2

message_nests : (b : List ℕ) (place : ℕ) (s : SchemaTree) → message_at b place ≡ Some s → fields_nesting s.fields ≤ max_nesting
unfolding message_at
message_nests b place s e =
    let first = bind_some (table_at b place) _ s e in
    let second = bind_some (number_in byte_at 0 b first.0 1) _ s first.2 in
    let third = bind_some (table_in b first.0 2) _ s second.2 in
    either (second.0 == 1) (schema_in b third.0) None s (fields_nesting s.fields ≤ max_nesting) (schema_nests b third.0 s) (λ none. absurd cc) third.2

behind_bytes : (bytes : List ℕ) → IsBytes bytes → IsBytes (drop 4 bytes)
behind_bytes bytes are = byte_of (drop 4 bytes) (bytes_behind (take 4 bytes) (drop 4 bytes) (subst AreBytes (sym (take-append-drop 4 bytes)) (are_bytes bytes are)))

pub flat_nests : (bytes : List ℕ) (s : SchemaTree) → IsBytes bytes → flat_reads bytes ≡ Some s → fields_nesting s.fields ≤ max_nesting
unfolding flat_reads
flat_nests bytes s are e =
    let first = bind_some (word_at bytes 0) _ s e in
    either (first.0 == 0) (plain_reads (drop 4 bytes)) (message_at bytes first.0) s (fields_nesting s.fields ≤ max_nesting) (plain_nests (drop 4 bytes) s (behind_bytes bytes are)) (message_nests bytes first.0 s) first.2
