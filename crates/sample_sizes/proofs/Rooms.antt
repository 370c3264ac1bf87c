-- The room of footers of the sample.
use Rattle.std.proofs.Common.{◌≡◌, ℕ, ◌+◌, ◌*◌, ◌/◌, ◌≤◌, List, [], ◌∷◌, All, length, map, replicate, Option, Some, None, sum_by, arith}
use Rattle.std.specs.Prelude.{option_map}
use Rattle.std.specs.List.{AllByRecursion, AllZip}
use Rattle.std.proofs.lemmas.List.{length-append, length-replicate}
use Rattle.std.proofs.lemmas.List.Elements.{recursion_from_All}
use Rattle.std.proofs.lemmas.List.Sums.{sum_by-cons}
use Rattle.base64.proofs.RoundTrip.{length-encode_symbols}
use Rattle.base64.specs.Engines.{standard}
use Rattle.base64.specs.Rfc4648.{encode_symbols, padding_len}
use Rattle.shredding.specs.Slot.{Slot, Slots, fields}
use Rattle.pq_files.specs.Layout.{OutChunk, OutGroup}
use Rattle.pq_files.specs.Room.{at_start, bounds_room, bytes_of, chunk_room, footer_room, group_room, key_room, planned_chunks, planned_footer, planned_group}
use Rattle.pq_files.specs.Statistics.{Bounds, Statistics}
use Rattle.pq_files.specs.Written.{chunk_record, statistics_of}
use Rattle.pq_headline.specs.Columns.{ArrowColumn, schema_columns}
use Rattle.pq_headline.specs.Output.{Style}
use Rattle.pq_tree.specs.Tree.{Leaf, columns_of}
use Rattle.sample_rows.specs.Fields.{sample_fields, sample_tree}
use Rattle.sample_sizes.proofs.Fine.{are_fine, as_slots}
use Rattle.sample_sizes.proofs.Headers.{AreShortBounds, IsShort}
use Rattle.sample_sizes.proofs.Neat.{AreNeat, neat_columns}
use Rattle.sample_sizes.specs.Laid.{IsLaidOut}
use Rattle.sample_sizes.specs.Laws.{FootersHaveRoom, SchemaIsSmall}
use Rattle.sample_sizes.specs.Rows.{IsRow}
use Rattle.schema_codec.specs.Spelling.{count_bytes, plain_bytes}
use Rattle.schema_key.specs.Key.{message, schema_entry, value_of}
use Rattle.schema_to_tree.specs.Table.{schema_of}

bounds_few : (o : Option Statistics) → IsShort o → bounds_room (option_map statistics_of o) ≤ 48
bounds_few None h = omega arith
bounds_few (Some s) h = by s.bounds h
  where
    by : (b : Option Bounds) → AreShortBounds b → bytes_of (option_map (λ (x : Bounds). x.greatest) b) + bytes_of (option_map (λ (x : Bounds). x.least) b) ≤ 48
    by None k = omega arith
    by (Some b) k = omega (arith, k.0, k.1)

chunks_few : (ss : List Slot) (cs : List ArrowColumn) (ls : List Leaf) (outs : List OutChunk) → AreNeat ss cs ls outs → sum_by chunk_room (planned_chunks ls outs) ≤ 404 * length cs
chunks_few ss [] [] [] h = omega arith
chunks_few ss [] [] (o ∷ os) h = absurd h
chunks_few ss [] (l ∷ ls) os h = absurd h
chunks_few ss (c ∷ cs) [] os h = absurd h
chunks_few ss (c ∷ cs) (l ∷ ls) [] h = absurd h
chunks_few ss (c ∷ cs) (l ∷ ls) (o ∷ os) h =
    omega (arith, sum_by-cons chunk_room (chunk_record l o at_start) (planned_chunks ls os), h.0.names, bounds_few o.statistics h.1.statistics, chunks_few ss cs ls os h.2)

pub neat_group : (s : Style) (rows : List Slots) (out : OutGroup) → All IsRow rows → IsLaidOut s rows out → AreNeat (map fields rows) (schema_columns sample_fields) (columns_of (schema_of sample_fields)) out.chunks
neat_group s rows out a h =
    neat_columns s rows (schema_columns sample_fields) (columns_of (schema_of sample_fields)) h.encodings h.entries out.chunks are_fine (as_slots rows (recursion_from_All IsRow rows a)) (recursion_from_All (λ d. d ≡ None) h.entries h.none) h.laid.columns

groups_few : (s : Style) (rowss : List (List Slots)) (outs : List OutGroup) → AllByRecursion (All IsRow) rowss → AllZip (IsLaidOut s) rowss outs → sum_by group_room (map (planned_group (columns_of (schema_of sample_fields))) outs) ≤ 1276 * length rowss
groups_few s [] [] a h = omega arith
groups_few s [] (o ∷ os) a h = absurd h
groups_few s (r ∷ rs) [] a h = absurd h
groups_few s (r ∷ rs) (o ∷ os) a h =
    let ls = columns_of (schema_of sample_fields) in
    omega (arith, sum_by-cons group_room (planned_group ls o) (map (planned_group ls) os), chunks_few (map fields r) (schema_columns sample_fields) ls o.chunks (neat_group s r o a.0 h.0), groups_few s rs os a.1 h.1)

-- ---- the keys
value_few : (bs : List ℕ) → length (value_of bs) ≤ (4 * length (message bs) + 2) / 3 + 2
unfolding value_of
value_few bs =
    let m = message bs in
    let symbols = encode_symbols standard.encode_table m in
    let padding = replicate (padding_len (length m)) standard.padding.value in
    omega (arith, length-append symbols padding, length-encode_symbols standard.encode_table m, length-replicate (padding_len (length m)) standard.padding.value)

key_few : key_room (schema_entry (plain_bytes sample_tree)) ≤ 1000
unfolding count_bytes
key_few = omega (arith, value_few (plain_bytes sample_tree))

pub schema_is_small : SchemaIsSmall
unfolding count_bytes
schema_is_small = omega arith

-- ---- the footer
pub footer_few : (s : Style) (rowss : List (List Slots)) (outs : List OutGroup) → AllByRecursion (All IsRow) rowss → AllZip (IsLaidOut s) rowss outs
    → footer_room (planned_footer (schema_of sample_fields) (schema_entry (plain_bytes sample_tree) ∷ []) outs) ≤ 8000 + 1276 * length rowss
footer_few s rowss outs a h = omega (arith, key_few, groups_few s rowss outs a h)

pub footers_have_room : FootersHaveRoom
footers_have_room s rowss outs a h = omega (arith, footer_few s rowss outs (recursion_from_All (All IsRow) rowss a.are) h, a.groups)
