-- Worked examples of layout, of statistics and of what can be read of a cut section.
use Rattle.std.proofs.Common.{◌≡◌, ℕ, ◌<◌, ◌≤◌, pos, negsuc, true, false, is_some, nat_eq, Ok, List, [], ◌∷◌, ◌++◌, map, take, Some, None, refl, sym, subst, inl, inr, arith}
use Rattle.std.specs.Int.{w32}
use Rattle.std.specs.Str.{IsUtf8}
use Rattle.std.proofs.lemmas.List.Elements.{All-from_recursion}
use Rattle.std.proofs.lemmas.Str.{IsUtf8-from_ascii}
use Rattle.std.proofs.lemmas.Str.Ascii.{IsAscii-from_all}
use Rattle.pq_numbers.specs.Bits.{unpacked}
use Rattle.pq_numbers.proofs.Examples.{one_byte}
use Rattle.pq_numbers.specs.Varint.{varint_up_to}
use Rattle.pq_thrift.specs.Grammar.{Spells}
use Rattle.pq_thrift.specs.Numbers.{signed_at, binary_at}
use Rattle.pq_thrift.specs.Reading.{list_head_at, field_head_at, values_at, fields_at, list_with, struct_with, struct_at, value_at}
use Rattle.pq_thrift.specs.Value.{truth as truth_of, int64, binary, struct, Fields, no_fields, field}
use Rattle.pq_runs.specs.Delta.{last, Blocks, block, IsDelta}
use Rattle.pq_runs.specs.Runs.{no_bits}
use Rattle.shredding.specs.Shred.{Triple, column, shred}
use Rattle.shredding.specs.Shape.{text, signed}
use Rattle.shredding.specs.Slot.{Value, truth, number, bytes}
use Rattle.pq_metadata.specs.Header.{dictionary_page}
use Rattle.pq_tree.specs.Physical.{byte_array, int32}
use Rattle.pq_files.specs.FirstFile.{way, rows, triples}
use Rattle.pq_files.specs.Layout.{IsLaid}
use Rattle.pq_files.specs.Chunk.{RawPage, here, page, IsPageText, IsChunk}
use Rattle.pq_files.specs.Levels.{HasLevels}
use Rattle.pq_files.specs.Page.{dictionary, delta, IsPage}
use Rattle.pq_files.specs.Prefixes.{BeginsDelta, BeginsValues}
use Rattle.pq_files.specs.Stored.{AreStored}
use Rattle.pq_files.specs.Statistics.{IsUpTo, IsBoundText, IsBound}
use Rattle.pq_files.specs.WorkedLayout.{options, target, ab, a, bounds, IsOfTexts, of_texts, statistics_text, header_text, entries_text, indices_text, seven as the_seven, indices_header, indexed, flat_leaf, cut_deltas, AreLaid}
use Rattle.pq_files.specs.Written.{i32, statistics_of, statistics_value, page_value_2}
use Rattle.pq_files.specs.WrittenExample.{out_page, out_chunk}
use Rattle.pq_files.proofs.FirstFile.{spelled}
use Rattle.pq_files.proofs.Unique.{Every, every}
use Rattle.pq_files.proofs.Worked.{seven, less_two, size_128}

-- ---- layout

are_stored : AreStored (signed 32) int32 (column way rows) triples
unfolding shred
are_stored = (
  record { repetition = refl; definition = refl; «value» = (omega arith, omega arith, refl) },
  (
    record { repetition = refl; definition = refl; «value» = (omega arith, omega arith, refl) },
    (record { repetition = refl; definition = refl; «value» = tt }, (record { repetition = refl; definition = refl; «value» = tt }, (record { repetition = refl; definition = refl; «value» = tt }, tt))),
  ),
)

laid : IsLaid options target rows out_chunk
unfolding shred
laid = record { stored = triples; are_stored = are_stored; entries = tt; pages = (record { triples = are_stored; encoding = refl; statistics = tt }, tt); statistics = tt }

-- ---- statistics

ascii : (s : List ℕ) → Every (λ b. b < 128) s → IsUtf8 s
ascii s h = IsUtf8-from_ascii s (IsAscii-from_all s (All-from_recursion (λ b. b < 128) s h))

is_a : IsBound text byte_array (97 ∷ []) a
is_a = record { stored = a; is_stored = (ascii (97 ∷ []) (omega arith, tt), refl); spells = refl }

is_ab : IsBound text byte_array (97 ∷ 98 ∷ []) ab
is_ab = record { stored = ab; is_stored = (ascii (97 ∷ 98 ∷ []) (omega arith, (omega arith, tt)), refl); spells = refl }

counted : IsOfTexts (record { null_count = 1; bounds = bounds (97 ∷ 98 ∷ []) })
counted =
    record {
      null_count = refl;
      bounds =
          record {
            low = a;
            has_low = (1, omega arith, refl);
            is_low = All-from_recursion (λ v. IsUpTo a v) (ab ∷ a ∷ []) (inr (refl, tt), (inr (refl, tt), tt));
            low_text = is_a;
            high = ab;
            has_high = (0, omega arith, refl);
            is_high = All-from_recursion (λ v. IsUpTo v ab) (ab ∷ a ∷ []) (inr (refl, inr (refl, tt)), (inr (refl, tt), tt));
            high_text = is_ab;
          };
    }

greatest_wrong : ¬ IsOfTexts (record { null_count = 1; bounds = bounds (97 ∷ []) })
greatest_wrong st = go st.bounds.high st.bounds.high_text (every (λ v. IsUpTo v st.bounds.high) (ab ∷ a ∷ []) st.bounds.is_high).0
  where
    longer : (t : List ℕ) → 97 ∷ [] ≡ t → IsUpTo ab (bytes t) → ⊥
    longer t e u = past (subst (λ (s : List ℕ). IsUpTo ab (bytes s)) (sym e) u)
      where
        past : IsUpTo ab (bytes (97 ∷ [])) → ⊥
        past (inl l) = omega (arith, l)
        past (inr h) = h.1

    go : (v : Value) → IsBound text byte_array (97 ∷ []) v → IsUpTo ab v → ⊥
    go (truth b) h u = u
    go (number z) h u = u
    go (bytes t) h u = longer t (subst (λ (r : Value). IsBoundText byte_array (97 ∷ []) r) h.is_stored.1 h.spells) u

nulls_wrong : ¬ IsOfTexts (record { null_count = 0; bounds = bounds (97 ∷ 98 ∷ []) })
nulls_wrong st = omega (arith, st.null_count)

-- ---- Thrift values

statistics_fields : Fields
statistics_fields = field (pos 3) (int64 (pos 1)) (field (pos 5) (binary (97 ∷ 98 ∷ [])) (field (pos 6) (binary (97 ∷ [])) no_fields))

statistics_read : struct_at 127 statistics_text ≡ Ok (statistics_fields, [])
unfolding statistics_fields varint_up_to signed_at binary_at list_head_at field_head_at values_at fields_at list_with struct_with value_at
statistics_read = refl

statistics_are : Spells statistics_text (statistics_value (statistics_of of_texts))
unfolding statistics_fields
statistics_are = spelled statistics_text statistics_fields statistics_read

header_fields : Fields
header_fields = field (pos 1) (i32 3) (field (pos 2) (i32 13) (field (pos 3) (i32 13) (field (pos 8) (struct (field (pos 1) (i32 5) (field (pos 2) (i32 3) (field (pos 3) (i32 4) (field (pos 4) (i32 0) (field (pos 5) (i32 3) (field (pos 6) (i32 2) (field (pos 7) (truth_of false) no_fields)))))))) no_fields)))

header_read : struct_at 127 header_text ≡ Ok (header_fields, [])
unfolding header_fields varint_up_to signed_at binary_at list_head_at field_head_at values_at fields_at list_with struct_with value_at
header_read = refl

header_is : Spells header_text (page_value_2 out_page 13 3 2)
unfolding header_fields shred
header_is = spelled header_text header_fields header_read

-- ---- a dictionary page

entries_fields : Fields
entries_fields = field (pos 1) (i32 2) (field (pos 2) (i32 4) (field (pos 3) (i32 4) (field (pos 7) (struct (field (pos 1) (i32 1) (field (pos 2) (i32 0) no_fields))) no_fields)))

entries_read : struct_at 127 (take 13 entries_text) ≡ Ok (entries_fields, [])
unfolding entries_fields varint_up_to signed_at binary_at list_head_at field_head_at values_at fields_at list_with struct_with value_at
entries_read = refl

entries_page : RawPage
entries_page = record { header = dictionary_page (record { num_values = 1; encoding = pos 0 }); body = 7 ∷ 0 ∷ 0 ∷ 0 ∷ [] }

entries_are : IsPageText entries_text entries_page
unfolding entries_fields entries_page
entries_are =
    record {
      head = take 13 entries_text;
      «value» = struct entries_fields;
      spells = spelled (take 13 entries_text) entries_fields entries_read;
      nests = omega arith;
      is_header = record { header = (refl, _, refl, record { num_values = refl; encoding = refl }); uncompressed = (Some (pos 4), refl); size = refl };
      parts = refl;
    }

indices_fields : Fields
indices_fields = field (pos 1) (i32 0) (field (pos 2) (i32 1) (field (pos 3) (i32 1) (field (pos 5) (struct (field (pos 1) (i32 2) (field (pos 2) (i32 8) (field (pos 3) (i32 3) (field (pos 4) (i32 3) no_fields))))) no_fields)))

indices_read : struct_at 127 (take 17 indices_text) ≡ Ok (indices_fields, [])
unfolding indices_fields varint_up_to signed_at binary_at list_head_at field_head_at values_at fields_at list_with struct_with value_at
indices_read = refl

indices_page : RawPage
indices_page = record { header = indices_header; body = 0 ∷ [] }

indices_are : IsPageText indices_text indices_page
unfolding indices_fields indices_page
indices_are =
    record {
      head = take 17 indices_text;
      «value» = struct indices_fields;
      spells = spelled (take 17 indices_text) indices_fields indices_read;
      nests = omega arith;
      is_header = record { header = (refl, _, refl, record { num_values = refl; encoding = refl; definition_encoding = refl; repetition_encoding = refl }); uncompressed = (Some (pos 1), refl); size = refl };
      parts = refl;
    }

-- levels of no bits, which no section has
no_levels : HasLevels 0 [] (0 ∷ 0 ∷ [])
no_levels = record { width = 0; is_width = record { holds = omega arith; least = λ v h. omega arith }; runs = record { text = []; rest = []; parts = refl; spells = no_bits 2 refl }; within = All-from_recursion (λ level. level ≤ 0) (0 ∷ 0 ∷ []) (omega arith, (omega arith, tt)) }

two_sevens : List Triple
two_sevens = record { repetition = 0; definition = 0; «value» = Some the_seven } ∷ record { repetition = 0; definition = 0; «value» = Some the_seven } ∷ []

is_indexed_page : IsPage flat_leaf (Some (the_seven ∷ [])) indices_header (0 ∷ []) two_sevens
unfolding two_sevens
is_indexed_page =
    record {
      sections = record { repetition = []; definition = []; values = 0 ∷ [] };
      split = record { behind = 0 ∷ []; repetition = (refl, refl); definition = (refl, refl) };
      runs = (tt, tt);
      repetitions = no_levels;
      definitions = no_levels;
      present = All-from_recursion (λ t. is_some t.value ≡ nat_eq t.definition 0) (record { repetition = 0; definition = 0; «value» = Some the_seven } ∷ record { repetition = 0; definition = 0; «value» = Some the_seven } ∷ []) (refl, (refl, tt));
      encoding = dictionary;
      has_encoding = refl;
      values = record { text = 0 ∷ []; rest = []; parts = refl; spells = (λ e. cc e, (0 ∷ 0 ∷ [], (omega arith, no_bits 2 refl), (refl, (refl, tt)))) };
      counted = refl;
      begins_row = refl;
    }

indexed_is : IsChunk flat_leaf 2 (entries_text ++ indices_text) indexed
unfolding entries_page indices_page two_sevens
indexed_is =
    record {
      dictionary = Some entries_page;
      pages = indices_page ∷ [];
      has = record { behind = indices_text; starts = (entries_text, entries_are, tt, omega arith, refl); surplus = []; are = page 0 0 indices_text [] [] indices_page [] indices_are tt (omega arith) (here 0 []) };
      holds = record { entries = (refl, inl refl, record { text = 7 ∷ 0 ∷ 0 ∷ 0 ∷ []; rest = []; parts = refl; spells = (7 ∷ 0 ∷ 0 ∷ 0 ∷ [], [], (refl, refl), refl, refl) }); are = (record { header = refl; is = is_indexed_page }, tt) };
    }

-- ---- a cut section

five : Blocks true 4 32 (3 ∷ 2 ∷ 0 ∷ 0 ∷ 0 ∷ 192 ∷ []) (negsuc 1 ∷ negsuc 1 ∷ negsuc 1 ∷ pos 1 ∷ [])
five =
    block (3 ∷ []) (2 ∷ 0 ∷ 0 ∷ 0 ∷ []) (192 ∷ []) [] (negsuc 1) (unpacked 2 4 (192 ∷ [])) [] less_two refl (omega arith)
    (last 2 4 (0 ∷ 0 ∷ 0 ∷ []) (192 ∷ []) (omega arith) (omega arith) (omega arith) (omega arith) (omega arith) (inl refl))
    (inl refl) Blocks.no_more

five_deltas : IsDelta w32 true (128 ∷ 1 ∷ 4 ∷ 5 ∷ 14 ∷ 3 ∷ 2 ∷ 0 ∷ 0 ∷ 0 ∷ 192 ∷ []) (pos 7 ∷ pos 5 ∷ pos 3 ∷ pos 1 ∷ pos 2 ∷ [])
five_deltas =
    record {
      size = 128;
      miniblocks = 4;
      count = 5;
      first = pos 7;
      size_text = 128 ∷ 1 ∷ [];
      miniblocks_text = 4 ∷ [];
      count_text = 5 ∷ [];
      first_text = 14 ∷ [];
      body = 3 ∷ 2 ∷ 0 ∷ 0 ∷ 0 ∷ 192 ∷ [];
      parts = refl;
      has_size = size_128;
      has_miniblocks = one_byte 4 (omega arith);
      has_count = one_byte 5 (omega arith);
      has_first = seven;
      size_fits = (omega arith, refl);
      n = 32;
      divides = refl;
      n_fits = (omega arith, refl);
      counts = refl;
      deltas = negsuc 1 ∷ negsuc 1 ∷ negsuc 1 ∷ pos 1 ∷ [];
      blocks = five;
      are = refl;
    }

begins : BeginsDelta w32 true 8 cut_deltas (pos 7 ∷ pos 5 ∷ pos 3 ∷ pos 1 ∷ pos 2 ∷ [])
unfolding five_deltas
begins =
    record {
      front = 128 ∷ 1 ∷ 4 ∷ [];
      count = 8 ∷ [];
      behind = 14 ∷ 3 ∷ 2 ∷ 0 ∷ 0 ∷ 0 ∷ 192 ∷ [];
      parts = refl;
      says = one_byte 8 (omega arith);
      few = omega arith;
      own = 5 ∷ [];
      is_delta = five_deltas;
      is_front = refl;
      is_own = refl;
    }

five_of_eight : BeginsValues delta flat_leaf None 8 cut_deltas (map (λ n. number (pos n)) (7 ∷ 5 ∷ 3 ∷ 1 ∷ 2 ∷ []))
five_of_eight = inl (refl, record { text = cut_deltas; rest = []; parts = refl; spells = (pos 7 ∷ pos 5 ∷ pos 3 ∷ pos 1 ∷ pos 2 ∷ [], begins, refl) })

pub are_laid : AreLaid
are_laid = record { laid = laid; counted = counted; greatest_wrong = greatest_wrong; nulls_wrong = nulls_wrong; statistics_are = statistics_are; header_is = header_is; indexed_is = indexed_is; five_of_eight = five_of_eight }
