-- The file that is written for the first file is packed.
use Rattle.std.proofs.Common.{◌≡◌, ℕ, pos, [], ◌∷◌, ◌++◌, Some, None, Ok, is_some, nat_eq, refl, arith, ◌<◌}
use Rattle.std.proofs.lemmas.List.Elements.{All-from_recursion}
use Rattle.std.specs.Str.{IsUtf8}
use Rattle.std.proofs.lemmas.Str.{IsUtf8-from_ascii}
use Rattle.std.proofs.lemmas.Str.Ascii.{IsAscii-from_all}
use Rattle.pq_numbers.specs.Varint.{varint_up_to, digits}
use Rattle.pq_thrift.specs.Grammar.{Spells}
use Rattle.pq_thrift.specs.Reading.{list_head_at, field_head_at, values_at, fields_at, list_with, struct_with, struct_at, value_at}
use Rattle.pq_thrift.specs.Numbers.{signed_at, binary_at}
use Rattle.pq_thrift.specs.Spelling.{list_head, field_head}
use Rattle.pq_thrift.specs.Written.{IsWritten}
use Rattle.pq_thrift.specs.Value.{int16, int32, int64, binary, list, struct, no_values, value, Fields, no_fields, field}
use Rattle.shredding.specs.Shred.{shred}
use Rattle.pq_tree.specs.declared.version.Version.TheVariants.{V1}
use Rattle.pq_metadata.specs.Footer.{SpellsTree}
use Rattle.pq_tree.specs.Physical.{int32 as p_int32}
use Rattle.pq_tree.specs.Tree.{Leaf}
use Rattle.pq_tree.specs.Types.{optional, repeated}
use Rattle.pq_files.specs.FirstFile.{head, body, node, triples}
use Rattle.pq_files.specs.WrittenExample.{footer, file, out_groups, schema, list_node, out_page, out_chunk, IsPacked}
use Rattle.pq_runs.specs.WrittenRuns.{last_groups}
use Rattle.pq_files.specs.Packed.{AreLevels, IsWrittenPage, IsWrittenChunk, triples_out, IsKeyText, IsWrittenFile}
use Rattle.pq_files.specs.Page.{plain, rows_in}
use Rattle.pq_files.specs.Written.{Place, elements_of}
use Rattle.pq_files.proofs.FirstFile.{spelled, head_fields, head_spelled, header, one_bit, two_bits, repetitions, definitions, utf8_a, utf8_list, utf8_element, raw}
use Rattle.pq_files.proofs.WrittenFile.{is_packed as written_is_packed}

-- ---- the footer

unfoldable pub footer_fields : Fields
footer_fields = field (pos 1) (int32 (pos 1)) (field (pos 2) (list 12 (value (struct (field (pos 4) (binary (114 ∷ 111 ∷ 111 ∷ 116 ∷ [])) (field (pos 5) (int32 (pos 1)) no_fields))) (value (struct (field (pos 3) (int32 (pos 1)) (field (pos 4) (binary (97 ∷ [])) (field (pos 5) (int32 (pos 1)) (field (pos 6) (int32 (pos 3)) (field (pos 10) (struct (field (pos 3) (struct no_fields) no_fields)) no_fields)))))) (value (struct (field (pos 3) (int32 (pos 2)) (field (pos 4) (binary (108 ∷ 105 ∷ 115 ∷ 116 ∷ [])) (field (pos 5) (int32 (pos 1)) no_fields)))) (value (struct (field (pos 1) (int32 (pos 1)) (field (pos 3) (int32 (pos 1)) (field (pos 4) (binary (101 ∷ 108 ∷ 101 ∷ 109 ∷ 101 ∷ 110 ∷ 116 ∷ [])) no_fields)))) no_values))))) (field (pos 3) (int64 (pos 4)) (field (pos 4) (list 12 (value (struct (field (pos 1) (list 12 (value (struct (field (pos 2) (int64 (pos 4)) (field (pos 3) (struct (field (pos 1) (int32 (pos 1)) (field (pos 2) (list 5 (value (int32 (pos 0)) (value (int32 (pos 3)) no_values))) (field (pos 3) (list 8 (value (binary (97 ∷ [])) (value (binary (108 ∷ 105 ∷ 115 ∷ 116 ∷ [])) (value (binary (101 ∷ 108 ∷ 101 ∷ 109 ∷ 101 ∷ 110 ∷ 116 ∷ [])) no_values)))) (field (pos 4) (int32 (pos 0)) (field (pos 5) (int64 (pos 5)) (field (pos 6) (int64 (pos 38)) (field (pos 7) (int64 (pos 38)) (field (pos 9) (int64 (pos 4)) no_fields))))))))) no_fields))) no_values)) (field (pos 2) (int64 (pos 38)) (field (pos 3) (int64 (pos 4)) (field (pos 5) (int64 (pos 4)) (field (pos 6) (int64 (pos 38)) (field (pos 7) (int16 (pos 0)) no_fields))))))) no_values)) (field (pos 6) (binary (65 ∷ 114 ∷ 114 ∷ 111 ∷ 119 ∷ 50 ∷ 32 ∷ 45 ∷ 32 ∷ 78 ∷ 97 ∷ 116 ∷ 105 ∷ 118 ∷ 101 ∷ 32 ∷ 82 ∷ 117 ∷ 115 ∷ 116 ∷ 32 ∷ 105 ∷ 109 ∷ 112 ∷ 108 ∷ 101 ∷ 109 ∷ 101 ∷ 110 ∷ 116 ∷ 97 ∷ 116 ∷ 105 ∷ 111 ∷ 110 ∷ 32 ∷ 111 ∷ 102 ∷ 32 ∷ 65 ∷ 114 ∷ 114 ∷ 111 ∷ 119 ∷ [])) (field (pos 7) (list 12 (value (struct (field (pos 1) (struct no_fields) no_fields)) no_values)) no_fields)))))

footer_read : struct_at 127 footer ≡ Ok (footer_fields, [])
unfolding footer_fields varint_up_to signed_at binary_at list_head_at field_head_at values_at fields_at list_with struct_with value_at
footer_read = refl

pub footer_spelled : Spells footer (struct footer_fields)
footer_spelled = spelled footer footer_fields footer_read

-- ---- without padding

pub head_written : IsWritten head (struct head_fields)
unfolding head_fields digits list_head field_head
head_written = record { exact = refl; spells = head_spelled }

pub footer_written : IsWritten footer (struct footer_fields)
unfolding footer_fields digits list_head field_head
footer_written = record { exact = refl; spells = footer_spelled }

-- ---- the tree

utf8_root : IsUtf8 (114 ∷ 111 ∷ 111 ∷ 116 ∷ [])
utf8_root = IsUtf8-from_ascii (114 ∷ 111 ∷ 111 ∷ 116 ∷ []) (IsAscii-from_all (114 ∷ 111 ∷ 111 ∷ 116 ∷ []) (All-from_recursion (λ b. b < 128) (114 ∷ 111 ∷ 111 ∷ 116 ∷ []) (omega arith, (omega arith, (omega arith, (omega arith, tt))))))

tree_is : SpellsTree (elements_of schema) schema
unfolding raw
tree_is =
    record {
      first = _;
      others = _;
      parts = refl;
      root = (
        raw None None None (114 ∷ 111 ∷ 111 ∷ 116 ∷ []) (Some (pos 1)) None,
        record { type = refl; type_length = refl; repetition = refl; name = refl; text = utf8_root; num_children = refl; converted = refl; scale = refl; precision = refl; field_id = refl; logical = refl },
        record { is_group = refl; counts = refl; is_named = refl; precision = 0; scale = 0; has_precision = refl; has_scale = refl; annotation = None; logical = refl },
      );
      nodes = (
        (
          record (raw None None (Some (pos 1)) (97 ∷ []) (Some (pos 1)) (Some (pos 3))) { logical = Some (field (pos 3) (struct no_fields) no_fields) },
          record { type = refl; type_length = refl; repetition = refl; name = refl; text = utf8_a; num_children = refl; converted = refl; scale = refl; precision = refl; field_id = refl; logical = refl },
          record { physical = refl; children = refl; name = refl; repetition = refl; id = refl; precision = 0; scale = 0; has_precision = refl; has_scale = refl; converted = refl; logical = refl },
        ),
        (
          (
            raw None None (Some (pos 2)) (108 ∷ 105 ∷ 115 ∷ 116 ∷ []) (Some (pos 1)) None,
            record { type = refl; type_length = refl; repetition = refl; name = refl; text = utf8_list; num_children = refl; converted = refl; scale = refl; precision = refl; field_id = refl; logical = refl },
            record { physical = refl; children = refl; name = refl; repetition = refl; id = refl; precision = 0; scale = 0; has_precision = refl; has_scale = refl; converted = refl; logical = refl },
          ),
          (
            (
              raw (Some (pos 1)) None (Some (pos 1)) (101 ∷ 108 ∷ 101 ∷ 109 ∷ 101 ∷ 110 ∷ 116 ∷ []) None None,
              record { type = refl; type_length = refl; repetition = refl; name = refl; text = utf8_element; num_children = refl; converted = refl; scale = refl; precision = refl; field_id = refl; logical = refl },
              record { physical = refl; children = refl; name = refl; repetition = refl; id = refl; precision = 0; scale = 0; has_precision = refl; has_scale = refl; converted = refl; logical = refl },
            ),
            tt,
          ),
        ),
      );
    }

-- ---- as it is written

the_leaf : Leaf
the_leaf = record { path = list_node ∷ node (108 ∷ 105 ∷ 115 ∷ 116 ∷ []) repeated None ∷ node (101 ∷ 108 ∷ 101 ∷ 109 ∷ 101 ∷ 110 ∷ 116 ∷ []) optional None ∷ []; physical = p_int32 }

level_1 : AreLevels 1 (3 ∷ 2 ∷ []) (0 ∷ 1 ∷ 0 ∷ 0 ∷ 0 ∷ [])
unfolding digits
level_1 = record { width = 1; is_width = one_bit; runs = last_groups 1 3 (2 ∷ []) (0 ∷ 1 ∷ 0 ∷ 0 ∷ 0 ∷ []) (omega arith) (omega arith) (omega arith) (omega arith) refl refl; within = repetitions.within; none = λ e. absurd (one_not_zero e) }
  where
    one_not_zero : ◌≡◌ {A = ℕ} 1 0 → ⊥
    one_not_zero e = omega (arith, e)

level_3 : AreLevels 3 (3 ∷ 79 ∷ 2 ∷ []) (3 ∷ 3 ∷ 0 ∷ 1 ∷ 2 ∷ [])
unfolding digits
level_3 = record { width = 2; is_width = two_bits; runs = last_groups 1 3 (79 ∷ 2 ∷ []) (3 ∷ 3 ∷ 0 ∷ 1 ∷ 2 ∷ []) (omega arith) (omega arith) (omega arith) (omega arith) refl refl; within = definitions.within; none = λ e. absurd (three_not_zero e) }
  where
    three_not_zero : ◌≡◌ {A = ℕ} 3 0 → ⊥
    three_not_zero e = omega (arith, e)

is_written : IsWrittenPage V1 the_leaf None out_page (head ++ body)
unfolding the_leaf head_fields header shred
is_written =
    record {
      head = head;
      body = body;
      parts = refl;
      definition = 3;
      repetition = 2;
      header = head_written;
      page =
          record {
            sections = record { repetition = 3 ∷ 2 ∷ []; definition = 3 ∷ 79 ∷ 2 ∷ []; values = 1 ∷ 0 ∷ 0 ∷ 0 ∷ 2 ∷ 0 ∷ 0 ∷ 0 ∷ [] };
            split =
                record {
                  behind = 3 ∷ 0 ∷ 0 ∷ 0 ∷ 3 ∷ 79 ∷ 2 ∷ 1 ∷ 0 ∷ 0 ∷ 0 ∷ 2 ∷ 0 ∷ 0 ∷ 0 ∷ [];
                  repetition = (2 ∷ 0 ∷ 0 ∷ 0 ∷ [], refl, refl, refl);
                  definition = (3 ∷ 0 ∷ 0 ∷ 0 ∷ [], refl, refl, refl);
                };
            runs = (refl, refl);
            repetitions = level_1;
            definitions = level_3;
            present = All-from_recursion (λ t. is_some t.value ≡ nat_eq t.definition 3) triples (refl, (refl, (refl, (refl, (refl, tt)))));
            encoding = plain;
            has_encoding = refl;
            values = (1 ∷ 0 ∷ 0 ∷ 0 ∷ [], 2 ∷ 0 ∷ 0 ∷ 0 ∷ [], (refl, refl), (2 ∷ 0 ∷ 0 ∷ 0 ∷ [], [], (refl, refl), refl, refl), refl);
            counted = refl;
            begins_row = refl;
          };
      encoding = refl;
      some = omega arith;
    }

the_place : Place
the_place = record { start = 4; dictionary = 0; size = 38 }

is_written_chunk : IsWrittenChunk V1 the_leaf out_chunk the_place (head ++ body)
unfolding the_place
is_written_chunk = record { dictionary = []; pages = head ++ body; parts = refl; has_dictionary = refl; are = (head ++ body, [], is_written, refl, refl); behind = refl; size = refl; some = omega arith; encoding = All-from_recursion (λ p. p.encoding ≡ plain) (out_page ∷ []) (refl, tt) }

-- ---- the file

is_written_file : IsWrittenFile file schema [] V1 out_groups
unfolding the_place the_leaf footer_fields shred
is_written_file =
    record {
      pages = head ++ body;
      footer = footer;
      size = 159 ∷ 0 ∷ 0 ∷ 0 ∷ [];
      parts = refl;
      four = refl;
      is_size = refl;
      row_groups = _ ∷ [];
      are = (
        head ++ body,
        [],
        _ ∷ [],
        All-from_recursion (λ c. rows_in (triples_out c) ≡ 4) (out_chunk ∷ []) (refl, tt),
        (head ++ body, [], the_place, refl, is_written_chunk, refl, (refl, refl), refl),
        refl,
        (refl, refl),
        refl,
      );
      is_footer = footer_written;
      is_tree = tree_is;
      are_keys = All-from_recursion IsKeyText [] tt;
    }

pub is_packed : IsPacked
is_packed = record { size = refl; packed = written_is_packed file schema [] V1 out_groups is_written_file }
