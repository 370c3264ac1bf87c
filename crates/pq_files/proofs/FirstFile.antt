-- The first file carries its rows.
use Rattle.std.proofs.Common.{◌≡◌, ℕ, zero, suc, ◌^◌, ◌<◌, ◌≤◌, pos, List, [], ◌∷◌, ◌++◌, length, Option, Some, None, Ok, is_some, nat_eq, refl, sym, subst, ◌∙◌, inl, arith, ℤ}
use Rattle.std.proofs.lemmas.List.Elements.{All-from_recursion}
use Rattle.std.proofs.lemmas.List.{append-nil}
use Rattle.std.specs.Str.{IsUtf8}
use Rattle.std.proofs.lemmas.Str.{IsUtf8-from_ascii}
use Rattle.std.proofs.lemmas.Str.Ascii.{IsAscii-from_all}
use Rattle.pq_numbers.specs.Varint.{IsNumber}
use Rattle.pq_thrift.specs.Grammar.{AreFields, Spells}
use Rattle.pq_thrift.specs.Reading.{list_head_at, field_head_at, values_at, fields_at, list_with, struct_with, struct_at, value_at}
use Rattle.pq_numbers.specs.Varint.{varint_up_to}
use Rattle.pq_thrift.specs.Numbers.{signed_at, binary_at}
use Rattle.pq_thrift.specs.Value.{int32, int64, binary, list, struct, no_values, value, Fields, no_fields, field}
use Rattle.pq_thrift.proofs.Takes.{struct_takes}
use Rattle.shredding.specs.Shred.{shred}
use Rattle.pq_numbers.specs.Bits.{IsWidth, unpacked}
use Rattle.pq_runs.specs.Runs.{Runs, last_groups}
use Rattle.pq_tree.specs.Tree.{columns_of}
use Rattle.pq_metadata.specs.Header.{Header, data_page, SpellsHeader}
use Rattle.pq_metadata.specs.Footer.{Footer, ChunkMeta, GroupMeta, HasFooter}
use Rattle.pq_files.specs.Levels.{HasLevels}
use Rattle.pq_metadata.specs.Elements.{RawElement}
use Rattle.pq_files.specs.Page.{IsPage, plain, rows_in}
use Rattle.pq_files.specs.Chunk.{Chunk, RawPage, here, page, IsData, IsPageText, IsChunk, triples_of}
use Rattle.pq_files.specs.Carried.{HoldsPages, GroupPages, IsGroup, IsChunkOf}
use Rattle.pq_files.specs.FirstFile.{head, body, footer, file, schema, the_leaf, triples, IsCarried}

-- ---- what a reader takes whole is spelled

pub spelled : (bytes : List ℕ) (fs : Fields) → struct_at 127 bytes ≡ Ok (fs, []) → Spells bytes (struct fs)
spelled bytes fs e =
    let took = struct_takes 127 bytes fs [] e in
    (refl, subst (λ (t : List ℕ). AreFields fs (pos 0) t) (sym (took.parts ∙ append-nil took.text)) took.spells.0)

-- ---- texts

unfoldable pub head_fields : Fields
head_fields = field (pos 1) (int32 (pos 0)) (field (pos 2) (int32 (pos 21)) (field (pos 3) (int32 (pos 21)) (field (pos 5) (struct (field (pos 1) (int32 (pos 5)) (field (pos 2) (int32 (pos 0)) (field (pos 3) (int32 (pos 3)) (field (pos 4) (int32 (pos 3)) no_fields))))) no_fields)))

-- with so many rows in the group
unfoldable pub footer_fields : ℕ → Fields
footer_fields n = field (pos 1) (int32 (pos 1)) (field (pos 2) (list 12 (value (struct (field (pos 4) (binary (114 ∷ [])) (field (pos 5) (int32 (pos 1)) no_fields))) (value (struct (field (pos 3) (int32 (pos 1)) (field (pos 4) (binary (97 ∷ [])) (field (pos 5) (int32 (pos 1)) (field (pos 6) (int32 (pos 3)) no_fields))))) (value (struct (field (pos 3) (int32 (pos 2)) (field (pos 4) (binary (108 ∷ 105 ∷ 115 ∷ 116 ∷ [])) (field (pos 5) (int32 (pos 1)) no_fields)))) (value (struct (field (pos 1) (int32 (pos 1)) (field (pos 3) (int32 (pos 1)) (field (pos 4) (binary (101 ∷ 108 ∷ 101 ∷ 109 ∷ 101 ∷ 110 ∷ 116 ∷ [])) no_fields)))) no_values))))) (field (pos 3) (int64 (pos 4)) (field (pos 4) (list 12 (value (struct (field (pos 1) (list 12 (value (struct (field (pos 2) (int64 (pos 4)) (field (pos 3) (struct (field (pos 1) (int32 (pos 1)) (field (pos 2) (list 5 (value (int32 (pos 0)) (value (int32 (pos 3)) no_values))) (field (pos 3) (list 8 (value (binary (97 ∷ [])) (value (binary (108 ∷ 105 ∷ 115 ∷ 116 ∷ [])) (value (binary (101 ∷ 108 ∷ 101 ∷ 109 ∷ 101 ∷ 110 ∷ 116 ∷ [])) no_values)))) (field (pos 4) (int32 (pos 0)) (field (pos 5) (int64 (pos 5)) (field (pos 6) (int64 (pos 38)) (field (pos 7) (int64 (pos 38)) (field (pos 9) (int64 (pos 4)) no_fields))))))))) no_fields))) no_values)) (field (pos 2) (int64 (pos 38)) (field (pos 3) (int64 (pos n)) no_fields)))) no_values)) no_fields)))

pub head_read : struct_at 127 head ≡ Ok (head_fields, [])
unfolding head_fields varint_up_to signed_at binary_at list_head_at field_head_at values_at fields_at list_with struct_with value_at
head_read = refl

pub footer_read : struct_at 127 footer ≡ Ok (footer_fields 4, [])
unfolding footer_fields varint_up_to signed_at binary_at list_head_at field_head_at values_at fields_at list_with struct_with value_at
footer_read = refl

pub head_spelled : Spells head (struct head_fields)
head_spelled = spelled head head_fields head_read

pub footer_spelled : Spells footer (struct (footer_fields 4))
footer_spelled = spelled footer (footer_fields 4) footer_read

-- ---- the header

unfoldable pub header : Header
header = data_page (record { num_values = 5; encoding = pos 0; definition_encoding = Some (pos 3); repetition_encoding = Some (pos 3) })

pub header_is : SpellsHeader (struct head_fields) (record { header = header; size = length body })
unfolding head_fields header
header_is =
    record {
      header = (refl, _, refl, record { num_values = refl; encoding = refl; definition_encoding = refl; repetition_encoding = refl });
      uncompressed = (Some (pos 21), refl);
      size = refl;
    }

unfoldable pub the_page : RawPage
the_page = record { header = header; body = body }

pub is_page_text : IsPageText (head ++ body) the_page
unfolding head_fields the_page
is_page_text = record { head = head; value = struct head_fields; spells = head_spelled; nests = omega arith; is_header = header_is; parts = refl }

-- ---- the page

pub three : IsNumber (3 ∷ []) 3
three = record { digits = inl (omega arith, refl, refl); short = omega arith; below = omega arith }

-- eight numbers of w bits in w bytes, of which five are needed
pub five_of : (w : ℕ) (text : List ℕ) → length text ≡ w → 0 < w → Runs w ((3 ∷ []) ++ text) (unpacked w 5 text)
five_of w text e h = last_groups 1 5 (3 ∷ []) text three (omega arith) (omega arith) (omega (arith, e)) (omega (arith, e))

pub one_bit : IsWidth 1 1
one_bit = record { holds = omega arith; least = least }
  where
    least : (v : ℕ) → 1 < 2 ^ v → 1 ≤ v
    least zero h = omega (arith, h)
    least (suc v) h = omega arith

pub two_bits : IsWidth 3 2
two_bits = record { holds = omega arith; least = least }
  where
    least : (v : ℕ) → 3 < 2 ^ v → 2 ≤ v
    least zero h = omega (arith, h)
    least (suc zero) h = omega (arith, h)
    least (suc (suc v)) h = omega arith

pub repetitions : HasLevels 1 (3 ∷ 2 ∷ []) (0 ∷ 1 ∷ 0 ∷ 0 ∷ 0 ∷ [])
repetitions =
    record {
      width = 1;
      is_width = one_bit;
      runs = record { text = 3 ∷ 2 ∷ []; rest = []; parts = refl; spells = five_of 1 (2 ∷ []) refl (omega arith) };
      within = All-from_recursion (λ level. level ≤ 1) (0 ∷ 1 ∷ 0 ∷ 0 ∷ 0 ∷ []) (omega arith, (omega arith, (omega arith, (omega arith, (omega arith, tt)))));
    }

pub definitions : HasLevels 3 (3 ∷ 79 ∷ 2 ∷ []) (3 ∷ 3 ∷ 0 ∷ 1 ∷ 2 ∷ [])
definitions =
    record {
      width = 2;
      is_width = two_bits;
      runs = record { text = 3 ∷ 79 ∷ 2 ∷ []; rest = []; parts = refl; spells = five_of 2 (79 ∷ 2 ∷ []) refl (omega arith) };
      within = All-from_recursion (λ level. level ≤ 3) (3 ∷ 3 ∷ 0 ∷ 1 ∷ 2 ∷ []) (omega arith, (omega arith, (omega arith, (omega arith, (omega arith, tt)))));
    }

pub is_page : IsPage the_leaf None header body triples
unfolding header shred
is_page =
    record {
      sections = record { repetition = 3 ∷ 2 ∷ []; definition = 3 ∷ 79 ∷ 2 ∷ []; values = 1 ∷ 0 ∷ 0 ∷ 0 ∷ 2 ∷ 0 ∷ 0 ∷ 0 ∷ [] };
      split =
          record {
            behind = 3 ∷ 0 ∷ 0 ∷ 0 ∷ 3 ∷ 79 ∷ 2 ∷ 1 ∷ 0 ∷ 0 ∷ 0 ∷ 2 ∷ 0 ∷ 0 ∷ 0 ∷ [];
            repetition = (2 ∷ 0 ∷ 0 ∷ 0 ∷ [], refl, refl, refl);
            definition = (3 ∷ 0 ∷ 0 ∷ 0 ∷ [], refl, refl, refl);
          };
      runs = (refl, refl);
      repetitions = repetitions;
      definitions = definitions;
      present = All-from_recursion (λ t. is_some t.value ≡ nat_eq t.definition 3) triples (refl, (refl, (refl, (refl, (refl, tt)))));
      encoding = plain;
      has_encoding = refl;
      values =
          record {
            text = 1 ∷ 0 ∷ 0 ∷ 0 ∷ 2 ∷ 0 ∷ 0 ∷ 0 ∷ [];
            rest = [];
            parts = refl;
            spells = (1 ∷ 0 ∷ 0 ∷ 0 ∷ [], 2 ∷ 0 ∷ 0 ∷ 0 ∷ [], (refl, refl), (2 ∷ 0 ∷ 0 ∷ 0 ∷ [], [], (refl, refl), refl, refl), refl);
          };
      counted = refl;
      begins_row = refl;
    }

unfoldable pub the_chunk : Chunk
the_chunk = record { entries = None; pages = record { header = header; triples = triples } ∷ [] }

pub is_data : IsData header
unfolding header
is_data = tt

pub is_chunk : IsChunk the_leaf 5 (head ++ body) the_chunk
unfolding the_chunk the_page shred header
is_chunk =
    record {
      dictionary = None;
      pages = the_page ∷ [];
      has = record { behind = head ++ body; starts = refl; surplus = []; are = page 0 0 (head ++ body) [] [] the_page [] is_page_text is_data (omega arith) (here 0 []) };
      holds = record { entries = tt; are = (record { header = refl; is = is_page }, tt) };
    }

-- ---- the footer

unfoldable pub the_meta : ChunkMeta
the_meta = record { file_path = None; physical = pos 1; codec = pos 0; num_values = pos 5; size = pos 38; data_page = pos 4; dictionary_page = None; statistics = None }

unfoldable pub the_group_meta : ℕ → GroupMeta
the_group_meta n = record { chunks = the_meta ∷ []; num_rows = pos n }

pub utf8_r : IsUtf8 (114 ∷ [])
utf8_r = IsUtf8-from_ascii (114 ∷ []) (IsAscii-from_all (114 ∷ []) (All-from_recursion (λ b. b < 128) (114 ∷ []) (omega arith, tt)))

pub utf8_a : IsUtf8 (97 ∷ [])
utf8_a = IsUtf8-from_ascii (97 ∷ []) (IsAscii-from_all (97 ∷ []) (All-from_recursion (λ b. b < 128) (97 ∷ []) (omega arith, tt)))

pub utf8_list : IsUtf8 (108 ∷ 105 ∷ 115 ∷ 116 ∷ [])
utf8_list = IsUtf8-from_ascii (108 ∷ 105 ∷ 115 ∷ 116 ∷ []) (IsAscii-from_all (108 ∷ 105 ∷ 115 ∷ 116 ∷ []) (All-from_recursion (λ b. b < 128) (108 ∷ 105 ∷ 115 ∷ 116 ∷ []) (omega arith, (omega arith, (omega arith, (omega arith, tt))))))

pub utf8_element : IsUtf8 (101 ∷ 108 ∷ 101 ∷ 109 ∷ 101 ∷ 110 ∷ 116 ∷ [])
utf8_element = IsUtf8-from_ascii (101 ∷ 108 ∷ 101 ∷ 109 ∷ 101 ∷ 110 ∷ 116 ∷ []) (IsAscii-from_all (101 ∷ 108 ∷ 101 ∷ 109 ∷ 101 ∷ 110 ∷ 116 ∷ []) (All-from_recursion (λ b. b < 128) (101 ∷ 108 ∷ 101 ∷ 109 ∷ 101 ∷ 110 ∷ 116 ∷ []) (omega arith, (omega arith, (omega arith, (omega arith, (omega arith, (omega arith, (omega arith, tt)))))))))

unfoldable pub raw : Option ℤ → Option ℤ → Option ℤ → List ℕ → Option ℤ → Option ℤ → RawElement
raw type length repetition name children converted =
    record { type = type; type_length = length; repetition = repetition; name = name; num_children = children; converted = converted; scale = None; precision = None; field_id = None; logical = None }

unfoldable pub the_footer : ℕ → Footer
the_footer n = record { schema = schema; groups = the_group_meta n ∷ []; keys = [] }

pub meta_is : (n : ℕ) → HasFooter (footer_fields n) (the_footer n)
unfolding footer_fields the_footer the_group_meta the_meta raw
meta_is n =
    record {
      version = (Some (pos 1), refl);
      kind = 12;
      elements = _;
      has_elements = refl;
      tree =
          record {
            first = _;
            others = _;
            parts = refl;
            root = (
              raw None None None (114 ∷ []) (Some (pos 1)) None,
              record { type = refl; type_length = refl; repetition = refl; name = refl; text = utf8_r; num_children = refl; converted = refl; scale = refl; precision = refl; field_id = refl; logical = refl },
              record { is_group = refl; counts = refl; is_named = refl; precision = 0; scale = 0; has_precision = refl; has_scale = refl; annotation = None; logical = refl },
            );
            nodes = (
              (
                raw None None (Some (pos 1)) (97 ∷ []) (Some (pos 1)) (Some (pos 3)),
                record { type = refl; type_length = refl; repetition = refl; name = refl; text = utf8_a; num_children = refl; converted = refl; scale = refl; precision = refl; field_id = refl; logical = refl },
                record { physical = refl; children = refl; name = refl; repetition = refl; id = refl; precision = 0; scale = 0; has_precision = refl; has_scale = refl; converted = refl; logical = refl },
              ),
              (
                (
                  raw None None (Some (pos 2)) (108 ∷ 105 ∷ 115 ∷ 116 ∷ []) (Some (pos 1)) None,
                  record { type = refl; type_length = refl; repetition = refl; name = refl; text = utf8_list; num_children = refl; converted = refl; scale = refl; precision = refl; field_id = refl; logical = refl },
                  record { physical = refl; children = refl; name = refl; repetition = refl; id = refl; precision = 0; scale = 0; has_precision = refl; has_scale = refl; converted = refl; logical = refl },
                ),
                (
                  (
                    raw (Some (pos 1)) None (Some (pos 1)) (101 ∷ 108 ∷ 101 ∷ 109 ∷ 101 ∷ 110 ∷ 116 ∷ []) None None,
                    record { type = refl; type_length = refl; repetition = refl; name = refl; text = utf8_element; num_children = refl; converted = refl; scale = refl; precision = refl; field_id = refl; logical = refl },
                    record { physical = refl; children = refl; name = refl; repetition = refl; id = refl; precision = 0; scale = 0; has_precision = refl; has_scale = refl; converted = refl; logical = refl },
                  ),
                  tt,
                ),
              ),
            );
          };
      num_rows = (Some (pos 4), refl);
      group_kind = 12;
      groups = _;
      has_groups = refl;
      are = (
        record {
          kind = 12;
          columns = _;
          has_columns = refl;
          are = (
            record {
              file_path = refl;
              text = tt;
              offset = (Some (pos 4), refl);
              metadata = _;
              has_metadata = refl;
              is =
                  record {
                    physical = refl;
                    encodings = (pos 0 ∷ pos 3 ∷ [], (refl, (refl, tt)));
                    path = ((97 ∷ []) ∷ (108 ∷ 105 ∷ 115 ∷ 116 ∷ []) ∷ (101 ∷ 108 ∷ 101 ∷ 109 ∷ 101 ∷ 110 ∷ 116 ∷ []) ∷ [], (refl, (refl, (refl, tt))));
                    codec = refl;
                    num_values = refl;
                    uncompressed = (Some (pos 38), refl);
                    size = refl;
                    data_page = refl;
                    dictionary_page = refl;
                    statistics = refl;
                  };
              plain_keys = refl;
              plain_metadata = refl;
            },
            tt,
          );
          num_rows = refl;
          total = (Some (pos 38), refl);
          offset = (None, refl);
          compressed = (None, refl);
          ordinal = (None, refl);
        },
        tt,
      );
      keys = refl;
      plain = refl;
    }

-- ---- the file

pub the_pages : List GroupPages
the_pages = record { rows = 4; chunks = the_chunk ∷ [] } ∷ []

pub is_chunk_of : IsChunkOf file 42 the_meta the_leaf the_chunk
unfolding the_meta
is_chunk_of =
    record {
      here = inl refl;
      physical = refl;
      codec = refl;
      num_values = 5;
      has_num_values = refl;
      start = 4;
      starts = refl;
      behind_magic = omega arith;
      size = 38;
      has_size = refl;
      before_footer = omega arith;
      text = head ++ body;
      is_there = record { within = omega arith; is = refl };
      is = is_chunk;
    }

pub is_group : IsGroup file 42 (columns_of schema) (the_group_meta 4) 4 (the_chunk ∷ [])
unfolding the_group_meta the_chunk shred
is_group =
    record {
      has_rows = refl;
      are = (is_chunk_of, tt);
      counted = All-from_recursion (λ c. rows_in (triples_of c) ≡ 4) (the_chunk ∷ []) (refl, tt);
    }

pub holds : HoldsPages file schema [] (record { rows = 4; chunks = record { entries = None; pages = record { header = data_page (record { num_values = 5; encoding = pos 0; definition_encoding = Some (pos 3); repetition_encoding = Some (pos 3) }); triples = triples } ∷ [] } ∷ [] } ∷ [])
unfolding the_chunk the_pages the_footer the_group_meta footer_fields header shred
holds =
    record {
      place = 42;
      footer = footer;
      framed = record { pages = head ++ body; size = 95 ∷ 0 ∷ 0 ∷ 0 ∷ []; parts = refl; four = refl; is_size = refl; is_place = refl };
      metas = the_group_meta 4 ∷ [];
      said = record { text = footer; rest = []; parts = refl; spells = (struct (footer_fields 4), footer_spelled, omega arith, meta_is 4) };
      are = (is_group, tt);
    }

pub is_carried : IsCarried
unfolding shred
is_carried = record { size = refl; carried = (_, holds, refl) }
