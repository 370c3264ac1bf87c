use Rattle.std.proofs.Common.{◌≡◌, ℕ, List, refl, sym, inr, subst, rules, SFits, w32, w64, to_z-of_z}
use Rattle.std.specs.Prelude.{Option, option_map, string_bytes, IfSome, IsUtf8}
use Rattle.std.proofs.lemmas.Result.{err_from_is_err_and}
use Rattle.std.specs.Option.{option_copied}
use Rattle.pq_thrift.specs.Value.{Value, binary, view, fields_view}
use Rattle.pq_metadata.specs.Footer.{ChunkMeta, SpellsChunk, SaysStatistics}
use Rattle.pq_metadata.specs.Ids.{Holds}
use Rattle.pq_tree.specs.Views.{statistics_view}
use Rattle.pq_container.proofs.Eachs.{struct_is}
use Rattle.pq_container.proofs.Parts.{place_none, numbers_none}
use Rattle.pq_container.proofs.chunks.chunk_from.Goals as goal

pub returns-in_err-file_path-clause-refused : goal.returns-in_err-file_path-clause-refused
returns-in_err-file_path-clause-refused c =
    let p = err_from_is_err_and c.from_residual.result c.from_residual.ensures.1 in
    rw (p.1, p.2) (inr (refl, place_none (view c.args.value.now) (fields_view c.in-Some.fields.now) c.in-Some.ensures c.in_err-file_path.ensures.refused))

pub returns-in_err-column-clause-refused : goal.returns-in_err-column-clause-refused
returns-in_err-column-clause-refused c =
    let p = err_from_is_err_and c.from_residual-in_err-column.result c.from_residual-in_err-column.ensures.1 in
    rw (p.1, p.2) (inr (refl, numbers_none (view c.args.value.now) (fields_view c.in-Some.fields.now) (fields_view c.in_ok-file_path.metadata.now) (option_copied c.in_ok-file_path.file_path) c.in-Some.ensures c.in_ok-file_path.ensures.found c.in_err-column.ensures.refused))

pub returns-clause-found : goal.returns-clause-found
returns-clause-found c =
    let place = c.in_ok-file_path.ensures.found in
    let column = c.in_ok-column.ensures.found in
    let metadata = fields_view c.in_ok-file_path.metadata.now in
    let physical_fits : SFits w32 c.in_ok-column.column.physical_type = search rules in
    let codec_fits : SFits w32 c.in_ok-column.column.codec = search rules in
    let values_fits : SFits w64 c.in_ok-column.column.num_values = search rules in
    let size_fits : SFits w64 c.in_ok-column.column.total_compressed_size = search rules in
    let page_fits : SFits w64 c.in_ok-column.column.data_page_offset = search rules in
    let same : option_map string_bytes c.in_ok-owned_text.field-0 ≡ option_copied c.in_ok-file_path.file_path = c.in_ok-owned_text.ensures.same in
    let chunk : ChunkMeta = record {
      file_path = option_map string_bytes c.in_ok-owned_text.field-0;
      physical = c.in_ok-column.column.physical_type;
      codec = c.in_ok-column.column.codec;
      num_values = c.in_ok-column.column.num_values;
      size = c.in_ok-column.column.total_compressed_size;
      data_page = c.in_ok-column.column.data_page_offset;
      dictionary_page = c.in_ok-column.column.dictionary_page_offset;
      statistics = option_map statistics_view c.in_ok-statistics.statistics;
    } in
    simp to_z-of_z
    (subst
    (λ (v : Value). SpellsChunk v chunk)
    (sym (struct_is (view c.args.value.now) (fields_view c.in-Some.fields.now) c.in-Some.ensures))
    record {
      file_path = subst (λ (o : Option (List ℕ)). Holds binary 1 (fields_view c.in-Some.fields.now) o) (sym same) place.file_path;
      text = subst (λ (o : Option (List ℕ)). IfSome o IsUtf8) (sym same) place.text;
      offset = place.offset;
      metadata = metadata;
      has_metadata = place.has_metadata;
      plain_keys = place.plain_keys;
      plain_metadata = place.plain_metadata;
      is =
          record {
            physical = column.physical;
            encodings = column.encodings;
            path = column.path;
            codec = column.codec;
            num_values = column.num_values;
            uncompressed = column.uncompressed;
            size = column.size;
            data_page = column.data_page;
            dictionary_page = column.dictionary_page;
            statistics = subst (λ (o : Option Value). SaysStatistics o (option_map statistics_view c.in_ok-statistics.statistics)) c.last_with.ensures c.in_ok-statistics.ensures.found;
          };
    })
