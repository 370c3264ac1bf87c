use Rattle.std.proofs.Common.{◌≡◌, ◌≤◌, ◌+◌, ◌++◌, ◌∙◌, ℕ, ℤ, List, length, map, pos, option_map, ap, refl, subst, arith, Some, None, Option, w64, w32, to_z, of_z, SFits, rules}
use Rattle.std.proofs.lemmas.Int.{to_z-of_z}
use Rattle.std.proofs.lemmas.List.{length-append}
use Rattle.pq_metadata.specs.Footer.{ChunkStatistics}
use Rattle.pq_files.specs.FooterRecord.{ColumnChunk}
use Rattle.pq_files.specs.Room.{max_count}
use Rattle.pq_files.specs.Written.{Place, encodings_of, encoding_in, statistics_of, pairs_in}
use Rattle.pq_tree.specs.Paths.{names_of}
use Rattle.pq_tree.specs.Physical.{Physical, number_of_physical}
use Rattle.pq_tree.specs.Views.{statistics_view}
use Rattle.std.specs.Prelude.{Bool, cond, is_some, string_bytes}
use Rattle.shredding.specs.Slot.{Value}
use Rattle.write_file.proofs.Encoded.{first_is, all_are}
use Rattle.write_file.proofs.Dictionaries.{few_entries, has_entries, offset_is}
use Rattle.write_file.proofs.Reasons.{both}
use Rattle.write_file.proofs.chunk.push_chunk.Goals as goal

abbrev shape : ℤ → ℤ → List ℤ → List (List ℕ) → ℤ → ℤ → ℤ → ℤ → Option ℤ → Option ChunkStatistics → ColumnChunk
shape start physical encodings path pairs size size' behind dictionary statistics =
    record {
      file_offset = start;
      meta_data = record {
        type = physical;
        encodings = encodings;
        path_in_schema = path;
        codec = pos 0;
        num_values = pairs;
        total_uncompressed_size = size;
        total_compressed_size = size';
        data_page_offset = behind;
        dictionary_page_offset = dictionary;
        statistics = statistics;
      };
    }

pub returns-clause-ok : goal.returns-clause-ok
returns-clause-ok g c = λ version l k physical names begins some.
    let d = c.in-Ok.ensures.page version l k begins in
    let p = c.in-Ok-push_column.ensures.ok version l k d.0 d.1 in
    let first = p.0 in
    let text = first ++ p.1 in
    let w : Place = record { start = c.args.start; dictionary = length first; size = length text } in
    let encoded = c.encoding.ensures version l k d.1 in
    let has : c.is_some-has_dictionary.result ≡ is_some k.entries = c.is_some-has_dictionary.ensures ∙ has_entries l k.entries _ d.0 in
    let end : c.in-Ok-push_column.placed.end ≡ c.args.start + length text = omega (arith, p.5, p.6, length-append first p.1) in
    let fits : SFits w64 c.stated.result = search rules in
    let start : to_z w64 (of_z w64 c.stated.result) ≡ pos c.args.start = to_z-of_z w64 c.stated.result fits ∙ c.stated.ensures in
    let fits_physical : SFits w32 c.number_from.result = search rules in
    let fits_pairs : SFits w64 c.stated-2.result = search rules in
    let fits_size : SFits w64 c.stated-size.result = search rules in
    let fits_behind : SFits w64 c.stated-3.result = search rules in
    let kind : to_z w32 (of_z w32 c.number_from.result) ≡ pos (number_of_physical l.physical) = to_z-of_z w32 c.number_from.result fits_physical ∙ (c.number_from.ensures ∙ ap (λ (x : Physical). pos (number_of_physical x)) physical) in
    let encodings : c.in_ok-encodings.encodings.items ≡ map (λ (n : ℕ). pos n) (encodings_of (encoding_in k.pages) (is_some k.entries)) = c.in_ok-encodings.ensures.ok (encoding_in k.pages) (first_is _ k.pages some encoded) ∙ ap (λ (b : Bool). map (λ (n : ℕ). pos n) (encodings_of (encoding_in k.pages) b)) has in
    let path : map string_bytes c.in_ok-path_in_schema.path_in_schema.items ≡ names_of l = c.in_ok-path_in_schema.ensures.ok ∙ names in
    let pairs : to_z w64 (of_z w64 c.stated-2.result) ≡ pos (pairs_in k) = to_z-of_z w64 c.stated-2.result fits_pairs ∙ (c.stated-2.ensures ∙ ap (λ (n : ℕ). pos n) p.7) in
    let size : to_z w64 (of_z w64 c.stated-size.result) ≡ pos (length text) = to_z-of_z w64 c.stated-size.result fits_size ∙ (c.stated-size.ensures ∙ ap (λ (n : ℕ). pos n) (omega (arith, c.minus.ensures, end))) in
    let behind : to_z w64 (of_z w64 c.stated-3.result) ≡ pos (c.args.start + length first) = to_z-of_z w64 c.stated-3.result fits_behind ∙ (c.stated-3.ensures ∙ ap (λ (n : ℕ). pos n) p.5) in
    let dictionary : c.dictionary_offset.result ≡ option_map (λ (entries : List Value). pos c.args.start) k.entries = c.dictionary_offset.ensures ∙ (ap (λ (b : Bool). cond b (Some (pos c.args.start)) None) has ∙ offset_is c.args.start k.entries) in
    let stated : SFits w64 (pos c.in-Ok-push_column.placed.pairs) = subst (SFits w64) c.stated-2.ensures fits_pairs in
    let counted : pairs_in k ≤ max_count = omega (arith, stated, p.7) in
    let statistics : option_map statistics_view c.in_ok-statistics.statistics ≡ option_map statistics_of k.statistics = c.in_ok-statistics.ensures.ok ∙ c.statistics.ensures version l k begins counted (few_entries l k.entries _ d.0) in (
      text,
      w,
      p.2,
      refl,
      record {
        dictionary = first;
        pages = p.1;
        parts = refl;
        has_dictionary = p.3;
        are = p.4;
        behind = refl;
        size = refl;
        some = some;
        encoding = all_are _ k.pages some encoded;
      },
      λ i. shape (start i) (kind i) (encodings i) (path i) (pairs i) (size i) (size i) (behind i) (dictionary i) (statistics i),
      end,
      p.8,
    )

pub returns-in-Err-push_column-clause-refused : goal.returns-in-Err-push_column-clause-refused
returns-in-Err-push_column-clause-refused g c = both (λ h. (
  h.0,
  λ version l k begins.
      let d = c.in-Ok.ensures.page version l k begins in
      h.1 version l k d.0 d.1,
)) (c.dictionary_page.ensures.later _) c.in-Err-push_column.ensures.refused
