-- The file of the sample's arrays is that of the sample's rows.
use Rattle.std.proofs.Common.{◌≡◌, ℕ, ◌<◌, ◌≤◌, List, [], ◌∷◌, All, map, None, Some, false, refl, sym, subst, inl, inr, arith}
use Rattle.std.proofs.lemmas.List.Elements.{All-from_recursion}
use Rattle.columns_slots.specs.Tree.{ArrayTrees}
use Rattle.pq_headline.specs.Columns.{is_dictionary, schema_columns}
use Rattle.pq_headline.specs.Output.{IsLaidGroup, all_chosen}
use Rattle.pq_files.specs.Layout.{OutGroup}
use Rattle.pq_files.specs.Packed.{Packed}
use Rattle.pq_tree.specs.declared.version.Version.TheVariants.{V1}
use Rattle.sample_rows.proofs.Chunks.{columns_even}
use Rattle.sample_rows.specs.Columns.{AreColumns}
use Rattle.sample_rows.specs.Fields.{sample_fields, sample_tree}
use Rattle.sample_rows.specs.Rows.{sample_rows}
use Rattle.schema_codec.specs.Spelling.{plain_bytes}
use Rattle.schema_key.specs.Key.{schema_entry}
use Rattle.schema_to_tree.specs.Table.{schema_of}
use Rattle.unique_rows.specs.Held.{AreRowsIn, HasWays}
use Rattle.unique_rows.specs.Rewritten.{HasNoDictionary}
use Rattle.write_groups.specs.Laid.{ServedGroupsAreLaid, style_of}
use Rattle.write_pages.specs.declared.options.WriteOptions.{WriteOptions}
use Rattle.shredding.specs.Shape.{AreOf}
use Rattle.columns_core.specs.Shapes.{shapes_of}
use Rattle.pq_tree.specs.Tree.{columns_of}
use Rattle.sample_run.proofs.Rows.{columns_len, columns_typed, rows_are, rows_of_columns}
use Rattle.sample_run.specs.Chunks.{IsFileOfChunk, IsGroupFor}
use Rattle.sample_run.specs.Files.{IsSampleFile, sample_style, written_options}

pub has_ways : HasWays sample_fields
has_ways = record { ways_are = refl; structs = (tt, (tt, (tt, tt))) }

pub no_dictionary : HasNoDictionary sample_fields
no_dictionary = All-from_recursion (λ c. is_dictionary c.data_type ≡ false) (schema_columns sample_fields) (refl, (refl, (refl, tt)))

-- ---- the group, laid out
pub group_of : (laid : ServedGroupsAreLaid) (n : ℕ) (chunk : ArrayTrees) (out : OutGroup) → n ≤ 1000000 → AreColumns n chunk → IsGroupFor sample_tree written_options chunk out → AreRowsIn sample_style sample_fields (sample_rows n) out
group_of laid n chunk out few h g =
    let columns : AreColumns n g.group.chunk = subst (AreColumns n) (sym g.chunk_is) h in
    let rows = rows_of_columns n g.group.chunk columns in
    let l = laid false sample_fields g.group out (columns_typed n g.group.chunk columns) (columns_even n g.group.chunk columns) (subst (All (AreOf (shapes_of sample_fields))) (sym rows) (rows_are n few)) g.trees refl g.plain g.columns g.gives in
    record {
      are = rows_are n few;
      deltas = false;
      entries = map (λ c. None) (schema_columns sample_fields);
      none = All-from_recursion (λ d. d ≡ None) (None ∷ None ∷ None ∷ []) (refl, (refl, (refl, tt)));
      laid = subst (λ (o : WriteOptions). IsLaidGroup (style_of o) (sample_rows n) (schema_columns sample_fields) (columns_of (schema_of sample_fields)) (all_chosen false (schema_columns sample_fields) (columns_of (schema_of sample_fields))) (map (λ c. None) (schema_columns sample_fields)) out) g.options_are
          (subst (λ rs. IsLaidGroup (style_of g.group.options) rs (schema_columns sample_fields) (columns_of (schema_of sample_fields)) (all_chosen false (schema_columns sample_fields) (columns_of (schema_of sample_fields))) (map (λ c. None) (schema_columns sample_fields)) out) rows l);
    }

pub sample_written : (laid : ServedGroupsAreLaid) (n : ℕ) (chunk : ArrayTrees) (bytes : List ℕ) → 0 < n → n ≤ 1000000 → AreColumns n chunk → IsFileOfChunk (Some []) (Some bytes) sample_tree (plain_bytes sample_tree) written_options chunk → IsSampleFile V1 (sample_rows n ∷ []) bytes
sample_written laid n chunk bytes some few h f =
    elim f.are [
      | inl none ↦ absurd (omega (arith, some, none.0, columns_len n chunk h))
      | inr one ↦
          record {
            outs = one.0 ∷ [];
            packed = subst (λ gs. Packed bytes (schema_of sample_fields) (schema_entry (plain_bytes sample_tree) ∷ []) V1 gs) one.1 (subst (λ bs. Packed bs (schema_of sample_fields) (schema_entry (plain_bytes sample_tree) ∷ []) V1 f.groups) (sym f.file.gained) f.file.packed);
            are = (group_of laid n chunk one.0 few h one.2, tt);
          }
    ]
