-- A group of the sample, put.
use Rattle.std.proofs.Common.{◌≡◌, ◌⊎◌, inl, inr, ℕ, ◌<◌, ◌≤◌, All, List, [], ◌∷◌, length, Some, false, refl, sym, subst, ap, ◌∙◌, arith}
use Rattle.std.proofs.lemmas.List.Elements.{All-from_recursion, recursion_from_All}
use Rattle.shredding.specs.Slot.{Slots}
use Rattle.pq_files.specs.Layout.{OutGroup}
use Rattle.pq_files.specs.Room.{footer_room, max_size, planned_footer}
use Rattle.pq_headline.specs.Arrays.{all_entries, rows_of}
use Rattle.pq_headline.specs.Output.{PieceIsTooLarge}
use Rattle.pq_tree.specs.Tree.{columns_of}
use Rattle.sample_rows.specs.Rows.{sample_rows}
use Rattle.sample_sizes.specs.Laid.{IsLaidOut}
use Rattle.sample_sizes.specs.Laws.{AreEachSound, ArraysHaveNoEntries, CountsHold, FootersHaveRoom, NoPageIsLarge, SamplesAreGroups, SchemaIsSmall}
use Rattle.sample_sizes.specs.Rows.{AreGroupsOfRows, AreRows, IsRow}
use Rattle.typed_groups.specs.Suiting.{AreAllSound, LargePagesAreLarge}
use Rattle.write_counts.specs.Passing.{GroupPasses}
use Rattle.write_groups.specs.Laid.{ServedGroupsAreLaid, style_of}
use Rattle.sample_run.proofs.Refusals.{suiting}
use Rattle.sample_run.proofs.Rows.{columns_typed, rows_of_columns}
use Rattle.sample_run.proofs.Written.{group_of}
use Rattle.columns_core.specs.View.{SchemaTree, schema_view}
use Rattle.columns_slots.specs.Slots.{AreTyped, first_len}
use Rattle.columns_slots.specs.Tree.{ArrayTrees, more_arrays, no_arrays}
use Rattle.columns_base.specs.declared.error.A.TheVariants.{A8}
use Rattle.columns_base.specs.declared.error.Error.{Error}
use Rattle.columns_base.specs.declared.error.Error.TheVariants.{InvalidArgumentError, Memory, Overflow, WriteFault}
use Rattle.columns_base.specs.declared.error.V.TheVariants.{V3}
use Rattle.pq_io.specs.Causes.{Rose}
use Rattle.schema_codec.specs.Spelling.{plain_bytes}
use Rattle.schema_key.specs.Key.{schema_entry}
use Rattle.write_file.specs.Files.{HasFile}
use Rattle.pq_io.specs.declared.plain_sink.PlainSink.{PlainSink}
use Rattle.pq_tree.specs.TreeViews.{trees_view}
use Rattle.sample_rows.specs.Fields.{sample_fields, sample_tree}
use Rattle.schema_to_tree.specs.Table.{schema_of}
use Rattle.write_groups.specs.Writing.{Adds, IsGroupOf, IsWriting, Refuses, Takes, fields_in}
use Rattle.write_groups.specs.declared.group.RowGroupIter.{RowGroupIter}
use Rattle.write_groups.specs.declared.writer.FileWriter.{FileWriter}
use Rattle.write_pages.specs.declared.options.WriteOptions.{WriteOptions}
use Rattle.sample_run.specs.Chunks.{AreGroupsFor, IsFileOfChunk, IsGroupFor}
use Rattle.sample_run.specs.Files.{sample_style, written_options}
use Rattle.sample_run.specs.Putting.{AreSampleArrays, HasPut, IsFreshWriter, IsSampleGroup, taken_by}

own_trees : (w : FileWriter PlainSink) → IsFreshWriter w → trees_view w.file.body.metadata.schema.fields ≡ (schema_of sample_fields).fields
own_trees w f = ap (λ t. t.fields) f.writing.has.schema ∙ ap (λ (t : SchemaTree). (schema_of t.fields).fields) f.schema

takes : (w : FileWriter PlainSink) (chunk : ArrayTrees) (g : RowGroupIter) → IsFreshWriter w → IsSampleGroup chunk g → Takes w g
takes w chunk g f h = record {
  trees = h.trees ∙ sym (own_trees w f);
  typed = subst (λ (s : SchemaTree). AreTyped s.fields g.chunk) (sym f.schema) (subst (AreTyped sample_fields) (sym h.chunk_is) (columns_typed h.arrays.0 chunk h.arrays.2));
  version = ap (λ (o : WriteOptions). o.version) (h.options_are ∙ sym f.options);
  statistics = ap (λ (o : WriteOptions). o.write_statistics) (h.options_are ∙ sym f.options);
}

-- the group that its columns give is one for the chunk
group_for : (old : FileWriter PlainSink) (chunk : ArrayTrees) (g : RowGroupIter) (out : OutGroup) → IsFreshWriter old → IsSampleGroup chunk g → IsGroupOf (fields_in old) g out → IsGroupFor sample_tree written_options chunk out
group_for old chunk g out f h is = record {
  group = g;
  chunk_is = h.chunk_is;
  options_are = h.options_are;
  trees = h.trees;
  plain = h.plain;
  columns = h.columns;
  gives = subst (λ (t : SchemaTree). IsGroupOf t.fields g out) f.schema is;
}

pub has_put : (old new : FileWriter PlainSink) (chunk : ArrayTrees) (g : RowGroupIter) → IsFreshWriter old → IsSampleGroup chunk g → new.file.schema ≡ old.file.schema → new.options ≡ old.options → Adds taken_by (Some []) [] g old new → HasPut chunk new
has_put old new chunk g f h s o adds = elim adds [
  | inl none ↦
      record {
        arrays = h.arrays;
        schema = ap schema_view s ∙ f.schema;
        options = o ∙ f.options;
        groups = [];
        are = inl (subst (λ x. first_len x ≡ 0) h.chunk_is none.0, refl);
        writing = subst (λ w. IsWriting taken_by (Some []) w []) (sym none.1) f.writing;
      }
  | inr one ↦
      record {
        arrays = h.arrays;
        schema = ap schema_view s ∙ f.schema;
        options = o ∙ f.options;
        groups = one.0 ∷ [];
        are = inr (one.0, refl, group_for old chunk g one.0 f h one.1);
        writing = one.2;
      }
]

-- ---- no size stands against it

one_group : SamplesAreGroups → (n : ℕ) → n ≤ 1000000 → AreGroupsOfRows (sample_rows n ∷ [])
one_group groups n few = (groups (sample_rows n ∷ []) (record { count = n; few = few; is = inl refl })).0

are_rows : (rows : List Slots) → AreGroupsOfRows (rows ∷ []) → AreRows rows
are_rows rows h = record { are = (recursion_from_All (All IsRow) (rows ∷ []) h.are).0; few = omega (arith, h.few) }

laid_out : (laid : ServedGroupsAreLaid) (chunk : ArrayTrees) (arrays : AreSampleArrays chunk) (out : OutGroup) → IsGroupFor sample_tree written_options chunk out → IsLaidOut sample_style (sample_rows arrays.0) out
laid_out laid chunk arrays out h = let r = group_of laid arrays.0 chunk out arrays.1 arrays.2 h in record { encodings = _; entries = r.entries; none = r.none; laid = r.laid }

no_counts :
    (laid : ServedGroupsAreLaid) (groups : SamplesAreGroups) (counts : CountsHold) (old : FileWriter PlainSink) (chunk : ArrayTrees) (g : RowGroupIter) (out : OutGroup)
    → IsFreshWriter old → IsSampleGroup chunk g → IsGroupOf (fields_in old) g out → GroupPasses old.options.version (columns_of (schema_of (fields_in old))) [] out → ⊥
no_counts laid groups counts old chunk g out f h is passes =
    counts sample_style old.options.version [] (sample_rows h.arrays.0) [] [] out (one_group groups h.arrays.0 h.arrays.1) tt (laid_out laid chunk h.arrays out (group_for old chunk g out f h is))
    (subst (λ (t : SchemaTree). GroupPasses old.options.version (columns_of (schema_of t.fields)) [] out) f.schema passes)

each_sound : (cs : ArrayTrees) → AreAllSound cs → AreEachSound cs
each_sound no_arrays h = tt
each_sound (more_arrays c cs) h = (h.0, each_sound cs h.1)

no_page :
    (groups : SamplesAreGroups) (none : ArraysHaveNoEntries) (small : NoPageIsLarge) (chunk : ArrayTrees) (g : RowGroupIter) → IsSampleGroup chunk g → PieceIsTooLarge (style_of g.options) sample_fields (rows_of g.chunk) (all_entries g.chunk) → ⊥
no_page groups none small chunk g h large =
    let n = h.arrays.0 in
    small (style_of g.options) (sample_rows n) (all_entries chunk) (are_rows (sample_rows n) (one_group groups n h.arrays.1))
    (none chunk (columns_typed n chunk h.arrays.2) (each_sound chunk h.sound))
    (subst (λ rows. PieceIsTooLarge (style_of g.options) sample_fields rows (all_entries chunk)) (rows_of_columns n chunk h.arrays.2)
    (subst (λ cs. PieceIsTooLarge (style_of g.options) sample_fields (rows_of cs) (all_entries cs)) h.chunk_is large))

pub put_refused :
    (laid : ServedGroupsAreLaid) (pages : LargePagesAreLarge) (groups : SamplesAreGroups) (none : ArraysHaveNoEntries) (small : NoPageIsLarge) (counts : CountsHold) (old new : FileWriter PlainSink) (chunk : ArrayTrees) (g : RowGroupIter) (e : Error)
    → IsFreshWriter old → IsSampleGroup chunk g → ((e ≡ InvalidArgumentError A8) × (¬ Takes old g)) ⊎ Refuses (λ _. 0) [] g old new e → e ≡ Memory
put_refused laid pages groups none small counts old new chunk g e f h (inl a) = absurd (a.1 (takes old chunk g f h))
put_refused laid pages groups none small counts old new chunk g e f h (inr (inl m)) = m
put_refused laid pages groups none small counts old new chunk g e f h (inr (inr (inl w))) = absurd (omega (arith, w.1))
put_refused laid pages groups none small counts old new chunk g e f h (inr (inr (inr (inl v)))) = absurd (no_counts laid groups counts old chunk g v.1 f h v.2 v.3)
put_refused laid pages groups none small counts old new chunk g e f h (inr (inr (inr (inr c)))) =
    elim (pages false sample_fields g e (suiting chunk g h) h.columns c) [ inl m ↦ m | inr large ↦ absurd (no_page groups none small chunk g h large.1) ]

-- ---- the end

abbrev OneFooter : List OutGroup → ℕ
OneFooter outs = footer_room (planned_footer (schema_of sample_fields) (schema_entry (plain_bytes sample_tree) ∷ []) outs)

has_room : (laid : ServedGroupsAreLaid) (groups : SamplesAreGroups) (room : FootersHaveRoom) (chunk : ArrayTrees) (outs : List OutGroup) → AreSampleArrays chunk → AreGroupsFor sample_tree written_options chunk outs → OneFooter outs ≤ max_size
has_room laid groups room chunk outs arrays (inl none) =
    subst (λ os. OneFooter os ≤ max_size) (sym none.1) (room sample_style [] [] (record { are = All-from_recursion (All IsRow) [] tt; groups = omega arith; few = omega arith }) tt)
has_room laid groups room chunk outs arrays (inr one) =
    subst (λ os. OneFooter os ≤ max_size) (sym one.1) (room sample_style (sample_rows arrays.0 ∷ []) (one.0 ∷ []) (one_group groups arrays.0 arrays.1) (laid_out laid chunk arrays one.0 one.2, tt))

-- why an end is refused, by the writer's schema
abbrev IsPastEnd : SchemaTree → List OutGroup → Type 0
IsPastEnd s outs = (max_size < length (plain_bytes s)) ⊎ (max_size < footer_room (planned_footer (schema_of s.fields) (schema_entry (plain_bytes s) ∷ []) outs))

pub end_refused :
    (laid : ServedGroupsAreLaid) (groups : SamplesAreGroups) (short : SchemaIsSmall) (room : FootersHaveRoom) (chunk : ArrayTrees) (w : FileWriter PlainSink) (h : HasPut chunk w) (e : Error)
    → (e ≡ Memory) ⊎ ((e ≡ WriteFault) × Rose 0 0) ⊎ ((e ≡ Overflow V3) × IsPastEnd (schema_view w.file.schema) h.groups) → e ≡ Memory
end_refused laid groups short room chunk w h e (inl m) = m
end_refused laid groups short room chunk w h e (inr (inl f)) = absurd (omega (arith, f.1))
end_refused laid groups short room chunk w h e (inr (inr v)) = by (subst (λ (t : SchemaTree). IsPastEnd t h.groups) h.schema v.1)
  where
    by : IsPastEnd sample_tree h.groups → e ≡ Memory
    by (inl long) = absurd (omega (arith, long, short))
    by (inr past) = absurd (omega (arith, past, has_room laid groups room chunk h.groups h.arrays h.are))

pub ended : (chunk : ArrayTrees) (w : FileWriter PlainSink) (size : ℕ) (bytes : List ℕ) → (h : HasPut chunk w)
    → HasFile (Some []) (Some bytes) (schema_of (fields_in w)) (schema_entry (plain_bytes (schema_view w.file.schema)) ∷ []) w.options.version h.groups size
    → IsFileOfChunk (Some []) (Some bytes) sample_tree (plain_bytes sample_tree) written_options chunk
ended chunk w size bytes h f = record {
  groups = h.groups;
  are = h.are;
  size = size;
  file = subst (λ (o : WriteOptions). HasFile (Some []) (Some bytes) (schema_of sample_fields) (schema_entry (plain_bytes sample_tree) ∷ []) o.version h.groups size) h.options
      (subst (λ (t : SchemaTree). HasFile (Some []) (Some bytes) (schema_of t.fields) (schema_entry (plain_bytes t) ∷ []) w.options.version h.groups size) h.schema f);
}
