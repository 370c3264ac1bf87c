-- Why the sample's file is not written.
use Rattle.std.proofs.Common.{◌≡◌, ◌⊎◌, inl, inr, ℕ, ◌≤◌, All, List, [], ◌∷◌, refl, sym, subst, arith, false, map, ap, ◌∙◌}
use Rattle.columns_base.specs.declared.error.A.TheVariants.{A4, A5, A6, A7}
use Rattle.columns_base.specs.declared.error.Error.{Error}
use Rattle.columns_base.specs.declared.error.Error.TheVariants.{InputLimit, InvalidArgumentError, Memory, NotYetImplemented, OutOfSpec, Overflow, ReadFault, WriteFault}
use Rattle.columns_base.specs.declared.error.N.TheVariants.{N5, N7}
use Rattle.shredding.specs.Shape.{AreOf}
use Rattle.shredding.specs.Slot.{Slots}
use Rattle.columns_core.specs.Shapes.{shapes_of}
use Rattle.columns_slots.specs.Tree.{ArrayTrees}
use Rattle.pq_headline.specs.Openings.{CanBeWritten}
use Rattle.pq_headline.specs.Output.{HasWideDecimal}
use Rattle.pq_tree.specs.Tree.{Trees}
use Rattle.pq_tree.specs.declared.types.Encoding.{Encoding}
use Rattle.pq_tree.specs.declared.types.Encoding.TheVariants.{Plain}
use Rattle.sample_rows.proofs.Chunks.{columns_even}
use Rattle.sample_rows.specs.Columns.{AreColumns}
use Rattle.sample_rows.specs.Fields.{sample_fields}
use Rattle.schema_to_tree.specs.Conditions.{RefusesSchema}
use Rattle.schema_to_tree.specs.Table.{schema_of}
use Rattle.typed_groups.specs.Suiting.{AreAllSound, IsSuiting, Suits}
use Rattle.pq_tree.specs.TreeViews.{trees_view}
use Rattle.pq_tree.specs.declared.types.ParquetType.{ParquetType}
use Rattle.std.specs.Global.{Global}
use Rattle.std.specs.Prelude.{Vec}
use Rattle.write_groups.specs.Columns.{AreGroupColumns}
use Rattle.write_groups.specs.Laid.{AreChosen}
use Rattle.write_groups.specs.Writing.{HasColumns}
use Rattle.write_groups.specs.declared.group.RowGroupIter.{RowGroupIter}
use Rattle.sample_run.specs.Files.{written_options}
use Rattle.sample_run.specs.Putting.{AreSampleArrays, IsSampleGroup}
use Rattle.write_pages.specs.declared.options.WriteOptions.{WriteOptions}
use Rattle.sample_run.proofs.Sized.{are_written}
use Rattle.sample_run.proofs.Rows.{columns_typed, rows_are, rows_of_columns}

-- no column of the sample is one of decimals
pub memory_alone : (rows : List Slots) (e : Error) → (e ≡ Memory) ⊎ ((e ≡ InvalidArgumentError A7) × HasWideDecimal sample_fields rows) → e ≡ Memory
memory_alone rows e (inl m) = m
memory_alone rows e (inr (a, inl w)) = absurd (cc w.0)
memory_alone rows e (inr (a, inr (inl w))) = absurd (cc w.0)
memory_alone rows e (inr (a, inr (inr (inl w)))) = absurd (cc w.0)
memory_alone rows e (inr (a, inr (inr (inr w)))) = absurd w

-- ---- the schema
pub schema_refused : (e : Error) → RefusesSchema sample_fields e → e ≡ Memory
schema_refused ReadFault h = absurd h
schema_refused WriteFault h = absurd h
schema_refused (InputLimit l) h = absurd h
schema_refused (OutOfSpec s) h = absurd h
schema_refused (NotYetImplemented N5) h = absurd (cc h.0)
schema_refused (NotYetImplemented N7) (inl h) = absurd (omega (arith, h))
schema_refused (NotYetImplemented N7) (inr h) = absurd (omega (arith, h))
schema_refused (NotYetImplemented n) h = absurd h
schema_refused (InvalidArgumentError A4) h = absurd (cc h)
schema_refused (InvalidArgumentError A5) h = absurd (cc h)
schema_refused (InvalidArgumentError A6) h = absurd (cc h)
schema_refused (InvalidArgumentError a) h = absurd h
schema_refused (Overflow v) h = absurd h
schema_refused Memory h = refl

pub can_be_written : CanBeWritten sample_fields
can_be_written = (refl, tt, (refl, tt, (refl, tt, tt)))

-- ---- the group
pub are_plain : (ess : List (List Encoding)) → ess ≡ (Plain ∷ []) ∷ (Plain ∷ []) ∷ (Plain ∷ []) ∷ [] → AreChosen false sample_fields (schema_of sample_fields).fields ess
are_plain ess e = subst (AreChosen false sample_fields (schema_of sample_fields).fields) (sym e) (refl, (refl, (refl, tt)))

pub suits : (o : WriteOptions) (n : ℕ) (chunk : ArrayTrees) (trees : Trees) (ess : List (List Encoding)) → n ≤ 1000000 → AreColumns n chunk → AreAllSound chunk → trees ≡ (schema_of sample_fields).fields
    → ess ≡ (Plain ∷ []) ∷ (Plain ∷ []) ∷ (Plain ∷ []) ∷ [] → Suits false sample_fields o chunk trees ess
suits o n chunk trees ess few h s t e = record {
  sound = s;
  typed = columns_typed n chunk h;
  even = columns_even n chunk h;
  rows_are = subst (All (AreOf (shapes_of sample_fields))) (sym (rows_of_columns n chunk h)) (rows_are n few);
  trees_are = t;
  written = are_written;
  held = can_be_written;
  served = refl;
  encodings = subst (λ ts. AreChosen false sample_fields ts ess) (sym t) (are_plain ess e);
}

pub suiting : (chunk : ArrayTrees) (g : RowGroupIter) → IsSampleGroup chunk g → IsSuiting false sample_fields g
suiting chunk g h =
    let n = h.arrays.0 in
    let columns : AreColumns n g.chunk = subst (AreColumns n) (sym h.chunk_is) h.arrays.2 in
    record {
      sound = subst AreAllSound (sym h.chunk_is) h.sound;
      typed = columns_typed n g.chunk columns;
      even = columns_even n g.chunk columns;
      rows_are = subst (All (AreOf (shapes_of sample_fields))) (sym (rows_of_columns n g.chunk columns)) (rows_are n h.arrays.1);
      trees_are = h.trees;
      written = are_written;
      held = can_be_written;
      served = refl;
      encodings = subst (λ ts. AreChosen false sample_fields ts (map (λ es. es.items) g.encodings.items)) (sym h.trees) h.plain;
    }

pub made_of :
    (chunk : ArrayTrees) (encodings : Vec (Vec Encoding Global) Global) (trees : Vec ParquetType Global) (g : RowGroupIter)
    → AreSampleArrays chunk → AreAllSound chunk → trees_view trees.items ≡ (schema_of sample_fields).fields → map (λ es. es.items) encodings.items ≡ (Plain ∷ []) ∷ (Plain ∷ []) ∷ (Plain ∷ []) ∷ []
    → (g.chunk ≡ chunk) × (g.encodings ≡ encodings) × (g.fields ≡ trees) × (g.options ≡ written_options) → AreGroupColumns written_options chunk (trees_view trees.items) (map (λ es. es.items) encodings.items) g.columns.items
    → IsSampleGroup chunk g
made_of chunk encodings trees g arrays sound t e is k =
    let at_chunk : HasColumns g =
    subst (λ (w : WriteOptions). AreGroupColumns w g.chunk (trees_view g.fields.items) (map (λ es. es.items) g.encodings.items) g.columns.items) (sym is.3)
    (subst (λ (cs : ArrayTrees). AreGroupColumns written_options cs (trees_view g.fields.items) (map (λ es. es.items) g.encodings.items) g.columns.items) (sym is.0)
    (subst (λ (v : Vec ParquetType Global). AreGroupColumns written_options chunk (trees_view v.items) (map (λ es. es.items) g.encodings.items) g.columns.items) (sym is.2)
    (subst (λ (v : Vec (Vec Encoding Global) Global). AreGroupColumns written_options chunk (trees_view trees.items) (map (λ es. es.items) v.items) g.columns.items) (sym is.1) k))) in
    record {
      arrays = arrays;
      sound = sound;
      chunk_is = is.0;
      options_are = is.3;
      trees = ap (λ (v : Vec ParquetType Global). trees_view v.items) is.2 ∙ t;
      plain = are_plain _ (ap (λ (v : Vec (Vec Encoding Global) Global). map (λ es. es.items) v.items) is.1 ∙ e);
      columns = at_chunk;
    }
