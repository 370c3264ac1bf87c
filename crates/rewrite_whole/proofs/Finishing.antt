-- The end of an output.
use Rattle.std.proofs.Common.{◌≡◌, ◌⊎◌, inl, inr, ◌<◌, ℕ, List, [], ◌∷◌, ◌++◌, length, filter, not, Option, Some, None, Vec, Result, Ok, Err, sym, ap, subst, ◌∙◌, arith}
use Rattle.std.specs.Global.{Global}
use Rattle.std.specs.Prelude.{IfErr, IfOk}
use Rattle.columns_slots.specs.Tree.{ArrayTrees}
use Rattle.columns_base.specs.declared.error.Error.{Error}
use Rattle.columns_base.specs.declared.error.Error.TheVariants.{Memory, WriteFault, Overflow}
use Rattle.columns_base.specs.declared.error.V.TheVariants.{V3}
use Rattle.columns_core.specs.View.{SchemaTree, schema_view}
use Rattle.pq_metadata.specs.Footer.{Key}
use Rattle.pq_tree.specs.TreeViews.{metadata_view}
use Rattle.pq_tree.specs.declared.types.KeyValue.{KeyValue}
use Rattle.pq_files.specs.Layout.{OutGroup}
use Rattle.pq_files.specs.Packed.{Packed}
use Rattle.pq_files.specs.Room.{are_same, max_size, footer_room, planned_footer}
use Rattle.pq_io.specs.Causes.{Rose}
use Rattle.pq_io.specs.PieceSinks.{pieces_taken}
use Rattle.pq_io.specs.declared.piece_sink.PieceSink.{PieceSink}
use Rattle.schema_key.specs.Key.{keys_in, schema_entry, schema_key}
use Rattle.schema_to_tree.specs.Table.{schema_of}
use Rattle.pq_headline.specs.Rewrites.{Codec, keys_out}
use Rattle.write_file.specs.Files.{HasFile}
use Rattle.write_groups.specs.Writing.{IsWriting, fields_in as writer_fields}
use Rattle.write_groups.specs.declared.writer.FileWriter.{FileWriter}
use Rattle.write_pages.specs.declared.options.WriteOptions.{WriteOptions}
use Rattle.rewrite_whole.specs.Groups.{HoldsChunks, IsOutput, write_options, taken_by}
use Rattle.rewrite_whole.specs.Ready.{EndRefuses, FinishRefuses, Finishes, IsEnded, asked_of, fields_in}
use Rattle.rewrite_whole.specs.declared.job.Job.{Job}
use Rattle.rewrite_whole.specs.declared.output.Output.{Output}
use Rattle.rewrite_notes.specs.declared.report.Report.{Report}

abbrev Others : Job → List Key
Others job = filter (λ k. not (are_same k.key schema_key)) (metadata_view job.metadata.now).keys

-- the keys of the output
same_keys : (codec : Codec) (job : Job) (s : SchemaTree) (keys : List Key) → s ≡ schema_view job.plan.now.schema → keys ≡ Others job → keys ++ schema_entry (codec.bytes_of s) ∷ [] ≡ keys_out codec (schema_view job.plan.now.schema) (metadata_view job.metadata.now).keys
same_keys codec job s keys es ek = ap (λ ks. ks ++ schema_entry (codec.bytes_of s) ∷ []) ek ∙ ap (λ (t : SchemaTree). Others job ++ schema_entry (codec.bytes_of t) ∷ []) es

pub ended :
    (codec : Codec) (job : Job) (outs : List OutGroup) (old : FileWriter PieceSink) (now sink : PieceSink) (size : ℕ) (keys : Option (Vec KeyValue Global)) (report : Report) → schema_view old.file.schema ≡ schema_view job.plan.now.schema → old.options ≡ write_options (asked_of job) → keys_in keys ≡ Others job
    → IsWriting taken_by (Some []) old outs → sink ≡ now → (report.groups ≡ length old.file.body.metadata.row_groups.items) × (report.rows ≡ old.file.body.rows) × (report.data_pages ≡ old.file.body.data_pages)
    → HasFile (Some []) (taken_by now) (schema_of (writer_fields old)) (keys_in keys ++ schema_entry (codec.bytes_of (schema_view old.file.schema)) ∷ []) old.options.version outs size
    → IsEnded codec job outs (pieces_taken sink) report
ended codec job outs old now sink size keys report es eo ek w is counts f =
    let bytes : pieces_taken sink ≡ f.file = ap pieces_taken is ∙ f.gained in
    let at_schema : Packed f.file (schema_of (fields_in job)) (keys_out codec (schema_view job.plan.now.schema) (metadata_view job.metadata.now).keys) old.options.version outs =
    subst (λ (t : SchemaTree). Packed f.file (schema_of t.fields) (keys_out codec (schema_view job.plan.now.schema) (metadata_view job.metadata.now).keys) old.options.version outs) es
    (subst (λ ks. Packed f.file (schema_of (writer_fields old)) ks old.options.version outs) (same_keys codec job (schema_view old.file.schema) (keys_in keys) es ek) f.packed) in
    let at_version : Packed f.file (schema_of (fields_in job)) (keys_out codec (schema_view job.plan.now.schema) (metadata_view job.metadata.now).keys) (asked_of job).version outs =
    subst (λ (o : WriteOptions). Packed f.file (schema_of (fields_in job)) (keys_out codec (schema_view job.plan.now.schema) (metadata_view job.metadata.now).keys) o.version outs) eo at_schema in (
      subst (λ b. Packed b (schema_of (fields_in job)) (keys_out codec (schema_view job.plan.now.schema) (metadata_view job.metadata.now).keys) (asked_of job).version outs) (sym bytes) at_version,
      record { groups = counts.0 ∙ sym w.has.groups_are; rows = counts.1 ∙ w.has.rows_are; data_pages = counts.2 ∙ w.has.data_pages_are },
    )

never_rose : Rose 0 0 → ⊥
never_rose h = absurd (omega (arith, h))

pub end_refused :
    (codec : Codec) (job : Job) (outs : List OutGroup) (old : FileWriter PieceSink) (keys : Option (Vec KeyValue Global)) (e : Error) → schema_view old.file.schema ≡ schema_view job.plan.now.schema → keys_in keys ≡ Others job
    → (e ≡ Memory) ⊎ ((e ≡ WriteFault) × Rose 0 0) ⊎ ((e ≡ Overflow V3) × ((max_size < length (codec.bytes_of (schema_view old.file.schema))) ⊎ (max_size < footer_room (planned_footer (schema_of (schema_view old.file.schema).fields) (keys_in keys ++ schema_entry (codec.bytes_of (schema_view old.file.schema)) ∷ []) outs))))
    → EndRefuses codec job outs e
end_refused codec job outs old keys e es ek (inl m) = inl m
end_refused codec job outs old keys e es ek (inr (inl f)) = absurd (never_rose f.1)
end_refused codec job outs old keys e es ek (inr (inr (v, inl n))) = inr (v, inl (subst (λ (t : SchemaTree). max_size < length (codec.bytes_of t)) es n))
end_refused codec job outs old keys e es ek (inr (inr (v, inr n))) =
    inr (
      v,
      inr (subst (λ (t : SchemaTree). max_size < footer_room (planned_footer (schema_of t.fields) (keys_out codec (schema_view job.plan.now.schema) (metadata_view job.metadata.now).keys) outs)) es
          (subst (λ ks. max_size < footer_room (planned_footer (schema_of (schema_view old.file.schema).fields) ks outs)) (same_keys codec job (schema_view old.file.schema) (keys_in keys) es ek) n)),
    )

-- ---- by the refusal that was kept

pub still_open : (job : Job) (output : Output) (chunks : List ArrayTrees) → output.refusal ≡ None → IsOutput (schema_view job.plan.now.schema) (asked_of job) output chunks → HoldsChunks (asked_of job) (fields_in job) output.writer None chunks
still_open job output chunks none h = subst (λ (o : Option Error). HoldsChunks (asked_of job) (fields_in job) output.writer o chunks) none h.holds

pub finishes : {A : Type 0} (r : Result A Error) (codec : Codec) (job : Job) (chunks : List ArrayTrees) (file : A → List ℕ) (report : A → Report) (writer : FileWriter PieceSink) → HoldsChunks (asked_of job) (fields_in job) writer None chunks
    → ((outs : List OutGroup) → IsWriting taken_by (Some []) writer outs → IfOk r (λ x. IsEnded codec job outs (file x) (report x))) → IfOk r (λ x. Finishes codec job chunks (file x) (report x))
finishes (Ok x) codec job chunks file report writer h f = (h.0, h.1, f h.0 h.2)
finishes (Err e) codec job chunks file report writer h f = tt

pub finish_refuses : {A : Type 0} (r : Result A Error) (codec : Codec) (job : Job) (chunks : List ArrayTrees) (writer : FileWriter PieceSink) → HoldsChunks (asked_of job) (fields_in job) writer None chunks
    → ((outs : List OutGroup) → IsWriting taken_by (Some []) writer outs → IfErr r (EndRefuses codec job outs)) → IfErr r (FinishRefuses codec job chunks)
finish_refuses (Ok x) codec job chunks writer h f = tt
finish_refuses (Err e) codec job chunks writer h f = inr (h.0, h.1, f h.0 h.2)
