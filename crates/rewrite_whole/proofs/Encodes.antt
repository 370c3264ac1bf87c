-- A piece that is written.
use Rattle.std.proofs.Common.{◌≡◌, ◌≢◌, ◌⊎◌, inl, inr, List, [], ◌∷◌, ◌++◌, length, map, Option, Some, None, Result, Ok, Err, Vec, refl, sym, ap, subst, ◌∙◌, arith, append_assoc}
use Rattle.std.specs.Global.{Global}
use Rattle.std.specs.Prelude.{IfErr, OnOk}
use Rattle.columns_base.specs.declared.error.Error.{Error}
use Rattle.columns_base.specs.declared.error.Error.TheVariants.{Memory, InvalidArgumentError, Overflow}
use Rattle.columns_base.specs.declared.error.A.TheVariants.{A7, A8}
use Rattle.columns_base.specs.declared.error.V.TheVariants.{V3}
use Rattle.columns_core.specs.Tree.{FieldTrees}
use Rattle.columns_core.specs.View.{SchemaTree, schema_view}
use Rattle.columns_slots.specs.Slots.{AreTyped, first_len}
use Rattle.columns_slots.specs.Tree.{ArrayTrees}
use Rattle.pq_tree.specs.Tree.{Schema, columns_of}
use Rattle.pq_tree.specs.TreeViews.{trees_view}
use Rattle.pq_tree.specs.declared.types.Encoding.{Encoding as RustEncoding}
use Rattle.pq_tree.specs.declared.types.ParquetType.{ParquetType}
use Rattle.pq_files.specs.Layout.{OutGroup}
use Rattle.pq_io.specs.Causes.{Rose}
use Rattle.pq_io.specs.declared.piece_sink.PieceSink.{PieceSink}
use Rattle.schema_to_tree.specs.Table.{schema_of}
use Rattle.pq_headline.specs.Arrays.{rows_of, all_entries}
use Rattle.pq_headline.specs.Columns.{schema_columns}
use Rattle.pq_headline.specs.Output.{HasWideDecimal, IsLaidGroup, PieceIsTooLarge, all_chosen}
use Rattle.pq_headline.specs.Rewrites.{Asked}
use Rattle.pq_headline.specs.Written.{IsRefusedAt, IsWrittenAs, PassesCounts, RefusesChunk}
use Rattle.pq_headline.proofs.Written.{zip_more}
use Rattle.typed_groups.specs.Suiting.{AreAllSound, IsSuiting, IsTaken, LargePagesAreLarge, GroupsAreWritten, Suits}
use Rattle.write_groups.specs.Laid.{AreChosen}
use Rattle.write_counts.specs.Passing.{GroupPasses}
use Rattle.write_groups.specs.Columns.{AreGroupColumns, AreSoMany, RefusesFields}
use Rattle.write_groups.specs.Laid.{style_of}
use Rattle.write_groups.specs.Writing.{Adds, HasColumns, IsGroupOf, IsWriting, Refuses, Takes, fields_in as writer_fields}
use Rattle.write_groups.specs.declared.group.RowGroupIter.{RowGroupIter}
use Rattle.write_groups.specs.declared.writer.FileWriter.{FileWriter}
use Rattle.write_pages.specs.declared.options.WriteOptions.{WriteOptions}
use Rattle.rewrite_whole.specs.Groups.{HoldsChunks, IsOutput, write_options, taken_by}
use Rattle.rewrite_whole.specs.Plans.{lists_of}
use Rattle.rewrite_whole.specs.Ready.{IsReady, IsPieceOf, PutsGroup, asked_of, fields_in}
use Rattle.rewrite_whole.specs.declared.job.Job.{Job}
use Rattle.rewrite_whole.specs.declared.output.Output.{Output}

-- ---- a piece that is made a group of columns

same_trees : (job : Job) → IsReady job → trees_view job.plan.now.tree.fields ≡ (schema_of (fields_in job)).fields
same_trees job r = ap (λ (s : Schema). s.fields) r.tree

pub suits :
    (job : Job) (piece : ArrayTrees) (o : WriteOptions) (encodings : Vec (Vec RustEncoding Global) Global) (trees : List ParquetType)
    → IsReady job → IsPieceOf job piece → AreAllSound piece → lists_of encodings ≡ lists_of job.plan.now.encodings → trees_view trees ≡ trees_view job.plan.now.tree.fields → o ≡ write_options (asked_of job)
    → Suits job.options.now.delta (fields_in job) o piece (trees_view trees) (map (λ es. es.items) encodings.items)
suits job piece o encodings trees r p s ee et eo = record {
  sound = s;
  typed = p.typed;
  even = p.even;
  rows_are = p.rows_are;
  trees_are = et ∙ same_trees job r;
  written = r.fits.written;
  held = r.fits.held;
  served = r.fits.served;
  encodings =
      subst (λ ess. AreChosen job.options.now.delta (fields_in job) (trees_view trees) ess) (sym ee)
      (subst (λ ts. AreChosen job.options.now.delta (fields_in job) ts (lists_of job.plan.now.encodings)) (sym et) r.encodings);
}

-- nothing but want of memory and a wide decimal stands against its columns
pub refused_wide :
    (fs : FieldTrees) (o : WriteOptions) (piece : ArrayTrees) (encodings : List (Vec RustEncoding Global)) (trees : List ParquetType) (e : Error) → IsTaken fs o piece encodings trees
    → (e ≡ Memory) ⊎ ((e ≡ InvalidArgumentError A8) × (¬ AreSoMany piece (length encodings) (length trees))) ⊎ RefusesFields o piece (trees_view trees) (map (λ es. es.items) encodings) e
    → (e ≡ Memory) ⊎ ((e ≡ InvalidArgumentError A7) × HasWideDecimal fs (rows_of piece))
refused_wide fs o piece encodings trees e h (inl m) = inl m
refused_wide fs o piece encodings trees e h (inr (inl a)) = absurd (a.1 h.counts)
refused_wide fs o piece encodings trees e h (inr (inr r)) = inr (h.wide e r)

pub refused_chunk :
    (asked : Asked) (fs : FieldTrees) (groups : List OutGroup) (piece : ArrayTrees) (e : Error) → (e ≡ Memory) ⊎ ((e ≡ InvalidArgumentError A7) × HasWideDecimal fs (rows_of piece)) → (e ≡ Memory) ⊎ RefusesChunk asked fs groups piece e
refused_chunk asked fs groups piece e (inl m) = inl m
refused_chunk asked fs groups piece e (inr w) = inr (inl w)

pub record IsMadeOf (job : Job) (piece : ArrayTrees) (g : RowGroupIter) : Type 0 where
  pub chunk : g.chunk ≡ piece
  pub options : g.options ≡ write_options (asked_of job)
  pub suiting : IsSuiting job.options.now.delta (fields_in job) g
  pub columns : HasColumns g

pub made_of :
    (job : Job) (piece : ArrayTrees) (encodings : Vec (Vec RustEncoding Global) Global) (trees : Vec ParquetType Global) (o : WriteOptions) (g : RowGroupIter)
    → IsReady job → IsPieceOf job piece → AreAllSound piece → lists_of encodings ≡ lists_of job.plan.now.encodings → trees_view trees.items ≡ trees_view job.plan.now.tree.fields → o ≡ write_options (asked_of job)
    → (g.chunk ≡ piece) × (g.encodings ≡ encodings) × (g.fields ≡ trees) × (g.options ≡ o) → AreGroupColumns o piece (trees_view trees.items) (map (λ es. es.items) encodings.items) g.columns.items
    → IsMadeOf job piece g
made_of job piece encodings trees o g r p s ee et eo is k =
    let at_piece : AreGroupColumns g.options g.chunk (trees_view g.fields.items) (map (λ es. es.items) g.encodings.items) g.columns.items =
    subst (λ (w : WriteOptions). AreGroupColumns w g.chunk (trees_view g.fields.items) (map (λ es. es.items) g.encodings.items) g.columns.items) (sym is.3)
    (subst (λ (cs : ArrayTrees). AreGroupColumns o cs (trees_view g.fields.items) (map (λ es. es.items) g.encodings.items) g.columns.items) (sym is.0)
    (subst (λ (v : Vec ParquetType Global). AreGroupColumns o piece (trees_view v.items) (map (λ es. es.items) g.encodings.items) g.columns.items) (sym is.2)
    (subst (λ (v : Vec (Vec RustEncoding Global) Global). AreGroupColumns o piece (trees_view trees.items) (map (λ es. es.items) v.items) g.columns.items) (sym is.1) k))) in
    record {
      chunk = is.0;
      options = is.3 ∙ eo;
      suiting = suits job g.chunk g.options g.encodings g.fields.items r (subst (IsPieceOf job) (sym is.0) p) (subst AreAllSound (sym is.0) s) (ap lists_of is.1 ∙ ee) (ap (λ (v : Vec ParquetType Global). trees_view v.items) is.2 ∙ et) (is.3 ∙ eo);
      columns = at_piece;
    }

-- ---- what a writer of the job's schema makes of it

-- the writer is of the schema of a job, and writes pages as the job does
pub record IsWriterOf (job : Job) (w : FileWriter PieceSink) : Type 0 where
  pub schema : schema_view w.file.schema ≡ schema_view job.plan.now.schema
  pub options : w.options ≡ write_options (asked_of job)

same_fields : (job : Job) (w : FileWriter PieceSink) → IsWriterOf job w → writer_fields w ≡ fields_in job
same_fields job w h = ap (λ (t : SchemaTree). t.fields) h.schema

takes : (job : Job) (piece : ArrayTrees) (groups : List OutGroup) (g : RowGroupIter) (old : FileWriter PieceSink) → IsMadeOf job piece g → IsWriterOf job old → IsWriting taken_by (Some []) old groups → Takes old g
takes job piece groups g old m w h = record {
  trees = m.suiting.trees_are ∙ ap (λ fs. (schema_of fs).fields) (sym (same_fields job old w)) ∙ sym (ap (λ (s : Schema). s.fields) h.has.schema);
  typed = subst (λ fs. AreTyped fs g.chunk) (sym (same_fields job old w)) m.suiting.typed;
  version = ap (λ (o : WriteOptions). o.version) (m.options ∙ sym w.options);
  statistics = ap (λ (o : WriteOptions). o.write_statistics) (m.options ∙ sym w.options);
}

at_style : (job : Job) (g : RowGroupIter) (cs : ArrayTrees) (out : OutGroup) → IsReady job → g.options ≡ write_options (asked_of job) → g.chunk ≡ cs
    → IsLaidGroup (style_of g.options) (rows_of g.chunk) (schema_columns (fields_in job)) (columns_of (schema_of (fields_in job))) (all_chosen job.options.now.delta (schema_columns (fields_in job)) (columns_of (schema_of (fields_in job)))) (all_entries g.chunk) out → IsWrittenAs (asked_of job) (fields_in job) cs out
at_style job g cs out r o e h =
    let styled : IsLaidGroup (asked_of job).style (rows_of g.chunk) (schema_columns (fields_in job)) (columns_of (schema_of (fields_in job))) (all_chosen job.options.now.delta (schema_columns (fields_in job)) (columns_of (schema_of (fields_in job)))) (all_entries g.chunk) out =
    subst (λ (w : WriteOptions). IsLaidGroup (style_of w) (rows_of g.chunk) (schema_columns (fields_in job)) (columns_of (schema_of (fields_in job))) (all_chosen job.options.now.delta (schema_columns (fields_in job)) (columns_of (schema_of (fields_in job)))) (all_entries g.chunk) out) o h in
    subst (λ (k : ArrayTrees). IsWrittenAs (asked_of job) (fields_in job) k out) e styled

-- the group that its columns give is one that the piece is written as
written_as : (job : Job) (piece : ArrayTrees) (g : RowGroupIter) (old : FileWriter PieceSink) (out : OutGroup) → GroupsAreWritten → IsReady job → IsMadeOf job piece g → IsWriterOf job old → IsGroupOf (writer_fields old) g out → IsWrittenAs (asked_of job) (fields_in job) piece out
written_as job piece g old out law r m w h = at_style job g piece out r m.options m.chunk (law job.options.now.delta (fields_in job) g out m.suiting m.columns (subst (λ fs. IsGroupOf fs g out) (same_fields job old w) h))

pub put_ok :
    (job : Job) (piece : ArrayTrees) (groups : List OutGroup) (g : RowGroupIter) (old now : FileWriter PieceSink) (r : Result (Unit {0}) Error)
    → GroupsAreWritten → IsReady job → IsPieceOf job piece → IsMadeOf job piece g → IsWriterOf job old → OnOk r (Adds taken_by (Some []) groups g old now) → OnOk r (PutsGroup job piece groups now)
put_ok job piece groups g old now (Err e) law ready p m w h = tt
put_ok job piece groups g old now (Ok u) law ready p m w (inl h) = absurd (omega (arith, p.some, h.0, ap first_len m.chunk))
put_ok job piece groups g old now (Ok u) law ready p m w (inr h) = record { out = h.0; written = written_as job piece g old h.0 law ready m w h.1; writes = h.2 }

never_rose : Rose 0 0 → ⊥
never_rose h = absurd (omega (arith, h))

-- the counts of a writer are those of the chunk
counts_are : (job : Job) (piece : ArrayTrees) (groups : List OutGroup) (g : RowGroupIter) (old : FileWriter PieceSink) → GroupsAreWritten → IsReady job → IsMadeOf job piece g → IsWriterOf job old
    → (out : OutGroup) × IsGroupOf (writer_fields old) g out × GroupPasses old.options.version (columns_of (schema_of (writer_fields old))) groups out → PassesCounts (asked_of job) (fields_in job) groups piece
counts_are job piece groups g old law r m w h = (
  h.0,
  written_as job piece g old h.0 law r m w h.1,
  subst (λ fs. GroupPasses (asked_of job).version (columns_of (schema_of fs)) groups h.0) (same_fields job old w) (subst (λ (o : WriteOptions). GroupPasses o.version (columns_of (schema_of (writer_fields old))) groups h.0) w.options h.2),
)

-- a page of it is too large
too_large : (job : Job) (piece : ArrayTrees) (groups : List OutGroup) (g : RowGroupIter) (e : Error) → IsMadeOf job piece g → (e ≡ Memory) ⊎ ((e ≡ Overflow V3) × PieceIsTooLarge (style_of g.options) (fields_in job) (rows_of g.chunk) (all_entries g.chunk))
    → (e ≡ Memory) ⊎ RefusesChunk (asked_of job) (fields_in job) groups piece e
too_large job piece groups g e m (inl h) = inl h
too_large job piece groups g e m (inr h) =
    inr (inr (h.0, inl (subst (λ cs. PieceIsTooLarge (asked_of job).style (fields_in job) (rows_of cs) (all_entries cs)) m.chunk (subst (λ (o : WriteOptions). PieceIsTooLarge (style_of o) (fields_in job) (rows_of g.chunk) (all_entries g.chunk)) m.options h.1))))

pub put_err :
    (job : Job) (piece : ArrayTrees) (groups : List OutGroup) (g : RowGroupIter) (old now : FileWriter PieceSink) (r : Result (Unit {0}) Error)
    → GroupsAreWritten → LargePagesAreLarge → IsReady job → IsMadeOf job piece g → IsWriterOf job old → IsWriting taken_by (Some []) old groups
    → IfErr r (λ e. ((e ≡ InvalidArgumentError A8) × (¬ Takes old g)) ⊎ Refuses (λ _. 0) groups g old now e)
    → IfErr r (λ e. (e ≡ Memory) ⊎ RefusesChunk (asked_of job) (fields_in job) groups piece e)
put_err job piece groups g old now (Ok u) law large ready m w i h = tt
put_err job piece groups g old now (Err e) law large ready m w i h = by h
  where
    by : ((e ≡ InvalidArgumentError A8) × (¬ Takes old g)) ⊎ Refuses (λ _. 0) groups g old now e → (e ≡ Memory) ⊎ RefusesChunk (asked_of job) (fields_in job) groups piece e
    by (inl a) = absurd (a.1 (takes job piece groups g old m w i))
    by (inr (inl k)) = inl k
    by (inr (inr (inl f))) = absurd (never_rose f.1)
    by (inr (inr (inr (inl v)))) = inr (inr (v.0, inr (counts_are job piece groups g old law ready m w (v.1, v.2, v.3))))
    by (inr (inr (inr (inr s)))) = too_large job piece groups g e m (large job.options.now.delta (fields_in job) g e m.suiting m.columns s)

-- ---- the output

not_both : (e : Error) → ◌≡◌ {A = Option Error} (Some e) None → ⊥
not_both e h = cc

longer : (asked : Asked) (fs : FieldTrees) (chunks : List ArrayTrees) (piece : ArrayTrees) (e : Error) → IsRefusedAt asked fs chunks e → IsRefusedAt asked fs (chunks ++ piece ∷ []) e
longer asked fs chunks piece e h = record {
  before = h.before;
  chunk = h.chunk;
  rest = h.rest ++ piece ∷ [];
  parts = ap (λ cs. cs ++ piece ∷ []) h.parts ∙ append_assoc h.before (h.chunk ∷ h.rest) (piece ∷ []);
  outs = h.outs;
  written = h.written;
  refused = h.refused;
}

-- an output that is refused stays so
pub went_by : (job : Job) (piece : ArrayTrees) (chunks : List ArrayTrees) (output : Output) (e : Error) → output.refusal ≡ Some e → IsOutput (schema_view job.plan.now.schema) (asked_of job) output chunks → IsOutput (schema_view job.plan.now.schema) (asked_of job) output (chunks ++ piece ∷ [])
went_by job piece chunks output e some h = record {
  schema_is = h.schema_is;
  options_are = h.options_are;
  holds =
      subst (λ (o : Option Error). HoldsChunks (asked_of job) (fields_in job) output.writer o (chunks ++ piece ∷ [])) (sym some)
      (longer (asked_of job) (fields_in job) chunks piece e (subst (λ (o : Option Error). HoldsChunks (asked_of job) (fields_in job) output.writer o chunks) some h.holds));
}

-- a piece more is written
pub kept : (job : Job) (piece : ArrayTrees) (chunks : List ArrayTrees) (output : Output) (now : FileWriter PieceSink) → IsOutput (schema_view job.plan.now.schema) (asked_of job) output chunks → output.refusal ≡ None → now.file.schema ≡ output.writer.file.schema → now.options ≡ output.writer.options
    → ((gs : List OutGroup) → IsWriting taken_by (Some []) output.writer gs → PutsGroup job piece gs now)
    → IsOutput (schema_view job.plan.now.schema) (asked_of job) (record { writer = now; refusal = output.refusal }) (chunks ++ piece ∷ [])
kept job piece chunks output now h none es eo f =
    let w : HoldsChunks (asked_of job) (fields_in job) output.writer None chunks = subst (λ (o : Option Error). HoldsChunks (asked_of job) (fields_in job) output.writer o chunks) none h.holds in
    let p : PutsGroup job piece w.0 now = f w.0 w.2 in
    record {
      schema_is = ap schema_view es ∙ h.schema_is;
      options_are = eo ∙ h.options_are;
      holds = subst (λ (o : Option Error). HoldsChunks (asked_of job) (fields_in job) now o (chunks ++ piece ∷ [])) (sym none)
          (w.0 ++ p.out ∷ [], zip_more (IsWrittenAs (asked_of job) (fields_in job)) chunks (piece ∷ []) w.0 (p.out ∷ []) w.1 (p.written, tt), p.writes);
    }

-- the piece is refused, and its refusal is kept
pub refused_now : (job : Job) (piece : ArrayTrees) (chunks : List ArrayTrees) (output : Output) (now : FileWriter PieceSink) (later : Option Error) (e : Error) → IsOutput (schema_view job.plan.now.schema) (asked_of job) output chunks → output.refusal ≡ None → now.file.schema ≡ output.writer.file.schema → now.options ≡ output.writer.options
    → ((gs : List OutGroup) → IsWriting taken_by (Some []) output.writer gs → (e ≡ Memory) ⊎ RefusesChunk (asked_of job) (fields_in job) gs piece e) → (later ≡ Some e) × (e ≢ Memory)
    → IsOutput (schema_view job.plan.now.schema) (asked_of job) (record { writer = now; refusal = later }) (chunks ++ piece ∷ [])
refused_now job piece chunks output now later e h none es eo f k =
    let w : HoldsChunks (asked_of job) (fields_in job) output.writer None chunks = subst (λ (o : Option Error). HoldsChunks (asked_of job) (fields_in job) output.writer o chunks) none h.holds in
    let at : IsRefusedAt (asked_of job) (fields_in job) (chunks ++ piece ∷ []) e = record { before = chunks; chunk = piece; rest = []; parts = refl; outs = w.0; written = w.1; refused = but w.0 (f w.0 w.2) } in
    record {
      schema_is = ap schema_view es ∙ h.schema_is;
      options_are = eo ∙ h.options_are;
      holds = subst (λ (o : Option Error). HoldsChunks (asked_of job) (fields_in job) now o (chunks ++ piece ∷ [])) (sym k.0) at;
    }
  where
    but : (gs : List OutGroup) → (e ≡ Memory) ⊎ RefusesChunk (asked_of job) (fields_in job) gs piece e → RefusesChunk (asked_of job) (fields_in job) gs piece e
    but gs (inl m) = absurd (k.1 m)
    but gs (inr q) = q

pub on_ok : {A : Type 0} (r : Result A Error) (P Q : Type 0) → (P → Q) → OnOk r P → OnOk r Q
on_ok (Ok x) P Q f h = f h
on_ok (Err e) P Q f h = tt
