-- The fields of a group, opened one after another.
use Rattle.std.proofs.Common.{◌≡◌, ◌≢◌, ◌+◌, ◌<◌, ◌≤◌, ℕ, zero, suc, Bool, List, [], ◌∷◌, ◌++◌, length, map, take, drop, get_or, Option, Vec, refl, sym, ap, subst, ◌∙◌, arith}
use Rattle.std.specs.Global.{Global}
use Rattle.std.specs.List.{AllZip}
use Rattle.std.proofs.lemmas.List.{append-nil, length-map}
use Rattle.std.proofs.Math.ListN.{drop_of_length-le}
use Rattle.columns_core.specs.Tree.{FieldTree, field, FieldTrees, no_fields, more_fields}
use Rattle.columns_core.specs.View.{fields_view}
use Rattle.columns_core.specs.declared.types.Field.{Field}
use Rattle.pq_metadata.specs.Footer.{ChunkMeta}
use Rattle.pq_tree.specs.Tree.{Leaf, Schema, Trees, no_trees, tree, leaves, columns_of}
use Rattle.pq_tree.specs.TreeViews.{schema_view as tree_schema}
use Rattle.write_values.specs.Deltas.{encoding_name}
use Rattle.write_groups.specs.Laid.{AreChosen, field_encoding}
use Rattle.pq_tree.specs.Views.{chunk_view, group_view}
use Rattle.pq_tree.specs.declared.types.ColumnChunkMetaData.{ColumnChunkMetaData}
use Rattle.pq_tree.specs.declared.types.Encoding.{Encoding}
use Rattle.pq_tree.specs.declared.types.RowGroupMetaData.{RowGroupMetaData}
use Rattle.schema_to_tree.specs.Table.{trees_of}
use Rattle.pq_headline.specs.Laws.{LeavesAreAsMany}
use Rattle.pq_headline.specs.Opened.{OpensField, AreOpened}
use Rattle.pq_headline.specs.Openings.{Opening}
use Rattle.assembly.specs.Giving.{FieldReading, IsGiving}
use Rattle.rewrite_whole.specs.Opening.{AtField, IsChunkOf, IsFieldOf}
use Rattle.rewrite_whole.specs.Plans.{AreAsMany}
use Rattle.rewrite_whole.specs.Ready.{IsGroup, IsReady, OpensGroup, fields_in, tree_in}
use Rattle.rewrite_whole.specs.declared.job.Job.{Job}
use Rattle.rewrite_whole.proofs.Misfitting.{drop_on}
use Rattle.rewrite_whole.proofs.Opens.{Next, chunks_of, encodings_on, field_on, next_is}

-- what is known of a group as far as its fields are opened
abbrev pub Standing : Job → RowGroupMetaData → ℕ → FieldTrees → List ColumnChunkMetaData → List (Vec Encoding Global) → List FieldReading → Type 0
Standing job group rows left chunks encodings its = (others : List Leaf) × AtField job.input.now job.place rows job.options.now.chunk_size (fields_in job) (columns_of (tree_in job)) (group_view group).chunks left others chunks encodings its

as_many_of : (wanted : Bool) (fs : FieldTrees) (ts : Trees) (ess : List (Vec Encoding Global)) → AreChosen wanted fs ts (map (λ es. es.items) ess) → AreAsMany ts ess
as_many_of wanted no_fields no_trees [] h = tt
as_many_of wanted (more_fields (field n t b m) fs) (tree u us) (es ∷ ess) h = (ap length h.0 ∙ length-map (leaves u) (λ l. encoding_name (field_encoding wanted t l)), as_many_of wanted fs us ess h.1)
as_many_of wanted no_fields no_trees (es ∷ ess) h = absurd h
as_many_of wanted no_fields (tree u us) ess h = absurd h
as_many_of wanted (more_fields (field n t b m) fs) no_trees ess h = absurd h
as_many_of wanted (more_fields (field n t b m) fs) (tree u us) [] h = absurd h

pub group_begun :
    (job : Job) (group : RowGroupMetaData) (rows : ℕ) (xs : List Field) (left : List ColumnChunkMetaData) (its : List FieldReading) → IsReady job → IsGroup job group → xs ≡ job.plan.now.schema.fields.items → left ≡ group.columns.items → its ≡ []
    → Standing job group rows (fields_view xs) left job.plan.now.encodings.items its
group_begun job group rows xs left its r g ex el ei =
    let start : Standing job group rows (fields_in job) group.columns.items job.plan.now.encodings.items [] = (
      columns_of (tree_in job),
      record {
        openings = [];
        opened = λ more h. h;
        giving = tt;
        same = tt;
        alike = r.fits.alike;
        chunks_are = chunks_of job.place group.columns.items (columns_of (tree_in job)) g.placed.chunks g.described;
        held = r.fits.held;
        served = r.fits.served;
        nesting = r.nesting;
        encodings_are = subst (λ ts. AreAsMany ts job.plan.now.encodings.items) (ap (λ (s : Schema). s.fields) r.tree) (as_many_of job.options.now.delta (fields_in job) (tree_schema job.plan.now.tree).fields job.plan.now.encodings.items r.encodings);
      },
    ) in
    subst (λ q. Standing job group rows (fields_view q) left job.plan.now.encodings.items its) (sym ex)
    (subst (λ q. Standing job group rows (fields_in job) q job.plan.now.encodings.items its) (sym el) (subst (λ q. Standing job group rows (fields_in job) group.columns.items job.plan.now.encodings.items q) (sym ei) start))

-- encodings are left where a field is
encodings_left : (ess : List (Vec Encoding Global)) (i : ℕ) (f : FieldTree) (gs : FieldTrees) → AreAsMany (trees_of (more_fields f gs)) (drop i ess) → i < length ess
encodings_left [] zero f gs h = absurd h
encodings_left [] (suc i) f gs h = absurd h
encodings_left (es ∷ ess) zero f gs h = omega arith
encodings_left (es ∷ ess) (suc i) f gs h = omega (arith, encodings_left ess i f gs h)

pub at_next :
    (job : Job) (group : RowGroupMetaData) (rows : ℕ) (xs : List Field) (i : ℕ) (x : Field) (es : Vec Encoding Global) (left : List ColumnChunkMetaData) (its : List FieldReading) → i < length xs → x ≡ get_or xs i x
    → es ≡ get_or job.plan.now.encodings.items i es → Standing job group rows (fields_view (drop i xs)) left (drop i job.plan.now.encodings.items) its
    → Standing job group rows (more_fields (Rattle.columns_core.specs.View.field_view x) (fields_view (drop (i + 1) xs))) left (es ∷ drop (i + 1) job.plan.now.encodings.items) its
at_next job group rows xs i x es left its lt e k s =
    let on : Standing job group rows (more_fields (Rattle.columns_core.specs.View.field_view x) (fields_view (drop (i + 1) xs))) left (drop i job.plan.now.encodings.items) its =
    subst (λ q. Standing job group rows q left (drop i job.plan.now.encodings.items) its) (drop_on xs i x lt e) s in
    subst (λ q. Standing job group rows (more_fields (Rattle.columns_core.specs.View.field_view x) (fields_view (drop (i + 1) xs))) left q its)
    (encodings_on job.plan.now.encodings.items i es (encodings_left job.plan.now.encodings.items i (Rattle.columns_core.specs.View.field_view x) (fields_view (drop (i + 1) xs)) on.1.encodings_are) k) on

pub next_of : (job : Job) (group : RowGroupMetaData) (rows : ℕ) (f : FieldTree) (gs : FieldTrees) (left : List ColumnChunkMetaData) (es : Vec Encoding Global) (encodings : List (Vec Encoding Global)) (its : List FieldReading) → LeavesAreAsMany
    → (s : Standing job group rows (more_fields f gs) left (es ∷ encodings) its) → Next job.place f left s.1.alike.0 (length es.items)
next_of job group rows f gs left es encodings its law s =
    next_is job.input.now job.place rows job.options.now.chunk_size (fields_in job) (columns_of (tree_in job)) (group_view group).chunks f gs s.0 left es encodings its law s.1

pub front_is : (job : Job) (group : RowGroupMetaData) (rows : ℕ) (f : FieldTree) (gs : FieldTrees) (left front : List ColumnChunkMetaData) (es : Vec Encoding Global) (encodings : List (Vec Encoding Global)) (its : List FieldReading) (count : ℕ) → LeavesAreAsMany
    → Standing job group rows (more_fields f gs) left (es ∷ encodings) its → count ≡ length es.items → front ≡ take count left → (ks : List Leaf) × IsFieldOf job.place f front ks
front_is job group rows f gs left front es encodings its count law s ec ef =
    let n = next_of job group rows f gs left es encodings its law s in
    (s.1.alike.0, subst (λ q. IsFieldOf job.place f q s.1.alike.0) (sym (ef ∙ ap (λ k. take k left) ec)) n.is)

pub group_on :
    (job : Job) (group : RowGroupMetaData) (rows : ℕ) (f : FieldTree) (gs : FieldTrees) (left front back : List ColumnChunkMetaData) (es : Vec Encoding Global) (encodings : List (Vec Encoding Global)) (its after : List FieldReading) (it : FieldReading) (count : ℕ) → LeavesAreAsMany
    → Standing job group rows (more_fields f gs) left (es ∷ encodings) its → count ≡ length es.items → front ≡ take count left → back ≡ drop count left → after ≡ its ++ it ∷ []
    → ((ks : List Leaf) → IsFieldOf job.place f front ks → (o : Opening) × OpensField job.input.now job.place rows job.options.now.chunk_size f ks (map chunk_view front) o × IsGiving o [] it)
    → Standing job group rows gs back encodings after
group_on job group rows f gs left front back es encodings its after it count law s ec ef eb ea give =
    let n = next_of job group rows f gs left es encodings its law s in
    let same : front ≡ take (length es.items) left = ef ∙ ap (λ k. take k left) ec in
    let got = give s.1.alike.0 (subst (λ q. IsFieldOf job.place f q s.1.alike.0) (sym same) n.is) in
    let on : Standing job group rows gs (drop (length es.items) left) encodings (its ++ it ∷ []) = (
      drop (length es.items) s.0,
      field_on job.input.now job.place rows job.options.now.chunk_size (fields_in job) (columns_of (tree_in job)) (group_view group).chunks f gs s.0 left es encodings its it got.0 s.1 n.as_many
          (subst (λ q. OpensField job.input.now job.place rows job.options.now.chunk_size f s.1.alike.0 (map chunk_view q) got.0) same got.1) got.2,
    ) in
    subst (λ q. Standing job group rows gs q encodings after) (sym (eb ∙ ap (λ k. drop k left) ec)) (subst (λ q. Standing job group rows gs (drop (length es.items) left) encodings q) (sym ea) on)

some_opened : (bytes : List ℕ) (place rows : ℕ) (n : Option ℕ) (fs : FieldTrees) (ls : List Leaf) (ms : List ChunkMeta) (os : List Opening) → fs ≢ no_fields → AreOpened bytes place rows n fs ls ms os → 0 < length os
some_opened bytes place rows n no_fields ls ms os some h = absurd (some refl)
some_opened bytes place rows n (more_fields f fs) ls ms [] some h = absurd h
some_opened bytes place rows n (more_fields f fs) ls ms (o ∷ os) some h = omega arith

none_left : (place : ℕ) (cs : List ColumnChunkMetaData) (ls : List Leaf) → ls ≡ [] → AllZip (IsChunkOf place) cs ls → map chunk_view cs ≡ []
none_left place [] ls e h = refl
none_left place (c ∷ cs) ls e h = absurd (subst (λ q. AllZip (IsChunkOf place) (c ∷ cs) q) e h)

pub group_opened : (job : Job) (group : RowGroupMetaData) (rows : ℕ) (xs : List Field) (i : ℕ) (left : List ColumnChunkMetaData) (encodings : List (Vec Encoding Global)) (its : List FieldReading) → IsReady job → length xs ≤ i
    → Standing job group rows (fields_view (drop i xs)) left encodings its → OpensGroup job rows (group_view group) its
group_opened job group rows xs i left encodings its r le s =
    let t : Standing job group rows no_fields left encodings its = subst (λ q. Standing job group rows (fields_view q) left encodings its) (drop_of_length-le xs le) s in
    let a = t.1 in
    let all : AreOpened job.input.now job.place rows job.options.now.chunk_size (fields_in job) (columns_of (tree_in job)) (group_view group).chunks a.openings =
    subst (AreOpened job.input.now job.place rows job.options.now.chunk_size (fields_in job) (columns_of (tree_in job)) (group_view group).chunks) (append-nil a.openings) (a.opened [] (a.alike, none_left job.place left t.0 a.alike a.chunks_are)) in
    record {
      openings = a.openings;
      opened = all;
      under_way = record { same = a.same; some = some_opened job.input.now job.place rows job.options.now.chunk_size (fields_in job) (columns_of (tree_in job)) (group_view group).chunks a.openings r.fits.some all; are = tt; giving = a.giving };
    }
