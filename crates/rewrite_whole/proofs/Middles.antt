-- In the middle of a group.
use Rattle.std.proofs.Common.{◌≡◌, inl, inr, ◌+◌, ◌-◌, ◌<◌, ◌≤◌, ℕ, zero, suc, List, [], ◌∷◌, ◌++◌, length, map, Option, Some, None, refl, sym, ap, subst, ◌∙◌, arith, append_assoc, pos, get_or, Result, Ok, Err, ◌↔◌}
use Rattle.std.specs.Prelude.{IsErrOf, IfErr, OnOk}
use Rattle.columns_base.specs.declared.error.Error.TheVariants.{InvalidArgumentError}
use Rattle.columns_base.specs.declared.error.A.TheVariants.{A8}
use Rattle.std.proofs.lemmas.List.{map-append, append-nil, length-map}
use Rattle.std.proofs.lemmas.List.Sums.{sum_by-append, sum_by-cons}
use Rattle.columns_array.specs.Chunks.{AreEven, HaveLen as Lens}
use Rattle.columns_base.specs.declared.error.Error.{Error}
use Rattle.columns_core.specs.View.{schema_view}
use Rattle.columns_slots.specs.Slots.{first_len, tree_len}
use Rattle.columns_slots.specs.Tree.{ArrayTrees, no_arrays, more_arrays}
use Rattle.pq_metadata.specs.Footer.{GroupMeta}
use Rattle.pq_tree.specs.Tree.{columns_of}
use Rattle.pq_headline.specs.Opened.{AreItems, AreAssembled, AreChunksFrom, rows_in_chunks}
use Rattle.pq_headline.specs.Openings.{Opening}
use Rattle.pq_headline.specs.Arrays.{seen_in}
use Rattle.pq_headline.specs.Rows.{Seen}
use Rattle.pq_headline.proofs.Groups.{AreSame as Same}
use Rattle.pq_headline.proofs.Pieces.{are_typed, have_len, HaveLen, piece_rows, within}
use Rattle.pq_headline.proofs.Groups.{first_some}
use Rattle.pq_headline.proofs.Written.{group_of, read_none, read_more}
use Rattle.pq_tree.specs.Views.{group_view}
use Rattle.pq_tree.specs.Columns.{columns_in}
use Rattle.pq_tree.specs.Described.{IsDescribed}
use Rattle.pq_tree.specs.declared.types.RowGroupMetaData.{RowGroupMetaData}
use Rattle.pq_headline.specs.Opened.{GroupIsPlaced}
use Rattle.pq_headline.specs.Stages.{SomeFieldIs}
use Rattle.assembly.specs.Giving.{FieldReading}
use Rattle.rewrite_whole.specs.Groups.{IsOutput, TakesPiece, RefusesAny}
use Rattle.rewrite_whole.specs.Ready.{OpensGroup, AtPiece, IsPieceOf, Did, DidAll, IsReady, IsGroup, RefusesGroup, RefusesSome, asked_of, fields_in, tree_in}
use Rattle.rewrite_whole.specs.Views.{Grows, Sees}
use Rattle.rewrite_whole.specs.declared.job.Job.{Job}
use Rattle.rewrite_whole.specs.declared.output.Output.{Output}
use Rattle.rewrite_whole.proofs.Stepping.{same_is}
use Rattle.rewrite_whole.proofs.Zips.{any_at}

even_of : (cs : ArrayTrees) → HaveLen (first_len cs) cs → AreEven cs
even_of no_arrays h = tt
even_of (more_arrays c cs) h = go (tree_len c) cs h.1
  where
    go : (n : ℕ) (cs : ArrayTrees) → HaveLen n cs → Lens n cs
    go n no_arrays h = tt
    go n (more_arrays d ds) h = (h.0, go n ds h.1)

pub even_piece : (rows : ℕ) (n : Option ℕ) (before : ℕ) (os : List Opening) (cs : ArrayTrees) → 0 < length os → Same rows n os → AreItems before os cs → AreEven cs
even_piece rows n before os cs lt s h = even_of cs (have_len rows n before os cs lt s h)

-- the arrays of a piece are of one length
pub even_taken : (rows : ℕ) (n : Option ℕ) (os : List Opening) (its : List FieldReading) (chunks : List ArrayTrees) (piece : ArrayTrees) → TakesPiece rows n os its chunks piece → AreEven piece
even_taken rows n os its chunks piece t = even_piece rows n (rows_in_chunks chunks) os piece t.1.some (same_is rows n os t.1.same) t.0

-- so the chunk is made
pub never_uneven : (r : Result ArrayTrees Error) (cs : ArrayTrees) (P : Error → Type 0) → AreEven cs → IsErrOf r (InvalidArgumentError A8) ↔ (¬ AreEven cs) → IfErr r (λ e. e ≡ InvalidArgumentError A8) → IfErr r P
never_uneven (Ok c) cs P h f k = tt
never_uneven (Err e) cs P h f k = absurd (f.0 (ap Err k) h)

-- ---- a group under way

sees_none : (old : Option (List (List Seen))) → Sees old old []
sees_none None = tt
sees_none (Some xs) = ap Some (sym (append-nil xs))

-- a view that is shown nothing
pub nothing_shown : (view : Option (List (List Seen))) → Grows view view
nothing_shown view = ([], sees_none view)

pub sees_more : (old now next : Option (List (List Seen))) (xs : List (List Seen)) (x : List Seen) → Sees old now xs → Sees now next (x ∷ []) → Sees old next (xs ++ x ∷ [])
sees_more None now next xs x p q = tt
sees_more (Some old) None next xs x p q = absurd (cc_none old xs p)
  where
    cc_none : (old xs : List (List Seen)) → ◌≡◌ {A = Option (List (List Seen))} None (Some (old ++ xs)) → ⊥
    cc_none old xs e = cc
sees_more (Some old) (Some now) next xs x p q = q ∙ ap (λ k. Some (k ++ x ∷ [])) (some_is p) ∙ ap Some (append_assoc old xs (x ∷ []))
  where
    some_is : {a b : List (List Seen)} → ◌≡◌ {A = Option (List (List Seen))} (Some a) (Some b) → a ≡ b
    some_is e = cc

pub begun :
    (job : Job) (rows : ℕ) (m : GroupMeta) (its : List FieldReading) (view : Option (List (List Seen))) (output : Output)
    → OpensGroup job rows m its → AtPiece job rows m its rows view view output output
begun job rows m its view output h = record {
  openings = h.openings;
  opened = h.opened;
  chunks = [];
  under_way = h.under_way;
  total = omega arith;
  sees = sees_none view;
  output_is = λ others o. subst (λ cs. IsOutput (schema_view job.plan.now.schema) (asked_of job) output cs) (sym (append-nil others)) o;
}

pub piece_is :
    (job : Job) (rows : ℕ) (m : GroupMeta) (its next : List FieldReading) (left : ℕ) (before now : Option (List (List Seen))) (first output : Output) (piece : ArrayTrees)
    (a : AtPiece job rows m its left before now first output) → TakesPiece rows job.options.now.chunk_size a.openings next a.chunks piece → IsPieceOf job piece
piece_is job rows m its next left before now first output piece a t = record {
  typed = are_typed job.input.now job.place rows job.options.now.chunk_size (fields_in job) (columns_of (tree_in job)) m.chunks a.openings (rows_in_chunks a.chunks) piece a.opened t.0;
  even = even_taken rows job.options.now.chunk_size a.openings next a.chunks piece t;
  rows_are = piece_rows job.input.now job.place rows job.options.now.chunk_size (fields_in job) (columns_of (tree_in job)) m.chunks a.openings (rows_in_chunks a.chunks) piece t.1.some a.opened t.0;
  some = first_some (rows_in_chunks a.chunks) a.openings piece t.0 t.1.some;
}

pub piece_fits :
    (job : Job) (rows : ℕ) (m : GroupMeta) (its next : List FieldReading) (left : ℕ) (before now : Option (List (List Seen))) (first output : Output) (piece : ArrayTrees)
    (a : AtPiece job rows m its left before now first output) → TakesPiece rows job.options.now.chunk_size a.openings next a.chunks piece → first_len piece ≤ left
piece_fits job rows m its next left before now first output piece a t =
    let w : first_len piece ≤ rows - rows_in_chunks a.chunks = within rows job.options.now.chunk_size (rows_in_chunks a.chunks) a.openings piece t.1.some (same_is rows job.options.now.chunk_size a.openings t.1.same) t.0 in
    omega (arith, a.total)

pub piece_some :
    (job : Job) (rows : ℕ) (m : GroupMeta) (its next : List FieldReading) (left : ℕ) (before now : Option (List (List Seen))) (first output : Output) (piece : ArrayTrees)
    (a : AtPiece job rows m its left before now first output) → TakesPiece rows job.options.now.chunk_size a.openings next a.chunks piece → 0 < first_len piece
piece_some job rows m its next left before now first output piece a t = first_some (rows_in_chunks a.chunks) a.openings piece t.0 t.1.some

rows_on : (chunks : List ArrayTrees) (piece : ArrayTrees) → rows_in_chunks (chunks ++ piece ∷ []) ≡ rows_in_chunks chunks + first_len piece
rows_on chunks piece = sum_by-append first_len chunks (piece ∷ []) ∙ ap (λ k. rows_in_chunks chunks + k) (sum_by-cons first_len piece [] ∙ omega arith)

pub gone_on :
    (job : Job) (rows : ℕ) (m : GroupMeta) (its next : List FieldReading) (left : ℕ) (before now later : Option (List (List Seen))) (first output after : Output) (piece : ArrayTrees)
    (a : AtPiece job rows m its left before now first output) → TakesPiece rows job.options.now.chunk_size a.openings next a.chunks piece
    → Sees now later (seen_in piece ∷ [])
    → ((chunks : List ArrayTrees) → IsOutput (schema_view job.plan.now.schema) (asked_of job) output chunks → IsOutput (schema_view job.plan.now.schema) (asked_of job) after (chunks ++ piece ∷ []))
    → AtPiece job rows m next (left - first_len piece) before later first after
gone_on job rows m its next left before now later first output after piece a t s p =
    let w : first_len piece ≤ left = piece_fits job rows m its next left before now first output piece a t in
    record {
      openings = a.openings;
      opened = a.opened;
      chunks = a.chunks ++ piece ∷ [];
      under_way = t.1;
      total = omega (arith, a.total, rows_on a.chunks piece);
      sees = subst (λ xs. Sees before later xs) (sym (map-append seen_in a.chunks (piece ∷ []))) (sees_more before now later (map seen_in a.chunks) (seen_in piece) a.sees s);
      output_is = λ others h. subst (λ cs. IsOutput (schema_view job.plan.now.schema) (asked_of job) after cs) (append_assoc others a.chunks (piece ∷ [])) (p (others ++ a.chunks) (a.output_is others h));
    }

pub done :
    (job : Job) (rows : ℕ) (m : GroupMeta) (its : List FieldReading) (left : ℕ) (before now : Option (List (List Seen))) (first output : Output)
    (a : AtPiece job rows m its left before now first output) → left ≡ 0 → m.num_rows ≡ pos rows → AreAssembled 0 a.openings a.chunks
    → Did job m before now first output
done job rows m its left before now first output a none e all = record {
  chunks = a.chunks;
  sees = a.sees;
  read = group_of job.options.now.chunk_size (fields_in job) (tree_in job) job.input.now job.place rows m a.openings a.chunks e a.under_way.some a.opened a.under_way.are all (omega (arith, a.total));
  output_is = a.output_is;
}

pub refuses :
    (job : Job) (rows : ℕ) (m : GroupMeta) (os : List Opening) (e : Error)
    → m.num_rows ≡ pos rows → Rattle.pq_headline.specs.Opened.AreOpened job.input.now job.place rows job.options.now.chunk_size (fields_in job) (columns_of (tree_in job)) m.chunks os → RefusesAny os e → RefusesGroup job m e
refuses job rows m os e n o (inl f) = inl f
refuses job rows m os e n o (inr f) = inr (rows, n, os, o, f)

pub on_ok : {A : Type 0} (r : Result A Error) (P Q : Type 0) → (P → Q) → OnOk r P → OnOk r Q
on_ok (Ok x) P Q f h = f h
on_ok (Err e) P Q f h = tt

pub if_err : {A : Type 0} (r : Result A Error) (P Q : Error → Type 0) → ((e : Error) → P e → Q e) → IfErr r P → IfErr r Q
if_err (Ok x) P Q f h = tt
if_err (Err e) P Q f h = f e h

-- ---- group after group

pub sees_all : (old now next : Option (List (List Seen))) (xs ys : List (List Seen)) → Sees old now xs → Sees now next ys → Sees old next (xs ++ ys)
sees_all None now next xs ys p q = tt
sees_all (Some old) now next xs ys p q =
    let r : Sees (Some (old ++ xs)) next ys = subst (λ k. Sees k next ys) p q in
    r ∙ ap Some (append_assoc old xs ys)

pub did_none : (job : Job) (view : Option (List (List Seen))) (output : Output) → IsOutput (schema_view job.plan.now.schema) (asked_of job) output [] → DidAll job [] view view output
did_none job view output h = record {
  chunks = [];
  sees = sees_none view;
  read = read_none job.options.now.chunk_size (fields_in job) (tree_in job) job.input.now job.place;
  output_is = h;
}

pub did_more :
    (job : Job) (ms : List GroupMeta) (m : GroupMeta) (before now later : Option (List (List Seen))) (output after : Output)
    → DidAll job ms before now output → Did job m now later output after → DidAll job (ms ++ m ∷ []) before later after
did_more job ms m before now later output after d n = record {
  chunks = d.chunks ++ n.chunks;
  sees = subst (λ xs. Sees before later xs) (sym (map-append seen_in d.chunks n.chunks)) (sees_all before now later (map seen_in d.chunks) (map seen_in n.chunks) d.sees n.sees);
  read = read_more job.options.now.chunk_size (fields_in job) (tree_in job) job.input.now job.place ms (m ∷ []) d.chunks n.chunks d.read n.read;
  output_is = n.output_is d.chunks d.output_is;
}

get_map : (gs : List RowGroupMetaData) (i : ℕ) (g : RowGroupMetaData) → i < length gs → get_or (map group_view gs) i (group_view g) ≡ group_view (get_or gs i g)
get_map [] i g lt = absurd (omega arith)
get_map (x ∷ gs) zero g lt = refl
get_map (x ∷ gs) (suc i) g lt = get_map gs i g (omega arith)

pub one_of : (job : Job) (i : ℕ) (g : RowGroupMetaData) → IsReady job → i < length job.metadata.now.row_groups.items → g ≡ get_or job.metadata.now.row_groups.items i g → IsGroup job g
one_of job i g r lt e = record {
  placed =
      subst (GroupIsPlaced job.place (columns_of (tree_in job))) (get_map job.metadata.now.row_groups.items i g lt ∙ ap group_view (sym e))
      (r.placed i (group_view g) (subst (λ k. i < k) (sym (length-map job.metadata.now.row_groups.items group_view)) lt));
  described = subst (λ x. IsDescribed (columns_in (tree_in job).fields) x) (sym e) (r.described i g lt);
}

pub some_refuses : (job : Job) (i : ℕ) (g : RowGroupMetaData) (e : Error) → i < length job.metadata.now.row_groups.items → g ≡ get_or job.metadata.now.row_groups.items i g → RefusesGroup job (group_view g) e → RefusesSome job e
some_refuses job i g e lt is (inl m) = inl m
some_refuses job i g e lt is (inr f) = inr (any_at (SomeFieldIs job.input.now job.place (asked_of job) (fields_in job) (columns_of (tree_in job)) e) group_view job.metadata.now.row_groups.items i g lt is f)
