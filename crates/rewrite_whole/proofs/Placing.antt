-- Chunks in their places.
use Rattle.std.proofs.Common.{◌≡◌, ◌≢◌, inl, inr, ◌<◌, ◌≤◌, ◌<ℤ◌, ℕ, ℤ, pos, negsuc, List, length, map, take, get_or, Some, None, [], refl, sym, subst, ap, ◌∙◌, arith}
use Rattle.std.proofs.lemmas.List.{take_all, length-map}
use Rattle.std.specs.List.{AllZip}
use Rattle.columns_base.specs.declared.error.Error.{Error}
use Rattle.columns_base.specs.declared.error.Error.TheVariants.{OutOfSpec, NotYetImplemented}
use Rattle.columns_base.specs.declared.error.N.TheVariants as N
use Rattle.columns_base.specs.declared.error.S.TheVariants as S
use Rattle.pq_metadata.specs.Footer.{ChunkMeta, Footer, GroupMeta}
use Rattle.pq_tree.specs.Columns.{column_of}
use Rattle.pq_tree.specs.Described.{column_view}
use Rattle.pq_tree.specs.Tree.{Leaf, columns_of}
use Rattle.pq_tree.specs.Views.{chunk_view, group_view}
use Rattle.pq_tree.specs.declared.types.ColumnChunkMetaData.{ColumnChunkMetaData}
use Rattle.pq_tree.specs.declared.types.Descriptor.{Descriptor}
use Rattle.pq_tree.specs.declared.types.RowGroupMetaData.{RowGroupMetaData}
use Rattle.pq_files.specs.Reasons.{AnyOf, ChunkIsBad, GroupIsBad}
use Rattle.pq_headline.specs.Opened.{ChunkIsPlaced, GroupIsPlaced}
use Rattle.rewrite_whole.specs.Places.{RefusesChunk, RefusesPlaces, RefusesStage5}
use Rattle.rewrite_whole.proofs.Zips.{any_zip, any_at, beside}

no_n1 : OutOfSpec S.S2 ≡ NotYetImplemented N.N1 → ⊥
no_n1 q = cc

no_n3 : OutOfSpec S.S2 ≡ NotYetImplemented N.N3 → ⊥
no_n3 q = cc

is_bad : (place : ℕ) (m : ChunkMeta) (l : Leaf) (e : Error) → e ≡ OutOfSpec S.S2 → RefusesChunk place m l e → ChunkIsBad place m l
is_bad place m l e eq (inl s) = s.1
is_bad place m l e eq (inr (inl n)) = absurd (no_n1 (sym eq ∙ n.0))
is_bad place m l e eq (inr (inr n)) = absurd (no_n3 (sym eq ∙ n.0))

-- what refuses a chunk refuses its group
pub group_refused :
    (place : ℕ) (g : RowGroupMetaData) (columns : List Descriptor) (ls : List Leaf) (i : ℕ) (x : ColumnChunkMetaData) (y : Descriptor) (e : Error)
    → map column_view columns ≡ map column_of ls → i < length g.columns.items → i < length columns → x ≡ get_or g.columns.items i x → y ≡ get_or columns i y
    → ((l : Leaf) → column_view y ≡ column_of l → RefusesChunk place (chunk_view x) l e) → RefusesPlaces place ls (group_view g) e
group_refused place g columns ls i x y e same lx ly ix iy f =
    let l = beside column_view column_of columns ls i y same ly iy in
    by l.0 (f l.0 l.1)
  where
    bad : e ≡ OutOfSpec S.S2 → (l : Leaf) → column_view y ≡ column_of l → ChunkIsBad place (chunk_view x) l
    bad eq l q = is_bad place (chunk_view x) l e eq (f l q)

    by : (l : Leaf) → RefusesChunk place (chunk_view x) l e → RefusesPlaces place ls (group_view g) e
    by l (inl s) = inl (s.0, inr (inr (any_zip (ChunkIsBad place) chunk_view column_view column_of g.columns.items columns ls i x y same lx ly ix iy (bad s.0))))
    by l (inr (inl n)) = inr (inl (n.0, any_at (λ (m : ChunkMeta). m.codec ≢ pos 0) chunk_view g.columns.items i x lx ix n.1))
    by l (inr (inr n)) = inr (inr (n.0, any_at (λ (m : ChunkMeta). (m.file_path ≢ None) × (m.file_path ≢ Some [])) chunk_view g.columns.items i x lx ix (n.1, n.2)))

not_negative : (z : ℤ) → (◌<ℤ◌ z (pos 0) → ⊥) → (n : ℕ) × (z ≡ pos n)
not_negative (pos n) h = (n, refl)
not_negative (negsuc n) h = absurd (h (omega arith))

-- a group whose chunks were all gone through
pub whole :
    (place : ℕ) (g : RowGroupMetaData) (columns : List Descriptor) (ls : List Leaf) (i : ℕ) → map column_view columns ≡ map column_of ls → length g.columns.items ≤ i → length g.columns.items ≡ length columns
    → (◌<ℤ◌ g.num_rows (pos 0) → ⊥) → AllZip (ChunkIsPlaced place) (map chunk_view (take i g.columns.items)) (take i ls) → GroupIsPlaced place ls (group_view g)
whole place g columns ls i same all even nat h =
    let n = not_negative g.num_rows nat in
    let k : length ls ≡ length columns = sym (length-map ls column_of) ∙ ap length (sym same) ∙ length-map columns column_view in
    record {
      rows = n.0;
      has_rows = n.1;
      chunks = subst (λ cs. AllZip (ChunkIsPlaced place) (map chunk_view cs) ls) (take_all i g.columns.items all) (subst (λ bs. AllZip (ChunkIsPlaced place) (map chunk_view (take i g.columns.items)) bs) (take_all i ls (omega (arith, k))) h);
    }

-- what refuses a group refuses the footer
pub stage_refused : (place : ℕ) (f : Footer) (gs : List RowGroupMetaData) (i : ℕ) (g : RowGroupMetaData) (e : Error) → f.groups ≡ map group_view gs → i < length gs → g ≡ get_or gs i g → RefusesPlaces place (columns_of f.schema) (group_view g) e → RefusesStage5 place f e
stage_refused place f gs i g e eq lt is (inl h) = inl (h.0, subst (AnyOf (GroupIsBad place (columns_of f.schema))) (sym eq) (any_at (GroupIsBad place (columns_of f.schema)) group_view gs i g lt is h.1))
stage_refused place f gs i g e eq lt is (inr (inl h)) = inr (inl (h.0, subst (AnyOf (λ k. AnyOf (λ m. m.codec ≢ pos 0) k.chunks)) (sym eq) (any_at (λ (k : GroupMeta). AnyOf (λ m. m.codec ≢ pos 0) k.chunks) group_view gs i g lt is h.1)))
stage_refused place f gs i g e eq lt is (inr (inr h)) = inr (inr (h.0, subst (AnyOf (λ k. AnyOf (λ m. (m.file_path ≢ None) × (m.file_path ≢ Some [])) k.chunks)) (sym eq) (any_at (λ (k : GroupMeta). AnyOf (λ m. (m.file_path ≢ None) × (m.file_path ≢ Some [])) k.chunks) group_view gs i g lt is h.1)))
