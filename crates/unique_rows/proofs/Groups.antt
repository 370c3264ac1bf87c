-- The groups of a file that was written for rows, as its footer tells of them.
use Rattle.std.proofs.Common.{◌≡◌, ℕ, pos, List, [], ◌∷◌, All, map, flat_map, length, length-append, Option, refl, sym, ap, subst, ◌∙◌, inl, inr, arith}
use Rattle.std.specs.Prelude.{sum_by}
use Rattle.std.proofs.lemmas.List.Sums.{sum_by-cons}
use Rattle.std.proofs.lemmas.List.Elements.{All-from_recursion, recursion_from_All}
use Rattle.std.specs.List.{AllByRecursion, AllZip}
use Rattle.shredding.specs.Shape.{AreOf}
use Rattle.shredding.specs.Shred.{column}
use Rattle.shredding.specs.Slot.{Slots, Value, fields}
use Rattle.columns_base.specs.declared.error.Error.{Error}
use Rattle.columns_core.specs.Shapes.{shapes_of}
use Rattle.columns_core.specs.Tree.{FieldTrees}
use Rattle.pq_metadata.proofs.Injective.{pos_same}
use Rattle.pq_metadata.specs.Footer.{ChunkMeta, GroupMeta}
use Rattle.pq_tree.specs.Tree.{Leaf, columns_of}
use Rattle.pq_files.specs.Carried.{IsChunkOf}
use Rattle.pq_files.specs.Chunk.{Chunk, IsChunk, IsPageIn, Page, Pages, RawPage, here, page, triples_of}
use Rattle.pq_files.specs.Layout.{OutGroup}
use Rattle.pq_files.specs.Packed.{triples_out}
use Rattle.pq_files.specs.Page.{rows_in}
use Rattle.pq_files.specs.Reasons.{AnyOf}
use Rattle.schema_to_tree.specs.Table.{schema_of}
use Rattle.pq_headline.proofs.Plain.{NoKeys}
use Rattle.pq_headline.specs.Columns.{ArrowColumn, schema_columns}
use Rattle.pq_headline.specs.Opened.{ChunkIsPlaced, GroupIsPlaced}
use Rattle.pq_headline.specs.Output.{Style, all_chosen}
use Rattle.pq_headline.specs.Rewrites.{Asked}
use Rattle.pq_headline.specs.Stages.{SomeFieldIs, claimed}
use Rattle.unique_rows.proofs.Fields.{ForSize, SomePasses, all_from, fields_refused, zipped}
use Rattle.unique_rows.proofs.Found.{AreGroupsFound, HaveNoEntries, IsGroupFound}
use Rattle.unique_rows.proofs.Given.{counted_as}
use Rattle.unique_rows.proofs.Sound.{AreSound, IsSound, are_sound, no_entries_out}
use Rattle.unique_rows.proofs.Unique.{all_none}
use Rattle.unique_rows.specs.Held.{AreRowsIn}
use Rattle.unique_rows.specs.Valid.{pairs_in_group, pairs_in_rows}

-- The footer tells of a group that holds the rows.
pub record IsGroupOf (bytes : List ℕ) (place : ℕ) (fs : FieldTrees) (rows : List Slots) (m : GroupMeta) : Type 0 where
  pub are : All (AreOf (shapes_of fs)) rows
  pub many : m.num_rows ≡ pos (length rows)
  pub sound : AreSound bytes place rows (schema_columns fs) (columns_of (schema_of fs)) m.chunks

group_is : (s : Style) (bytes : List ℕ) (place : ℕ) (fs : FieldTrees) (rows : List Slots) (m : GroupMeta) (out : OutGroup) → NoKeys (schema_columns fs) → AreRowsIn s fs rows out → IsGroupFound bytes place (columns_of (schema_of fs)) m out → IsGroupOf bytes place fs rows m
group_is s bytes place fs rows m out k r f =
    let counted : AllByRecursion (λ c. rows_in (triples_out c) ≡ length rows) out.chunks =
    subst (λ (n : ℕ). AllByRecursion (λ c. rows_in (triples_out c) ≡ n) out.chunks) r.laid.rows_are (recursion_from_All (λ c. rows_in (triples_out c) ≡ out.rows) out.chunks f.counted) in
    record {
      are = r.are;
      many = f.rows ∙ ap pos r.laid.rows_are;
      sound = are_sound s r.deltas bytes place rows (schema_columns fs) (columns_of (schema_of fs)) m.chunks r.entries out.chunks (all_none r.entries r.none) k r.laid.columns f.chunks counted;
    }

abbrev pub AreGroupsOf : List ℕ → ℕ → FieldTrees → List (List Slots) → List GroupMeta → Type 0
AreGroupsOf bytes place fs rowss ms = AllZip (IsGroupOf bytes place fs) rowss ms

pub groups_are : (s : Style) (bytes : List ℕ) (place : ℕ) (fs : FieldTrees) (rowss : List (List Slots)) (ms : List GroupMeta) (outs : List OutGroup) → NoKeys (schema_columns fs) → AllZip (AreRowsIn s fs) rowss outs → AreGroupsFound bytes place (columns_of (schema_of fs)) ms outs → AreGroupsOf bytes place fs rowss ms
groups_are s bytes place fs [] [] [] k r f = tt
groups_are s bytes place fs [] (m ∷ ms) [] k r f = absurd f
groups_are s bytes place fs [] ms (out ∷ outs) k r f = absurd r
groups_are s bytes place fs (q ∷ qs) ms [] k r f = absurd r
groups_are s bytes place fs (q ∷ qs) [] (out ∷ outs) k r f = absurd f
groups_are s bytes place fs (q ∷ qs) (m ∷ ms) (out ∷ outs) k r f = (group_is s bytes place fs q m out k r.0 f.0, groups_are s bytes place fs qs ms outs k r.1 f.1)

pub no_entries : (s : Style) (fs : FieldTrees) (rowss : List (List Slots)) (outs : List OutGroup) → AllZip (AreRowsIn s fs) rowss outs → AllByRecursion (λ g. HaveNoEntries g.chunks) outs
no_entries s fs [] [] r = tt
no_entries s fs [] (out ∷ outs) r = absurd r
no_entries s fs (q ∷ qs) [] r = absurd r
no_entries s fs (q ∷ qs) (out ∷ outs) r = (
  no_entries_out s q (schema_columns fs) (columns_of (schema_of fs)) (all_chosen r.0.deltas (schema_columns fs) (columns_of (schema_of fs))) r.0.entries out.chunks (all_none r.0.entries r.0.none) r.0.laid.columns,
  no_entries s fs qs outs r.1,
)

-- ---- chunks lie in their places

chunk_placed : (bytes : List ℕ) (place : ℕ) (m : ChunkMeta) (l : Leaf) (c : Chunk) → IsChunkOf bytes place m l c → ChunkIsPlaced place m l
chunk_placed bytes place m l c is = record {
  here = is.here;
  physical = is.physical;
  codec = is.codec;
  num_values = is.num_values;
  has_num_values = is.has_num_values;
  start = is.start;
  starts = is.starts;
  behind_magic = is.behind_magic;
  size = is.size;
  has_size = is.has_size;
  before_footer = is.before_footer;
}

chunks_placed : (bytes : List ℕ) (place : ℕ) (rows : List Slots) (cs : List ArrowColumn) (ls : List Leaf) (ms : List ChunkMeta) → AreSound bytes place rows cs ls ms → AllZip (ChunkIsPlaced place) ms ls
chunks_placed bytes place rows [] [] [] s = tt
chunks_placed bytes place rows [] [] (m ∷ ms) s = absurd s
chunks_placed bytes place rows [] (l ∷ ls) ms s = absurd s
chunks_placed bytes place rows (c ∷ cs) [] ms s = absurd s
chunks_placed bytes place rows (c ∷ cs) (l ∷ ls) [] s = absurd s
chunks_placed bytes place rows (c ∷ cs) (l ∷ ls) (m ∷ ms) s = (chunk_placed bytes place m l s.0.chunk s.0.is, chunks_placed bytes place rows cs ls ms s.1)

each_placed : (bytes : List ℕ) (place : ℕ) (fs : FieldTrees) (rowss : List (List Slots)) (ms : List GroupMeta) → AreGroupsOf bytes place fs rowss ms → AllByRecursion (GroupIsPlaced place (columns_of (schema_of fs))) ms
each_placed bytes place fs [] [] g = tt
each_placed bytes place fs [] (m ∷ ms) g = absurd g
each_placed bytes place fs (q ∷ qs) [] g = absurd g
each_placed bytes place fs (q ∷ qs) (m ∷ ms) g = (
  record { rows = length q; has_rows = g.0.many; chunks = chunks_placed bytes place q (schema_columns fs) (columns_of (schema_of fs)) m.chunks g.0.sound },
  each_placed bytes place fs qs ms g.1,
)

pub groups_placed : (bytes : List ℕ) (place : ℕ) (fs : FieldTrees) (rowss : List (List Slots)) (ms : List GroupMeta) → AreGroupsOf bytes place fs rowss ms → All (GroupIsPlaced place (columns_of (schema_of fs))) ms
groups_placed bytes place fs rowss ms g = All-from_recursion (GroupIsPlaced place (columns_of (schema_of fs))) ms (each_placed bytes place fs rowss ms g)

-- ---- the pairs that the footer claims are those of the rows

all_counted : (l : Leaf) (entries : Option (List Value)) (n m : ℕ) (text rest : List ℕ) (raws : List RawPage) (pages : List Page) → m ≡ 0 → Pages n text raws m rest → AllZip (IsPageIn l entries) raws pages → n ≡ length (flat_map (λ p. p.triples) pages)
all_counted l entries _ _ _ _ _ [] z (here m rest) h = z
all_counted l entries _ _ _ _ _ (q ∷ qs) z (here m rest) h = absurd h
all_counted l entries _ _ _ _ _ [] z (page k m text bytes rest p more is is_data some others) h = absurd h
all_counted l entries _ _ _ _ _ (q ∷ qs) z (page k m text bytes rest p more is is_data some others) h =
    omega (arith, counted_as p.header h.0.is.encoding q.triples h.0.is.has_encoding h.0.is.counted, all_counted l entries k m bytes rest more qs z others h.1, length-append q.triples (flat_map (λ x. x.triples) qs))

column_claims : (bytes : List ℕ) (place : ℕ) (rows : List Slots) (c : ArrowColumn) (l : Leaf) (m : ChunkMeta) → IsSound bytes place rows c l m → claimed m.num_values ≡ length (column c.way (map fields rows))
column_claims bytes place rows c l m s =
    let is : IsChunk l s.is.num_values s.is.text s.chunk = s.is.is in
    ap claimed s.is.has_num_values ∙ all_counted l s.chunk.entries s.is.num_values 0 is.has.behind is.has.surplus is.pages s.chunk.pages refl is.has.are is.holds.are
    ∙ sym (zipped _ (column c.way (map fields rows)) (triples_of s.chunk) s.shred)

group_claims : (bytes : List ℕ) (place : ℕ) (rows : List Slots) (cs : List ArrowColumn) (ls : List Leaf) (ms : List ChunkMeta) → AreSound bytes place rows cs ls ms → sum_by (λ m. claimed m.num_values) ms ≡ sum_by (λ c. length (column c.way (map fields rows))) cs
group_claims bytes place rows [] [] [] s = refl
group_claims bytes place rows [] [] (m ∷ ms) s = absurd s
group_claims bytes place rows [] (l ∷ ls) ms s = absurd s
group_claims bytes place rows (c ∷ cs) [] ms s = absurd s
group_claims bytes place rows (c ∷ cs) (l ∷ ls) [] s = absurd s
group_claims bytes place rows (c ∷ cs) (l ∷ ls) (m ∷ ms) s =
    omega (arith, sum_by-cons (λ x. claimed x.num_values) m ms, sum_by-cons (λ x. length (column x.way (map fields rows))) c cs, column_claims bytes place rows c l m s.0, group_claims bytes place rows cs ls ms s.1)

pub groups_claim : (bytes : List ℕ) (place : ℕ) (fs : FieldTrees) (rowss : List (List Slots)) (ms : List GroupMeta) → AreGroupsOf bytes place fs rowss ms → sum_by (λ g. sum_by (λ m. claimed m.num_values) g.chunks) ms ≡ pairs_in_rows fs rowss
groups_claim bytes place fs [] [] g = refl
groups_claim bytes place fs [] (m ∷ ms) g = absurd g
groups_claim bytes place fs (q ∷ qs) [] g = absurd g
groups_claim bytes place fs (q ∷ qs) (m ∷ ms) g =
    omega (
      arith,
      sum_by-cons (λ x. sum_by (λ y. claimed y.num_values) x.chunks) m ms,
      sum_by-cons (pairs_in_group fs) q qs,
      group_claims bytes place q (schema_columns fs) (columns_of (schema_of fs)) m.chunks g.0.sound,
      groups_claim bytes place fs qs ms g.1,
    )

-- ---- why one of them is refused

group_refused : (bytes : List ℕ) (place : ℕ) (asked : Asked) (fs : FieldTrees) (rows : List Slots) (m : GroupMeta) (e : Error) → IsGroupOf bytes place fs rows m → SomeFieldIs bytes place asked fs (columns_of (schema_of fs)) e m → ForSize e (SomePasses asked.chunk_size rows 0 fs)
group_refused bytes place asked fs rows m e g h =
    fields_refused bytes place h.0 0 asked.chunk_size rows fs (columns_of (schema_of fs)) m.chunks h.2 e (pos_same h.0 (length rows) (sym h.1 ∙ g.many)) (all_from fs rows (recursion_from_All (AreOf (shapes_of fs)) rows g.are)) g.sound h.3 h.4

one_more : {A : Type 0} (P : A → Type 0) (x : A) (xs : List A) (e : Error) → ForSize e (AnyOf P xs) → ForSize e (AnyOf P (x ∷ xs))
one_more P x xs e (inl m) = inl m
one_more P x xs e (inr h) = inr (h.0, inr h.1)

first_one : {A : Type 0} (P : A → Type 0) (x : A) (xs : List A) (e : Error) → ForSize e (P x) → ForSize e (AnyOf P (x ∷ xs))
first_one P x xs e (inl m) = inl m
first_one P x xs e (inr h) = inr (h.0, inl h.1)

pub groups_refused : (bytes : List ℕ) (place : ℕ) (asked : Asked) (fs : FieldTrees) (rowss : List (List Slots)) (ms : List GroupMeta) (e : Error)
    → AreGroupsOf bytes place fs rowss ms → AnyOf (SomeFieldIs bytes place asked fs (columns_of (schema_of fs)) e) ms → ForSize e (AnyOf (λ rows. SomePasses asked.chunk_size rows 0 fs) rowss)
groups_refused bytes place asked fs [] [] e g h = absurd h
groups_refused bytes place asked fs [] (m ∷ ms) e g h = absurd g
groups_refused bytes place asked fs (q ∷ qs) [] e g h = absurd g
groups_refused bytes place asked fs (q ∷ qs) (m ∷ ms) e g (inl h) = first_one (λ rows. SomePasses asked.chunk_size rows 0 fs) q qs e (group_refused bytes place asked fs q m e g.0 h)
groups_refused bytes place asked fs (q ∷ qs) (m ∷ ms) e g (inr h) = one_more (λ rows. SomePasses asked.chunk_size rows 0 fs) q qs e (groups_refused bytes place asked fs qs ms e g.1 h)
