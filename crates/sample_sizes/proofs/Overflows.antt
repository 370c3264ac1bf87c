-- No array of a file of the sample passes its offsets.
use Rattle.std.proofs.Common.{◌≡◌, ℕ, ◌≤◌, List, [], ◌∷◌, All, length, map, sum_by, inl, inr, subst, arith}
use Rattle.std.specs.List.{AllByRecursion, AllZip}
use Rattle.std.proofs.lemmas.List.{length-map}
use Rattle.std.proofs.lemmas.List.Elements.{recursion_from_All}
use Rattle.std.proofs.lemmas.List.Sums.{sum_by-cons}
use Rattle.shredding.specs.Slot.{Slot, Slots, fields}
use Rattle.columns_base.specs.declared.error.Error.{Error}
use Rattle.columns_core.specs.View.{SchemaTree}
use Rattle.pq_files.proofs.CarriedOnce.{frame_same, record_same}
use Rattle.pq_files.specs.Carried.{Group, GroupPages, HoldsPages, IsGroup, group_in}
use Rattle.pq_files.specs.Layout.{OutChunk, OutGroup}
use Rattle.pq_files.specs.Packed.{column_out, group_out, triples_out}
use Rattle.pq_files.specs.Reasons.{AnyOf}
use Rattle.pq_headline.specs.Columns.{ArrowColumn, schema_columns}
use Rattle.pq_headline.specs.FieldReasons.{Refuses}
use Rattle.pq_headline.specs.Output.{Style}
use Rattle.pq_headline.specs.Rewrites.{Asked, HasFooterAt}
use Rattle.pq_headline.specs.Stages.{SomeFieldIs}
use Rattle.pq_metadata.specs.Footer.{Footer, GroupMeta, Key}
use Rattle.pq_tree.specs.Tree.{Leaf, Schema, columns_of}
use Rattle.pq_tree.specs.declared.version.Version.{Version}
use Rattle.sample_rows.specs.Fields.{sample_fields, sample_tree}
use Rattle.sample_sizes.proofs.Bytes.{files_are_small}
use Rattle.sample_sizes.proofs.Held.{all_laid_out}
use Rattle.sample_sizes.proofs.Fine.{as_slots, column_small}
use Rattle.sample_sizes.proofs.Neat.{AreNeat}
use Rattle.sample_sizes.proofs.Opened.{AreSafe, IsFew, IsNone, none_refused, small_chunks}
use Rattle.sample_sizes.proofs.Rooms.{neat_group}
use Rattle.sample_sizes.proofs.Slim.{IsSlot}
use Rattle.sample_sizes.specs.Laid.{IsLaidOut}
use Rattle.sample_sizes.specs.Rows.{AreGroupsOfRows, IsRow}
use Rattle.schema_codec.specs.Spelling.{plain_bytes}
use Rattle.schema_to_tree.specs.Table.{schema_of}
use Rattle.unique_rows.specs.Rewritten.{IsFileFor}

-- ---- the columns of the sample have few triples
few_columns : (ss : List Slot) (cs : List ArrowColumn) (ls : List Leaf) (outs : List OutChunk) → AllByRecursion IsSlot ss → length ss ≤ 1000000 → AreNeat ss cs ls outs → AllByRecursion IsFew (map column_out outs)
few_columns ss [] [] [] a few n = tt
few_columns ss [] [] (o ∷ os) a few n = absurd n
few_columns ss [] (l ∷ ls) os a few n = absurd n
few_columns ss (c ∷ cs) [] os a few n = absurd n
few_columns ss (c ∷ cs) (l ∷ ls) [] a few n = absurd n
few_columns ss (c ∷ cs) (l ∷ ls) (o ∷ os) a few n =
    ((n.1.entries, omega (arith, (column_small c l ss (triples_out o) n.0 a n.1.stored).short, few)), few_columns ss cs ls os a few n.2)

abbrev HasFew : Group → Type 0
HasFew g = AllByRecursion IsFew g.columns

few_groups : (s : Style) (rowss : List (List Slots)) (outs : List OutGroup) → AllByRecursion (All IsRow) rowss → sum_by length rowss ≤ 1000000 → AllZip (IsLaidOut s) rowss outs → AllByRecursion HasFew (map group_out outs)
few_groups s [] [] a few h = tt
few_groups s [] (o ∷ os) a few h = absurd h
few_groups s (r ∷ rs) [] a few h = absurd h
few_groups s (r ∷ rs) (o ∷ os) a few h =
    let sum = sum_by-cons (length {A = Slots}) r rs in (
      few_columns (map fields r) (schema_columns sample_fields) (columns_of (schema_of sample_fields)) o.chunks (as_slots r (recursion_from_All IsRow r a.0)) (omega (arith, sum, few, length-map r fields)) (neat_group s r o a.0 h.0),
      few_groups s rs os a.1 (omega (arith, sum, few)) h.1,
    )

-- ---- its fields
safe : AreSafe sample_fields
safe = (
  (record { limits = tt; texts = λ vs h. absurd h; entries = λ es h. absurd h; keys = λ n h. absurd h }, tt),
  (
    (record { limits = tt; texts = λ vs h. omega (arith, h); entries = λ es h. absurd h; keys = λ n h. absurd h }, tt),
    ((record { limits = (omega arith, tt); texts = λ vs h. absurd h; entries = λ es h. absurd h; keys = λ n h. absurd h }, tt), tt),
  ),
)

none_refuses : (e : Error) (bytes : List ℕ) (place footer : ℕ) (asked : Asked) (ls : List Leaf) (ms : List GroupMeta) (gs : List GroupPages) → IsNone (λ o. Refuses o e) → length bytes ≤ 268435456
    → AllByRecursion HasFew (map group_in gs) → AllZip (λ m g. IsGroup bytes footer ls m g.rows g.chunks) ms gs → AnyOf (SomeFieldIs bytes place asked sample_fields ls e) ms → ⊥
none_refuses e bytes place footer asked ls [] [] f few k h a = absurd a
none_refuses e bytes place footer asked ls [] (g ∷ gs) f few k h a = absurd h
none_refuses e bytes place footer asked ls (m ∷ ms) [] f few k h a = absurd h
none_refuses e bytes place footer asked ls (m ∷ ms) (g ∷ gs) f few k h (inl a) =
    none_refused (λ o. Refuses o e) bytes place a.0 asked.chunk_size sample_fields ls m.chunks a.2 f safe (small_chunks bytes place footer m.chunks ls g.chunks few k.0 h.0.are) a.3 a.4
none_refuses e bytes place footer asked ls (m ∷ ms) (g ∷ gs) f few k h (inr a) = none_refuses e bytes place footer asked ls ms gs f few k.1 h.1 a

-- ---- the file
held_footer : (bytes : List ℕ) (tree : Schema) (keys : List Key) (groups : List GroupPages) (place : ℕ) (f : Footer) → (held : HoldsPages bytes tree keys groups) → HasFooterAt bytes place f → f ≡ record { schema = tree; groups = held.metas; keys = keys }
held_footer bytes tree keys groups place f held at = record_same at.footer held.footer f (record { schema = tree; groups = held.metas; keys = keys }) (frame_same bytes place held.place at.footer held.footer at.framed held.framed).footers at.said held.said

pub not_refused : (e : Error) (s : Style) (version : Version) (asked : Asked) (rowss : List (List Slots)) (bytes : List ℕ) (place : ℕ) (f : Footer) (u : SchemaTree) → IsNone (λ o. Refuses o e) → s.page_limit ≡ 1048576 → AreGroupsOfRows rowss
    → IsFileFor s version plain_bytes sample_tree rowss bytes → HasFooterAt bytes place f → u ≡ sample_tree → AnyOf (SomeFieldIs bytes place asked u.fields (columns_of f.schema) e) f.groups → ⊥
not_refused e s version asked rowss bytes place f u none limit a file at same h =
    let held = file.packed.carried in
    let footer = held_footer bytes (schema_of sample_fields) _ held.0 place f held.1 at in
    let few : AllByRecursion HasFew (map group_in held.0) = subst (AllByRecursion HasFew) held.2 (few_groups s rowss file.outs (recursion_from_All (All IsRow) rowss a.are) a.few (all_laid_out s rowss file.outs file.are)) in
    let own : AnyOf (SomeFieldIs bytes place asked sample_fields (columns_of (schema_of sample_fields)) e) held.1.metas =
    subst (λ (x : Footer). AnyOf (SomeFieldIs bytes place asked sample_fields (columns_of x.schema) e) x.groups) footer (subst (λ (t : SchemaTree). AnyOf (SomeFieldIs bytes place asked t.fields (columns_of f.schema) e) f.groups) same h) in
    none_refuses e bytes place held.1.place asked (columns_of (schema_of sample_fields)) held.1.metas held.0 none (files_are_small s version rowss bytes limit a file) few held.1.are own
