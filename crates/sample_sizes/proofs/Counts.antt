-- The counts of a footer hold what it states of the sample.
use Rattle.std.proofs.Common.{◌≡◌, ℕ, ◌+◌, ◌*◌, ◌≤◌, List, [], ◌∷◌, ◌++◌, All, length, map, sum_by, inl, inr, refl, subst, ap, arith}
use Rattle.std.specs.List.{AllByRecursion, AllZip}
use Rattle.std.proofs.lemmas.List.{length-append, length-map}
use Rattle.std.proofs.lemmas.List.Elements.{recursion_from_All}
use Rattle.std.proofs.lemmas.List.Sums.{sum_by-append, sum_by-cons}
use Rattle.shredding.specs.Slot.{Slot, Slots, fields}
use Rattle.pq_files.specs.FooterRecord.{ColumnChunk}
use Rattle.pq_files.specs.Layout.{OutChunk, OutGroup}
use Rattle.pq_files.specs.Packed.{AreChunks, HasDictionary}
use Rattle.pq_headline.specs.Columns.{ArrowColumn, schema_columns}
use Rattle.pq_headline.specs.Output.{Style}
use Rattle.pq_tree.specs.Tree.{Leaf, columns_of}
use Rattle.pq_tree.specs.declared.version.Version.{Version}
use Rattle.sample_rows.specs.Fields.{sample_fields}
use Rattle.sample_sizes.proofs.Fine.{IsFine, as_slots}
use Rattle.sample_sizes.proofs.Neat.{AreNeat, IsNeat}
use Rattle.sample_sizes.proofs.Rooms.{neat_group}
use Rattle.sample_sizes.proofs.Slim.{IsSlot}
use Rattle.sample_sizes.proofs.Texts.{chunk_text, few_pairs, groups_text, pages_text}
use Rattle.sample_sizes.specs.Laid.{IsLaidOut}
use Rattle.sample_sizes.specs.Laws.{CountsHold}
use Rattle.sample_sizes.specs.Rows.{IsRow}
use Rattle.schema_to_tree.specs.Table.{schema_of}
use Rattle.write_counts.specs.Passing.{ColumnPasses, GroupPasses, SomeColumnPasses}

-- ---- one of the columns, behind those before it
record IsBehind (count : ℕ) (ss : List Slot) (l : Leaf) (out : OutChunk) (text : List ℕ) : Type 0 where
  column : ArrowColumn
  fine : IsFine column l
  neat : IsNeat column l ss out
  few : length text ≤ 1869000000 * count

column_behind : (version : Version) (ss : List Slot) (cs : List ArrowColumn) (first_leaves : List Leaf) (l : Leaf) (other_leaves : List Leaf) (first : List OutChunk) (out : OutChunk) (others : List OutChunk) (start : ℕ) (text : List ℕ) (metas : List ColumnChunk)
    → AllByRecursion IsSlot ss → length ss ≤ 1000000 → AreNeat ss cs (first_leaves ++ l ∷ other_leaves) (first ++ out ∷ others) → AreChunks version first_leaves first start text metas → IsBehind (length cs) ss l out text
column_behind version ss [] [] l other_leaves [] out others start text metas a few n h = absurd n
column_behind version ss (c ∷ cs) [] l other_leaves [] out others start text metas a few n h = record { column = c; fine = n.0; neat = n.1; few = omega (arith, ap length h.0) }
column_behind version ss cs [] l other_leaves (o ∷ os) out others start text metas a few n h = absurd h
column_behind version ss cs (k ∷ ks) l other_leaves [] out others start text metas a few n h = absurd h
column_behind version ss cs (k ∷ ks) l other_leaves (o ∷ os) out others start text [] a few n h = absurd h
column_behind version ss [] (k ∷ ks) l other_leaves (o ∷ os) out others start text (meta ∷ metas) a few n h = absurd n
column_behind version ss (c ∷ cs) (k ∷ ks) l other_leaves (o ∷ os) out others start text (meta ∷ metas) a few n h =
    let rest = column_behind version ss cs ks l other_leaves os out others (start + length h.0) h.1 metas a few n.2 h.6 in
    let own = chunk_text version c k ss o h.2 h.0 n.0 a n.1 h.4 in
    record { column = rest.column; fine = rest.fine; neat = rest.neat; few = omega (arith, ap length h.7, length-append h.0 h.1, own.by_pages, own.few, few, rest.few) }

column_holds : (version : Version) (ss : List Slot) (c : ArrowColumn) (l : Leaf) (out : OutChunk) (start : ℕ) → AllByRecursion IsSlot ss → length ss ≤ 1000000 → IsFine c l → IsNeat c l ss out → start ≤ 20000000000 → ColumnPasses version l out start → ⊥
column_holds version ss c l out start a few f n s (inl h) = absurd (omega (arith, h, few_pairs c l ss out f a n, few))
column_holds version ss c l out start a few f n s (inr h) =
    let none : h.dictionary ≡ [] = subst (λ o. HasDictionary l o h.dictionary) n.entries h.has_dictionary in
    let k = pages_text version c l ss out h.first h.rest h.text f a n h.parts h.are in
    absurd (omega (arith, h.passes, ap length none, k.by_pages, k.few, few, s))

columns_hold : (version : Version) (s : Style) (rows : List Slots) (out : OutGroup) (start : ℕ) → All IsRow rows → length rows ≤ 1000000 → IsLaidOut s rows out → start ≤ 10000000000 → SomeColumnPasses version (columns_of (schema_of sample_fields)) out.chunks start → ⊥
columns_hold version s rows out start a few h l p =
    let ss = map fields rows in
    let slots : AllByRecursion IsSlot ss = as_slots rows (recursion_from_All IsRow rows a) in
    let m : length ss ≤ 1000000 = omega (arith, few, length-map rows fields) in
    let n : AreNeat ss (schema_columns sample_fields) (p.first_leaves ++ p.l ∷ p.other_leaves) (p.first ++ p.c ∷ p.others) =
    subst (λ ls. AreNeat ss (schema_columns sample_fields) ls (p.first ++ p.c ∷ p.others)) p.leaves (subst (AreNeat ss (schema_columns sample_fields) (columns_of (schema_of sample_fields))) p.chunks (neat_group s rows out a h)) in
    let b = column_behind version ss (schema_columns sample_fields) p.first_leaves p.l p.other_leaves p.first p.c p.others start p.text p.metas slots m n p.are in
    column_holds version ss b.column p.l p.c (start + length p.text) slots m b.fine b.neat (omega (arith, l, b.few)) p.passes

-- ---- the rows
rows_are : (s : Style) (rowss : List (List Slots)) (outs : List OutGroup) → AllZip (IsLaidOut s) rowss outs → sum_by (λ g. g.rows) outs ≡ sum_by length rowss
rows_are s [] [] h = refl
rows_are s [] (o ∷ os) h = absurd h
rows_are s (r ∷ rs) [] h = absurd h
rows_are s (r ∷ rs) (o ∷ os) h = omega (arith, h.0.laid.rows_are, rows_are s rs os h.1, sum_by-cons (λ (g : OutGroup). g.rows) o os, sum_by-cons (length {A = Slots}) r rs)

-- ---- a group behind others
split_each : (xs : List (List Slots)) (y : List Slots) (zs : List (List Slots)) → AllByRecursion (All IsRow) (xs ++ y ∷ zs) → AllByRecursion (All IsRow) xs × All IsRow y
split_each [] y zs h = (tt, h.0)
split_each (x ∷ xs) y zs h = let k = split_each xs y zs h.1 in ((h.0, k.0), k.1)

pub counts_hold : CountsHold
counts_hold s version rowss rows behind outs out a h k p =
    let each = split_each rowss rows behind (recursion_from_All (All IsRow) (rowss ++ rows ∷ behind) a.are) in
    let few : sum_by length rowss + length rows ≤ 1000000 = omega (arith, a.few, sum_by-append (length {A = Slots}) rowss (rows ∷ behind), sum_by-cons (length {A = Slots}) rows behind) in
    of each.0 each.1 few p
  where
    of : AllByRecursion (All IsRow) rowss → All IsRow rows → sum_by length rowss + length rows ≤ 1000000 → GroupPasses version (columns_of (schema_of sample_fields)) outs out → ⊥
    of each own few (inl q) = absurd (omega (arith, q, rows_are s rowss outs h, k.laid.rows_are, few))
    of each own few (inr q) = columns_hold version s rows out (4 + length q.0) own (omega (arith, few)) k (omega (arith, groups_text version s rowss outs 0 4 q.0 q.1 each h q.2, few)) q.3
