-- In how few pages the row rule lays the sample's columns.
use Rattle.std.proofs.Common.{◌≡◌, ℕ, zero, suc, ◌+◌, ◌*◌, ◌/◌, ◌≤◌, ◌<◌, List, [], ◌∷◌, All, length, map, drop, Option, Some, None, sum_by, refl, subst, ap, arith}
use Rattle.std.specs.List.{AllByRecursion, AllZip}
use Rattle.std.proofs.Math.Nat.{div-le_of_le-mul, mul_comm}
use Rattle.std.proofs.lemmas.Nat.{le-div, mul-le}
use Rattle.std.proofs.lemmas.List.{length-append, length-drop, length-map}
use Rattle.std.proofs.lemmas.List.Elements.{recursion_from_All}
use Rattle.std.proofs.lemmas.List.Sums.{sum_by-cons}
use Rattle.std.proofs.lemmas.Slice.Zip.{AllZip-long}
use Rattle.shredding.specs.Cut.{cut, pieces}
use Rattle.shredding.specs.Slot.{Slot, Slots, Value, fields}
use Rattle.pq_files.specs.FooterRecord.{RowGroup}
use Rattle.pq_files.specs.Layout.{OutChunk, OutGroup, plain_length, rows_per_page}
use Rattle.pq_files.specs.Packed.{AreGroups}
use Rattle.pq_files.specs.Page.{Encoding, values_in}
use Rattle.pq_headline.specs.Columns.{ArrowColumn, schema_columns}
use Rattle.pq_headline.specs.Output.{AreLaid, IsLaid, Style}
use Rattle.pq_tree.specs.Tree.{Leaf, columns_of}
use Rattle.pq_tree.specs.declared.version.Version.{Version}
use Rattle.sample_rows.specs.Fields.{sample_fields}
use Rattle.sample_sizes.proofs.Fine.{AreFine, IsFine, are_fine, as_slots, column_small}
use Rattle.sample_sizes.proofs.Slim.{IsSlot}
use Rattle.sample_sizes.proofs.Texts.{group_few}
use Rattle.sample_sizes.specs.Laid.{IsLaidOut}
use Rattle.sample_sizes.specs.Rows.{IsRow}
use Rattle.schema_to_tree.specs.Table.{schema_of}

-- at most one page for each thousand rows begun
abbrev pub IsPaged : ℕ → OutChunk → Type 0
IsPaged n out = 1000 * length out.pages ≤ n + 999

-- pieces of a thousand rows or more
few_pieces : (fuel k : ℕ) (ss : List Slot) → 1000 ≤ k → 1000 * length (pieces fuel k ss) ≤ length ss + 999
few_pieces zero k ss h = omega arith
few_pieces (suc fuel) k [] h = omega arith
few_pieces (suc fuel) k (s ∷ ss) h = omega (arith, h, length-drop k (s ∷ ss), few_pieces fuel k (drop k (s ∷ ss)) h)

no_pieces : (fuel k : ℕ) → length (pieces {A = Slot} fuel k []) ≡ 0
no_pieces zero k = refl
no_pieces (suc fuel) k = refl

long_pages : (size n : ℕ) → size ≤ 24 * n → 0 < n → 1000 ≤ rows_per_page 1048576 size n
long_pages size n h s =
    let q : size / n ≤ 24 = div-le_of_le-mul n (subst (λ m. size ≤ m) (mul_comm 24 n) h) in
    let d = size / n + 1 in
    let e : 1000 * d ≤ 1000 * 25 = mul-le 1000 d 1000 25 (omega arith) (omega (arith, q)) in
    let b : 1000 ≤ 1048576 / d = le-div 1000 1048576 d (omega arith) (omega (arith, e)) in
    omega (arith, b)

few_cut : (size : ℕ) (ss : List Slot) → size ≤ 24 * length ss → 1000 * length (cut ss (Some (rows_per_page 1048576 size (length ss)))) ≤ length ss + 999
few_cut size [] h = omega (arith, no_pieces 0 (rows_per_page 1048576 size 0))
few_cut size (s ∷ ss) h = few_pieces (length (s ∷ ss)) (rows_per_page 1048576 size (length (s ∷ ss))) (s ∷ ss) (long_pages size (length (s ∷ ss)) h (omega arith))

column_paged : (s : Style) (e : Encoding) (c : ArrowColumn) (l : Leaf) (d : Option (List (Option Value))) (ss : List Slot) (out : OutChunk) → s.page_limit ≡ 1048576 → IsFine c l → AllByRecursion IsSlot ss → d ≡ None
    → IsLaid s e (record { arrow = c; physical = l.physical; entries = d }) ss out → IsPaged (length ss) out
column_paged s e c l (Some es) ss out limit f a n h = absurd (cc n)
column_paged s e c l None ss out limit f a n h =
    let size = plain_length l.physical (values_in h.stored) in
    let small : size ≤ 24 * length ss = omega (arith, f.light.length_is (values_in h.stored), (column_small c l ss h.stored f a h.are_stored).light) in
    let few : 1000 * length (cut ss (Some (rows_per_page s.page_limit size (length ss)))) ≤ length ss + 999 = rw limit (few_cut size ss small) in
    omega (arith, AllZip-long _ (cut ss (Some (rows_per_page s.page_limit size (length ss)))) out.pages h.pages, few)

columns_paged : (s : Style) (rows : List Slots) (cs : List ArrowColumn) (ls : List Leaf) (es : List Encoding) (ds : List (Option (List (Option Value)))) (outs : List OutChunk)
    → s.page_limit ≡ 1048576 → AreFine cs ls → AllByRecursion IsSlot (map fields rows) → AllByRecursion (λ d. d ≡ None) ds → AreLaid s rows cs ls es ds outs → AllByRecursion (IsPaged (length (map fields rows))) outs
columns_paged s rows [] [] [] [] [] limit f a n h = tt
columns_paged s rows [] [] [] [] (o ∷ os) limit f a n h = absurd h
columns_paged s rows [] [] [] (d ∷ ds) os limit f a n h = absurd h
columns_paged s rows [] [] (e ∷ es) ds os limit f a n h = absurd h
columns_paged s rows [] (l ∷ ls) es ds os limit f a n h = absurd f
columns_paged s rows (c ∷ cs) [] es ds os limit f a n h = absurd f
columns_paged s rows (c ∷ cs) (l ∷ ls) [] ds os limit f a n h = absurd h
columns_paged s rows (c ∷ cs) (l ∷ ls) (e ∷ es) [] os limit f a n h = absurd h
columns_paged s rows (c ∷ cs) (l ∷ ls) (e ∷ es) (d ∷ ds) [] limit f a n h = absurd h
columns_paged s rows (c ∷ cs) (l ∷ ls) (e ∷ es) (d ∷ ds) (o ∷ os) limit f a n h =
    (column_paged s e c l d (map fields rows) o limit f.0 a n.0 h.0, columns_paged s rows cs ls es ds os limit f.1 a n.1 h.1)

group_paged : (s : Style) (rows : List Slots) (out : OutGroup) → s.page_limit ≡ 1048576 → All IsRow rows → IsLaidOut s rows out → AllByRecursion (IsPaged (length rows)) out.chunks
group_paged s rows out limit a h =
    subst (λ n. AllByRecursion (IsPaged n) out.chunks) (length-map rows fields)
    (columns_paged s rows (schema_columns sample_fields) (columns_of (schema_of sample_fields)) h.encodings h.entries out.chunks limit are_fine (as_slots rows (recursion_from_All IsRow rows a)) (recursion_from_All (λ d. d ≡ None) h.entries h.none) h.laid.columns)

-- at most 210 bytes a row, and 3,000 a group
pub groups_short : (version : Version) (s : Style) (rowss : List (List Slots)) (outs : List OutGroup) (i start : ℕ) (text : List ℕ) (metas : List RowGroup) → s.page_limit ≡ 1048576 → AllByRecursion (All IsRow) rowss → AllZip (IsLaidOut s) rowss outs
    → AreGroups version (columns_of (schema_of sample_fields)) outs i start text metas → length text ≤ 210 * sum_by length rowss + 3000 * length rowss
groups_short version s [] [] i start text metas limit a h k = omega (arith, ap length k.0)
groups_short version s [] (o ∷ os) i start text metas limit a h k = absurd h
groups_short version s (r ∷ rs) [] i start text metas limit a h k = absurd h
groups_short version s (r ∷ rs) (o ∷ os) i start text [] limit a h k = absurd k
groups_short version s (r ∷ rs) (o ∷ os) i start text (meta ∷ metas) limit a h k =
    let own = group_few (IsPaged (length r)) (70 * length r + 999) version s r o start k.0 k.2 (λ pages text c e q t. omega (arith, e, q, t.by_pages)) a.0 h.0 (group_paged s r o limit a.0 h.0) k.4 in
    omega (arith, ap length k.7, length-append k.0 k.1, sum_by-cons (length {A = Slots}) r rs, own, groups_short version s rs os (suc i) (start + length k.0) k.1 metas limit a.1 h.1 k.6)
