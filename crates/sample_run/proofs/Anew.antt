-- What the sample is written anew as.
use Rattle.std.proofs.Common.{◌≡◌, IfErr, IfOk, OnOk, Result, Ok, Err, ℕ, zero, suc, ◌+◌, ◌*◌, ◌/◌, ◌≤◌, All, List, [], ◌∷◌, ◌++◌, length, map, Option, Some, None, sum_by, refl, subst, ap, ◌∙◌, arith}
use Rattle.std.specs.List.{AllByRecursion, AllZip, range_with_len}
use Rattle.std.proofs.lemmas.List.{append-nil, length-map}
use Rattle.std.proofs.lemmas.List.Elements.{All-from_recursion, recursion_from_All}
use Rattle.std.proofs.lemmas.List.FromFn.{length-map-range_with_len}
use Rattle.std.proofs.lemmas.List.Sums.{sum_by-cons}
use Rattle.std.proofs.lemmas.Slice.Zip.{AllZip-long}
use Rattle.shredding.specs.Slot.{Slots, Value, fields}
use Rattle.pq_files.specs.Layout.{OutGroup}
use Rattle.pq_tree.specs.Tree.{columns_of}
use Rattle.pq_tree.specs.declared.version.Version.TheVariants.{V1, V2}
use Rattle.pq_headline.specs.Columns.{schema_columns}
use Rattle.pq_headline.specs.Output.{all_chosen}
use Rattle.pq_headline.specs.Rewrites.{Counted, Counts}
use Rattle.pq_headline.specs.Rows.{Seen, seen_from}
use Rattle.sample_rows.specs.Fields.{sample_fields, sample_tree}
use Rattle.sample_rows.specs.Rows.{sample_row, sample_rows}
use Rattle.schema_to_tree.specs.Table.{schema_of}
use Rattle.unique_rows.proofs.Laid.{AllNone}
use Rattle.unique_rows.proofs.Outs.{all_cut_all}
use Rattle.unique_rows.specs.Held.{AreRowsIn}
use Rattle.sample_run.proofs.Counts.{AreLight, IsShort, all_pages, counted, short_pieces, summed}
use Rattle.sample_sizes.proofs.Fine.{are_fine, as_slots, column_small}
use Rattle.sample_sizes.specs.Rows.{IsRow}
use Rattle.rewrite_whole.specs.Asks.{Gives, counts_of}
use Rattle.rewrite_whole.specs.Views.{Sees}
use Rattle.rewrite_notes.specs.declared.report.Report.{Report}
use Rattle.unique_rows.proofs.Rewritten.{files_are_rewritten}
use Rattle.unique_rows.specs.Rewritten.{all_cut}
use Rattle.sample_run.proofs.Told.{told}
use Rattle.sample_run.proofs.Written.{has_ways, no_dictionary}
use Rattle.sample_run.specs.Files.{IsMade, IsSampleFile, plain_codec, sample_asked, sample_counts, sample_groups, sample_pieces, sample_style}

-- ---- each piece has rows of the sample, at most a thousand
rows_each : (a n : ℕ) → a + n ≤ 1000000 → AllByRecursion IsRow (map sample_row (range_with_len a n))
rows_each a zero h = tt
rows_each a (suc n) h = (record { place = a; small = omega (arith, h); is = refl }, rows_each (a + 1) n (omega (arith, h)))

rows_recursion : (rows : List Slots) → All IsRow rows → AllByRecursion IsRow rows
rows_recursion rows h = recursion_from_All IsRow rows h

light_rows : (rows : List Slots) → AllByRecursion IsRow rows → AreLight rows (schema_columns sample_fields) (columns_of (schema_of sample_fields))
light_rows rows h =
    let slots = as_slots rows h in
    let long = length-map rows fields in (
      λ stored s. omega (arith, long, (column_small _ _ (map fields rows) stored are_fine.0 slots s).light),
      (λ stored s. omega (arith, long, (column_small _ _ (map fields rows) stored are_fine.1.0 slots s).light), (λ stored s. omega (arith, long, (column_small _ _ (map fields rows) stored are_fine.1.1.0 slots s).light), tt)),
    )

abbrev pages_of : OutGroup → ℕ
pages_of g = sum_by (λ c. length c.pages) g.chunks

none_each : (ds : List (Option (List (Option Value)))) → AllByRecursion (λ d. d ≡ None) ds → AllNone ds
none_each [] h = tt
none_each (d ∷ ds) h = (h.0, none_each ds h.1)

three_pages : (rows : List Slots) (out : OutGroup) → AllByRecursion IsRow rows → IsShort rows → AreRowsIn sample_style sample_fields rows out → pages_of out ≡ 3
three_pages rows out a s h =
    all_pages sample_style rows (schema_columns sample_fields) (columns_of (schema_of sample_fields)) (all_chosen h.deltas (schema_columns sample_fields) (columns_of (schema_of sample_fields))) h.entries out.chunks refl s (none_each h.entries (recursion_from_All (λ d. d ≡ None) h.entries h.none)) (light_rows rows a) h.laid.columns

-- ---- all of them
all_three : (ps : List (List Slots)) (outs : List OutGroup) → AllByRecursion (All IsRow) ps → AllByRecursion (IsShort {A = Slots}) ps → AllZip (AreRowsIn sample_style sample_fields) ps outs → sum_by pages_of outs ≡ 3 * length ps
all_three [] [] a s h = refl
all_three [] (o ∷ os) a s h = absurd h
all_three (p ∷ ps) [] a s h = absurd h
all_three (p ∷ ps) (o ∷ os) a s h =
    omega (arith, three_pages p o (rows_recursion p a.0) s.0 h.0, all_three ps os a.1 s.1 h.1, sum_by-cons pages_of o os)

all_rows : (ps : List (List Slots)) (outs : List OutGroup) → AllZip (AreRowsIn sample_style sample_fields) ps outs → sum_by (λ g. g.rows) outs ≡ sum_by length ps
all_rows [] [] h = refl
all_rows [] (o ∷ os) h = absurd h
all_rows (p ∷ ps) [] h = absurd h
all_rows (p ∷ ps) (o ∷ os) h =
    omega (arith, h.0.laid.rows_are, all_rows ps os h.1, sum_by-cons (λ (g : OutGroup). g.rows) o os, sum_by-cons length p ps)

pub sample_counted : (n : ℕ) (outs : List OutGroup) (counts : Counts) → n ≤ 1000000 → AllZip (AreRowsIn sample_style sample_fields) (sample_pieces n) outs → Counted outs counts → counts ≡ sample_counts n
sample_counted n outs counts h a c =
    let l : length (sample_rows n) ≡ n = length-map-range_with_len sample_row 0 n in
    let each : All IsRow (sample_rows n) = All-from_recursion IsRow (sample_rows n) (rows_each 0 n (omega (arith, h))) in
    let own : AllByRecursion (All IsRow) (sample_pieces n ++ []) = all_cut_all IsRow (Some 1000) (sample_rows n ∷ []) (each, tt) in
    let mine : AllByRecursion (All IsRow) (sample_pieces n) = subst (AllByRecursion (All IsRow)) (append-nil (sample_pieces n)) own in
    let k : length (sample_pieces n) ≡ sample_groups n = counted (length (sample_rows n)) (sample_rows n) (omega arith) ∙ ap (λ m. (m + 999) / 1000) l in
    let groups : counts.groups ≡ sample_groups n = c.groups ∙ AllZip-long _ (sample_pieces n) outs a ∙ k in
    let rows : counts.rows ≡ n = c.rows ∙ all_rows (sample_pieces n) outs a ∙ summed (length (sample_rows n)) (sample_rows n) (omega arith) ∙ l in
    let pages : counts.data_pages ≡ 3 * sample_groups n = c.data_pages ∙ all_three (sample_pieces n) outs mine (short_pieces (length (sample_rows n)) (sample_rows n)) a ∙ ap (λ m. 3 * m) k in
    rw (groups, rows, pages) refl

-- ---- the first rewrite
pub sample_rewritten : (n : ℕ) (input output : List ℕ) (report : Report) (before now : Option (List (List Seen)))
    → n ≤ 1000000 → IsSampleFile V1 (sample_rows n ∷ []) input → Gives plain_codec sample_asked before now input output report → IsMade n output report before now
unfolding Gives
sample_rewritten n input output report before now h f g =
    let r = files_are_rewritten sample_style V1 plain_codec sample_asked sample_tree (sample_rows n ∷ []) input output (counts_of report) g.0 has_ways no_dictionary told f g.1 in
    let one : all_cut sample_asked (sample_rows n ∷ []) ≡ sample_pieces n = append-nil (sample_pieces n) in
    let own : AllZip (AreRowsIn sample_style sample_fields) (sample_pieces n) r.file.outs = subst (λ ps. AllZip (AreRowsIn sample_style sample_fields) ps r.file.outs) one r.file.are in
    record {
      file = record { outs = r.file.outs; packed = r.file.packed; are = own };
      report_is = sample_counted n r.file.outs (counts_of report) h own r.counted;
      seen = subst (Sees before now) (r.shows ∙ ap (map (seen_from 0 sample_fields)) one) g.3;
    }

-- ---- and what is read of its file
pub sample_read : (n : ℕ) (input output : List ℕ) (report : Report) (now : Option (List (List Seen)))
    → IsSampleFile V2 (sample_pieces n) input → Gives plain_codec sample_asked (Some []) now input output report → now ≡ Some (map (seen_from 0 sample_fields) (all_cut sample_asked (sample_pieces n)))
unfolding Gives
sample_read n input output report now f g =
    let r = files_are_rewritten sample_style V2 plain_codec sample_asked sample_tree (sample_pieces n) input output (counts_of report) g.0 has_ways no_dictionary told f g.1 in
    g.3 ∙ ap Some r.shows

-- what follows of an Ok
pub then : {A E : Type 0} (P Q : A → Type 0) (r : Result A E) → ((x : A) → P x → Q x) → IfOk r P → IfOk r Q
then P Q (Ok x) f h = f x h
then P Q (Err e) f h = h

-- and of an error
pub then_err : {A E : Type 0} (P Q : E → Type 0) (r : Result A E) → ((e : E) → P e → Q e) → IfErr r P → IfErr r Q
then_err P Q (Ok x) f h = h
then_err P Q (Err e) f h = f e h

pub always : {A E : Type 0} (P : Type 0) (r : Result A E) → P → OnOk r P
always P (Ok x) h = h
always P (Err e) h = tt
