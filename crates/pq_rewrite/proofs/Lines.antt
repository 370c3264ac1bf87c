-- The two lines of a sample.
use Rattle.std.proofs.Common.{◌≡◌, ◌<◌, ◌^◌, ℕ, pos, ap, sym, ◌∙◌, arith}
use Rattle.std.specs.Prelude.{nat_abs}
use Rattle.std.specs.Int.{cast_signed, cast_unsigned, w128}
use Rattle.std.proofs.lemmas.Int.{to_z-of_z}
use Rattle.pq_headline.specs.Rewrites.{Counts}
use Rattle.rewrite_notes.specs.Notes.{sample_text}
use Rattle.rewrite_notes.specs.declared.report.Report.{Report}
use Rattle.rewrite_whole.specs.Asks.{counts_of}
use Rattle.sample_rows.specs.Present.{Items, sample_items}
use Rattle.sample_rows.specs.Totals.{totals_view}
use Rattle.sample_rows.specs.declared.totals.Totals.{Totals}
use Rattle.sample_run.specs.Files.{sample_counts}
use Rattle.pq_rewrite.specs.Sampled.{sample_lines}

abbrev report_of : Counts → Report
report_of c = record { groups = c.groups; rows = c.rows; data_pages = c.data_pages }

-- a natural sum stands in its bits
same_sum : (s : ℕ) → s < 2 ^ 64 → cast_signed w128 (cast_unsigned w128 (pos s)) ≡ pos s
same_sum s small = to_z-of_z w128 (pos s) (omega (arith, small))

pub lines_are :
    (r : Report) (t : Totals) (count : ℕ) → counts_of r ≡ sample_counts count → totals_view t ≡ sample_items count → (s : ℕ) × ((sample_items count).sum ≡ pos s) × (s < 2 ^ 64)
    → sample_text r t.count (nat_abs (cast_signed w128 (cast_unsigned w128 t.sum))) ≡ sample_lines count
lines_are r t count report items natural =
    let sum : t.sum ≡ pos natural.0 = ap (λ (i : Items). i.sum) items ∙ natural.1 in
    let stands : cast_signed w128 (cast_unsigned w128 t.sum) ≡ (sample_items count).sum = ap (λ z. cast_signed w128 (cast_unsigned w128 z)) sum ∙ same_sum natural.0 natural.2 ∙ sym natural.1 in
    rw stands ((λ i. sample_text (report_of (report i)) (items i).count (nat_abs (sample_items count).sum)))
