use Rattle.std.proofs.Common.{◌≡◌, ◌≢◌, ◌∙◌, ◌^◌, ◌-◌, ℕ, min, ap, arith}
use Rattle.columns_array.specs.Boxed.{boxed}
use Rattle.columns_core.specs.Shapes.{base}
use Rattle.columns_slots.specs.Slots.{tree_len, type_of}
use Rattle.pq_tree.specs.Physical.{boolean}
use Rattle.pq_tree.specs.Views.{physical_view}
use Rattle.dictionary_pages.proofs.EntryRuns.{size_all, size_more, size_none, size_to}
use Rattle.dictionary_pages.proofs.EntryTypes.{entry_in_a_row}
use Rattle.dictionary_pages.proofs.entry_bytes.entries_size.Goals as goal

pub loop-at-init : goal.loop-at-init
loop-at-init c =
    let n : physical_view c.args.physical_type ≢ boolean = entry_in_a_row (base (type_of (boxed c.args.entries.now))) (physical_view c.args.physical_type) c.requires.leaf.entries in
    record { within = omega arith; size = size_none (boxed c.args.entries.now) (physical_view c.args.physical_type) n }

pub loop-at-preserved : goal.loop-at-preserved
loop-at-preserved c =
    let p = physical_view c.args.physical_type in
    let n : p ≢ boolean = entry_in_a_row (base (type_of (boxed c.args.entries.now))) p c.requires.leaf.entries in
    record {
      within = c.stretch_at-stretch.ensures.within;
      size = size_more (boxed c.args.entries.now) p n c.loop-at.at c.stretch_at-stretch.result.end c.loop-at.size c.size_of.result _ (omega (arith, c.stretch_at-stretch.ensures.after)) c.loop-at.invariant.size c.size_of.ensures c.saturating_add-size.ensures;
    }

pub returns : goal.returns
returns c =
    let e = boxed c.args.entries.now in
    let p = physical_view c.args.physical_type in
    let n : p ≢ boolean = entry_in_a_row (base (type_of e)) p c.requires.leaf.entries in
    let all : c.loop-at.at ≡ tree_len e = omega (arith, c.loop-at.invariant.within, c.loop-at-test.false, c.len-count.ensures) in
    c.loop-at.invariant.size ∙ ap (λ (m : ℕ). min m (2 ^ 128 - 1)) (ap (size_to e p n) all ∙ size_all e p n)
