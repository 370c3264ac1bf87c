use Rattle.std.proofs.Common.{◌≡◌, ◌≢◌, ℕ, map, arith, subst}
use Rattle.columns_array.specs.Boxed.{boxed}
use Rattle.columns_core.specs.Shapes.{base}
use Rattle.columns_slots.specs.Slots.{tree_len, type_of}
use Rattle.pq_tree.specs.Physical.{boolean}
use Rattle.pq_tree.specs.Views.{physical_view}
use Rattle.write_places.specs.Places.{range}
use Rattle.write_values.specs.Rows.{AppendsRow}
use Rattle.dictionary_pages.specs.Entries.{stored_entry_at}
use Rattle.dictionary_pages.proofs.EntryRuns.{run_fits, runs_all, runs_more, runs_none}
use Rattle.dictionary_pages.proofs.EntryTypes.{entry_in_a_row}
use Rattle.dictionary_pages.proofs.entry_bytes.push_entries.Goals as goal

pub loop-at-init : goal.loop-at-init
loop-at-init c =
    let n : physical_view c.args.physical_type ≢ boolean = entry_in_a_row (base (type_of (boxed c.args.entries.now))) (physical_view c.args.physical_type) c.requires.leaf.entries in
    record { within = omega arith; row = runs_none (boxed c.args.entries.now) (physical_view c.args.physical_type) n c.args.out.items }

pub push_one-requires-clause-small : goal.push_one-requires-clause-small
push_one-requires-clause-small c =
    let p = physical_view c.args.physical_type in
    let n : p ≢ boolean = entry_in_a_row (base (type_of (boxed c.args.entries.now))) p c.requires.leaf.entries in
    run_fits (boxed c.args.entries.now) p n c.loop-at.at c.stretch_at-stretch.result.end (omega (arith, c.stretch_at-stretch.ensures.after)) (omega (arith, c.stretch_at-stretch.ensures.within, c.len-count.ensures)) c.requires.small

pub loop-at-preserved : goal.loop-at-preserved
loop-at-preserved c =
    let p = physical_view c.args.physical_type in
    let n : p ≢ boolean = entry_in_a_row (base (type_of (boxed c.args.entries.now))) p c.requires.leaf.entries in
    record {
      within = c.stretch_at-stretch.ensures.within;
      row = runs_more (boxed c.args.entries.now) p n c.loop-at.at c.stretch_at-stretch.result.end c.args.out.items c.loop-at.out.items _ (omega (arith, c.stretch_at-stretch.ensures.after)) c.loop-at.invariant.row c.in_ok-out.ensures.ok;
    }

pub returns-clause-ok : goal.returns-clause-ok
returns-clause-ok c =
    let e = boxed c.args.entries.now in
    let p = physical_view c.args.physical_type in
    let n : p ≢ boolean = entry_in_a_row (base (type_of e)) p c.requires.leaf.entries in
    let all : c.loop-at.at ≡ tree_len e = omega (arith, c.loop-at.invariant.within, c.loop-at-test.false, c.len-count.ensures) in
    runs_all e p n c.args.out.items c.loop-at.out.items (subst (λ (k : ℕ). AppendsRow p c.args.out.items c.loop-at.out.items (map (stored_entry_at e p) (range 0 k))) all c.loop-at.invariant.row)
