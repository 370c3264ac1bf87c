use Rattle.std.proofs.Common.{◌∙◌, arith, false, refl, subst, sym}
use Rattle.columns_array.specs.Boxed.{boxed}
use Rattle.columns_core.specs.Shapes.{base}
use Rattle.columns_slots.specs.Slots.{type_of}
use Rattle.pq_tree.specs.Views.{physical_view}
use Rattle.pq_pages.specs.Denotes.{IsDictFor}
use Rattle.pq_pages.specs.declared.page.DictPage.{DictPage}
use Rattle.dictionary_pages.specs.Entries.{stored_entries}
use Rattle.dictionary_pages.proofs.EntryTypes.{entry_in_a_row}
use Rattle.dictionary_pages.proofs.EntriesStored.{dictionary_made, entries_stored}
use Rattle.dictionary_pages.proofs.Named.{stored_count}
use Rattle.dictionary_pages.proofs.entry_page.dictionary_page.Goals as goal

pub returns-then-not-entries_fit-clause-stored : goal.returns-then-not-entries_fit-clause-stored
returns-then-not-entries_fit-clause-stored c = λ are. entries_stored (boxed c.args.entries.now) (physical_view c.args.physical_type) c.know.ensures are

pub returns-in_err-buffer-clause-stored : goal.returns-in_err-buffer-clause-stored
returns-in_err-buffer-clause-stored c = λ are. entries_stored (boxed c.args.entries.now) (physical_view c.args.physical_type) c.know.ensures are

pub returns-clause-stored : goal.returns-clause-stored
returns-clause-stored c = λ are. entries_stored (boxed c.args.entries.now) (physical_view c.args.physical_type) c.know.ensures are

pub returns-clause-too_large : goal.returns-clause-too_large
returns-clause-too_large c = λ h.
    omega (arith, h.1, c.entries_fit.ensures.within c.if-not-entries_fit.false, stored_count (boxed c.args.entries.now) (physical_view c.args.physical_type))

pub returns-clause-ok : goal.returns-clause-ok
returns-clause-ok c =
    let e = boxed c.args.entries.now in
    let p = physical_view c.args.physical_type in
    let es = stored_entries e p in
    subst (λ (d : DictPage). IsDictFor p es d) (sym c.new-2.ensures)
    (dictionary_made p c.new.result.items es (record { buffer = c.in_ok-buffer.buffer; num_values = c.len.result; is_sorted = false }) (entry_in_a_row (base (type_of e)) p c.in-Some.ensures.entries) c.new.ensures.items c.in_ok-buffer.ensures.ok (c.len.ensures ∙ sym (stored_count e p)) refl)
