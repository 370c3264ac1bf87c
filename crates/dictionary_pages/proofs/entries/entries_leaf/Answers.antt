use Rattle.std.proofs.Common.{◌≡◌, ◌∙◌, true, true≢false, ap, sym}
use Rattle.columns_array.specs.Boxed.{boxed}
use Rattle.columns_core.specs.Shapes.{base}
use Rattle.columns_core.specs.Tree.{TypeTree}
use Rattle.columns_slots.specs.Slots.{type_of}
use Rattle.pq_tree.specs.Views.{physical_view}
use Rattle.dictionary_pages.specs.Entries.{is_entry}
use Rattle.dictionary_pages.proofs.EntryTypes.{entry_served}
use Rattle.dictionary_pages.proofs.entries.entries_leaf.Goals as goal

pub unreachable-requires : goal.unreachable-requires
unreachable-requires c =
    let t = type_of (boxed c.args.entries.now) in
    let p = physical_view c.args.physical_type in
    let are : is_entry (base t) p ≡ true = ap (λ (u : TypeTree). is_entry (base u) p) (sym c.data_type.ensures) ∙ (sym c.is_entry.ensures ∙ c.if-not-is_entry.false) in
    absurd (true≢false (sym (entry_served (base t) p are) ∙ c.in-None.ensures))
