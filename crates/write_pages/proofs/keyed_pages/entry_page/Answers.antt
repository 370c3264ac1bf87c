use Rattle.std.proofs.Common.{◌≡◌, IfOk, true, false, subst}
use Rattle.columns_base.specs.declared.error.Error.TheVariants.{NotYetImplemented, Overflow}
use Rattle.columns_base.specs.declared.error.N.TheVariants.{N5}
use Rattle.columns_base.specs.declared.error.V.TheVariants.{V3}
use Rattle.columns_core.specs.Shapes.{base}
use Rattle.columns_slots.specs.Slots.{type_of}
use Rattle.columns_slots.specs.Tree.{ArrayTree}
use Rattle.pq_pages.specs.Denotes.{IsDictFor}
use Rattle.pq_tree.specs.Reads.{ComesWhere}
use Rattle.pq_tree.specs.Views.{physical_view}
use Rattle.dictionary_pages.specs.Entries.{AreTooLarge, is_entry, stored_entries}
use Rattle.write_pages.proofs.DictionaryRows.{dictionary_held, dictionary_past}
use Rattle.write_pages.proofs.keyed_pages.entry_page.Goals as goal

pub returns-clause-ok : goal.returns-clause-ok
returns-clause-ok c =
    let a = c.args.array.now in
    let p = physical_view c.args.physical_type in
    let r = c.dictionary_page.result in
    dictionary_held a p c.know.ensures.parts c.know.ensures.sound c.requires r
    (subst (λ (x : ArrayTree). IfOk r (IsDictFor p (stored_entries x p))) c.values.ensures c.dictionary_page.ensures.ok)
    (subst (λ (x : ArrayTree). ComesWhere (Overflow V3) ((is_entry (base (type_of x)) p ≡ true) × AreTooLarge p (stored_entries x p)) r) c.values.ensures c.dictionary_page.ensures.too_large)

pub returns-clause-err : goal.returns-clause-err
returns-clause-err c =
    let a = c.args.array.now in
    let p = physical_view c.args.physical_type in
    let r = c.dictionary_page.result in
    dictionary_past a p c.know.ensures.parts c.know.ensures.sound c.requires r
    (subst (λ (x : ArrayTree). ComesWhere (NotYetImplemented N5) (is_entry (base (type_of x)) p ≡ false) r) c.values.ensures c.dictionary_page.ensures.unserved)
    (subst (λ (x : ArrayTree). ComesWhere (Overflow V3) ((is_entry (base (type_of x)) p ≡ true) × AreTooLarge p (stored_entries x p)) r) c.values.ensures c.dictionary_page.ensures.too_large)
    c.dictionary_page.ensures.err
