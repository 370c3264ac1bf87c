use Rattle.std.proofs.Common.{◌≡◌, ◌⊎◌, ap, true, false, subst, sym, Some}
use Rattle.columns_base.specs.declared.error.Error.TheVariants.{Memory, Overflow}
use Rattle.columns_base.specs.declared.error.V.TheVariants.{V3}
use Rattle.std.proofs.lemmas.Result.{err_from_is_err_and}
use Rattle.columns_core.specs.Shapes.{base, leaf_type}
use Rattle.columns_entries.specs.Entries.{entries_of}
use Rattle.columns_slots.specs.Slots.{child_of, type_of}
use Rattle.levels.specs.Nested.{parts_of}
use Rattle.nested_paths.specs.Seen.{leaf_slot}
use Rattle.pq_tree.specs.Physical.{Physical}
use Rattle.pq_tree.specs.Views.{physical_view}
use Rattle.shredding.specs.Parts.{path_slots, path_way}
use Rattle.dictionary_pages.specs.Entries.{is_entry, stored_entries}
use Rattle.dictionary_pages.specs.Pages.{HoldsIndices, IsPastRoom}
use Rattle.shredding.specs.Shred.{column}
use Rattle.write_pages.specs.Entries.{IsDictionaryPastRoom}
use Rattle.write_pages.proofs.DictionaryRows.{index_held, index_past}
use Rattle.write_pages.proofs.PageRows.{form_of}
use Rattle.write_pages.proofs.WidePieces.{physical_in}
use Rattle.write_pages.proofs.keyed_pages.rows_page.Goals as goal

pub returns-clause-ok : goal.returns-clause-ok
returns-clause-ok c =
    let a = c.args.array.now in
    let p = physical_view c.args.type_.now.physical_type in
    let w = path_way (parts_of c.args.nested.now) in
    let rows = path_slots (leaf_slot a) (parts_of c.args.nested.now) in
    let same : physical_view c.in_ok-type_.type_.physical_type ≡ p = ap physical_in c.in_ok-type_.ensures.same in
    index_held a p c.know.ensures.parts c.know.ensures.sound c.requires.entries w rows c.args.options c.args.type_.now c.in_ok-type_.type_ c.in_ok-page.page c.in_ok-type_.ensures.same
    (subst (λ (q : Physical). HoldsIndices (form_of c.args.options false) (leaf_type (type_of a)) q w (entries_of (child_of a)) (stored_entries (child_of a) q) rows c.in_ok-type_.type_ c.in_ok-page.page) same c.in_ok-page.ensures.ok)

pub returns-in_err-page-clause-err : goal.returns-in_err-page-clause-err
returns-in_err-page-clause-err c =
    let a = c.args.array.now in
    let p = physical_view c.args.type_.now.physical_type in
    let t = leaf_type (type_of a) in
    let es = entries_of (child_of a) in
    let w = path_way (parts_of c.args.nested.now) in
    let rows = path_slots (leaf_slot a) (parts_of c.args.nested.now) in
    let e = c.in_err-page.field-0.0 in
    let same : physical_view c.in_ok-type_.type_.physical_type ≡ p = ap physical_in c.in_ok-type_.ensures.same in
    let are : is_entry (base (type_of (child_of a))) (physical_view c.in_ok-type_.type_.physical_type) ≡ true = subst (λ (q : Physical). is_entry (base (type_of (child_of a))) q ≡ true) (sym same) c.requires.entries in
    let r = err_from_is_err_and c.from_residual-in_err-page.result c.from_residual-in_err-page.ensures.1 in
    rw (r.1, r.2)
    (subst (λ (q : Physical). (e ≡ Memory) ⊎ ((e ≡ Overflow V3) × (IsDictionaryPastRoom t q (Some es) ⊎ IsPastRoom t q (column w rows)))) same
    (index_past a (physical_view c.in_ok-type_.type_.physical_type) c.know.ensures.parts c.know.ensures.sound are w rows e c.in_err-page.ensures.unserved c.in_err-page.ensures.too_large c.in_err-page.ensures.err))
