use Rattle.std.proofs.Common.{◌≤◌, inl, inr, refl, List, arith, sym, subst}
use Rattle.columns_slots.specs.Slots.{child_of, tree_len}
use Rattle.columns_slots.specs.Tree.{ArrayTree}
use Rattle.levels.specs.declared.nested.Nested.{Nested}
use Rattle.levels.specs.Nested.{parts_of}
use Rattle.pq_tree.specs.Views.{physical_view}
use Rattle.pq_files.specs.Layout.{plain_length}
use Rattle.pq_files.specs.Room.{room, max_size}
use Rattle.dictionary_pages.specs.Entries.{AreTooLarge, stored_entries}
use Rattle.dictionary_pages.specs.Leaves.{IsEntryLeaf}
use Rattle.dictionary_pages.specs.Seen.{IsSeenPath}
use Rattle.dictionary_pages.proofs.IndexColumns.{holds_room, seen_holds, seen_past}
use Rattle.dictionary_pages.proofs.Named.{over_entries, stored_count}
use Rattle.dictionary_pages.proofs.SeenColumns.{all_named}
use Rattle.dictionary_pages.proofs.key_page.index_page.Goals as goal

pub returns-then-not-entries_fit-clause-too_large : goal.returns-then-not-entries_fit-clause-too_large
returns-then-not-entries_fit-clause-too_large c =
    let p = physical_view c.args.type_.physical_type in
    let e = child_of c.args.array.now in
    let l : IsEntryLeaf e p c.in-Some.entries = subst (λ (x : ArrayTree). IsEntryLeaf x p c.in-Some.entries) c.values.ensures c.in-Some.ensures in
    let past : AreTooLarge p (stored_entries e p) = subst (λ (x : ArrayTree). AreTooLarge p (stored_entries x p)) c.values-2.ensures (c.entries_fit.ensures.past c.if-not-entries_fit.true) in
    inr (λ _. (l.entries, inl past), λ _. refl)

pub seen_page-requires-clause-named : goal.seen_page-requires-clause-named
seen_page-requires-clause-named c =
    let a = c.args.array.now in
    let p = physical_view c.args.type_.physical_type in
    let old = parts_of c.args.nested.now in
    let l : IsEntryLeaf (child_of a) p c.in-Some.entries = subst (λ (x : ArrayTree). IsEntryLeaf x p c.in-Some.entries) c.values.ensures c.in-Some.ensures in
    let s : IsSeenPath a old (parts_of c.deref.result.now) = subst (λ (ns : List Nested). IsSeenPath a old (parts_of ns)) (sym c.deref.ensures.value) c.in_ok-seen.ensures.ok in
    let o = over_entries a p c.know.ensures.parts c.know.ensures.sound l.entries in
    all_named a o p c.know.ensures.sound l.entries old c.deref.result.now s c.requires.rows.in_range

pub returns-in-Ok-clause-too_large : goal.returns-in-Ok-clause-too_large
returns-in-Ok-clause-too_large c = λ h.
    let a = c.args.array.now in
    let p = physical_view c.args.type_.physical_type in
    let old = parts_of c.args.nested.now in
    let e = child_of a in
    let s : IsSeenPath a old (parts_of c.deref.result.now) = subst (λ (ns : List Nested). IsSeenPath a old (parts_of ns)) (sym c.deref.ensures.value) c.in_ok-seen.ensures.ok in
    let o = over_entries a p c.know.ensures.parts c.know.ensures.sound h.0 in
    let within : room (tree_len e) (plain_length p (stored_entries e p)) ≤ max_size = subst (λ (x : ArrayTree). room (tree_len x) (plain_length p (stored_entries x p)) ≤ max_size) c.values-2.ensures (c.entries_fit.ensures.within c.if-not-entries_fit.false) in
    elim h.1 [
      | inl x ↦ omega (arith, x, within, stored_count e p)
      | inr y ↦ holds_room a o p c.know.ensures.sound h.0 old c.args.form c.args.type_ c.in-Ok.page (seen_holds a o p c.know.ensures.sound h.0 old c.deref.result.now s c.args.form c.args.type_ c.in-Ok.page c.in-Ok.ensures.ok) y
    ]

pub returns-clause-too_large : goal.returns-clause-too_large
returns-clause-too_large c =
    let a = c.args.array.now in
    let p = physical_view c.args.type_.physical_type in
    let old = parts_of c.args.nested.now in
    let l : IsEntryLeaf (child_of a) p c.in-Some.entries = subst (λ (x : ArrayTree). IsEntryLeaf x p c.in-Some.entries) c.values.ensures c.in-Some.ensures in
    let s : IsSeenPath a old (parts_of c.deref.result.now) = subst (λ (ns : List Nested). IsSeenPath a old (parts_of ns)) (sym c.deref.ensures.value) c.in_ok-seen.ensures.ok in
    let o = over_entries a p c.know.ensures.parts c.know.ensures.sound l.entries in
    elim c.in-Err.ensures.err [
      | inl m ↦ inl m
      | inr v ↦ inr (λ _. (l.entries, inr (seen_past a o p c.know.ensures.sound l.entries old c.deref.result.now s c.requires.rows.in_range v.1)), λ _. v.0)
    ]
