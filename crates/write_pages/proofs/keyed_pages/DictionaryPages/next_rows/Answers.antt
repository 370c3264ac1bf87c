use Rattle.std.proofs.Common.{◌≡◌, ◌∙◌, ◌⊎◌, Bool, List, [], ◌∷◌, ap, false, inl, inr, option_map, refl, subst, sym, Some}
use Rattle.std.specs.Prelude.{Result}
use Rattle.columns_base.specs.declared.error.Error.{Error}
use Rattle.columns_base.specs.declared.error.Error.TheVariants.{Memory, Overflow}
use Rattle.columns_base.specs.declared.error.V.TheVariants.{V3}
use Rattle.columns_core.specs.Shapes.{leaf_type}
use Rattle.columns_entries.specs.Entries.{entries_of}
use Rattle.columns_slots.specs.Slots.{child_of, type_of}
use Rattle.levels.specs.declared.nested.Nested.{Nested}
use Rattle.levels.specs.Nested.{parts_of}
use Rattle.nested_paths.specs.Seen.{leaf_slot}
use Rattle.pq_files.specs.Page.{dictionary}
use Rattle.pq_pages.specs.declared.page.Page.{Page}
use Rattle.pq_tree.specs.TreeViews.{leaf_view}
use Rattle.pq_tree.specs.Views.{physical_view, statistics_view}
use Rattle.shredding.specs.Parts.{path_slots, path_way}
use Rattle.shredding.specs.Shred.{column}
use Rattle.write_pages.specs.Entries.{IsDictionaryPastRoom}
use Rattle.write_pages.specs.Holds.{DictionaryState, HoldsRows, dictionary_to_give, piece_owed}
use Rattle.write_pages.specs.Refused.{Gives, IsPastRoom}
use Rattle.write_pages.proofs.Due.{due_with_rows}
use Rattle.write_pages.proofs.keyed_pages.DictionaryPages.next_rows.Goals as goal
use Rattle.write_pages.proofs.keyed_pages.DictionaryPages.next_rows.Goals.{in-Ok, in-Err}

pub returns : goal.returns
returns c =
    let s = c.self.inside in
    let t = leaf_type (type_of s.array) in
    let p = physical_view s.type_.physical_type in
    let es = entries_of (child_of s.array) in
    let rows = path_slots (leaf_slot s.array) (parts_of s.nested.items) in
    let stated = option_map statistics_view s.statistics in
    let seen : DictionaryState = record { options = s.options; type_ = s.type_; array = s.array; parts = parts_of s.nested.items; owes_entries = s.owes_entries; owes_rows = s.owes_rows; statistics = stated } in
    let new : DictionaryState = record { options = s.options; type_ = s.type_; array = s.array; parts = parts_of s.nested.items; owes_entries = s.owes_entries; owes_rows = false; statistics = stated } in
    let behind : s.owes_entries ≡ false = ap (λ (d : DictionaryState). d.owes_entries) c.self.view_is ∙ c.requires.behind in
    let piece : piece_owed s.owes_rows rows ≡ rows ∷ [] = ap (λ (b : Bool). piece_owed b rows) (ap (λ (d : DictionaryState). d.owes_rows) c.self.view_is ∙ c.requires.owed) in
    let given : Gives (dictionary_to_give seen) (dictionary_to_give new) (Some c.match-rows_page.result) =
    elim c.match-rows_page.branch [
      | in-Ok w ↦
          let page =
          subst (λ (xs : List Nested). HoldsRows s.options dictionary t (leaf_view s.type_) p (path_way (parts_of xs)) (Some es) (path_slots (leaf_slot s.array) (parts_of xs)) w.in-Ok.page) c.deref.ensures.value w.in-Ok.ensures.ok in
          subst (λ (r : Result Page Error). Gives (dictionary_to_give seen) (dictionary_to_give new) (Some r)) (sym w.result-is) (rows, [], behind, piece, refl, page)
      | in-Err w ↦
          let e = w.in-Err.error in
          let cause : (e ≡ Memory) ⊎ ((e ≡ Overflow V3) × (IsDictionaryPastRoom t p (Some es) ⊎ IsPastRoom t p (column (path_way (parts_of s.nested.items)) rows))) =
          subst (λ (xs : List Nested). (e ≡ Memory) ⊎ ((e ≡ Overflow V3) × (IsDictionaryPastRoom t p (Some es) ⊎ IsPastRoom t p (column (path_way (parts_of xs)) (path_slots (leaf_slot s.array) (parts_of xs)))))) c.deref.ensures.value w.in-Err.ensures.err in
          subst (λ (r : Result Page Error). Gives (dictionary_to_give seen) (dictionary_to_give new) (Some r)) (sym w.result-is)
          (ap (λ (b : Bool). record (dictionary_to_give new) { owes_dictionary = b }) behind, elim cause [ inl m ↦ inl m | inr h ↦ inr (h.0, elim h.1 [ inl d ↦ inl d | inr r ↦ inr (rows, [], piece, r) ]) ], due_with_rows (dictionary_to_give seen) rows [] behind piece)
    ] in
    subst (λ (old : DictionaryState). Gives (dictionary_to_give old) (dictionary_to_give new) (Some c.match-rows_page.result)) c.self.view_is given
