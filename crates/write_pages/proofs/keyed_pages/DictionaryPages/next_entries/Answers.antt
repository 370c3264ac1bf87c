use Rattle.std.proofs.Common.{◌≡◌, ◌∙◌, ap, false, inl, inr, option_map, refl, subst, true, Some}
use Rattle.std.specs.Prelude.{Ok, Err}
use Rattle.columns_entries.specs.Entries.{entries_of}
use Rattle.columns_slots.specs.Slots.{child_of}
use Rattle.levels.specs.Nested.{parts_of}
use Rattle.pq_pages.specs.declared.page.Page.TheVariants.{Dict}
use Rattle.pq_tree.specs.Views.{statistics_view}
use Rattle.write_pages.specs.Holds.{DictionaryState, dictionary_to_give}
use Rattle.write_pages.specs.Refused.{Gives}
use Rattle.write_pages.proofs.Due.{due_with_entries}
use Rattle.write_pages.proofs.keyed_pages.DictionaryPages.next_entries.Goals as goal

pub returns-in-Ok : goal.returns-in-Ok
returns-in-Ok c =
    let s = c.self.inside in
    let new : DictionaryState = record { options = s.options; type_ = s.type_; array = s.array; parts = parts_of s.nested.items; owes_entries = false; owes_rows = s.owes_rows; statistics = option_map statistics_view s.statistics } in
    subst (λ (old : DictionaryState). Gives (dictionary_to_give old) (dictionary_to_give new) (Some (Ok (Dict c.in-Ok.page)))) c.self.view_is
    (entries_of (child_of s.array), ap (λ (t : DictionaryState). t.owes_entries) c.self.view_is ∙ c.requires, refl, refl, c.in-Ok.ensures.ok)

pub returns-in-Err : goal.returns-in-Err
returns-in-Err c =
    let s = c.self.inside in
    let stated = option_map statistics_view s.statistics in
    let seen : DictionaryState = record { options = s.options; type_ = s.type_; array = s.array; parts = parts_of s.nested.items; owes_entries = s.owes_entries; owes_rows = s.owes_rows; statistics = stated } in
    let new : DictionaryState = record { options = s.options; type_ = s.type_; array = s.array; parts = parts_of s.nested.items; owes_entries = false; owes_rows = false; statistics = stated } in
    let owed : s.owes_entries ≡ true = ap (λ (t : DictionaryState). t.owes_entries) c.self.view_is ∙ c.requires in
    subst (λ (old : DictionaryState). Gives (dictionary_to_give old) (dictionary_to_give new) (Some (Err c.in-Err.error))) c.self.view_is
    (refl, elim c.in-Err.ensures.err [ inl m ↦ inl m | inr h ↦ inr (h.0, inl h.1) ], due_with_entries (dictionary_to_give seen) owed)
