use Rattle.std.proofs.Common.{Bool, Some, None, pos, refl, sym, subst, is_none}
use Rattle.std.specs.Prelude.{count_by}
use Rattle.columns_array.specs.Boxed.{boxed}
use Rattle.columns_core.specs.Shapes.{leaf_type}
use Rattle.columns_entries.specs.Entries.{entries_of}
use Rattle.columns_slots.specs.Slots.{type_of}
use Rattle.pq_tree.specs.Views.{physical_view, statistics_view}
use Rattle.dictionary_pages.specs.Pages.{AreStatedBy}
use Rattle.dictionary_pages.proofs.EntryBounds.{by_entries, nulls_stated, some_with}
use Rattle.dictionary_pages.proofs.Named.{entries_valued}
use Rattle.dictionary_pages.proofs.statistics.key_statistics.Goals as goal

pub returns-in-Some-clause-ok : goal.returns-in-Some-clause-ok
returns-in-Some-clause-ok c = λ ts nulls.
    let e = boxed c.args.entries.now in
    let p = physical_view c.args.physical_type in
    let t = leaf_type (type_of e) in
    let v = entries_valued e p c.know.ensures c.requires in
    let st = rw c.in-Some.is at c.in_ok-statistics.ensures.ok in
    let told = Some (statistics_view c.in-Some.statistics) in
    let count = c.stated_count.result in
    subst (λ (b : Bool). AreStatedBy b t p (entries_of e) ts (some_with count told)) (sym c.if-not-is_wanted.false)
    (by_entries t p e v ts st.out told st.are st.has st.exact count (nulls_stated t p e v ts count c.args.nulls c.stated_count.ensures nulls))

pub returns-in-None-clause-ok : goal.returns-in-None-clause-ok
returns-in-None-clause-ok c = λ ts nulls.
    let e = boxed c.args.entries.now in
    let p = physical_view c.args.physical_type in
    let t = leaf_type (type_of e) in
    let v = entries_valued e p c.know.ensures c.requires in
    let st = rw c.in-None.is at c.in_ok-statistics.ensures.ok in
    let count = Some (pos (count_by (λ x. is_none x.value) ts)) in
    subst (λ (b : Bool). AreStatedBy b t p (entries_of e) ts (some_with count None)) (sym c.if-not-is_wanted.false)
    (by_entries t p e v ts st.out None st.are st.has st.exact count (λ few. refl))
