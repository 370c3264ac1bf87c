use Rattle.std.proofs.Common.{◌≡◌, ◌⊎◌, ◌+◌, ◌≤◌, ◌∙◌, List, [], take, drop, length, option_map, ap, sym, subst, refl, arith, inl, inr, true, Some, None}
use Rattle.std.specs.Prelude.{Ok, Err}
use Rattle.shredding.specs.Parts.{path_way, slot_count}
use Rattle.shredding.specs.Shred.{column}
use Rattle.columns_array.specs.Boxed.{boxed}
use Rattle.columns_base.specs.declared.error.Error.TheVariants.{Memory, Overflow}
use Rattle.columns_base.specs.declared.error.V.TheVariants.{V3}
use Rattle.columns_core.specs.Shapes.{leaf_type}
use Rattle.columns_slots.specs.Slots.{type_of}
use Rattle.levels.specs.declared.nested.Nested.{Nested}
use Rattle.levels.specs.Nested.{parts_of}
use Rattle.pq_tree.specs.TreeViews.{leaf_view}
use Rattle.pq_tree.specs.Views.{physical_view, statistics_view}
use Rattle.write_values.specs.Deltas.{page_encoding}
use Rattle.pq_pages.specs.declared.page.Page.TheVariants.{Data}
use Rattle.write_pages.specs.KnownColumns.{IsKnown}
use Rattle.write_pages.specs.Holds.{HoldsRows, LeafState, pieces_left, rows_of, leaf_to_give}
use Rattle.write_pages.specs.Refused.{Gives, IsPastRoom}
use Rattle.write_pages.proofs.Moved.{rows_counted}
use Rattle.write_pages.proofs.PiecesLeft.{none_left, some_left}
use Rattle.write_pages.proofs.leaf_pages.LeafPages.next_page.Goals as goal
use Rattle.write_pages.proofs.leaf_pages.LeafPages.next_page.Goals.{then-self-via-then-self, then-self-via-else-self+then-self-rows}

pub returns-then-self : goal.returns-then-self
returns-then-self c =
    let s = c.self.inside in
    let rows = rows_of (parts_of s.nested.items) (boxed s.array) in
    let count : c.slot_count-rows.result ≡ length rows = c.slot_count-rows.ensures ∙ (ap (λ (xs : List Nested). slot_count (parts_of xs)) c.deref.ensures.value ∙ sym (rows_counted (parts_of s.nested.items) (boxed s.array))) in
    let end : (s.has_failed ≡ true) ⊎ (length rows ≤ s.next) = elim c.then-self.branch [ then-self-via-then-self w ↦ inl w.if-self.true | then-self-via-else-self+then-self-rows w ↦ inr (omega (arith, w.if-self-rows.true, count)) ] in
    (refl, subst (λ (t : LeafState). pieces_left t.has_failed t.per_page t.next (rows_of t.parts t.array) ≡ []) c.self.view_is (none_left s.has_failed s.per_page s.next rows end), refl)

pub returns-in-Ok : goal.returns-in-Ok
returns-in-Ok c =
    let s = c.self.inside in
    let parts = parts_of s.nested.items in
    let rows = rows_of parts (boxed s.array) in
    let n = c.min-count.result in
    let count : c.slot_count-rows.result ≡ length rows = c.slot_count-rows.ensures ∙ (ap (λ (xs : List Nested). slot_count (parts_of xs)) c.deref.ensures.value ∙ sym (rows_counted parts (boxed s.array))) in
    let new : LeafState = record { options = s.options; with_deltas = s.with_deltas; type_ = s.type_; array = boxed s.array; parts = parts; next = s.next + n; per_page = s.per_page; has_failed = s.has_failed; statistics = option_map statistics_view s.whole.known.statistics } in
    let page =
    subst (λ (xs : List Nested). HoldsRows s.options (page_encoding s.with_deltas (leaf_type (type_of (boxed s.array))) (physical_view s.type_.physical_type)) (leaf_type (type_of (boxed s.array))) (leaf_view s.type_) (physical_view s.type_.physical_type) (path_way (parts_of xs)) None (take n (drop s.next (rows_of (parts_of xs) (boxed s.array)))) c.in-Ok.page) c.deref-2.ensures.value c.in-Ok.ensures.ok in
    let left = some_left s.has_failed s.per_page s.next n rows c.if-self.false c.self.invariant.0.some (omega (arith, c.if-self-rows.false, count)) (omega (arith, c.min-count.ensures, count)) in
    subst (λ (old : LeafState). Gives (leaf_to_give old) (leaf_to_give new) (Some (Ok (Data c.in-Ok.page)))) c.self.view_is
    (take n (drop s.next rows), pieces_left s.has_failed s.per_page (s.next + n) rows, refl, left, refl, page)

pub returns-in-Err : goal.returns-in-Err
returns-in-Err c =
    let s = c.self.inside in
    let parts = parts_of s.nested.items in
    let rows = rows_of parts (boxed s.array) in
    let n = c.min-count.result in
    let e = c.in-Err.error in
    let count : c.slot_count-rows.result ≡ length rows = c.slot_count-rows.ensures ∙ (ap (λ (xs : List Nested). slot_count (parts_of xs)) c.deref.ensures.value ∙ sym (rows_counted parts (boxed s.array))) in
    let new : LeafState = record { options = s.options; with_deltas = s.with_deltas; type_ = s.type_; array = boxed s.array; parts = parts; next = s.next; per_page = s.per_page; has_failed = true; statistics = option_map statistics_view s.whole.known.statistics } in
    let cause : (e ≡ Memory) ⊎ ((e ≡ Overflow V3) × IsPastRoom (leaf_type (type_of (boxed s.array))) (physical_view s.type_.physical_type) (column (path_way parts) (take n (drop s.next rows)))) =
    subst (λ (xs : List Nested). (e ≡ Memory) ⊎ ((e ≡ Overflow V3) × IsPastRoom (leaf_type (type_of (boxed s.array))) (physical_view s.type_.physical_type) (column (path_way (parts_of xs)) (take n (drop s.next (rows_of (parts_of xs) (boxed s.array))))))) c.deref-2.ensures.value c.in-Err.ensures.err in
    let left = some_left s.has_failed s.per_page s.next n rows c.if-self.false c.self.invariant.0.some (omega (arith, c.if-self-rows.false, count)) (omega (arith, c.min-count.ensures, count)) in
    subst (λ (old : LeafState). Gives (leaf_to_give old) (leaf_to_give new) (Some (Err e))) c.self.view_is
    (refl, elim cause [ inl m ↦ inl m | inr h ↦ inr (h.0, inr (take n (drop s.next rows), pieces_left s.has_failed s.per_page (s.next + n) rows, left, h.1)) ], omega (arith, ap length left))

pub piece_page-requires-clause-known : goal.piece_page-requires-clause-known
piece_page-requires-clause-known c =
    let s = c.self.inside in
    subst (λ (xs : List Nested). IsKnown s.options.write_statistics (boxed s.array) (parts_of xs) (physical_view s.type_.physical_type) s.whole) (sym c.deref-2.ensures.value) c.self.invariant.1
