use Rattle.std.proofs.Common.{◌≡◌, ◌∙◌, ◌+◌, ◌-◌, ◌∷◌, [], ℕ, List, map, ap, sym, arith}
use Rattle.shredding.specs.Slot.{Value}
use Rattle.columns_core.specs.Shapes.{base}
use Rattle.columns_slots.specs.Slots.{child_of, entry_at, keys_in, tree_len, type_of}
use Rattle.pq_tree.specs.Views.{physical_view}
use Rattle.pq_files.specs.Layout.{plain_length}
use Rattle.write_places.specs.Places.{range}
use Rattle.write_values.specs.Stored.{stored_at}
use Rattle.dictionary_pages.proofs.Additions.{reaches_more, reaches_same}
use Rattle.dictionary_pages.proofs.EntryTypes.{entry_in_a_row}
use Rattle.dictionary_pages.proofs.LeafFacts.{leaf_size}
use Rattle.dictionary_pages.proofs.Named.{named_stored_is, over_entries}
use Rattle.dictionary_pages.proofs.Ranges.{one_range}
use Rattle.dictionary_pages.proofs.reached.ReachingEachPlace.take_one.Goals as goal

pub overflow_add-entry : goal.overflow_add-entry
overflow_add-entry c =
    let a = c.args.self.now.array.now in
    let e : c.entry_at-entry.result ≡ entry_at (keys_in a) c.args.place = c.entry_at-entry.ensures ∙ ap (λ ks. entry_at ks c.args.place) c.keys.ensures.keys in
    let n : c.len-count.result ≡ tree_len (child_of a) = c.len-count.ensures ∙ ap tree_len c.values.ensures in
    omega (arith, e, n, c.requires.accepted.0, c.len-count.type_inv)

pub returns-clause-taken : goal.returns-clause-taken
returns-clause-taken c = λ first places h.
    let s = c.args.self.now in
    let a = s.array.now in
    let p = physical_view s.physical_type in
    let are = s.are.entries in
    let o = over_entries a p c.know.ensures.parts c.know.ensures.sound are in
    let entry = c.entry_at-entry.result in
    let e : entry ≡ entry_at (keys_in a) c.args.place = c.entry_at-entry.ensures ∙ ap (λ ks. entry_at ks c.args.place) c.keys.ensures.keys in
    let size : c.stretch_size-plain.result ≡ plain_length p (map (stored_at a p) (c.args.place ∷ [])) =
    c.stretch_size-plain.ensures
    ∙ (leaf_size (child_of a) p s.entries s.are (range entry (entry + 1 - entry))
    ∙ (ap (λ (xs : List ℕ). plain_length p (map (stored_at (child_of a) p) xs)) (one_range entry ∙ ap (λ (k : ℕ). k ∷ []) e) ∙ ap (λ (v : Value). plain_length p (v ∷ [])) (sym (named_stored_is a o p c.know.ensures.sound are c.args.place c.requires.accepted)))) in (
      h.0,
      h.1,
      reaches_same p (physical_view first.physical_type) a first.array.now places _ first.reached s.reached _ (ap physical_view h.1) h.0
          (reaches_more p a places c.args.place entry c.stretch_size-plain.result first.reached s.reached _ (entry_in_a_row (base (type_of (child_of a))) p are) c.requires.within e size c.saturating_add.ensures c.saturating_add-2.ensures c.max.ensures)
          h.2,
    )
