use Rattle.std.proofs.Common.{◌≡◌, ◌∙◌, ap, sym, arith}
use Rattle.std.specs.Prelude.{not}
use Rattle.columns_slots.specs.Slots.{child_of, entry_at, is_null, keys_in, slot_at, tree_len}
use Rattle.columns_slots.specs.Tree.{ArrayTree}
use Rattle.dictionary_pages.proofs.Named.{has_value_here, has_value_past, over}
use Rattle.dictionary_pages.proofs.seen_path.has_value.Goals as goal

pub returns-then-entry-len : goal.returns-then-entry-len
returns-then-entry-len c =
    let a = c.args.array.now in
    let o = over a c.know.ensures.parts c.requires.entries in
    let is : c.entry_at-entry.result ≡ entry_at (keys_in a) c.args.i = c.entry_at-entry.ensures ∙ ap (λ ks. entry_at ks c.args.i) c.keys.ensures.keys in
    let len : c.len.result ≡ tree_len (child_of a) = c.len.ensures ∙ ap tree_len c.values.ensures in
    sym (has_value_past a o c.args.i c.know.ensures.sound (omega (arith, c.if-entry-len.true, is, len)))

pub returns : goal.returns
returns c =
    let a = c.args.array.now in
    let o = over a c.know.ensures.parts c.requires.entries in
    let is : c.entry_at-entry.result ≡ entry_at (keys_in a) c.args.i = c.entry_at-entry.ensures ∙ ap (λ ks. entry_at ks c.args.i) c.keys.ensures.keys in
    let null : c.is_null_at.result ≡ is_null (slot_at (child_of a) (entry_at (keys_in a) c.args.i)) = c.is_null_at.ensures ∙ (ap (λ (x : ArrayTree). is_null (slot_at x c.entry_at-entry.result)) c.values-2.ensures ∙ ap (λ k. is_null (slot_at (child_of a) k)) is) in
    ap not null ∙ sym (has_value_here a o c.args.i)
