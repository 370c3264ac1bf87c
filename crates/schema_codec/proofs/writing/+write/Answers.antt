use Rattle.std.proofs.Common.{◌≡◌, ◌++◌, [], ℕ, List, length, drop, sym, ap, subst, ◌∙◌, append_assoc}
use Rattle.std.proofs.lemmas.List.{append-nil, drop_all}
use Rattle.columns_core.specs.declared.types.Field.{Field}
use Rattle.columns_core.specs.View.{fields_view}
use Rattle.schema_codec.specs.Spelling.{count, count_bytes, fields_bytes}
use Rattle.schema_codec.proofs.Turns.{count_is}
use Rattle.schema_codec.proofs.writing.+write.Goals as goal

pub push_fields-returns : goal.push_fields-returns
push_fields-returns t c =
    let fs = c.args.fields.now.items in
    let out = c.loop-field.out.items in
    let begun = c.push_count.new.out.items in
    let same : c.deref-field-items.result.now ≡ fs = c.deref-field-items.ensures.value in
    let none : drop c.loop-field.field-index c.deref-field-items.result.now ≡ [] = drop_all c.loop-field.field-index c.deref-field-items.result.now c.loop-field-test.false in
    let so_far : out ++ [] ≡ begun ++ fields_bytes (fields_view c.deref-field-items.result.now) =
    subst (λ (xs : List Field). out ++ fields_bytes (fields_view xs) ≡ begun ++ fields_bytes (fields_view c.deref-field-items.result.now)) none c.loop-field.invariant in
    let all : out ≡ begun ++ fields_bytes (fields_view fs) =
    sym (append-nil out) ∙ so_far ∙ ap (λ (xs : List Field). begun ++ fields_bytes (fields_view xs)) same in
    let size : c.len.result ≡ count (fields_view fs) = c.len.ensures ∙ sym c.deref-field-items.ensures.len ∙ ap length same ∙ sym (count_is fs) in
    let counted : begun ≡ c.args.out.now.items ++ count_bytes (count (fields_view fs)) =
    c.in_ok-push_count.ensures ∙ ap (λ (n : ℕ). c.args.out.now.items ++ count_bytes n) size in
    all ∙ ap (λ (t : List ℕ). t ++ fields_bytes (fields_view fs)) counted ∙ append_assoc c.args.out.now.items (count_bytes (count (fields_view fs))) (fields_bytes (fields_view fs))
