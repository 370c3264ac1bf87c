use Rattle.std.proofs.Common.{◌≡◌, ◌++◌, ◌∷◌, ℕ, List, map, string_bytes, sym, ap, ◌∙◌}
use Rattle.columns_core.specs.Meta.{texts}
use Rattle.schema_fb.specs.Tables.{key_value}
use Rattle.schema_fb.specs.Views.{object_view}
use Rattle.schema_fb.specs.declared.object.Object.{Object}
use Rattle.schema_fb.proofs.Built.{Entry, built_more, all_entries}
use Rattle.schema_fb.proofs.entries.owned_key_values.Goals as goal

pub loop-key-preserved : goal.loop-key-preserved
loop-key-preserved c =
    let done = c.loop-key.entries.items in
    let object = c.in_ok-owned_key_value.field-0 in
    let entry : List ℕ × List ℕ = (string_bytes c.in-Some.key.now, string_bytes c.in-Some.text.now) in
    let left = map key_value (texts c.next.new.self) in
    let is : object_view object ≡ key_value entry = c.in_ok-owned_key_value.ensures in
    let so_far : map object_view done ++ key_value entry ∷ left ≡ map key_value c.args.metadata.now =
    ap (λ (es : List Entry). map object_view done ++ map key_value (texts es)) (sym c.in-Some.ensures.steps) ∙ c.loop-key.invariant in
    ap (λ (os : List Object). map object_view os ++ left) c.in_ok-push.ensures.items ∙ built_more done object (key_value entry) left (map key_value c.args.metadata.now) is so_far

pub returns : goal.returns
returns c =
    let done = c.loop-key.entries.items in
    all_entries done c.args.metadata.now (ap (λ (es : List Entry). map object_view done ++ map key_value (texts es)) (sym c.in-None.ensures.steps.0) ∙ c.loop-key.invariant)
