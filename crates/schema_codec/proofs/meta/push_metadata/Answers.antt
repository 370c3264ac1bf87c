use Rattle.std.proofs.Common.{◌≡◌, ◌++◌, List, ℕ, string_bytes, flat_map, sym, ap, ◌∙◌, append_assoc}
use Rattle.columns_core.specs.Meta.{texts}
use Rattle.schema_codec.specs.Spelling.{entry_bytes, text_bytes}
use Rattle.schema_codec.proofs.Turns.{Entry}
use Rattle.schema_codec.proofs.meta.push_metadata.Goals as goal

pub loop-key-preserved : goal.loop-key-preserved
loop-key-preserved c =
    let key = string_bytes c.in-Some.key.now in
    let text = string_bytes c.in-Some.text.now in
    let out = c.loop-key.out.items in
    let more = flat_map entry_bytes (texts c.next.new.self) in
    let whole : out ++ ((text_bytes key ++ text_bytes text) ++ more) ≡ c.push_count.new.out.items ++ flat_map entry_bytes c.args.metadata.now =
    ap (λ (es : List Entry). out ++ flat_map entry_bytes (texts es)) (sym c.in-Some.ensures.steps) ∙ c.loop-key.invariant in
    let first : c.push_text.new.out.items ≡ out ++ text_bytes key =
    c.in_ok-push_text.ensures ∙ ap (λ (s : List ℕ). out ++ text_bytes s) c.as_str.ensures.value in
    let second : c.push_text-in-loop-key.new.out.items ≡ (out ++ text_bytes key) ++ text_bytes text =
    c.in_ok-push_text-2.ensures ∙ ap (λ (s : List ℕ). c.push_text.new.out.items ++ text_bytes s) c.as_str-in-loop-key.ensures.value ∙ ap (λ (t : List ℕ). t ++ text_bytes text) first in
    ap (λ (t : List ℕ). t ++ more) (second ∙ append_assoc out (text_bytes key) (text_bytes text)) ∙ append_assoc out (text_bytes key ++ text_bytes text) more ∙ whole
