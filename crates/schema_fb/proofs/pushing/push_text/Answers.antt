use Rattle.std.proofs.Common.{◌≡◌, ◌+◌, ◌%◌, ◌^◌, [], ◌∷◌, ◌++◌, List, ℕ, length, ap, ◌∙◌}
use Rattle.std.proofs.lemmas.Result.{on_ok_weaker}
use Rattle.schema_codec.specs.Spelling.{count_bytes}
use Rattle.schema_fb.proofs.Lengths.{text_rest}
use Rattle.schema_fb.proofs.Steps.{appended, padded_appended}
use Rattle.schema_fb.proofs.pushing.push_text.Goals as goal

pub returns : goal.returns
returns c =
    let out = c.args.out.now.items in
    let text = c.args.text.now in
    let head = count_bytes (length text) in
    let counted = c.push_count.new.out.items in
    let spelled = c.extend_from_slice.new.self.items in
    let second : spelled ≡ out ++ (head ++ text) =
    appended out head text counted spelled c.in_ok-push_count.ensures (c.in_ok-extend_from_slice.ensures.items ∙ ap (λ (t : List ℕ). counted ++ t) c.as_bytes.ensures.value) in
    let third = appended out (head ++ text) (0 ∷ []) spelled c.push.new.self.items second c.in_ok-push.ensures.items in
    on_ok_weaker c.push_gap.result (padded_appended out (head ++ text ++ 0 ∷ []) c.push.new.self.items c.push_gap.new.out.items ((length text + 5) % 2 ^ 64) third (text_rest text)) c.push_gap.ensures
