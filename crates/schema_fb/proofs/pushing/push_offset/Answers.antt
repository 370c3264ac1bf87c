use Rattle.std.proofs.Common.{◌≡◌, ◌+◌, ◌%◌, ◌^◌, ◌++◌, List, ℕ, ap, sym, ◌∙◌}
use native.Mathlib.Nat.{sub-zero}
use Rattle.std.proofs.Math.Nat.{add-mod-mod}
use Rattle.std.proofs.lemmas.Result.{on_ok_weaker}
use Rattle.schema_codec.specs.Spelling.{count_bytes}
use Rattle.schema_fb.specs.Layout.{front, offset}
use Rattle.schema_fb.specs.Views.{object_view}
use Rattle.schema_fb.proofs.Steps.{count_low}
use Rattle.schema_fb.proofs.pushing.push_offset.Goals as goal

pub returns : goal.returns
returns c =
    let d = c.args.distance in
    let o = object_view c.args.object.now in
    let size : (d + c.front.result) % 2 ^ 64 ≡ (d + front o) % 2 ^ 64 = ap (λ (n : ℕ). (d + n) % 2 ^ 64) c.front.ensures ∙ add-mod-mod d (front o) (2 ^ 64) in
    let bytes : count_bytes ((d + c.front.result) % 2 ^ 64) ≡ offset 0 d o = ap count_bytes size ∙ count_low (d + front o) ∙ ap count_bytes (sym (sub-zero (d + front o))) in
    on_ok_weaker c.push_count.result (λ h. h ∙ ap (λ (t : List ℕ). c.args.out.now.items ++ t) bytes) c.push_count.ensures
