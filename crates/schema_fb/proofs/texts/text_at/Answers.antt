use Rattle.std.proofs.Common.{List, ℕ, Some, refl, sym, ap, ◌∙◌}
use Rattle.std.specs.Str.{is_utf8}
use Rattle.schema_codec.proofs.Turns.{valid_text, invalid_text}
use Rattle.schema_fb.specs.Places.{text_at}
use Rattle.schema_fb.proofs.texts.text_at.Goals as goal

pub returns-in_ok-from_str-in-Ok : goal.returns-in_ok-from_str-in-Ok
unfolding text_at
returns-in_ok-from_str-in-Ok c =
    let valid = ap is_utf8 (sym c.split_at.ensures.front) ∙ valid_text c.split_at.result.0.now c.in-Ok.ensures.cases.1 in
    let same = c.in_ok-from_str-in-Ok.ensures.ok ∙ c.in-Ok.ensures.cases.0 ∙ c.split_at.ensures.front in
    rw (c.in_ok-size.ensures.gives, c.in_ok-whole.ensures.gives, c.in_ok-rest.ensures, valid) (ap (λ (t : List ℕ). Some (t, c.in_ok-rest.rest)) (sym same))

pub returns-in-Err : goal.returns-in-Err
unfolding text_at
returns-in-Err c =
    let invalid = ap is_utf8 (sym c.split_at.ensures.front) ∙ invalid_text c.split_at.result.0.now c.in-Err.ensures.cases.0 in
    rw (c.in_ok-size.ensures.gives, c.in_ok-whole.ensures.gives, c.in_ok-rest.ensures, invalid) refl
