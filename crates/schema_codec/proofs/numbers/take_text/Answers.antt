use Rattle.std.proofs.Common.{List, ℕ, Some, refl, sym, ap, ◌∙◌}
use Rattle.schema_codec.specs.Reading.{text_at}
use Rattle.schema_codec.proofs.Turns.{valid_text, invalid_text}
use Rattle.schema_codec.proofs.numbers.take_text.Goals as goal

pub returns-in_ok-from_str-in-Ok : goal.returns-in_ok-from_str-in-Ok
unfolding text_at
returns-in_ok-from_str-in-Ok c =
    let same = c.in_ok-from_str-in-Ok.ensures.ok ∙ c.in-Ok.ensures.cases.0 in
    rw (c.in_ok-count.ensures, c.in_ok-text.ensures, valid_text c.in_ok-text.text.now c.in-Ok.ensures.cases.1) (ap (λ (t : List ℕ). Some (t, c.in_ok-text.rest.now)) (sym same))

pub returns-in-Err : goal.returns-in-Err
unfolding text_at
returns-in-Err c = rw (c.in_ok-count.ensures, c.in_ok-text.ensures, invalid_text c.in_ok-text.text.now c.in-Err.ensures.cases.0) refl
