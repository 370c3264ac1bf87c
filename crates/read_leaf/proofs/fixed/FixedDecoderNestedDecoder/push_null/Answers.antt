use Rattle.std.proofs.Common.{◌≡◌, ◌++◌, ◌+◌, ℕ, false, length, map, take, replicate, arith, ap, ◌∙◌, length-append}
use Rattle.std.proofs.lemmas.List.{length-map, map-append, length-take-le, length-replicate, take_all}
use Rattle.read_leaf.proofs.MixedValues.{blanks-more, held-copies}
use Rattle.read_leaf.proofs.fixed.FixedDecoderNestedDecoder.push_null.Goals as goal

pub returns-in-Ok-push_validities-clause-ok : goal.returns-in-Ok-push_validities-clause-ok
returns-in-Ok-push_validities-clause-ok g c =
    let held = g.T.FixedValue.held in
    let valid = c.decoded.inside.validity.0 in
    let n : ℕ = length valid in
    let xs = c.decoded.inside.values.items in
    let old = take n xs in
    let ys = c.push_copies.new.values.items in
    let cut : c.truncate.new.self.items ≡ old = c.truncate.ensures.items ∙ ap (λ (k : ℕ). take k xs) c.len-before.ensures in
    let even : length (map held old) ≡ n = length-map old held ∙ length-take-le n xs c.decoded.invariant in
    let pushed : ys ≡ old ++ replicate c.args.count c.blank.result = c.in-Ok.ensures.ok ∙ ap (λ t. t ++ replicate c.args.count c.blank.result) cut in
    let more = ap (map held) pushed ∙ (map-append held old (replicate c.args.count c.blank.result) ∙ ap (λ t. map held old ++ t) (held-copies held c.args.count c.blank.result)) in
    let longer : length c.push_validities.new.validity.0 ≡ n + c.args.count = ap length c.in-Ok-push_validities.ensures.ok ∙ (length-append valid (replicate c.args.count false) ∙ ap (λ (k : ℕ). n + k) (length-replicate c.args.count false)) in
    let size : length ys ≡ n + c.args.count = ap length pushed ∙ (length-append old (replicate c.args.count c.blank.result) ∙ omega (arith, length-take-le n xs c.decoded.invariant, length-replicate c.args.count c.blank.result)) in
    let whole : take (length c.push_validities.new.validity.0) ys ≡ ys = take_all (length c.push_validities.new.validity.0) ys (omega (arith, longer, size)) in
    rw (← c.decoded.view_is) (rw whole (blanks-more c.args.count (held c.blank.result) (map held old) _ valid _ even more c.in-Ok-push_validities.ensures.ok))
