use Rattle.std.proofs.Common.{◌∷◌, [], List, ℕ, Some, map, drop, arith, ap, sym, ◌∙◌}
use Rattle.std.proofs.lemmas.List.{map-append}
use Rattle.read_walk.specs.Values.{Stored}
use Rattle.read_leaf.specs.Fixed.{stored_fixed}
use Rattle.read_leaf.proofs.FixedRead.{fixed-first, fixed-missing, fixed-no-size, fixed-outside}
use Rattle.read_leaf.proofs.MixedValues.{value-there}
use Rattle.read_leaf.proofs.fixed.take_value.Goals as goal

pub returns-then-size-eq0-clause-err : goal.returns-then-size-eq0-clause-err
returns-then-size-eq0-clause-err g c = λ slots. fixed-no-size g.T.FixedValue.loaded c.args.size c.args.bytes.now slots c.if-size-eq0.true

pub returns-then-bytes-size-clause-err : goal.returns-then-bytes-size-clause-err
returns-then-bytes-size-clause-err g c = λ slots. fixed-missing g.T.FixedValue.loaded c.args.size c.args.bytes.now slots c.if-bytes-size.true

pub returns-in_ok-push-in-Some-clause-ok : goal.returns-in_ok-push-in-Some-clause-ok
returns-in_ok-push-in-Some-clause-ok g c =
    let held = g.T.FixedValue.held in
    let text = c.args.bytes.now in
    let size = c.args.size in
    let first = fixed-first g.T.FixedValue.loaded c.args.size text (omega (arith, c.if-size-eq0.false)) (omega (arith, c.if-bytes-size.false)) in
    let taken = first ∙ (ap (λ (o : Stored). o ∷ stored_fixed g.T.FixedValue.loaded c.args.size (drop size text)) (sym c.in-Some.ensures) ∙ ap (λ (r : List ℕ). Some (held c.in-Some.value) ∷ stored_fixed g.T.FixedValue.loaded c.args.size r) (sym c.skip.ensures)) in
    value-there (stored_fixed g.T.FixedValue.loaded c.args.size) text c.skip.result.now (held c.in-Some.value) _ _ taken (ap (map held) c.in_ok-push-in-Some.ensures.items ∙ map-append held c.args.values.now.items (c.in-Some.value ∷ []))

pub returns-in-None-clause-err : goal.returns-in-None-clause-err
returns-in-None-clause-err g c = λ slots. fixed-outside g.T.FixedValue.loaded c.args.size c.args.bytes.now slots (omega (arith, c.if-size-eq0.false)) (omega (arith, c.if-bytes-size.false)) (sym c.in-None.ensures)
