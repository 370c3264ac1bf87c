use Rattle.std.proofs.Common.{◌≡◌, ◌+◌, ℕ, replicate, arith, ap, sym, ◌∙◌}
use Rattle.std.proofs.lemmas.List.{replicate-append-replicate}
use Rattle.shredding.specs.Slot.{null}
use Rattle.read_leaf.proofs.nulls.NullDecoderNestedDecoder.push_null.Goals as goal

pub returns-in-Some-clause-ok : goal.returns-in-Some-clause-ok
returns-in-Some-clause-ok c =
    let old = c.args.decoded.now.count in
    let sum : c.in-Some.more ≡ old + c.args.count = omega (arith, c.in-Some.ensures) in
    ap (λ (n : ℕ). replicate n null) sum ∙ sym (replicate-append-replicate old c.args.count null)
