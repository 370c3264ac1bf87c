use Rattle.std.proofs.Common.{◌<◌, ◌/◌, length, refl, ap, ◌∙◌, arith}
use Rattle.std.specs.Int.{bit_at}
use Rattle.std.proofs.lemmas.List.{get_or_default}
use Rattle.columns_core.proofs.Bits.{bit_put}
use Rattle.columns_core.proofs.mutable_bitmap.put_bit.Goals as goal

pub returns-clause-bits : goal.returns-clause-bits
returns-clause-bits c =
    let bs = c.args.bytes.now.items in
    let within : c.args.size / 8 < length c.args.bytes.now.items = omega (arith, c.args.bytes.now.ok.0, c.requires.below) in
    bit_put bs c.args.size (c.args.size / 8) _ c.args.value refl within c.with_bit.ensures.set
    (λ i h n. c.with_bit.ensures.others i h n ∙ ap (λ b. bit_at b i) (c.index-byte.ensures ∙ get_or_default bs (c.args.size / 8) _ 0 within))
