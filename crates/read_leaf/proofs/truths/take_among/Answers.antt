use Rattle.std.proofs.Common.{◌≡◌, ◌+◌, ◌/◌, drop, ℕ, arith, ap, sym, refl, ◌∙◌}
use Rattle.columns_core.specs.Bits.{bits_from, word_bits}
use Rattle.columns_core.proofs.Words.{word_seen}
use Rattle.read_walk.specs.Values.{ones}
use Rattle.read_leaf.specs.Truths.{among_nulls}
use Rattle.read_leaf.proofs.PlainBits.{next_truths}
use Rattle.read_leaf.proofs.SetBits.{length-bits, most-ones}
use Rattle.read_leaf.proofs.truths.take_among.Goals as goal

pub bits_in-source-requires-clause-few : goal.bits_in-source-requires-clause-few
bits_in-source-requires-clause-few c = omega (arith, c.requires.few, c.count_set-wanted.ensures, most-ones (word_bits c.args.valid c.args.count), length-bits c.args.valid c.args.count)

pub returns : goal.returns
returns c =
    let bytes = c.args.bytes.now in
    let bit = c.args.bit in
    let bits = word_bits c.args.valid c.args.count in
    let k = ones bits in
    let source = c.bits_in-source.result in
    let wanted : c.count_set-wanted.result ≡ k = c.count_set-wanted.ensures in
    let seen : bits_from bytes bit k ≡ word_bits source k = word_seen bytes bit k source (λ i h. sym (c.bits_in-source.ensures.bits i (omega (arith, h, wanted)))) in
    record {
      truths = bits_from bytes bit k;
      took = next_truths bytes c.skip.result.now bit k (bit + k) (λ i. omega (arith, c.type_inv.bytes i)) refl c.requires.within (c.skip.ensures ∙ ap (λ (n : ℕ). drop ((bit + n) / 8) bytes) wanted);
      are = c.spread_bits-word.ensures ∙ ap (among_nulls bits) (sym seen);
    }
