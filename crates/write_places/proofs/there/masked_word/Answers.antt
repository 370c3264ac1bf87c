use Rattle.std.proofs.Common.{◌+◌, ◌∙◌, sym, subst, arith}
use Rattle.levels.specs.Nested.{parts_of}
use Rattle.write_places.specs.There.{TellThere}
use Rattle.write_places.proofs.Bits.{full_bits, and_bits, three_bits}
use Rattle.write_places.proofs.there.masked_word.Goals as goal

pub returns-in-Nowhere-clause-bits : goal.returns-in-Nowhere-clause-bits
returns-in-Nowhere-clause-bits c =
    let all = subst (TellThere (parts_of c.args.parts.now)) c.in-Nowhere.is c.requires.tell in
    λ i h. full_bits c.full_word.result c.args.count i c.full_word.ensures h ∙ sym (all (c.args.from + i))

pub returns-in-Both-clause-bits : goal.returns-in-Both-clause-bits
returns-in-Both-clause-bits c =
    let tell = subst (TellThere (parts_of c.args.parts.now)) c.in-Both.is c.requires.tell in
    λ i h.
    and_bits c.word_at-word.result c.word_at-in-Both.result i _ _ (c.word_at-word.ensures.bits i h) (c.word_at-in-Both.ensures.bits i h)
    ∙ tell.2 (c.args.from + i) (omega (arith, h, c.requires.within))

pub returns-in-Three-clause-bits : goal.returns-in-Three-clause-bits
returns-in-Three-clause-bits c =
    let tell = subst (TellThere (parts_of c.args.parts.now)) c.in-Three.is c.requires.tell in
    λ i h.
    three_bits c.word_at-in-Three.result c.word_at-in-Three-2.result c.word_at-in-Three-3.result i _ _ _ (c.word_at-in-Three.ensures.bits i h) (c.word_at-in-Three-2.ensures.bits i h) (c.word_at-in-Three-3.ensures.bits i h)
    ∙ tell.3 (c.args.from + i) (omega (arith, h, c.requires.within))
