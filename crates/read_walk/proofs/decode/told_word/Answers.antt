use Rattle.std.proofs.Common.{Bool, List, map, nat_le, ap, ◌∙◌}
use Rattle.columns_core.specs.Bits.{word_bits}
use Rattle.read_state.specs.Reach.{chosen}
use Rattle.read_walk.proofs.Mixing.{mixed-chosen}
use Rattle.read_walk.proofs.decode.told_word.Goals as goal

pub returns-clause-bits : goal.returns-clause-bits
returns-clause-bits c =
    let levels = c.args.defs.now in
    c.picked_bits.ensures.bits ∙ (ap (λ (bs : List Bool). chosen bs (word_bits c.at.result 64)) c.from.ensures ∙ (ap (chosen (map (λ d. nat_le c.args.floor d) levels)) c.at.ensures ∙ mixed-chosen c.args.floor c.args.top levels))
