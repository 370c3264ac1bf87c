use Rattle.std.proofs.Common.{Bool, List, map, nat_le, ap, ◌∙◌}
use Rattle.columns_core.specs.Bits.{word_bits}
use Rattle.read_state.specs.Reach.{chosen}
use Rattle.read_walk.proofs.Mixing.{mixed-chosen}
use Rattle.read_walk.proofs.decode.mixed_word.Goals as goal

pub returns-then-max-lt4294967296-clause-bits : goal.returns-then-max-lt4294967296-clause-bits
returns-then-max-lt4294967296-clause-bits c =
    let levels = c.args.levels.now in
    c.picked_bits.ensures.bits ∙ (ap (λ (bs : List Bool). chosen bs (word_bits c.levels_at.result 64)) c.levels_from.ensures ∙ (ap (chosen (map (λ d. nat_le c.args.floor d) levels)) c.levels_at.ensures ∙ mixed-chosen c.args.floor c.args.top levels))
