use Rattle.std.proofs.Common.{◌≡◌, List, Bool, map, subst, ◌∙◌}
use Rattle.columns_core.specs.Bits.{word_bits}
use Rattle.write_places.specs.Places.{picked}
use Rattle.write_values.specs.Truths.{truth_at}
use Rattle.write_values.proofs.TruthPlaces.{picked_truths, truths_more}
use Rattle.write_values.proofs.truths.PlainTruthsTaker.take_some.Goals as goal

pub returns-clause-taken : goal.returns-clause-taken
returns-clause-taken c = λ first places h.
    let bs = c.args.self.now.values.now in
    let new = picked c.args.bits c.args.from c.args.count in
    let all : word_bits c.pick_bits-word.result.0 c.pick_bits-word.result.1 ≡ map (truth_at bs) new = c.pick_bits-word.ensures.are ∙ picked_truths bs c.word_at-values.result c.args.bits c.args.from c.args.count c.word_at-values.ensures.bits in
    (h.0, truths_more first.values.now first.out.0 c.args.self.now.out.0 c.extend_from_word.new.self.0 (word_bits c.pick_bits-word.result.0 c.pick_bits-word.result.1) places new h.1 c.in_ok-extend_from_word.ensures.ok (subst (λ (xs : List Bool). word_bits c.pick_bits-word.result.0 c.pick_bits-word.result.1 ≡ map (truth_at xs) new) h.0 all))
