use Rattle.std.proofs.Common.{◌++◌, length, Bool, List, ap, ◌∙◌, arith}
use Rattle.std.proofs.lemmas.List.{length-append}
use Rattle.columns_core.specs.Bits.{word_bits}
use Rattle.write_values.proofs.TruthPlaces.{length_word, word_done, word_truths}
use Rattle.write_values.proofs.truths.append_word.Goals as goal

pub returns-clause-same : goal.returns-clause-same
returns-clause-same c =
    word_done c.extend_from_word.result _ (c.extend_from_word.ensures.reserved c.requires.room) c.extend_from_word.ensures.ok
    ∙ ap (λ (bs : List Bool). c.args.out.now.0 ++ bs) (word_truths c.args.values.now c.word_at-word.result c.args.from c.args.count c.word_at-word.ensures.bits)

pub returns-clause-room : goal.returns-clause-room
returns-clause-room c =
    let pushed = word_done c.extend_from_word.result _ (c.extend_from_word.ensures.reserved c.requires.room) c.extend_from_word.ensures.ok in
    omega (arith, c.extend_from_word.ensures.room, ap length pushed, length-append c.args.out.now.0 (word_bits c.word_at-word.result c.args.count), length_word c.word_at-word.result c.args.count)
