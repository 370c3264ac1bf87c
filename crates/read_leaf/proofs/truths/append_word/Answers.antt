use Rattle.std.proofs.Common.{◌++◌, length, Bool, List, ap, sym, ◌∙◌, arith}
use Rattle.columns_core.specs.Bits.{word_bits}
use Rattle.columns_core.proofs.Words.{word_seen}
use Rattle.std.proofs.lemmas.List.{length-append}
use Rattle.read_leaf.proofs.SetBits.{length-bits}
use Rattle.read_leaf.proofs.TruthSlots.{done_ok}
use Rattle.read_leaf.proofs.truths.append_word.Goals as goal

pub returns-clause-same : goal.returns-clause-same
returns-clause-same c =
    let seen = word_seen c.args.bytes.now c.args.at c.args.count c.bits_in-word.result (λ i h. sym (c.bits_in-word.ensures.bits i h)) in
    done_ok c.extend_from_word.result _ (c.extend_from_word.ensures.reserved c.requires.room) c.extend_from_word.ensures.ok ∙ ap (λ (bs : List Bool). c.args.values.now.0 ++ bs) (sym seen)

pub returns-clause-room : goal.returns-clause-room
returns-clause-room c =
    let pushed = done_ok c.extend_from_word.result _ (c.extend_from_word.ensures.reserved c.requires.room) c.extend_from_word.ensures.ok in
    omega (arith, c.extend_from_word.ensures.room, ap length pushed, length-append c.args.values.now.0 (word_bits c.bits_in-word.result c.args.count), length-bits c.bits_in-word.result c.args.count)
