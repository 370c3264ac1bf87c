use Rattle.std.proofs.Common.{◌/◌, drop, rules, refl, arith}
use Rattle.columns_core.proofs.Cuts.{take_take}
use Rattle.columns_core.proofs.Words.{word_whole, word_near}
use Rattle.read_leaf.proofs.bit_words.word_in.Goals as goal

pub returns-then-shift-eq0 : goal.returns-then-shift-eq0
returns-then-shift-eq0 c =
    word_whole c.args.bytes.now _ c.eight_bytes-low.result c.args.at c.eight_bytes-low.ensures (take_take (drop (c.args.at / 8) c.args.bytes.now) 8 _ (omega (arith, c.requires))) c.if-shift-eq0.true

pub returns : goal.returns
returns c =
    word_near c.args.bytes.now _ c.shifted_word.result c.eight_bytes-low.result _ c.args.at c.shifted_word.ensures c.eight_bytes-low.ensures (take_take (drop (c.args.at / 8) c.args.bytes.now) 8 _ (omega (arith, c.requires))) (search rules) refl
