use Rattle.std.proofs.Common.{arith}
use Rattle.columns_slots.specs.Bytes.{pieces}
use Rattle.columns_slots.proofs.Strings.{pieces_len}
use Rattle.columns_leaf.proofs.Texts.{texts_step, texts_no, texts_yes}
use Rattle.columns_leaf.proofs.utf8.are_texts.Goals as goal

pub returns-then-not-is_text_at : goal.returns-then-not-is_text_at
returns-then-not-is_text_at g c =
    texts_no (pieces c.args.offsets.now c.args.values.now) c.loop-i.i c.is_text_at.result (omega (arith, pieces_len c.args.offsets.now c.args.values.now, c.loop-i-test.true, c.len_proxy-i-end.ensures)) c.if-not-is_text_at.true c.is_text_at.ensures c.loop-i.invariant

pub loop-i-preserved : goal.loop-i-preserved
loop-i-preserved g c =
    texts_step (pieces c.args.offsets.now c.args.values.now) c.loop-i.i (omega (arith, pieces_len c.args.offsets.now c.args.values.now, c.loop-i-test.true, c.len_proxy-i-end.ensures)) (c.is_text_at.ensures.0 c.if-not-is_text_at.false) c.loop-i.invariant

pub returns : goal.returns
returns g c =
    texts_yes (pieces c.args.offsets.now c.args.values.now) c.loop-i.i (omega (arith, pieces_len c.args.offsets.now c.args.values.now, c.loop-i-test.false, c.len_proxy-i-end.ensures)) c.loop-i.invariant
