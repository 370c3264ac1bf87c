use Rattle.std.proofs.Common.{cond}
use Rattle.std.proofs.lemmas.Result.{on_ok_weaker, IfErr-weaker}
use Rattle.columns_core.specs.Bits.{word_bits}
use Rattle.read_walk.specs.Gives.{called}
use Rattle.read_walk.specs.Values.{ones, CannotDecode}
use Rattle.read_walk.proofs.Flat.{bits-decoded, bits-cannot}
use Rattle.read_walk.proofs.decode.decode_next.Goals as goal

pub returns-clause-ok : goal.returns-clause-ok
returns-clause-ok g c = on_ok_weaker c.push_mixed.result (λ e. bits-decoded c.args.floor c.args.top (cond c.args.told c.args.defs.now c.args.block.now.1) _ _ _ _ _ c.requires.ordered c.next_word-valid.ensures.bits e) c.push_mixed.ensures.ok

pub returns-clause-err : goal.returns-clause-err
returns-clause-err g c =
    let most = g.D.NestedDecoder.byte_limit in
    let left = g.D.NestedDecoder.left c.args.decoder.now c.args.values.now in
    let slots = g.D.NestedDecoder.slots c.args.decoded.now in
    let bits = word_bits c.next_word-valid.result.0 c.next_word-valid.result.1 in
    IfErr-weaker c.push_mixed.result (CannotDecode most (ones bits) left slots) (CannotDecode most (called c.args.top (cond c.args.told c.args.defs.now c.args.block.now.1)) left slots) (λ e h. bits-cannot most c.args.floor c.args.top (cond c.args.told c.args.defs.now c.args.block.now.1) bits left slots e c.requires.ordered c.next_word-valid.ensures.bits h) c.push_mixed.ensures.err
