use Rattle.std.proofs.Common.{◌≡◌, inl, arith, replicate}
use Rattle.std.proofs.lemmas.Result.{on_ok_weaker, IfErr-weaker}
use Rattle.columns_base.specs.declared.error.Error.TheVariants.{Memory}
use Rattle.read_walk.specs.Gives.{called}
use Rattle.read_walk.specs.Values.{CannotDecode}
use Rattle.read_walk.proofs.Decoding.{copies-values, copies-nulls, copies-less, cannot-copies}
use Rattle.read_walk.proofs.decode.decode_copies.Goals as goal

pub returns-then-level-top-clause-ok : goal.returns-then-level-top-clause-ok
returns-then-level-top-clause-ok g c = on_ok_weaker c.push_valid.result (λ e. copies-values c.args.count c.args.floor c.args.top c.args.level _ _ _ _ c.requires.ordered c.if-level-top.true e) c.push_valid.ensures.ok

pub returns-then-level-top-clause-err : goal.returns-then-level-top-clause-err
returns-then-level-top-clause-err g c =
    let most = g.D.NestedDecoder.byte_limit in
    let left = g.D.NestedDecoder.left c.args.decoder.now c.args.values.now in
    let slots = g.D.NestedDecoder.slots c.args.decoded.now in
    IfErr-weaker c.push_valid.result (CannotDecode most c.args.count left slots) (CannotDecode most (called c.args.top (replicate c.args.count c.args.level)) left slots) (λ e h. cannot-copies most c.args.count c.args.top c.args.level left slots e c.if-level-top.true h) c.push_valid.ensures.err

pub returns-then-floor-level-clause-ok : goal.returns-then-floor-level-clause-ok
returns-then-floor-level-clause-ok g c = on_ok_weaker c.push_null.result (λ e. copies-nulls c.args.count c.args.floor c.args.top c.args.level (g.D.NestedDecoder.left c.args.decoder.now c.args.values.now) _ _ c.if-level-top.false c.if-floor-level.true e) c.push_null.ensures.ok

pub returns-then-floor-level-clause-err : goal.returns-then-floor-level-clause-err
returns-then-floor-level-clause-err g c =
    let most = g.D.NestedDecoder.byte_limit in
    let left = g.D.NestedDecoder.left c.args.decoder.now c.args.values.now in
    let slots = g.D.NestedDecoder.slots c.args.decoded.now in
    IfErr-weaker c.push_null.result (λ e. e ≡ Memory) (CannotDecode most (called c.args.top (replicate c.args.count c.args.level)) left slots) (λ e h. inl h) c.push_null.ensures.err

pub returns-clause-ok : goal.returns-clause-ok
returns-clause-ok g c = copies-less c.args.count c.args.floor c.args.top c.args.level (g.D.NestedDecoder.left c.args.decoder.now c.args.values.now) (g.D.NestedDecoder.slots c.args.decoded.now) c.if-level-top.false (omega (arith, c.if-floor-level.false))
