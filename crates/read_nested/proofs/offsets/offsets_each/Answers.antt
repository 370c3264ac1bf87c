use Rattle.std.proofs.Common.{◌≤◌, ◌++◌, ◌∷◌, [], inr, refl, ◌∙◌, arith, length}
use Rattle.std.proofs.lemmas.Result.{IfOk-weaker}
use Rattle.read_state.specs.Kinds.{starts_of}
use Rattle.read_nested.proofs.Places.{offsets-numbers, offsets-whole, places-refused, refused-err, start-refused}
use Rattle.read_nested.proofs.offsets.offsets_each.Goals as goal

pub returns-in_default-clause-err : goal.returns-in_default-clause-err
returns-in_default-clause-err g c =
    inr (refl, start-refused c.args.starts.now c.args.end c.loop-i.i _ g.O.Offset.limit (omega (arith, c.loop-i-test.true)) c.cast_unsigned.ensures c.in_default.ensures c.requires.fits)

pub returns-clause-ok : goal.returns-clause-ok
returns-clause-ok g c =
    let past : length c.args.starts.now ≤ c.loop-i.i = omega (arith, c.loop-i-test.false) in
    let numbers = offsets-numbers g.O.Offset.number c.push-2.new.self.items c.loop-i.made.items c.args.last c.args.starts.now c.loop-i.i c.args.end past c.requires.last c.in_ok-push-2.ensures.items c.loop-i.invariant in
    IfOk-weaker c.try_from_vec.result _ _ (λ os made. made ∙ offsets-whole g.O.Offset.number c.push-2.new.self.items (starts_of c.args.starts.now ++ c.args.end ∷ []) numbers) c.try_from_vec.ensures.ok

pub returns-clause-err : goal.returns-clause-err
returns-clause-err g c =
    let past : length c.args.starts.now ≤ c.loop-i.i = omega (arith, c.loop-i-test.false) in
    let numbers = offsets-numbers g.O.Offset.number c.push-2.new.self.items c.loop-i.made.items c.args.last c.args.starts.now c.loop-i.i c.args.end past c.requires.last c.in_ok-push-2.ensures.items c.loop-i.invariant in
    refused-err _ c.try_from_vec.result c.try_from_vec.ensures.err (λ is. places-refused g.O.Offset.number c.push-2.new.self.items (starts_of c.args.starts.now ++ c.args.end ∷ []) c.args.end numbers (c.try_from_vec.ensures.refused.0 is))
