use Rattle.std.proofs.Common.{◌+◌, [], ◌∷◌, ◌++◌, rules, arith}
use Rattle.std.proofs.Math.Nat.{lt_of_not-le}
use Rattle.std.specs.Iterator.{Yields}
use Rattle.std.proofs.lemmas.Result.{err_from_is_err_and}
use Rattle.columns_core.specs.Rising.{last_place}
use Rattle.columns_core.proofs.Places.{length_more, end_more, sum_more, last_push, yields_more}
use Rattle.columns_core.proofs.mutable_offsets.Offsets.push_lengths.Goals as goal

pub loop-length-preserved : goal.loop-length-preserved
loop-length-preserved g c =
    let v = c.loop-length.invariant in
    let h = c.in_ok-try_push_usize.ensures in
    let e = last_push c.loop-length.self.0 (last_place c.loop-length.self.0 + c.in-Some.length) in
    record {
      grown = length_more c.args.self.now.0 c.loop-length.self.0 c.try_push_usize.new.self.0 _ c.in-Some.length _ c.loop-length.yielded v.grown v.end h.ok;
      end = end_more c.loop-length.self.0 c.try_push_usize.new.self.0 _ c.in-Some.length _ c.loop-length.yielded v.end h.ok;
      room = omega (arith, v.room, h.room);
      fits = rw (h.ok, e) (lt_of_not-le (λ o. let k = h.overflow.1 o in cc));
    }

pub returns-in_err-try_push_usize-clause-overflow : goal.returns-in_err-try_push_usize-clause-overflow
returns-in_err-try_push_usize-clause-overflow g c =
    let p = err_from_is_err_and c.from_residual.result c.from_residual.ensures.1 in
    let q = p.2 in
    let r = p.1 in
    λ h.
    let over = c.in_err-try_push_usize.ensures.overflow.0 (cc) in
    let so_far : Yields g.I.Iterator.next_gives c.args.lengths c.loop-length.yielded c.loop-length.length-iterator = search rules in
    let y : Yields g.I.Iterator.next_gives c.args.lengths (c.loop-length.yielded ++ c.in-Some.length ∷ []) c.next.new.self =
    yields_more g.I.Iterator.next_gives c.args.lengths c.loop-length.yielded _ c.in-Some.length c.next.new.self so_far c.in-Some.ensures.steps in
    (c.loop-length.yielded ++ c.in-Some.length ∷ [], c.next.new.self, y, omega (arith, over, c.loop-length.invariant.end, sum_more c.in-Some.length c.loop-length.yielded))
