use Rattle.std.proofs.Common.{◌≡◌, ℕ, ◌+◌, ◌++◌, [], ◌∷◌, map, take, get_or, arith}
use Rattle.std.proofs.lemmas.List.{take_more}
use Rattle.std.proofs.lemmas.List.Sums.{sum_by_push}
use Rattle.columns_core.specs.Rising.{whole}
use Rattle.columns_core.proofs.Places.{pushed_at, seen_push, length_more}
use Rattle.columns_core.proofs.mutable_offsets.push_ends.Goals as goal

pub loop-length-preserved : goal.loop-length-preserved
loop-length-preserved g c =
    let v = c.loop-length.invariant in
    let f = g.O.Offset.number in
    let i = c.loop-length.length-index in
    let ns = c.args.lengths.now in
    let n = get_or ns i 0 in
    let e = c.loop-length.end in
    let old = c.loop-length.values.items in
    let new = c.push.new.self.items in
    let at = (rw c.unwrap-place.ensures at c.from_usize.ensures).0 in
    let is : new ≡ old ++ c.unwrap-place.result ∷ [] = rw c.unwrap.ensures at c.push.ensures.items in
    let t = take_more ns i 0 (omega (arith, c.loop-length-test.true, c.loop-length.auto.length-index-end)) in
    let p = pushed_at f old c.unwrap-place.result new e n is at v.places v.last in
    let seen = seen_push f old c.unwrap-place.result new (e + n) is at in
    let all = map (λ o. whole (f o)) in
    record {
      places = p.0;
      last = p.1;
      end = rw t (omega (arith, v.end, sum_by_push (λ (x : ℕ). x) (take i ns) n));
      grown = rw t (length_more (all c.args.values.now.items) (all old) (all new) c.args.from n e (take i ns) v.grown v.end seen);
      count = omega (arith, v.count, (rw c.unwrap.ensures at c.push.ensures.len));
      room = omega (arith, v.room, v.count, c.push.ensures.capacity);
    }
