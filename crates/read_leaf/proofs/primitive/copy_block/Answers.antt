use Rattle.std.proofs.Common.{◌≡◌, ◌∷◌, ◌+◌, ◌*◌, ◌<◌, ℕ, [], length, map, take, drop, arith, ap, sym, ◌∙◌}
use Rattle.std.proofs.lemmas.List.{map-append, take_more_set, take_all, drop-drop, length-set, length-replicate}
use Rattle.read_leaf.proofs.Reading.{nothing-read, one-read, all-read}
use Rattle.read_leaf.proofs.primitive.copy_block.Goals as goal

pub loop-i-init : goal.loop-i-init
loop-i-init g c =
    let start : g.P.PlainNumber.byte_count * 0 ≡ 0 = omega arith in
    record {
      long = length-replicate g.row.N c.zero-numbers.result;
      is = rw start (nothing-read g.T.FromStored.loaded g.P.StoredNumber.spelled g.P.PlainNumber.byte_count g.row.N c.args.source.now []);
    }

pub loop-i-preserved : goal.loop-i-preserved
loop-i-preserved g c =
    let number = g.T.FromStored.loaded_number in
    let size : ℕ = g.P.PlainNumber.byte_count in
    let i : ℕ = c.loop-i.i in
    let xs = c.loop-i.numbers in
    let source = c.args.source.now in
    let v = c.loop-i.invariant in
    let there : i < length xs = omega (arith, c.loop-i-test.true, v.long) in
    let place : size * i + size ≡ size * (i + 1) = omega arith in
    let behind : drop (size * (i + 1)) source ≡ drop size (drop (size * i) source) = sym (drop-drop size (size * i) source ∙ ap (λ (k : ℕ). drop k source) place) in
    let here : c.skip.result.now ≡ drop (size * i) source = c.skip.ensures ∙ ap (λ (k : ℕ). drop (k * i) source) c.width.ensures in
    let more = ap (map number) (take_more_set xs i c.in-Some.number there) ∙ map-append number (take i xs) (c.in-Some.number ∷ []) in
    record {
      long = length-set xs i c.in-Some.number ∙ v.long;
      is = one-read g.T.FromStored.loaded g.P.StoredNumber.spelled size i g.row.N source (drop (size * i) source) (drop (size * (i + 1)) source) [] (map number (take i xs)) _ (number c.in-Some.number) (omega (arith, c.loop-i-test.true)) v.is (rw here at c.in-Some.ensures) behind more;
    }

pub returns : goal.returns
returns g c e =
    let number = g.T.FromStored.loaded_number in
    let size : ℕ = g.P.PlainNumber.byte_count in
    let i : ℕ = c.loop-i.i in
    let xs = c.loop-i.numbers in
    let source = c.args.source.now in
    let last : i ≡ g.row.N = omega (arith, c.loop-i-test.false, c.loop-i.auto.i-end) in
    let all : take i xs ≡ c.put_numbers.new.places = take_all i xs (omega (arith, last, c.loop-i.invariant.long)) ∙ sym c.put_numbers.ensures in
    rw (all, last) at (all-read g.T.FromStored.loaded g.P.StoredNumber.spelled size i g.row.N source (drop (size * i) source) [] (map number (take i xs)) last c.loop-i.invariant.is)
