use Rattle.std.proofs.Common.{◌≡◌, ◌+◌, ◌*◌, ◌≤◌, length, take, arith, sym, ◌∙◌}
use Rattle.std.proofs.lemmas.List.{length-take, take_all}
use Rattle.read_walk.proofs.Eights.{few-are}
use Rattle.read_walk.proofs.Flat.{word-digits}
use Rattle.read_walk.proofs.levels.tell_packed.Goals as goal

pub returns-then-width-eq1 : goal.returns-then-width-eq1
returns-then-width-eq1 c =
    let s = c.args.runs.now in
    let packed = c.requires.packed in
    let one : s.runs.num_bits ≡ 1 = omega (arith, c.if-width-eq1.true) in
    let zero : s.shift ≡ 0 = packed.whole (omega (arith, one)) in
    let there : s.shift + 1 * s.standing ≤ 8 * length s.packed.now = rw one at c.requires.is.enough in
    let enough : s.shift + 1 * 64 ≤ 8 * length (take 8 s.packed.now) = omega (arith, there, packed.there, zero, length-take 8 s.packed.now) in
    rw (c.set_word.ensures ∙ word-digits 64 _, c.low_bytes.ensures, one) (few-are 1 s.shift 64 s.packed.now enough)

pub returns : goal.returns
returns c =
    let out = c.put_bytes.new.out in
    let size : length out ≡ 64 = search (arith) in
    c.set_bytes.ensures ∙ (sym (take_all 64 out (omega (arith, size))) ∙ c.put_bytes.ensures)
