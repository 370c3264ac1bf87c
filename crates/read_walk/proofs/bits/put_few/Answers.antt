use Rattle.std.proofs.Common.{◌≡◌, ◌<◌, ◌+◌, ◌*◌, ◌%◌, ◌^◌, suc, [], ◌∷◌, ◌++◌, ℕ, List, take, set, length, ap, sym, arith, ◌∙◌}
use Rattle.std.proofs.lemmas.Nat.{one_shl}
use Rattle.read_walk.proofs.Eights.{put_next, next_digit}
use Rattle.read_walk.proofs.bits.put_few.Goals as goal

pub loop-i-preserved : goal.loop-i-preserved
loop-i-preserved c =
    let i : ℕ = c.loop-i.i in
    let out : List ℕ = c.loop-i.out in
    let number : ℕ = c.loop-i.left % 2 ^ c.args.width in
    let mask : 1 * 2 ^ c.args.width % 2 ^ 64 ≡ 2 ^ c.args.width = one_shl c.args.width 64 (omega (arith, c.requires.narrow)) in
    let e : i + 1 ≡ suc i = omega arith in
    let within : i < length out = omega (arith, c.loop-i-test.true, c.requires.room, c.loop-i.auto.out) in
    let next = next_digit c.args.width i c.args.word c.loop-i.left c.loop-i.invariant.left in
    rw mask record {
      filled = ap (λ (k : ℕ). take k (set out i number)) e ∙ (put_next i number out within ∙ (ap (λ (l : List ℕ). l ++ number ∷ []) c.loop-i.invariant.filled ∙ sym next.0));
      left = next.1;
    }
