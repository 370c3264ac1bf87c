use Rattle.std.proofs.Common.{ℕ, ◌≡◌, ◌-◌, ◌+◌, ◌*◌, ◌/◌, ◌^◌, ◌<◌, ◌≤◌, ◌++◌, [], ◌∷◌, length, All, sym, ap, subst, arith, ◌∙◌}
use Rattle.std.proofs.lemmas.Nat.Bits.{shr_and_one}
use Rattle.std.specs.Int.{bit_at}
use Rattle.std.specs.Prelude.{bit_and}
use Rattle.std.proofs.Math.Nat.{pow-le-pow_right}
use Rattle.pq_runs.specs.Stretches.{stretches}
use Rattle.pq_runs.specs.Writing.{Waiting}
use Rattle.pq_runs.specs.Words.{bit_numbers}
use Rattle.pq_runs.proofs.Steps.{was_ok}
use Rattle.pq_runs.proofs.BitNumbers.{numbers-last, last-below, front-below, length-bit_numbers}
use Rattle.pq_runs.proofs.Mixed.{keeps_mixed}
use Rattle.pq_runs.proofs.writer.RunWriter.push_mixed_bits.Goals as goal

pub overflow_add-last : goal.overflow_add-last
overflow_add-last c =
    let w : ℕ = c.args.self.now.width in
    let small : c.args.low + bit_at c.args.word (c.args.count - 1) < 2 ^ w = last-below c.args.low c.args.word c.args.count (2 ^ w) c.requires.some c.requires.low in
    let e = shr_and_one c.args.word (c.args.count - 1) in
    let most : w ≤ 32 = omega (arith, c.self.invariant.most, ap (λ (r : Waiting). r.width) c.self.view_is) in
    let bits : 2 ^ w ≤ 2 ^ 32 = pow-le-pow_right (omega arith) most in
    record { fits = omega (arith, small, e, bits) }

pub pack_bits-packed-requires-clause-numbers : goal.pack_bits-packed-requires-clause-numbers
pack_bits-packed-requires-clause-numbers c =
    let below = subst (λ (w : ℕ). All (λ v. v < 2 ^ w) (bit_numbers c.args.low c.args.word 0 c.args.count)) (sym (ap (λ (r : Waiting). r.width) c.self.view_is)) c.requires.low in
    front-below c.args.low c.args.word (c.args.count - 1) c.args.count c.self.inside.width c.lower_bits-front.result (omega arith) c.lower_bits-front.ensures below

pub invariant_of-self-2 : goal.invariant_of-self-2
invariant_of-self-2 c =
    let below = subst (λ (w : ℕ). All (λ v. v < 2 ^ w) (bit_numbers c.args.low c.args.word 0 c.args.count)) (sym (ap (λ (r : Waiting). r.width) c.self.view_is)) c.requires.low in
    let small : c.args.low + bit_at c.args.word (c.args.count - 1) < 2 ^ c.self.inside.width = last-below c.args.low c.args.word c.args.count (2 ^ c.self.inside.width) c.requires.some below in
    let e = shr_and_one c.args.word (c.args.count - 1) in
    record {
      some = c.self.invariant.some;
      most = c.self.invariant.most;
      room = was_ok c.pack_bits-packed.result c.if-is_err-2.ensures.value c.pack_bits-packed.ensures.room;
      below = was_ok c.pack_bits-packed.result c.if-is_err-2.ensures.value c.pack_bits-packed.ensures.below;
      fits = omega (arith, small, e);
      few = omega arith;
    }

pub returns-clause-added : goal.returns-clause-added
returns-clause-added c =
    let rest : ℕ = c.args.count - 1 in
    let all = bit_numbers c.args.low c.args.word 0 c.args.count in
    let front = bit_numbers c.args.low c.lower_bits-front.result 0 rest in
    let last : ℕ = c.args.low + bit_and (c.args.word / 2 ^ rest) 1 in
    let number : last ≡ c.args.low + bit_at c.args.word rest = ap (λ (b : ℕ). c.args.low + b) (shr_and_one c.args.word rest) in
    let e : all ≡ front ++ last ∷ [] = numbers-last c.args.low c.args.word c.args.count last c.requires.some number ∙ ap (λ (w : ℕ). bit_numbers c.args.low w 0 rest ++ last ∷ []) (sym c.lower_bits-front.ensures) in
    let mixed : length all + 34 ≤ 14 * stretches all = omega (arith, c.requires.mixed, length-bit_numbers c.args.low c.args.word 0 c.args.count) in
    λ start xs k.
    keeps_mixed start c.args.out.now.items c.settle-settled.new.out.items c.pack_bits-packed.new.out.items c.self.inside.width c.self.inside.block c.settle-settled.new.block c.pack_bits-packed.new.block c.self.inside.number c.self.inside.count last front all xs e mixed
    (was_ok c.settle-settled.result c.if-is_err.ensures.value c.settle-settled.ensures.short) (was_ok c.settle-settled.result c.if-is_err.ensures.value c.settle-settled.ensures.wrote) (was_ok c.settle-settled.result c.if-is_err.ensures.value c.settle-settled.ensures.tight)
    (was_ok c.pack_bits-packed.result c.if-is_err-2.ensures.value c.pack_bits-packed.ensures.short) (was_ok c.pack_bits-packed.result c.if-is_err-2.ensures.value c.pack_bits-packed.ensures.wrote) (was_ok c.pack_bits-packed.result c.if-is_err-2.ensures.value c.pack_bits-packed.ensures.tight) (rw (← c.self.view_is) at k)
