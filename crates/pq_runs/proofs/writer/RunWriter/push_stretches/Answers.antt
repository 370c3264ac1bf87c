use Rattle.std.proofs.Common.{◌≡◌, ◌+◌, ◌-◌, ◌/◌, ◌^◌, ◌<◌, ◌≤◌, ◌++◌, ◌∙◌, List, ℕ, ap, arith, refl, replicate, subst, sym, append_assoc}
use Rattle.std.specs.Prelude.{bit_and}
use Rattle.std.specs.Int.{bit_at}
use Rattle.std.proofs.Math.Nat.{pow-le-pow_right}
use Rattle.std.proofs.lemmas.Nat.Bits.{shr_and_one}
use Rattle.pq_runs.specs.Writing.{Keeps, Waiting}
use Rattle.pq_runs.specs.Words.{bit_numbers}
use Rattle.pq_runs.proofs.Packs.{kept_same, kept_then}
use Rattle.pq_runs.proofs.BitNumbers.{no_numbers, number-below, stretch_more}
use Rattle.pq_runs.proofs.writer.RunWriter.push_stretches.Goals as goal

pub loop-at-init : goal.loop-at-init
loop-at-init c = record {
  within = omega arith;
  width = refl;
  kept = kept_same c.args.out.now.items c.args.out.now.items refl;
  added = λ start xs k. subst (λ (ys : List ℕ). Keeps start c.args.out.now.items c.args.self.now ys) (sym (no_numbers c.args.low c.args.word 0 xs refl)) k;
}

pub overflow_add-number : goal.overflow_add-number
overflow_add-number c =
    let w : ℕ = c.args.self.now.width in
    let small : c.args.low + bit_at c.args.word c.loop-at.at < 2 ^ w = number-below c.args.low c.args.word c.args.count c.loop-at.at (2 ^ w) c.loop-at-test.true c.requires.low in
    let e = shr_and_one c.args.word c.loop-at.at in
    let most : w ≤ 32 = omega (arith, c.self.invariant.most, ap (λ (r : Waiting). r.width) c.self.view_is) in
    let bits : 2 ^ w ≤ 2 ^ 32 = pow-le-pow_right (omega arith) most in
    record { fits = omega (arith, small, e, bits) }

pub push_some-requires-clause-low : goal.push_some-requires-clause-low
push_some-requires-clause-low c =
    let w : ℕ = c.args.self.now.width in
    let small : c.args.low + bit_at c.args.word c.loop-at.at < 2 ^ w = number-below c.args.low c.args.word c.args.count c.loop-at.at (2 ^ w) c.loop-at-test.true c.requires.low in
    let e = shr_and_one c.args.word c.loop-at.at in
    let number : c.args.low + bit_and (c.args.word / 2 ^ c.loop-at.at) 1 < 2 ^ w = omega (arith, small, e) in
    subst (λ (v : ℕ). c.args.low + bit_and (c.args.word / 2 ^ c.loop-at.at) 1 < 2 ^ v) (sym c.loop-at.invariant.width) number

pub loop-at-preserved : goal.loop-at-preserved
loop-at-preserved c =
    let h = c.loop-at.invariant in
    let e = c.in_ok-push_some.ensures in
    let at = c.loop-at.at in
    let end = c.stretch_end-end.result in
    let number : ℕ = c.args.low + bit_and (c.args.word / 2 ^ at) 1 in
    let s = c.stretch_end-end.ensures in
    let is = stretch_more c.args.low c.args.word at end number s.after (ap (λ (b : ℕ). c.args.low + b) (shr_and_one c.args.word at)) s.alike in
    record {
      within = s.within;
      width = e.width ∙ h.width;
      kept = kept_then c.args.out.now.items c.loop-at.out.items c.push_some.new.out.items h.kept e.kept;
      added = λ start xs k.
          subst (λ (ys : List ℕ). Keeps start c.push_some.new.out.items c.push_some.new.self ys)
          (append_assoc xs (bit_numbers c.args.low c.args.word 0 at) (replicate (end - at) number) ∙ ap (λ (ys : List ℕ). xs ++ ys) (sym is))
          (e.added start (xs ++ bit_numbers c.args.low c.args.word 0 at) (h.added start xs k));
    }

pub returns-clause-added : goal.returns-clause-added
returns-clause-added c =
    let all : c.loop-at.at ≡ c.args.count = omega (arith, c.loop-at.invariant.within, c.loop-at-test.false) in
    λ start xs k. subst (λ (n : ℕ). Keeps start c.loop-at.out.items c.loop-at.self (xs ++ bit_numbers c.args.low c.args.word 0 n)) all (c.loop-at.invariant.added start xs k)
