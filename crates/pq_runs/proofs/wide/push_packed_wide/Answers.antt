use Rattle.std.proofs.Common.{◌≡◌, ℕ, ◌+◌, ◌*◌, ◌%◌, ◌^◌, ◌<◌, ◌++◌, [], ◌∷◌, List, take, arith, subst, sym, ap, ◌∙◌}
use Rattle.std.proofs.lemmas.Nat.{shl_whole}
use Rattle.std.proofs.lemmas.List.{take_more, take_all}
use Rattle.pq_runs.specs.Packing.{HoldsIn}
use Rattle.pq_runs.proofs.Packs.{Packs, packs_begin, packs_more, packs_end, held_below, kept_more, kept_then}
use Rattle.pq_runs.proofs.Steps.{finished}
use Rattle.pq_runs.proofs.wide.push_packed_wide.Goals as goal

pub loop-number-init : goal.loop-number-init
loop-number-init c = record { small = omega arith; packs = packs_begin c.args.width c.args.out.now.items }

pub push_double_word-requires-clause-small : goal.push_double_word-requires-clause-small
push_double_word-requires-clause-small c =
    let v : ℕ = c.from.result in
    let whole : v * 2 ^ c.loop-number.bits % 2 ^ 128 ≡ v * 2 ^ c.loop-number.bits = shl_whole v 64 c.loop-number.bits 128 (rw c.from.ensures (omega (arith, c.type_inv.numbers c.loop-number.number-index))) (omega arith) in
    let below : v < 2 ^ c.args.width = rw c.from.ensures (c.requires.below c.loop-number.number-index 0 c.loop-number-test.true) in
    subst (λ (x : ℕ). c.loop-number.held + x < 2 ^ (c.loop-number.bits + c.args.width)) (sym whole) (held_below c.args.width c.loop-number.bits c.loop-number.held v c.loop-number.invariant.packs.small below)

pub loop-number-preserved : goal.loop-number-preserved
loop-number-preserved c =
    let v : ℕ = c.from.result in
    let whole : v * 2 ^ c.loop-number.bits % 2 ^ 128 ≡ v * 2 ^ c.loop-number.bits = shl_whole v 64 c.loop-number.bits 128 (rw c.from.ensures (omega (arith, c.type_inv.numbers c.loop-number.number-index))) (omega arith) in
    let e = c.in_ok-held.ensures.ok in
    let holds : HoldsIn (c.loop-number.bits + c.args.width) (c.loop-number.held + v * 2 ^ c.loop-number.bits) e.0 ((c.loop-number.bits + c.args.width) % 64) c.in_ok-held.held = subst (λ (x : ℕ). HoldsIn (c.loop-number.bits + c.args.width) (c.loop-number.held + x) e.0 ((c.loop-number.bits + c.args.width) % 64) c.in_ok-held.held) whole e.2 in
    let front : take (c.loop-number.number-index + 1) c.args.numbers.now ≡ take c.loop-number.number-index c.args.numbers.now ++ v ∷ [] = take_more c.args.numbers.now c.loop-number.number-index 0 c.loop-number-test.true ∙ ap (λ (x : ℕ). take c.loop-number.number-index c.args.numbers.now ++ x ∷ []) (sym c.from.ensures) in
    record {
      small = omega arith;
      packs = subst (λ (xs : List ℕ). Packs c.args.width c.args.out.now.items c.push_double_word.new.out.items xs ((c.loop-number.bits + c.args.width) % 64) c.in_ok-held.held) (sym front)
          (packs_more c.args.width c.args.out.now.items c.loop-number.out.items c.push_double_word.new.out.items (take c.loop-number.number-index c.args.numbers.now) c.loop-number.bits c.loop-number.held v e.0 ((c.loop-number.bits + c.args.width) % 64) c.in_ok-held.held c.loop-number.invariant.packs e.1 holds);
    }

pub returns-in_err-held-clause-kept : goal.returns-in_err-held-clause-kept
returns-in_err-held-clause-kept c = kept_then c.args.out.now.items c.loop-number.out.items c.push_double_word.new.out.items (kept_more c.args.out.now.items c.loop-number.out.items c.loop-number.invariant.packs.text c.loop-number.invariant.packs.parts) c.in_err-held.ensures.kept

pub push_rest-requires-clause-small : goal.push_rest-requires-clause-small
push_rest-requires-clause-small c = c.loop-number.invariant.packs.small

pub returns-clause-ok : goal.returns-clause-ok
returns-clause-ok c =
    let all = take_all c.loop-number.number-index c.args.numbers.now c.loop-number-test.false in
    let packs = subst (λ (xs : List ℕ). Packs c.args.width c.args.out.now.items c.loop-number.out.items xs c.loop-number.bits c.loop-number.held) all c.loop-number.invariant.packs in
    finished c.push_rest.result (λ e. packs_end c.args.width c.args.out.now.items c.loop-number.out.items c.push_rest.new.out.items c.args.numbers.now c.loop-number.bits c.loop-number.held e.0 c.requires.below packs e.1 e.2 e.3) c.push_rest.ensures.ok

pub returns-clause-kept : goal.returns-clause-kept
returns-clause-kept c = kept_then c.args.out.now.items c.loop-number.out.items c.push_rest.new.out.items (kept_more c.args.out.now.items c.loop-number.out.items c.loop-number.invariant.packs.text c.loop-number.invariant.packs.parts) c.push_rest.ensures.kept
