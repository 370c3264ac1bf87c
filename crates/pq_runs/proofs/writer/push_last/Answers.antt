use Rattle.std.proofs.Common.{arith, ◌≡◌, [], ◌∷◌, ◌++◌, ◌+◌, ◌*◌, ◌<◌, ◌≤◌, ◌^◌, List, ℕ, length, replicate, subst, ap, ◌∙◌, append_assoc}
use Rattle.std.proofs.lemmas.List.{length-append, length-replicate}
use Rattle.std.proofs.lemmas.List.Elements.{All-push}
use Rattle.std.proofs.lemmas.Nat.{pow_pos, mul-le}
use Rattle.pq_runs.specs.Stretches.{filled_up}
use Rattle.pq_runs.specs.Writing.{Wrote}
use Rattle.pq_runs.proofs.Steps.{wrote_none, wrote_last, length-zero, finished, replicate-append}
use Rattle.pq_runs.proofs.Tight.{packed_size}
use Rattle.pq_runs.proofs.writer.push_last.Goals as goal

pub returns-then-len-eq0-clause-ok : goal.returns-then-len-eq0-clause-ok
returns-then-len-eq0-clause-ok c =
    let none : c.args.block.now ≡ [] = length-zero c.args.block.now (omega arith) in
    λ start xs s. wrote_none c.args.width start c.args.out.now.items xs (subst (λ (p : List ℕ). Wrote c.args.width start c.args.out.now.items p xs) none s)

pub loop-block-preserved : goal.loop-block-preserved
loop-block-preserved c =
    let n : length c.push.new.self ≡ length c.loop-block.block + 1 = ap length c.push.ensures ∙ length-append c.loop-block.block (0 ∷ []) in
    let k : ℕ = c.loop-block.invariant.behind.0 in
    record {
      most = omega (arith, n);
      near = omega (arith, n);
      below = rw c.push.ensures (All-push (λ v. v < 2 ^ c.args.width) c.loop-block.block 0 c.loop-block.invariant.below (pow_pos c.args.width));
      behind = (k + 1, c.push.ensures ∙ ap (λ (t : List ℕ). t ++ 0 ∷ []) c.loop-block.invariant.behind.1 ∙ append_assoc c.args.block.now (replicate k 0) (0 ∷ []) ∙ ap (λ (t : List ℕ). c.args.block.now ++ t) (replicate-append k 1 0));
    }

pub returns-clause-ok : goal.returns-clause-ok
returns-clause-ok c =
    let k : ℕ = c.loop-block.invariant.behind.0 in
    let n : length c.loop-block.block ≡ length c.args.block.now + k = ap length c.loop-block.invariant.behind.1 ∙ length-append c.args.block.now (replicate k 0) ∙ ap (λ (j : ℕ). length c.args.block.now + j) (length-replicate k 0) in
    let near : length c.loop-block.block ≤ filled_up (length c.args.block.now) = c.loop-block.invariant.near in
    let less : k < 8 = omega (arith, n, near) in
    finished c.push_run.result
    (λ e start xs s. wrote_last c.args.width k start c.args.out.now.items c.push_run.new.out.items c.args.block.now c.loop-block.block xs e.0 (omega arith) (omega (arith, n)) c.loop-block.invariant.most (omega arith) less c.loop-block.invariant.behind.1 e.2 e.1 s)
    c.push_run.ensures.ok

pub returns-clause-size : goal.returns-clause-size
returns-clause-size c =
    let near : length c.loop-block.block ≤ filled_up (length c.args.block.now) = c.loop-block.invariant.near in
    let more : c.args.width * length c.loop-block.block ≤ c.args.width * filled_up (length c.args.block.now) = mul-le c.args.width _ c.args.width _ (omega arith) near in
    finished c.push_run.result
    (λ e. omega (arith, more, packed_size c.args.width c.args.out.now.items c.push_run.new.out.items c.loop-block.block e.0 c.loop-block.invariant.most (omega arith) e.2 e.1))
    c.push_run.ensures.ok
