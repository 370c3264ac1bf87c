use Rattle.std.proofs.Common.{◌<◌, ◌^◌, ◌+◌, ℕ, ap, length, replicate, arith, ◌∙◌}
use Rattle.std.proofs.lemmas.List.{length-append, length-replicate}
use Rattle.std.proofs.lemmas.List.Elements.{All-append, All-replicate}
use Rattle.pq_runs.proofs.Kept.{few_taken}
use Rattle.pq_runs.proofs.Steps.{wrote_more}
use Rattle.pq_runs.proofs.settle.settle.Goals as goal

pub returns-then-len-lt496-clause-room : goal.returns-then-len-lt496-clause-room
returns-then-len-lt496-clause-room c = omega (arith, ap length c.push_few.ensures, length-append c.args.block.now (replicate c.args.count c.args.number), length-replicate c.args.count c.args.number)

pub returns-then-len-lt496-clause-below : goal.returns-then-len-lt496-clause-below
returns-then-len-lt496-clause-below c = rw c.push_few.ensures (All-append (λ v. v < 2 ^ c.args.width) c.args.block.now (replicate c.args.count c.args.number) c.requires.below (All-replicate (λ v. v < 2 ^ c.args.width) c.args.count c.args.number c.requires.number))

pub returns-then-len-lt496-clause-wrote : goal.returns-then-len-lt496-clause-wrote
returns-then-len-lt496-clause-wrote c = λ start xs s. rw c.push_few.ensures (wrote_more c.args.width start c.args.out.now.items c.args.block.now xs (replicate c.args.count c.args.number) s)

pub returns-then-len-lt496-clause-tight : goal.returns-then-len-lt496-clause-tight
returns-then-len-lt496-clause-tight c = λ start done t. (done, omega (arith, ap length c.push_few.ensures, length-append c.args.block.now (replicate c.args.count c.args.number), length-replicate c.args.count c.args.number), t)

pub returns-then-len-lt496-clause-short : goal.returns-then-len-lt496-clause-short
returns-then-len-lt496-clause-short c =
    few_taken c.args.width c.args.count c.args.out.now.items c.args.block.now c.push_few.new.self (omega arith)
    (ap length c.push_few.ensures ∙ length-append c.args.block.now (replicate c.args.count c.args.number) ∙ ap (λ (k : ℕ). length c.args.block.now + k) (length-replicate c.args.count c.args.number))
