use Rattle.std.proofs.Common.{◌≡◌, [], sym, arith, ◌∙◌}
use Rattle.pq_runs.proofs.DeltaParts.{no_items}
use Rattle.pq_deltas.proofs.DeltaSteps.{ends_none, ends_last, ends_whole}
use Rattle.pq_runs.proofs.Steps.{finished}
use Rattle.pq_deltas.proofs.delta_encode.finish.Goals as goal

pub returns-clause-ok : goal.returns-clause-ok
returns-clause-ok c = finished c.push_varint.result (λ more v start latest zs e b. ends_none v start c.args.out.now.items c.push_varint.new.out.items c.args.waiting.now zs latest (sym c.if-some.false ∙ e) more b) c.push_varint.ensures.ok

pub returns-in_ok-push_block-clause-ok : goal.returns-in_ok-push_block-clause-ok
returns-in_ok-push_block-clause-ok c =
    let e = rw c.as_slice.ensures at c.in_ok-push_block.ensures.ok in
    λ v start latest zs s b. ends_last v start c.args.out.now.items c.push_block.new.out.items e.0 c.args.waiting.now zs latest (sym c.if-some.true ∙ s) e.1 e.2 b

pub returns-else-len-gt0-clause-ok : goal.returns-else-len-gt0-clause-ok
returns-else-len-gt0-clause-ok c =
    let none : c.args.waiting.now ≡ [] = no_items c.args.waiting.now (omega arith) in
    λ v start latest zs s b. ends_whole v start c.args.out.now.items c.args.waiting.now zs latest (sym c.if-some.true ∙ s) none b
