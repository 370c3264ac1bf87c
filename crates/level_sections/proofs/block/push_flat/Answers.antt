use Rattle.std.proofs.Common.{◌-◌, ◌++◌, ◌∙◌, ℕ, List, ap, replicate, subst, append_assoc}
use Rattle.levels.specs.Nested.{parts_of}
use Rattle.pq_runs.specs.Writing.{Keeps}
use Rattle.pq_runs.proofs.Steps.{finished}
use Rattle.level_sections.specs.Blocks.{flat_level, levels_from}
use Rattle.level_sections.proofs.Blocks.{from-run}
use Rattle.level_sections.proofs.block.push_flat.Goals as goal

pub returns-clause-added : goal.returns-clause-added
returns-clause-added c =
    let level = flat_level (parts_of c.args.parts.now) c.args.def in
    let e = c.first_run-level.ensures in
    let end = c.first_run-level.result.1 in
    let front = replicate (end - c.args.from) c.first_run-level.result.0 in
    let is = from-run level c.first_run-level.result.0 c.args.from end c.args.to e.after e.within e.even in
    finished c.push_blocks-2.result
    (λ f start xs k. subst (λ (ys : List ℕ). Keeps start c.push_blocks-2.new.out.items c.push_blocks-2.new.writer ys) (append_assoc xs front (levels_from level end (c.args.to - end)) ∙ ap (λ (ys : List ℕ). xs ++ ys) is) (f start (xs ++ front) (c.in_ok-push.ensures.added start xs k))) c.push_blocks-2.ensures.added
