use Rattle.std.proofs.Common.{arith, ◌≤◌, refl, subst, ℕ, List, [], map, ◌∙◌}
use Rattle.std.proofs.lemmas.List.{length-map}
use Rattle.levels.specs.Nested.{part_of, parts_of}
use Rattle.levels.specs.Levels.{path_pairs}
use Rattle.pq_runs.proofs.Steps.{finished}
use Rattle.levels.specs.Stretch.{level_of}
use Rattle.pq_runs.specs.Writing.{AppendsRuns}
use Rattle.level_sections.proofs.Within.{greatest-below}
use Rattle.level_sections.proofs.Walked.{walked-path}
use Rattle.level_sections.proofs.section.push_runs.Goals as goal

pub new-writer-requires-clause-most : goal.new-writer-requires-clause-most
new-writer-requires-clause-most c =
    let low = greatest-below c.args.level (parts_of c.args.nested.now) c.requires.well (rw (length-map c.args.nested.now part_of) c.requires.parts) in
    let eight : c.get_bit_width.result ≤ 8 = c.get_bit_width.ensures.least 8 (omega (arith, low, c.requires.max)) in
    omega (arith, eight)

pub returns-clause-ok : goal.returns-clause-ok
returns-clause-ok c =
    let start = c.args.buffer.now.items in
    let k = c.in_ok-walk.ensures.added start [] (c.new-writer.ensures.none start) in
    finished c.finish.result
    (λ f. (
      c.get_bit_width.result,
      c.get_bit_width.ensures,
      subst (λ (width : ℕ). AppendsRuns width start c.finish.new.out.items (map (level_of c.args.level) (path_pairs (parts_of c.args.nested.now)))) (c.in_ok-walk.ensures.width ∙ c.new-writer.ensures.width)
          (subst (λ (levels : List ℕ). AppendsRuns c.walk.new.writer.width start c.finish.new.out.items levels) (walked-path c.args.level (parts_of c.args.nested.now) _ c.slot_count.result refl refl refl c.slot_count.ensures) (f start _ k)),
    ))
    c.finish.ensures.ok
