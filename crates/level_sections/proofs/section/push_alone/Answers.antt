use Rattle.std.proofs.Common.{arith, map, ◌-◌}
use Rattle.levels.specs.Nested.{parts_of}
use Rattle.levels.specs.Levels.{path_pairs}
use Rattle.levels.specs.Stretch.{level_of}
use Rattle.level_sections.proofs.Within.{levels-most}
use Rattle.level_sections.proofs.Texts.{one_alone}
use Rattle.level_sections.proofs.section.push_alone.Goals as goal

pub returns-clause-ok : goal.returns-clause-ok
returns-clause-ok c =
    let e = c.in_ok-push_runs.ensures.ok in
    one_alone c.args.max e.0 (c.len.result - c.len-at.result) c.args.buffer.now.items c.push_runs.new.buffer.items (map (level_of c.args.level) (path_pairs (parts_of c.args.nested.now))) c.requires.some e.1 (levels-most c.args.level (parts_of c.args.nested.now) c.args.max c.requires.max) e.2 (omega arith)
