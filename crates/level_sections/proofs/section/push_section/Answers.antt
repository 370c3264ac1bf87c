use Rattle.std.proofs.Common.{ℕ, map, subst, sym, ◌∙◌}
use Rattle.std.specs.Prelude.{IfOk}
use Rattle.pq_tree.specs.declared.version.Version.{Version}
use Rattle.pq_tree.specs.declared.version.Version.TheVariants.{V1, V2}
use Rattle.levels.specs.Nested.{parts_of}
use Rattle.levels.specs.Levels.{path_pairs}
use Rattle.level_sections.specs.Sections.{AppendsOne}
use Rattle.levels.specs.Stretch.{level_of}
use Rattle.level_sections.specs.Walk.{greatest}
use Rattle.level_sections.proofs.Within.{levels-below}
use Rattle.level_sections.proofs.Texts.{one_none}
use Rattle.level_sections.proofs.section.push_section.Goals as goal

pub returns-then-max-eq0-clause-ok : goal.returns-then-max-eq0-clause-ok
returns-then-max-eq0-clause-ok c = one_none c.args.version (greatest c.args.level (parts_of c.args.nested.now)) c.args.buffer.now.items (map (level_of c.args.level) (path_pairs (parts_of c.args.nested.now))) (sym c.greatest-max.ensures ∙ c.if-max-eq0.true) (levels-below c.args.level (parts_of c.args.nested.now))

pub returns-in-V1-clause-ok : goal.returns-in-V1-clause-ok
returns-in-V1-clause-ok c =
    let levels = map (level_of c.args.level) (path_pairs (parts_of c.args.nested.now)) in
    subst (λ (v : Version). IfOk c.push_behind_length.result (λ size. AppendsOne v (greatest c.args.level (parts_of c.args.nested.now)) c.args.buffer.now.items c.push_behind_length.new.buffer.items levels size)) (sym c.in-V1.is)
    (subst (λ (m : ℕ). IfOk c.push_behind_length.result (λ size. AppendsOne V1 m c.args.buffer.now.items c.push_behind_length.new.buffer.items levels size)) c.greatest-max.ensures c.push_behind_length.ensures.ok)

pub returns-in-V2-clause-ok : goal.returns-in-V2-clause-ok
returns-in-V2-clause-ok c =
    let levels = map (level_of c.args.level) (path_pairs (parts_of c.args.nested.now)) in
    subst (λ (v : Version). IfOk c.push_alone.result (λ size. AppendsOne v (greatest c.args.level (parts_of c.args.nested.now)) c.args.buffer.now.items c.push_alone.new.buffer.items levels size)) (sym c.in-V2.is)
    (subst (λ (m : ℕ). IfOk c.push_alone.result (λ size. AppendsOne V2 m c.args.buffer.now.items c.push_alone.new.buffer.items levels size)) c.greatest-max.ensures c.push_alone.ensures.ok)
