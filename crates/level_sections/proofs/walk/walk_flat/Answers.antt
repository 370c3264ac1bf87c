use Rattle.std.proofs.Common.{◌-◌, ◌++◌, ◌^◌, ◌∙◌, ℕ, List, sym, ap, subst, arith, append-nil}
use Rattle.shredding.specs.Parts.{path_way}
use Rattle.shredding.specs.Shred.{max_repetition, max_definition}
use Rattle.levels.specs.Nested.{parts_of}
use Rattle.levels.specs.declared.walk.Level.{Level}
use Rattle.pq_runs.specs.Writing.{Keeps}
use Rattle.pq_runs.proofs.Steps.{finished}
use Rattle.level_sections.specs.Walk.{Holds}
use Rattle.level_sections.proofs.Walked.{walked-none}
use Rattle.level_sections.proofs.Blocks.{flat-reaches, flat-below, walked-definitions, walked-repetitions}
use Rattle.level_sections.proofs.walk.walk_flat.Goals as goal

pub push_flat-requires-clause-reaches : goal.push_flat-requires-clause-reaches
push_flat-requires-clause-reaches c = flat-reaches c.args.to (parts_of c.args.parts.now) c.requires.well.fits c.requires.flat c.requires.within

pub push_flat-requires-clause-holds : goal.push_flat-requires-clause-holds
push_flat-requires-clause-holds c =
    let parts = parts_of c.args.parts.now in
    flat-below parts c.args.above.def (2 ^ c.args.writer.now.width) c.requires.well.fits c.requires.flat (subst (λ (l : Level). Holds l c.args.above (max_repetition (path_way parts)) (max_definition (path_way parts)) c.args.writer.now.width) c.in-Definition.is c.requires.holds)

pub returns-then-from-to-clause-added : goal.returns-then-from-to-clause-added
returns-then-from-to-clause-added c = λ start xs k.
    let none = walked-none c.args.level (parts_of c.args.parts.now) c.args.above c.args.from (c.args.to - c.args.from) (omega (arith, c.if-from-to.true)) in
    subst (λ (ys : List ℕ). Keeps start c.args.out.now.items c.args.writer.now ys) (sym (append-nil xs) ∙ ap (λ (ys : List ℕ). xs ++ ys) (sym none)) k

pub returns-in-Definition-clause-added : goal.returns-in-Definition-clause-added
returns-in-Definition-clause-added c =
    finished c.push_flat.result (λ f start xs k. subst (λ (ys : List ℕ). Keeps start c.push_flat.new.out.items c.push_flat.new.writer (xs ++ ys)) (walked-definitions c.args.level (parts_of c.args.parts.now) c.args.above c.args.from (c.args.to - c.args.from) c.in-Definition.is c.requires.well.fits c.requires.flat) (f start xs k)) c.push_flat.ensures.added

pub returns-in-Repetition-clause-added : goal.returns-in-Repetition-clause-added
returns-in-Repetition-clause-added c =
    finished c.push_pairs.result (λ f start xs k. subst (λ (ys : List ℕ). Keeps start c.push_pairs.new.out.items c.push_pairs.new.writer (xs ++ ys)) (walked-repetitions c.args.level (parts_of c.args.parts.now) c.args.above c.args.from (c.args.to - c.args.from) c.in-Repetition.is c.requires.well.fits c.requires.flat) (f start xs k)) c.push_pairs.ensures.added
