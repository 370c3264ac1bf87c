use Rattle.std.proofs.Common.{[], ◌∙◌, ℕ, subst, map}
use Rattle.pq_runs.specs.Writing.{AppendsRuns}
use Rattle.columns_leaf.specs.Keyed.{keys_of}
use Rattle.columns_slots.specs.Slots.{entry_at}
use Rattle.levels.specs.Nested.{parts_of}
use Rattle.write_places.specs.Places.{path_places}
use Rattle.dictionary_pages.proofs.indices.push_runs.Goals as goal

pub returns-clause-ok : goal.returns-clause-ok
returns-clause-ok c =
    let taken = c.in_ok-taken.ensures.taken in
    let ns = map (entry_at (keys_of c.args.keys.now)) (path_places (parts_of c.args.nested.now)) in
    subst (λ (w : ℕ). AppendsRuns w c.args.out.items c.finish.new.out.items ns) (taken.1.0 ∙ c.new.ensures.width) (c.in_ok-finish.ensures.ok c.args.out.items ns (taken.1.1 c.args.out.items [] (c.new.ensures.none c.args.out.items)))
