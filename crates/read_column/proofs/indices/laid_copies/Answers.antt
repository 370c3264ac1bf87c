use Rattle.std.proofs.Common.{List, ℕ, replicate, subst}
use Rattle.read_column.specs.Lookups.{Lays}
use Rattle.read_column.proofs.Gathering.{whole_laid}
use Rattle.read_column.proofs.indices.laid_copies.Goals as goal

pub returns-clause-ok : goal.returns-clause-ok
returns-clause-ok c = whole_laid _ c.args.entries.now (replicate c.args.count 0) c.push_copies.new.values.items (subst (λ (t : List ℕ). Lays c.args.entries.now (replicate c.args.count 0) c.in_ok-push_copies.field-0 t c.push_copies.new.values.items) c.new-values.ensures.items c.in_ok-push_copies.ensures.ok)
