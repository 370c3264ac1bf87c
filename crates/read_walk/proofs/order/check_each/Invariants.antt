use Rattle.std.proofs.Common.{drop}
use Rattle.columns_base.specs.declared.error.Error.{Error}
use Rattle.read_laws.specs.State.{kept_way}
use Rattle.read_walk.specs.Order.{zipped, Follows, OneMayNot}
use Rattle.read_walk.proofs.order.check_each.Given as goal

abbrev pub invariant-loop-j : goal.invariant-loop-j
invariant-loop-j l = record {
  all : Follows (kept_way l.nested) l.last (zipped (drop l.j l.reps) (drop l.j l.defs)) → Follows (kept_way l.nested) l.fn.before (zipped l.reps l.defs);
  one : (e : Error) → OneMayNot (kept_way l.nested) l.last (zipped (drop l.j l.reps) (drop l.j l.defs)) e → OneMayNot (kept_way l.nested) l.fn.before (zipped l.reps l.defs) e;
}
