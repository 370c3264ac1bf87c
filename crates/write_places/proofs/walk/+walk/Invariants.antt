use Rattle.std.proofs.Common.{◌≡◌, ℕ, ◌+◌, ◌-◌, ◌*◌, ◌≤◌, ◌++◌, List, length}
use Rattle.columns_base.specs.declared.error.Error.{Error}
use Rattle.levels.specs.Nested.{parts_of}
use Rattle.write_places.specs.Places.{gather, slot_places}
use Rattle.write_places.proofs.walk.+walk.Given as goal

abbrev pub decreases-step : goal.decreases-step
decreases-step g l = 4 * length l.parts.now

abbrev pub decreases-walk_by : goal.decreases-walk_by
decreases-walk_by g l = 4 * length l.parts.now + 1

abbrev pub decreases-walk_leaves : goal.decreases-walk_leaves
decreases-walk_leaves g l = 4 * length l.parts.now + 2

abbrev pub decreases-walk : goal.decreases-walk
decreases-walk g l = 4 * length l.parts.now + 3

abbrev pub invariant-walk_by-places : goal.invariant-walk_by-places
invariant-walk_by-places g l = record {
  after : l.from ≤ l.place;
  before : l.place ≤ l.to;
  sound : g.T.Taker.sound l.taker;
  limit : g.T.Taker.limit l.taker ≡ g.T.Taker.limit l.fn.taker;
  accepted : g.T.Taker.accepts l.taker (gather (slot_places (parts_of l.parts)) l.place (l.to - l.place));
  accepts : (places : List ℕ) → g.T.Taker.accepts l.fn.taker places → g.T.Taker.accepts l.taker places;
  taken : (first : g.row.T.Denot) (places : List ℕ) → g.T.Taker.has first l.fn.taker places → g.T.Taker.has first l.taker (places ++ gather (slot_places (parts_of l.parts)) l.from (l.place - l.from));
  same : (e : Error) → g.T.Taker.refuses l.taker e → g.T.Taker.refuses l.fn.taker e;
}

abbrev pub decreases-walk_by-places : goal.decreases-walk_by-places
decreases-walk_by-places g l = l.to - l.place
