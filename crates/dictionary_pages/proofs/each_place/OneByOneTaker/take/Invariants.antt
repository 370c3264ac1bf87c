use Rattle.std.proofs.Common.{◌≡◌, ℕ, ◌-◌, ◌≤◌, ◌++◌, List}
use Rattle.columns_base.specs.declared.error.Error.{Error}
use Rattle.write_places.specs.Places.{range}
use Rattle.dictionary_pages.proofs.each_place.OneByOneTaker.take.Given as goal

abbrev pub invariant-loop-place : goal.invariant-loop-place
invariant-loop-place g l = record {
  from : l.from ≤ l.place;
  limit : g.T.EachPlace.limit l.self.taker ≡ g.T.EachPlace.limit l.fn.self.taker;
  accepts : (i : ℕ) → g.T.EachPlace.accepts l.fn.self.taker i → g.T.EachPlace.accepts l.self.taker i;
  taken : (first : g.row.T.Denot) (places : List ℕ) → g.T.EachPlace.has first l.fn.self.taker places → g.T.EachPlace.has first l.self.taker (places ++ range l.from (l.place - l.from));
  same : (e : Error) → g.T.EachPlace.refuses l.self.taker e → g.T.EachPlace.refuses l.fn.self.taker e;
}
