use Rattle.std.proofs.Common.{◌≡◌, ℕ, ◌<◌, ◌^◌, ◌++◌, List, length, All}
use Rattle.columns_base.specs.declared.error.Error.{Error}
use Rattle.write_places.specs.Places.{picked}
use Rattle.dictionary_pages.proofs.Ranges.{IsDone}
use Rattle.dictionary_pages.proofs.each_place.OneByOneTaker.take_some.Given as goal

abbrev pub decreases-loop-left : goal.decreases-loop-left
decreases-loop-left g l = length (picked l.left l.from l.count)

abbrev pub invariant-loop-left : goal.invariant-loop-left
invariant-loop-left g l = record {
  low : l.left < 2 ^ l.count;
  limit : g.T.EachPlace.limit l.self.taker ≡ g.T.EachPlace.limit l.fn.self.taker;
  accepted : All (g.T.EachPlace.accepts l.fn.self.taker) (picked l.left l.from l.count);
  accepts : (i : ℕ) → g.T.EachPlace.accepts l.fn.self.taker i → g.T.EachPlace.accepts l.self.taker i;
  taken : (done : List ℕ) × IsDone done l.bits l.left l.from l.count × ((first : g.row.T.Denot) (places : List ℕ) → g.T.EachPlace.has first l.fn.self.taker places → g.T.EachPlace.has first l.self.taker (places ++ done));
  same : (e : Error) → g.T.EachPlace.refuses l.self.taker e → g.T.EachPlace.refuses l.fn.self.taker e;
}
