use Rattle.std.proofs.Common.{refl}
use Rattle.std.specs.Prelude.{◌↔◌, IsTrue}
use Rattle.dictionary_pages.specs.Keys.{IsKeyed}
use Rattle.dictionary_pages.proofs.Checked.{checks_more}
use Rattle.dictionary_pages.proofs.reach.CheckingEachPlace.take_one.Goals as goal

pub returns-clause-taken : goal.returns-clause-taken
returns-clause-taken c = λ first places h.
    let k : IsTrue c.is_keyed.result ↔ IsKeyed first.is_optional first.array.now c.args.place = rw (← h.0, ← h.1) c.is_keyed.ensures in
    (h.0, h.1, checks_more (IsKeyed first.is_optional first.array.now) places c.args.place first.are_keyed c.args.self.now.are_keyed _ c.is_keyed.result refl k h.2)
