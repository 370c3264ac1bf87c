use Rattle.std.proofs.Common.{◌-◌, ◌++◌, ◌∷◌, [], ◌∙◌, ℕ, List, refl, sym, ap, arith, subst, append-nil, append_assoc}
use Rattle.write_places.specs.Places.{range}
use Rattle.write_places.proofs.Gather.{gather-none}
use Rattle.write_values.proofs.StringPlaces.{range_more}
use Rattle.dictionary_pages.proofs.Ranges.{at_range}
use Rattle.dictionary_pages.proofs.each_place.OneByOneTaker.take.Goals as goal

pub loop-place-init : goal.loop-place-init
loop-place-init g c = record {
  from = omega arith;
  limit = refl;
  accepts = λ i h. h;
  taken = λ first places h.
      let none = gather-none (λ j. j ∷ []) c.args.from (c.args.from - c.args.from) (omega arith) in
      subst (λ (ps : List ℕ). g.T.EachPlace.has first c.args.self.now.taker ps) (sym (append-nil places) ∙ ap (λ (ps : List ℕ). places ++ ps) (sym none)) h;
  same = λ e h. h;
}

pub take_one-requires-clause-within : goal.take_one-requires-clause-within
take_one-requires-clause-within g c = omega (arith, c.loop-place-test.true, c.requires.within, c.loop-place.invariant.limit)

pub take_one-requires-clause-accepted : goal.take_one-requires-clause-accepted
take_one-requires-clause-accepted g c =
    let i = c.loop-place.invariant in
    i.accepts c.loop-place.place (at_range (g.T.EachPlace.accepts c.args.self.now.taker) c.args.from c.loop-place.place c.args.to i.from (omega (arith, c.loop-place-test.true)) c.requires.accepted)

pub loop-place-preserved : goal.loop-place-preserved
loop-place-preserved g c =
    let e = c.in_ok-take_one.ensures in
    let i = c.loop-place.invariant in
    let at = c.loop-place.place in
    record {
      from = omega (arith, i.from);
      limit = e.limit ∙ i.limit;
      accepts = λ j h. e.accepts j (i.accepts j h);
      taken = λ first places h.
          let before = range c.args.from (at - c.args.from) in
          subst (λ (ps : List ℕ). g.T.EachPlace.has first c.take_one.new.self ps) (append_assoc places before (at ∷ []) ∙ ap (λ (ps : List ℕ). places ++ ps) (sym (range_more c.args.from at i.from))) (e.taken first (places ++ before) (i.taken first places h));
      same = λ x h. i.same x (e.same x h);
    }
