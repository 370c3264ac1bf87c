use Rattle.std.proofs.Common.{◌++◌, ◌∷◌, [], ◌∙◌, ℕ, List, refl, sym, arith, subst, append-nil, append_assoc}
use Rattle.write_places.proofs.Picked.{next_picked}
use Rattle.write_values.proofs.Picked.{one_less}
use Rattle.dictionary_pages.proofs.Ranges.{done_all, done_more, next_accepted}
use Rattle.dictionary_pages.proofs.each_place.OneByOneTaker.take_some.Goals as goal

pub loop-left-init : goal.loop-left-init
loop-left-init g c = record {
  low = c.requires.low;
  limit = refl;
  accepted = c.requires.accepted;
  accepts = λ i h. h;
  taken = ([], record { parts = refl }, λ first places h. subst (λ (ps : List ℕ). g.T.EachPlace.has first c.args.self.now.taker ps) (sym (append-nil places)) h);
  same = λ e h. h;
}

pub overflow_add-from : goal.overflow_add-from
overflow_add-from g c =
    let n = next_picked c.loop-left.left c.args.from c.args.count (omega (arith, c.loop-left-test.true)) c.requires.few c.loop-left.invariant.low in
    omega (arith, n.within, c.requires.within, c.len-places.ensures, c.len-places.type_inv)

pub take_one-requires-clause-within : goal.take_one-requires-clause-within
take_one-requires-clause-within g c =
    let n = next_picked c.loop-left.left c.args.from c.args.count (omega (arith, c.loop-left-test.true)) c.requires.few c.loop-left.invariant.low in
    omega (arith, n.within, c.requires.within, c.loop-left.invariant.limit)

pub take_one-requires-clause-accepted : goal.take_one-requires-clause-accepted
take_one-requires-clause-accepted g c =
    let i = c.loop-left.invariant in
    let n = next_picked c.loop-left.left c.args.from c.args.count (omega (arith, c.loop-left-test.true)) c.requires.few i.low in
    i.accepts _ (next_accepted (g.T.EachPlace.accepts c.args.self.now.taker) c.loop-left.left _ c.args.from c.args.count _ n i.accepted).0

pub loop-left-smaller : goal.loop-left-smaller
loop-left-smaller g c =
    let n = next_picked c.loop-left.left c.args.from c.args.count (omega (arith, c.loop-left-test.true)) c.requires.few c.loop-left.invariant.low in
    omega (arith, one_less _ _ _ _ _ n)

pub loop-left-preserved : goal.loop-left-preserved
loop-left-preserved g c =
    let i = c.loop-left.invariant in
    let e = c.in_ok-take_one.ensures in
    let n = next_picked c.loop-left.left c.args.from c.args.count (omega (arith, c.loop-left-test.true)) c.requires.few i.low in
    let done = i.taken.0 in
    record {
      low = n.low;
      limit = e.limit ∙ i.limit;
      accepted = (next_accepted (g.T.EachPlace.accepts c.args.self.now.taker) c.loop-left.left _ c.args.from c.args.count _ n i.accepted).1;
      accepts = λ j h. e.accepts j (i.accepts j h);
      taken = (done ++ _ ∷ [], done_more done c.args.bits c.loop-left.left _ c.args.from c.args.count _ i.taken.1 n, λ first places h. subst (λ (ps : List ℕ). g.T.EachPlace.has first c.take_one.new.self ps) (append_assoc places done (_ ∷ [])) (e.taken first (places ++ done) (i.taken.2 first places h)));
      same = λ x h. i.same x (e.same x h);
    }

pub returns-clause-taken : goal.returns-clause-taken
returns-clause-taken g c = λ first places h.
    let i = c.loop-left.invariant in
    subst (λ (ps : List ℕ). g.T.EachPlace.has first.taker c.loop-left.self.taker (places ++ ps)) (done_all i.taken.0 c.args.bits c.loop-left.left c.args.from c.args.count i.taken.1 c.loop-left-test.false) (i.taken.2 first.taker places h)
