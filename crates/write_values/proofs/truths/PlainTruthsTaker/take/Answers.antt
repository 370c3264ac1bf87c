use Rattle.std.proofs.Common.{◌≡◌, ◌-◌, ◌++◌, List, Bool, map, subst, ap, refl, ◌∙◌}
use Rattle.write_places.specs.Places.{range}
use Rattle.write_values.specs.Truths.{truth_at}
use Rattle.write_values.proofs.TruthPlaces.{truths_more}
use Rattle.write_values.proofs.truths.PlainTruthsTaker.take.Goals as goal

pub returns-clause-taken : goal.returns-clause-taken
returns-clause-taken c = λ first places h.
    let n = c.args.to - c.args.from in
    let bs = c.args.self.now.values.now in
    let added = map (truth_at bs) (range c.args.from n) in
    let pushed = c.append_words.ensures ∙ ap (λ (ts : List Bool). ts ++ added) c.reserve.ensures.same in
    let cut = subst (λ (xs : List Bool). added ≡ map (truth_at xs) (range c.args.from n)) h.0 refl in
    (h.0, truths_more first.values.now first.out.0 c.args.self.now.out.0 c.append_words.new.out.0 added places (range c.args.from n) h.1 pushed cut)
