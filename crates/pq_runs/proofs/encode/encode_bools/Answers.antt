use Rattle.std.proofs.Common.{◌≡◌, ◌<◌, ◌^◌, ◌++◌, [], ◌∷◌, ℕ, List, rules, map, ap, sym, subst, ◌∙◌}
use Rattle.std.proofs.lemmas.List.{map-append}
use Rattle.std.specs.Iterator.{Drains}
use Rattle.pq_runs.specs.Listed.{bit}
use Rattle.pq_runs.specs.Writing.{AppendsRuns, Keeps}
use Rattle.pq_runs.proofs.Packs.{kept_then}
use Rattle.pq_runs.proofs.Steps.{finished}
use Rattle.pq_runs.proofs.encode.encode_bools.Goals as goal

pub push_some-requires-clause-low : goal.push_some-requires-clause-low
push_some-requires-clause-low g c = subst (λ (w : ℕ). c.bit_of.result < 2 ^ w) (sym c.loop-value.invariant.width) c.bit_of.ensures.below

pub loop-value-preserved : goal.loop-value-preserved
loop-value-preserved g c =
    let more : map bit c.loop-value.yielded ++ c.bit_of.result ∷ [] ≡ map bit (c.loop-value.yielded ++ c.in-Some.value ∷ []) = ap (λ (v : ℕ). map bit c.loop-value.yielded ++ v ∷ []) c.bit_of.ensures.value ∙ sym (map-append bit c.loop-value.yielded (c.in-Some.value ∷ [])) in
    record {
      kept = kept_then c.args.out.now.items c.loop-value.out.items c.push_some.new.out.items c.loop-value.invariant.kept c.in_ok-push_some.ensures.kept;
      width = c.in_ok-push_some.ensures.width ∙ c.loop-value.invariant.width;
      keeps = subst (λ (xs : List ℕ). Keeps c.args.out.now.items c.push_some.new.out.items c.push_some.new.self xs) more (c.in_ok-push_some.ensures.added c.args.out.now.items _ c.loop-value.invariant.keeps);
    }

pub returns-clause-ok : goal.returns-clause-ok
returns-clause-ok g c =
    let drains : Drains g.I.Iterator.next_gives c.args.values c.loop-value.yielded = search rules in
    finished c.finish.result (λ f. (c.loop-value.yielded, drains, subst (λ (w : ℕ). AppendsRuns w c.args.out.now.items c.finish.new.out.items (map bit c.loop-value.yielded)) c.loop-value.invariant.width (f c.args.out.now.items _ c.loop-value.invariant.keeps))) c.finish.ensures.ok
