use Rattle.std.proofs.Common.{◌≡◌, ℕ, SFits, to_z, of_z, subst, sym, arith, rules}
use Rattle.std.proofs.lemmas.Int.{to_z-of_z}
use Rattle.std.specs.Int.{w64}
use Rattle.std.specs.Iterator.{Drains}
use Rattle.pq_deltas.specs.Encoding.{IsEncoding}
use Rattle.pq_runs.proofs.Packs.{kept_then}
use Rattle.pq_runs.proofs.Steps.{finished}
use Rattle.pq_deltas.proofs.delta_encode.push_numbers.Goals as goal

pub loop-value-preserved : goal.loop-value-preserved
loop-value-preserved g c =
    let fits : SFits w64 c.in-Some.value = search rules in
    let e : to_z w64 (of_z w64 c.in-Some.value) ≡ c.in-Some.value = to_z-of_z w64 c.in-Some.value fits in
    record {
      kept = kept_then c.args.out.now.items c.loop-value.out.items c.push.new.out.items c.loop-value.invariant.kept c.in_ok-push.ensures.kept;
      encoding = rw e at (c.in_ok-push.ensures.ok.more c.args.length c.args.out.now.items c.loop-value.yielded c.loop-value.invariant.encoding);
    }

pub returns-clause-ok : goal.returns-clause-ok
returns-clause-ok g c =
    let drains : Drains g.I.Iterator.next_gives c.args.values c.loop-value.yielded = search rules in
    finished c.finish.result (λ f. (c.loop-value.yielded, drains, f w64 c.args.out.now.items c.loop-value.yielded (omega arith) (subst (λ (n : ℕ). IsEncoding w64 n c.args.out.now.items c.loop-value.out.items c.loop-value.encoder c.loop-value.yielded) (sym (c.requires.gives c.loop-value.yielded drains)) c.loop-value.invariant.encoding))) c.finish.ensures.ok
