use Rattle.std.proofs.Common.{◌≡◌, ℕ, List, ◌-◌, ◌++◌, ◌∙◌, replicate, append-nil, refl, sym, ap, subst, arith}
use Rattle.pq_runs.proofs.Packs.{kept_same, kept_then}
use Rattle.pq_runs.specs.Writing.{Keeps}
use Rattle.pq_runs.proofs.Kept.{copies_on}
use Rattle.pq_runs.proofs.writer.RunWriter.push_many.Goals as goal

pub loop-left-init : goal.loop-left-init
loop-left-init c = record {
  most = omega arith;
  width = refl;
  kept = kept_same c.args.out.now.items c.args.out.now.items refl;
  added = λ start xs k.
      let none : c.args.count - c.args.count ≡ 0 = omega arith in
      let same : xs ++ replicate (c.args.count - c.args.count) c.args.number ≡ xs = ap (λ (n : ℕ). xs ++ replicate n c.args.number) none ∙ append-nil xs in
      subst (λ (ys : List ℕ). Keeps start c.args.out.now.items c.args.self.now ys) (sym same) k;
}

pub loop-left-preserved : goal.loop-left-preserved
loop-left-preserved c = record {
  most = omega arith;
  width = c.in_ok-push_some.ensures.width ∙ c.loop-left.invariant.width;
  kept = kept_then c.args.out.now.items c.loop-left.out.items c.push_some.new.out.items c.loop-left.invariant.kept c.in_ok-push_some.ensures.kept;
  added = λ start xs k. copies_on start c.push_some.new.out.items c.push_some.new.self xs c.args.number (c.args.count - c.loop-left.left) c.min-some.result (c.args.count - (c.loop-left.left - c.min-some.result)) (omega arith) (c.in_ok-push_some.ensures.added start _ (c.loop-left.invariant.added start xs k));
}

pub returns-clause-added : goal.returns-clause-added
returns-clause-added c = λ start xs k.
    let all : c.args.count - c.loop-left.left ≡ c.args.count = omega arith in
    subst (λ (n : ℕ). Keeps start c.loop-left.out.items c.loop-left.self (xs ++ replicate n c.args.number)) all (c.loop-left.invariant.added start xs k)
