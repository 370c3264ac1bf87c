use Rattle.std.proofs.Common.{ℕ, ℤ, ◌∷◌, [], ◌<◌, ◌≤◌, ◌≡◌, ◌^◌, arith, sym, subst}
use Rattle.std.proofs.lemmas.Option.{IfSome_then}
use Rattle.pq_numbers.specs.Zigzag.{unzigzag}
use Rattle.pq_thrift.specs.Value.{int32}
use Rattle.pq_container.specs.Ahead.{FrontsValues}
use Rattle.pq_container.proofs.Lists.{none_yet, numbers_more}
use Rattle.pq_container.proofs.footer_bytes.+past_numbers.Goals as goal

pub returns-then-count-eq0 : goal.returns-then-count-eq0
returns-then-count-eq0 t c = ([], subst (λ (k : ℕ). FrontsValues {A = ℤ} (λ v z. v ≡ int32 z) 5 1 k [] c.args.bytes.now c.args.bytes.now) (sym c.if-count-eq0.true) (none_yet {A = ℤ} (λ v z. v ≡ int32 z) 5 1 c.args.bytes.now))

pub returns : goal.returns
returns t c =
    let some : 1 ≤ c.args.count = omega (arith, c.if-count-eq0.false) in
    let small : c.in_ok-number.number < 2 ^ 32 = omega (arith, c.if-number.false) in
    IfSome_then c.past_numbers.result c.past_numbers.ensures (λ rest f. (unzigzag c.in_ok-number.number ∷ f.0, numbers_more c.args.count c.in_ok-number.number f.0 c.args.bytes.now c.in_ok-number.rest.now rest.now some small c.in_ok-number.ensures f.1))
