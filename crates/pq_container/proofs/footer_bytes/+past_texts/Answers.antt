use Rattle.std.proofs.Common.{ℕ, List, ◌∷◌, [], ◌≤◌, ◌≡◌, arith, sym, subst}
use Rattle.std.proofs.lemmas.Option.{IfSome_then}
use Rattle.pq_thrift.specs.Value.{binary}
use Rattle.pq_container.specs.Ahead.{FrontsValues}
use Rattle.pq_container.proofs.Lists.{none_yet, texts_more}
use Rattle.pq_container.proofs.footer_bytes.+past_texts.Goals as goal

pub returns-then-count-eq0 : goal.returns-then-count-eq0
returns-then-count-eq0 t c = ([], subst (λ (k : ℕ). FrontsValues {A = List ℕ} (λ v s. v ≡ binary s) 8 1 k [] c.args.bytes.now c.args.bytes.now) (sym c.if-count-eq0.true) (none_yet {A = List ℕ} (λ v s. v ≡ binary s) 8 1 c.args.bytes.now))

pub returns : goal.returns
returns t c =
    let some : 1 ≤ c.args.count = omega (arith, c.if-count-eq0.false) in
    let first = c.in_ok-rest.ensures in
    IfSome_then c.past_texts.result c.past_texts.ensures (λ rest f. (first.0 ∷ f.0, texts_more c.args.count first.0 f.0 c.args.bytes.now c.in_ok-rest.rest.now rest.now some first.1 f.1))
