use Rattle.std.proofs.Common.{List, ℕ, ◌≤◌, length, take, sym, subst, arith}
use Rattle.pq_thrift.specs.Grammar.{IsBinary}
use Rattle.pq_container.specs.Ahead.{Fronts}
use Rattle.pq_container.proofs.Fronts.{text_fronts}
use Rattle.pq_container.proofs.straight.past_text.Goals as goal

pub returns : goal.returns
returns c =
    let n = c.in_ok-length.length in
    let rest = c.in_ok-length.rest.now in
    let h : n ≤ length rest = omega (arith, c.if-rest-length.false) in
    (take n rest, subst (λ (r : List ℕ). Fronts (λ t. IsBinary t (take n rest)) c.args.bytes.now r) (sym c.split_at.ensures.back) (text_fronts n c.args.bytes.now rest c.in_ok-length.ensures h))
