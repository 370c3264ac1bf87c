use Rattle.std.proofs.Common.{List, ℕ, ◌≤◌, sym, subst, arith}
use Rattle.std.specs.Prelude.{string_bytes}
use Rattle.pq_thrift.specs.Value.{view}
use Rattle.pq_container.specs.Raw.{SpellsRootAs}
use Rattle.pq_container.specs.Ahead.{FrontsStruct}
use Rattle.pq_container.proofs.FooterFronts.{value_stands}
use Rattle.pq_container.proofs.footer_bytes.root.Goals as goal

pub returns : goal.returns
returns c =
    let ok = c.in_ok-value.ensures.ok in
    let short : c.in_ok-value.size ≤ 100 = omega (arith, c.if-size-gt100.false) in
    let said : List ℕ × ℕ = (string_bytes c.in_ok-root.root.0, c.in_ok-root.root.1) in
    subst (λ (r : List ℕ). FrontsStruct SpellsRootAs 100 said c.args.bytes.now r) (sym c.split_at.ensures.back) (value_stands SpellsRootAs said (view c.in_ok-value.value) c.in_ok-value.size c.args.bytes.now ok.0 short ok.1 c.in_ok-root.ensures.found)
