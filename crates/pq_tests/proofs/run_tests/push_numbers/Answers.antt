use Rattle.std.proofs.Common.{◌≡◌, ◌<◌, ◌^◌, ℕ, List, length, All, ap, ◌∙◌, sym, subst, arith}
use Rattle.std.proofs.lemmas.Grind.{get_or_default_zero}
use Rattle.std.proofs.iter.Yields.{Copied-Drains}
use Rattle.std.specs.Slice.Iter.{iter_rest}
use Rattle.pq_tests.proofs.run_tests.push_numbers.Goals as goal

pub encode_u32-requires-clause-gives : goal.encode_u32-requires-clause-gives
encode_u32-requires-clause-gives c =
    let rest : iter_rest c.copied.result.iter ≡ c.args.values.now = ap iter_rest c.copied.ensures.source ∙ c.iter.ensures.rest in
    λ vs d.
    let e : vs ≡ c.args.values.now = Copied-Drains c.copied.result vs d ∙ rest in
    (omega (arith, ap length e), subst (λ (xs : List ℕ). All (λ v. v < 2 ^ 32) xs) (sym e) (λ k d' lt. omega (arith, c.type_inv.values k, get_or_default_zero c.args.values.now k d' lt)))
