use Rattle.std.proofs.Common.{◌≡◌, ℕ, ℤ, ◌-ℤ◌, ◌++◌, subst, ap, ◌∙◌, Option, SFits, rules}
use Rattle.std.proofs.lemmas.Int.{to_z-of_z, wrapping_sub_is, int_wrap-sub_right}
use Rattle.std.specs.Int.{w32, w64, int_wrap}
use Rattle.pq_numbers.specs.Varint.{varint}
use Rattle.pq_numbers.specs.Zigzag.{zigzag}
use Rattle.pq_runs.specs.DeltaWriting.{Begun}
use Rattle.pq_deltas.proofs.DeltaSteps.{going_first}
use Rattle.pq_runs.proofs.Steps.{finished}
use Rattle.pq_deltas.proofs.delta_encode.add_i32.Goals as goal

pub returns-in-None-clause-ok : goal.returns-in-None-clause-ok
returns-in-None-clause-ok c =
    let wide : SFits w64 c.from.result = search rules in
    let number : c.to_zigzag.result ≡ zigzag c.args.value = c.to_zigzag.ensures ∙ ap zigzag (to_z-of_z w64 c.from.result wide ∙ c.from.ensures ∙ to_z-of_z w32 c.args.value c.ranges.value) in
    finished c.push_varint.result (λ e start zs b.
    let n = subst (λ (o : Option ℤ). Begun w32 start c.args.out.now.items c.args.waiting.now o zs) c.in-None.is b in
    going_first w32 start c.args.out.now.items c.push_varint.new.out.items c.args.waiting.now zs c.args.value c.ranges.value n.0 n.1 n.2 (e ∙ ap (λ (k : ℕ). c.args.out.now.items ++ varint k) number)) c.push_varint.ensures.ok

pub returns-in-Some-clause-ok : goal.returns-in-Some-clause-ok
returns-in-Some-clause-ok c =
    let low : ℤ = c.low_32-latest.result in
    let fits : SFits w32 low = search rules in
    let held : SFits w64 c.in-Some.latest = search rules in
    let wide : SFits w64 c.from-in-Some.result = search rules in
    let is : low ≡ int_wrap w32 c.in-Some.latest = c.low_32-latest.ensures ∙ ap (int_wrap w32) (to_z-of_z w64 c.in-Some.latest held) in
    let difference : c.from-in-Some.result ≡ int_wrap w32 (c.args.value -ℤ c.in-Some.latest) = c.from-in-Some.ensures ∙ wrapping_sub_is w32 c.args.value low c.ranges.value fits ∙ ap (λ (z : ℤ). int_wrap w32 (c.args.value -ℤ z)) is ∙ int_wrap-sub_right w32 c.args.value c.in-Some.latest in
    finished c.push_difference.result (λ f start zs b. f w32 start c.in-Some.latest c.args.value zs c.ranges.value (to_z-of_z w64 c.from-in-Some.result wide ∙ difference) (subst (λ (o : Option ℤ). Begun w32 start c.args.out.now.items c.args.waiting.now o zs) c.in-Some.is b)) c.push_difference.ensures.ok
