use Rattle.std.proofs.Common.{ℕ, true, false, refl, sym, subst, arith}
use Rattle.std.proofs.lemmas.Option.{IfSome_then}
use Rattle.pq_thrift.specs.declared.kind.Kind.TheVariants as kinds
use Rattle.pq_thrift.specs.Value.{truth}
use Rattle.pq_container.specs.Ahead.{FrontsValue}
use Rattle.pq_container.proofs.Fronts.{truth_value, text_value}
use Rattle.pq_container.proofs.straight.past_value.Goals as goal

pub returns-in-1 : goal.returns-in-1
returns-in-1 c = subst (λ (k : ℕ). FrontsValue k c.args.bytes.now c.args.bytes.now) (sym c.in-1.is) (truth_value 1 kinds.True (truth true) c.args.bytes.now refl (refl, refl) (omega arith))

pub returns-in-2 : goal.returns-in-2
returns-in-2 c = subst (λ (k : ℕ). FrontsValue k c.args.bytes.now c.args.bytes.now) (sym c.in-2.is) (truth_value 2 kinds.False (truth false) c.args.bytes.now refl (refl, refl) (omega arith))

pub returns-in-8 : goal.returns-in-8
returns-in-8 c = IfSome_then c.past_text.result c.past_text.ensures (λ rest h. subst (λ (k : ℕ). FrontsValue k c.args.bytes.now rest.now) (sym c.in-8.is) (text_value h.0 c.args.bytes.now rest.now h.1))
