use Rattle.std.proofs.Common.{◌+◌, take, sym, subst, ap, ◌∙◌, arith}
use Rattle.columns_core.specs.Rising.{IsWhole, whole}
use Rattle.columns_core.proofs.Places.{IsShort, shortened}
use Rattle.columns_core.proofs.mutable_offsets.Offsets.shorten.Given
use Rattle.columns_core.proofs.mutable_offsets.Offsets.shorten.Goals as goal

short : (g : Given.Over) (c : goal.After-self-1 g) → IsShort g.O.Offset.number c.truncate.new.self.items c.args.ranges c.index.result.now (take (c.args.ranges + 1) c.args.self.now.0)
short g c =
    shortened g.O.Offset.number c.self.inside.values.items c.truncate.new.self.items c.args.ranges c.index.result.now c.args.self.now.0 c.truncate.ensures.items c.self.invariant.1 (ap (λ p. p.0) c.self.view_is) c.requires

pub to_usize-self-inside-requires : goal.to_usize-self-inside-requires
to_usize-self-inside-requires g c =
    let s = shortened g.O.Offset.number c.self.inside.values.items c.truncate.new.self.items c.args.ranges c.index.result.now c.args.self.now.0 c.truncate.ensures.items c.self.invariant.1 (ap (λ p. p.0) c.self.view_is) c.requires in
    subst (λ v. IsWhole (g.O.Offset.number v)) (sym c.index.ensures) s.whole_end

pub invariant_of-self : goal.invariant_of-self
invariant_of-self g c =
    let s = short g c in (
      omega (arith, s.size, c.truncate.new.self.ok.0),
      s.from,
      c.to_usize-self-inside.ensures.value ∙ ap (λ v. whole (g.O.Offset.number v)) c.index.ensures ∙ s.end,
    )

pub returns-clause-same : goal.returns-clause-same
returns-clause-same g c = (short g c).seen
