use Rattle.std.proofs.Common.{◌≡◌, ◌++◌, map, replicate, vec_len, sym, ap, ◌∙◌, arith}
use Rattle.columns_core.specs.Rising.{whole, last_place}
use Rattle.columns_core.proofs.Places.{filled, copied, map_copies}
use Rattle.columns_core.proofs.mutable_offsets.Offsets.extend_constant.Given
use Rattle.columns_core.proofs.mutable_offsets.Offsets.extend_constant.Goals as goal

-- the offsets after the call
grown : (g : Given.Over) (c : goal.In_ok-resize g) → c.resize.new.self.items ≡ c.self.inside.values.items ++ replicate c.args.additional c.last-place.result.now
grown g c =
    let i = c.self.inside in
    filled i.values.items c.last-place.result.now c.resize.new.self.items c.args.additional (vec_len i.values) c.in-Some.count c.in_ok-resize.ensures.items (omega (arith, i.values.ok.0)) (omega (arith, c.in-Some.ensures, c.len.ensures))

-- the last one before it, by the field
end_is : (g : Given.Over) (c : goal.In_ok-resize g) → last_place (map (λ o. whole (g.O.Offset.number o)) c.self.inside.values.items) ≡ whole (g.O.Offset.number c.last-place.result.now)
end_is g c = ap (λ p. last_place p.0) c.self.view_is ∙ sym c.last-place.ensures.place

pub invariant_of-self-2 : goal.invariant_of-self-2
invariant_of-self-2 g c =
    let i = c.self.inside in
    let p = copied g.O.Offset.number i.values.items c.last-place.result.now c.args.additional (omega (arith, c.self.invariant.0, i.values.ok.0)) c.self.invariant.1 c.last-place.ensures.not_negative (end_is g c) in (
      omega (arith, c.in_ok-resize.ensures.len, c.in-Some.ensures, c.len.ensures, c.self.invariant.0),
      rw (grown g c) p.0,
      rw (grown g c) (c.self.invariant.2 ∙ end_is g c ∙ p.1),
    )

pub returns-clause-ok : goal.returns-clause-ok
returns-clause-ok g c =
    let i = c.self.inside in
    rw (grown g c, map_copies (λ o. whole (g.O.Offset.number o)) i.values.items c.last-place.result.now c.args.additional, c.last-place.ensures.place) (ap (λ p. p.0 ++ replicate c.args.additional (last_place c.args.self.now.0)) c.self.view_is)
