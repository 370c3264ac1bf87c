use Rattle.std.proofs.Common.{◌-◌, sym, subst, ap, ◌∙◌, arith}
use Rattle.columns_core.specs.Rising.{IsWhole, whole, last_place}
use Rattle.columns_core.proofs.Places.{whole_at, map_last}
use Rattle.columns_core.proofs.mutable_offsets.Offsets.last.Goals as goal

pub returns-clause-place : goal.returns-clause-place
returns-clause-place g c =
    let i = c.self.inside in
    ap (λ o. whole (g.O.Offset.number o)) c.index.ensures ∙ sym (map_last (λ o. whole (g.O.Offset.number o)) i.values.items (c.len.result - 1) c.index.result.now (omega (arith, c.self.invariant.0, c.len.ensures, i.values.ok.0))) ∙ ap (λ p. last_place p.0) c.self.view_is

pub returns-clause-not_negative : goal.returns-clause-not_negative
returns-clause-not_negative g c =
    let i = c.self.inside in
    subst (λ v. IsWhole (g.O.Offset.number v)) (sym c.index.ensures)
    (whole_at g.O.Offset.number i.values.items 0 (c.len.result - 1) c.index.result.now c.self.invariant.1 (omega (arith, c.self.invariant.0, c.len.ensures, i.values.ok.0)))
