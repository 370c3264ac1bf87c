use Rattle.std.proofs.Common.{◌≡◌, ◌+◌, ◌*◌, ◌/◌, ◌≤◌, length, ap, sym, ◌∙◌, refl, arith}
use Rattle.columns_core.specs.Shapes.{base}
use Rattle.columns_slots.proofs.Cuts.{cut_cut}
use Rattle.columns_slots.proofs.Sound.{mask_over, mask_cut, scaled}
use Rattle.columns_leaf.specs.Fixed.{fixed_width}
use Rattle.columns_leaf.proofs.Widths.{whole_size}
use Rattle.columns_leaf.proofs.fixed_size_binary.FixedSizeBinaryArray.slice.Goals as goal

pub cut_validity-requires : goal.cut_validity-requires
cut_validity-requires c =
    let i = c.self.inside in
    let v = c.self.invariant in
    let w : fixed_width (base c.args.self.now.0) ≡ i.width = ap (λ t. fixed_width (base t.0)) (sym c.self.view_is) ∙ v.2 in
    let n : length c.args.self.now.1.0 / fixed_width (base c.args.self.now.0) ≡ i.size = whole_size i.values.value.items i.start i.size i.width c.args.self.now.1.0 _ (ap (λ t. t.1.0) c.self.view_is) v.0 v.3 w in
    mask_over i.validity i.size (c.args.offset + c.args.length) v.1 (omega (arith, n, c.requires))

pub invariant_of-self : goal.invariant_of-self
invariant_of-self c =
    let i = c.self.inside in
    let v = c.self.invariant in
    let w : fixed_width (base c.args.self.now.0) ≡ i.width = ap (λ t. fixed_width (base t.0)) (sym c.self.view_is) ∙ v.2 in
    let n : length c.args.self.now.1.0 / fixed_width (base c.args.self.now.0) ≡ i.size = whole_size i.values.value.items i.start i.size i.width c.args.self.now.1.0 _ (ap (λ t. t.1.0) c.self.view_is) v.0 v.3 w in
    let h : c.args.offset + c.args.length ≤ i.size = omega (arith, n, c.requires) in (
      omega (arith, scaled c.args.offset c.args.length i.size i.width h, v.0),
      rw c.cut_validity.ensures (mask_cut i.validity i.size c.args.offset c.args.length v.1 h),
      v.2,
      v.3,
    )

pub returns : goal.returns
returns c =
    let i = c.self.inside in
    let v = c.self.invariant in
    let w : fixed_width (base c.args.self.now.0) ≡ i.width = ap (λ t. fixed_width (base t.0)) (sym c.self.view_is) ∙ v.2 in
    let n : length c.args.self.now.1.0 / fixed_width (base c.args.self.now.0) ≡ i.size = whole_size i.values.value.items i.start i.size i.width c.args.self.now.1.0 _ (ap (λ t. t.1.0) c.self.view_is) v.0 v.3 w in
    let h : c.args.offset + c.args.length ≤ i.size = omega (arith, n, c.requires) in
    rw (← c.self.view_is, c.cut_validity.ensures, v.2, cut_cut i.values.value.items i.start (i.size * i.width) (c.args.offset * i.width) (c.args.length * i.width) (scaled c.args.offset c.args.length i.size i.width h)) refl
