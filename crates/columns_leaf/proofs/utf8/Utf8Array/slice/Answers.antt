use Rattle.columns_slots.proofs.Strings.{pieces_cut}
use Rattle.columns_leaf.specs.Texts.{AreTexts}
use Rattle.columns_leaf.proofs.Texts.{texts_front, texts_from}
use Rattle.std.proofs.Common.{◌+◌, ◌-◌, ◌≤◌, length, sym, subst, arith}
use Rattle.columns_slots.proofs.Sound.{places_cut, len_places, some_place, mask_cut}
use Rattle.columns_leaf.proofs.utf8.Utf8Array.slice.Goals as goal

pub invariant_of-self : goal.invariant_of-self
invariant_of-self g c =
    let i = c.self.inside in
    let v = c.self.invariant in
    let h : c.args.offset + c.args.length ≤ length i.offsets - 1 = subst (λ t. c.args.offset + c.args.length ≤ length t.1.0 - 1) (sym c.self.view_is) c.requires in
    rw (c.slice_ranges.ensures, c.cut_validity.ensures) (
      places_cut i.offsets (length i.values.value.items) c.args.offset c.args.length v.0 (omega (arith, some_place i.offsets _ v.0, h)),
      rw (len_places i.offsets (length i.values.value.items) c.args.offset c.args.length v.0 h) (mask_cut i.validity _ c.args.offset c.args.length v.1 h),
      v.2,
      subst AreTexts (sym (pieces_cut i.offsets i.values.value.items c.args.offset c.args.length h)) (texts_front _ c.args.length (texts_from _ c.args.offset v.3)),
    )
