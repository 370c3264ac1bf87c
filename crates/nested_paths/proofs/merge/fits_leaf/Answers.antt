use Rattle.std.proofs.Common.{rules, ◌≡◌, ◌∙◌, false, not, ap, sym, subst, true≢false}
use Rattle.std.proofs.lemmas.Bool.{eqb-true}
use Rattle.shredding.specs.Parts.{MaskFits}
use Rattle.levels.specs.Nested.{is_leaf}
use Rattle.nested_paths.proofs.Lasts.{last_primitive, last_other, leaf_fits, fits_count, fits_alike}
use Rattle.nested_paths.proofs.merge.fits_leaf.Goals as goal

pub keep_alike-requires : goal.keep_alike-requires
keep_alike-requires c =
    let last = last_primitive c.args.nested.now c.index-nested-nested.result c.in-Primitive.mask c.in-Primitive.is_optional c.in-Primitive.count c.requires c.index-nested-nested.is c.in-Primitive.is in
    subst (λ n. MaskFits c.in-Primitive.mask n) (c.if-count-len.true ∙ c.len.ensures) last.fits

pub returns-then-not-is_optional : goal.returns-then-not-is_optional
returns-then-not-is_optional c =
    let last = last_primitive c.args.nested.now c.index-nested-nested.result c.in-Primitive.mask c.in-Primitive.is_optional c.in-Primitive.count c.requires c.index-nested-nested.is c.in-Primitive.is in
    (λ h. leaf_fits _ _ _ _ _ last (c.if-count-len.true ∙ c.len.ensures) (λ o. absurd (true≢false (sym o ∙ c.if-not-is_optional.true))), λ f. ap not c.if-not-is_optional.true)

pub returns-else-not-is_optional : goal.returns-else-not-is_optional
returns-else-not-is_optional c =
    let last = last_primitive c.args.nested.now c.index-nested-nested.result c.in-Primitive.mask c.in-Primitive.is_optional c.in-Primitive.count c.requires c.index-nested-nested.is c.in-Primitive.is in (
      λ h. leaf_fits _ _ _ _ _ last (c.if-count-len.true ∙ c.len.ensures) (λ o. c.keep_alike.ensures.0 h),
      λ f. c.keep_alike.ensures.1 (fits_alike _ _ _ _ _ last f c.if-not-is_optional.false),
    )

pub returns-else-count-len : goal.returns-else-count-len
returns-else-count-len c =
    let last = last_primitive c.args.nested.now c.index-nested-nested.result c.in-Primitive.mask c.in-Primitive.is_optional c.in-Primitive.count c.requires c.index-nested-nested.is c.in-Primitive.is in (
      λ h. absurd (c.if-count-len.false (eqb-true c.in-Primitive.count c.len.result h)),
      λ f. absurd (c.if-count-len.false (fits_count _ _ _ _ _ last f ∙ sym c.len.ensures)),
    )

pub returns-in_default : goal.returns-in_default
returns-in_default c =
    let other : is_leaf c.index-nested-nested.result ≡ false = search rules in
    (λ h. absurd (true≢false (sym h)), λ f. absurd (last_other c.args.nested.now c.index-nested-nested.result c.requires c.index-nested-nested.is other))
