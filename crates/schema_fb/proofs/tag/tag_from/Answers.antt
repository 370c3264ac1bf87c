use Rattle.std.proofs.Common.{◌≡◌, ◌∙◌, ℕ, suc, ◌-◌, List, length, Option, Some, None, slice_get, option_copied, refl, sym, ap, arith}
use Rattle.std.specs.Slice.{IsItemAt}
use Rattle.std.proofs.lemmas.Option.{slice_get_past, slice_get_read}
use denote.Bor.{Bor}
use Rattle.schema_fb.specs.declared.tag.Tag.{Tag}
use Rattle.schema_fb.specs.Tags.{tags, tag_of}
use Rattle.schema_fb.proofs.tag.tag_from.Goals as goal

item_is : (xs : List Tag) (i : ℕ) (r : Option (Bor Tag)) → IsItemAt xs i r → option_copied r ≡ slice_get xs i
item_is xs i None h = sym (slice_get_past xs i h.3)
item_is xs i (Some x) h = sym (slice_get_read xs (length xs) i x.now refl h.3.0 h.1)

pub returns : goal.returns
returns c =
    let n : c.args.number ≡ suc (c.args.number - 1) = omega arith in
    c.copied.ensures ∙ item_is tags c.from.result c.get.result c.get.ensures.lookup ∙ (λ i. slice_get tags (c.from.ensures i)) ∙ sym (ap tag_of n)
