use Rattle.std.proofs.Common.{◌≡◌, ◌∙◌, ℕ, List, length, Option, Some, None, slice_get, option_copied, refl, sym}
use Rattle.std.specs.Slice.{IsItemAt}
use Rattle.std.proofs.lemmas.Option.{slice_get_past, slice_get_read}
use denote.Bor.{Bor}
use Rattle.schema_codec.specs.declared.tag.Tag.{Tag}
use Rattle.schema_codec.specs.Tags.{tags}
use Rattle.schema_codec.proofs.tag.tag_from.Goals as goal

item_is : (xs : List Tag) (i : ℕ) (r : Option (Bor Tag)) → IsItemAt xs i r → option_copied r ≡ slice_get xs i
item_is xs i None h = sym (slice_get_past xs i h.3)
item_is xs i (Some x) h = sym (slice_get_read xs (length xs) i x.now refl h.3.0 h.1)

pub returns : goal.returns
returns c = c.copied.ensures ∙ item_is tags c.from.result c.get.result c.get.ensures.lookup ∙ (λ i. slice_get tags (c.from.ensures i))
