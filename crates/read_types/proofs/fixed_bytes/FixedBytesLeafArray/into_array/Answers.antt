use Rattle.std.proofs.Common.{◌≡◌, ◌*◌, length, ap, ◌∙◌}
use Rattle.columns_core.specs.Shapes.{base}
use Rattle.columns_core.specs.View.{type_view}
use Rattle.columns_leaf.specs.Fixed.{fixed_width}
use Rattle.read_types.proofs.Widths.{chunks-fit}
use Rattle.read_types.proofs.Slots.{chunk-array}
use Rattle.read_types.proofs.fixed_bytes.FixedBytesLeafArray.into_array.Goals as goal

pub chunk_array-requires-clause-whole : goal.chunk_array-requires-clause-whole
chunk_array-requires-clause-whole c =
    let parts = c.into_parts-content.ensures in
    let content = c.into_parts-content.result.0.items in
    let even : length content ≡ c.args.self.now.size * length c.args.values.1.1 = rw (← c.requires.suits) (ap length parts.content ∙ parts.even) in
    (chunks-fit c.args.self.now.size (length c.args.values.1.1) (base (type_view c.args.data_type)) content c.requires.makes even).0

pub chunk_array-requires-clause-mask : goal.chunk_array-requires-clause-mask
chunk_array-requires-clause-mask c =
    let parts = c.into_parts-content.ensures in
    let content = c.into_parts-content.result.0.items in
    let even : length content ≡ c.args.self.now.size * length c.args.values.1.1 = rw (← c.requires.suits) (ap length parts.content ∙ parts.even) in
    ap length (c.in-Ok.ensures.ok ∙ parts.validity) ∙ (chunks-fit c.args.self.now.size (length c.args.values.1.1) (base (type_view c.args.data_type)) content c.requires.makes even).1

pub returns-in-Ok-chunk_array-clause-ok : goal.returns-in-Ok-chunk_array-clause-ok
returns-in-Ok-chunk_array-clause-ok c =
    let t = type_view c.args.data_type in
    let parts = c.into_parts-content.ensures in
    let content = c.into_parts-content.result.0.items in
    let even : length content ≡ c.args.self.now.size * length c.args.values.1.1 = rw (← c.requires.suits) (ap length parts.content ∙ parts.even) in
    let fit = chunks-fit c.args.self.now.size (length c.args.values.1.1) (base t) content c.requires.makes even in
    let mask = ap length (c.in-Ok.ensures.ok ∙ parts.validity) ∙ fit.1 in
    rw c.in-Ok-chunk_array.ensures.ok (chunk-array t c.args.values.0 (fixed_width (base t)) content c.args.values.1.0 c.in-Ok.validity c.args.values.1.1 parts.content (c.in-Ok.ensures.ok ∙ parts.validity) parts.even fit.0.1 mask)
