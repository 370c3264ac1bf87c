use Rattle.std.proofs.Common.{[], ◌∷◌, Option, List, Bool, map, arith, subst, sym}
use Rattle.shredding.specs.Parts.{MaskFits}
use Rattle.levels.specs.declared.nested.Nested.TheVariants.{Primitive}
use Rattle.level_sections.specs.Sections.{AppendsLevels, flat_column}
use Rattle.shredding.specs.Shape.{at_leaf}
use Rattle.shredding.specs.Shred.{max_definition}
use Rattle.level_sections.proofs.Both.{flat_pairs, flat_path, levels_of}
use Rattle.level_sections.proofs.flat.write_def_levels.Goals as goal

pub push_section-requires-clause-few : goal.push_section-requires-clause-few
push_section-requires-clause-few c =
    let fits = subst (λ (mask : Option (List Bool)). MaskFits mask c.args.len) (sym c.in_ok-mask.ensures.ok) c.requires in
    let count = flat_pairs c.args.is_optional c.in_ok-mask.mask c.args.len fits in
    rw count (omega arith)

pub returns-in-Ok-clause-ok : goal.returns-in-Ok-clause-ok
returns-in-Ok-clause-ok c = λ values.
    let fits = subst (λ (mask : Option (List Bool)). MaskFits mask c.args.len) (sym c.in_ok-mask.ensures.ok) c.requires in
    subst (λ (mask : Option (List Bool)). AppendsLevels c.args.version (max_definition (at_leaf c.args.is_optional)) c.args.writer.now.items c.push_section.new.buffer.items (map (λ t. t.definition) (flat_column values c.args.is_optional mask c.args.len))) c.in_ok-mask.ensures.ok
    (levels_of values c.args.version (Primitive c.in_ok-mask.mask c.args.is_optional c.args.len ∷ []) c.args.writer.now.items c.push_section.new.buffer.items c.in-Ok.field-0 (flat_path c.args.is_optional c.in_ok-mask.mask c.args.len fits) (omega arith) c.in-Ok.ensures.ok)
