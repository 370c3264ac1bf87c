use Rattle.level_sections.proofs.walk.shape_of.Goals as goal

pub returns-in-Struct : goal.returns-in-Struct
returns-in-Struct c = rw (c.in-Some.ensures.cases.0, c.in-Struct.is) (c.struct_shape.ensures c.args.level c.in-Struct.field-1 c.in-Struct.field-0 c.in-Struct.field-2)
