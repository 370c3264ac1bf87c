use Rattle.std.proofs.Common.{arith, refl, ◌≡◌, ◌∙◌, ◌∷◌}
use Rattle.levels.specs.declared.nested.Nested.TheVariants.{Struct}
use Rattle.levels.proofs.Stretches.{null_structs, full_structs}
use Rattle.levels.proofs.walk.stretch_at.Goals as goal

pub returns-in-Primitive : goal.returns-in-Primitive
returns-in-Primitive c = rw (c.in-Some.ensures.cases.0, c.in-Primitive.is) (c.stretch_of_leaf.ensures _ _)

pub returns-then-there : goal.returns-then-there
returns-then-there c =
    let e = c.alike-there.ensures in
    let head : c.args.parts.now ≡ Struct c.in-Struct.mask c.in-Struct.is_optional c.in-Struct.count ∷ c.in-Some.rest.now = rw (c.in-Some.ensures.cases.0, c.in-Struct.is) refl in
    rw head (full_structs _ _ _ _ _ _ _ c.in-Some.rest _ _ (λ i low high. e.alike i low high ∙ c.if-there.true) c.bit.ensures (omega arith) (rw head at c.requires.well) e.after e.within (rw head at c.requires.within))

pub returns-else-there : goal.returns-else-there
returns-else-there c =
    let e = c.alike-there.ensures in
    rw (c.in-Some.ensures.cases.0, c.in-Struct.is) (null_structs _ _ _ _ _ _ _ _ _ (λ i low high. e.alike i low high ∙ c.if-there.false) e.after e.within)
