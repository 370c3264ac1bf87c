-- A shape with every part nullable. The slots of arrays are of such a shape, since a mask may hide what a field must have.
use Rattle.std.specs.Prelude.{true}
use Rattle.shredding.specs.Shape.{Shape, leaf, list, struct, Shapes, no_shapes, shape}

abbrev mutual
  pub loose : Shape → Shape
  loose (leaf n k) = leaf true k
  loose (list n f) = list true (loose f)
  loose (struct n fs) = struct true (loose_all fs)

  pub loose_all : Shapes → Shapes
  loose_all no_shapes = no_shapes
  loose_all (shape f fs) = shape (loose f) (loose_all fs)
