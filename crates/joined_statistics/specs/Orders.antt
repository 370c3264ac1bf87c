-- How the values of a leaf type are ordered (Parquet format, ColumnOrder).
use Rattle.shredding.specs.Shape.{LeafType, text, binary, signed, unsigned}
use Rattle.joined_statistics.specs.declared.order.TextOrder.{TextOrder}
use Rattle.joined_statistics.specs.declared.order.TextOrder.TheVariants.{Signed, Unsigned, Bytes}

-- signed numbers
abbrev pub AreSigned : LeafType → Type 0
AreSigned (signed w) = Unit {0}
AreSigned t = ⊥

-- unsigned numbers
abbrev pub AreUnsigned : LeafType → Type 0
AreUnsigned (unsigned w) = Unit {0}
AreUnsigned t = ⊥

-- byte strings
abbrev pub AreBytes : LeafType → Type 0
AreBytes text = Unit {0}
AreBytes binary = Unit {0}
AreBytes t = ⊥

-- the order is that of the values of the type
abbrev pub IsOrderOf : TextOrder → LeafType → Type 0
IsOrderOf Signed t = AreSigned t
IsOrderOf Unsigned t = AreUnsigned t
IsOrderOf Bytes t = AreBytes t
