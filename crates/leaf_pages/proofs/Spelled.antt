-- The encoding of a page of values.
use Rattle.std.proofs.Common.{◌≡◌, ◌≢◌, Some, ap, refl, sym, true, true≢false}
use Rattle.leaf_pages.specs.Forms.{has_form}
use Rattle.pq_files.specs.Layout.{delta_of}
use Rattle.pq_files.specs.Page.{delta, delta_length}
use Rattle.pq_tree.specs.Physical.{Physical, byte_array, int32, int64}
use Rattle.pq_tree.specs.declared.types.Encoding.{Encoding as RustEncoding}
use Rattle.pq_tree.specs.declared.types.Encoding.TheVariants as E
use Rattle.shredding.specs.Shape.{LeafType, nothing, truths, text, binary, signed, unsigned, fixed_bytes, decimal, months, days}
use Rattle.write_pages.specs.Holds.{encoding_view, is_delta_encoding}
use Rattle.write_values.specs.Deltas.{page_encoding}

-- the deltas of values
abbrev HasDeltas : LeafType → Type 0
HasDeltas t = (delta_of t int32 ≡ delta) × (delta_of t int64 ≡ delta) × (delta_of t byte_array ≡ delta_length)

have_deltas : (t : LeafType) → t ≢ nothing → HasDeltas t
have_deltas nothing n = absurd (n refl)
have_deltas truths n = (refl, refl, refl)
have_deltas text n = (refl, refl, refl)
have_deltas binary n = (refl, refl, refl)
have_deltas (signed w) n = (refl, refl, refl)
have_deltas (unsigned w) n = (refl, refl, refl)
have_deltas (fixed_bytes w) n = (refl, refl, refl)
have_deltas decimal n = (refl, refl, refl)
have_deltas months n = (refl, refl, refl)
have_deltas days n = (refl, refl, refl)

-- values that are written in the encoding are in the one of its name
pub encoding_is : (t : LeafType) (p : Physical) (name : RustEncoding) → t ≢ nothing → has_form name p ≡ true → encoding_view name ≡ Some (page_encoding (is_delta_encoding name) t p)
encoding_is t p E.Plain n h = refl
encoding_is t int32 E.DeltaBinaryPacked n h = ap Some (sym (have_deltas t n).0)
encoding_is t int64 E.DeltaBinaryPacked n h = ap Some (sym (have_deltas t n).1)
encoding_is t p E.DeltaBinaryPacked n h = absurd (true≢false (sym h))
encoding_is t byte_array E.DeltaLengthByteArray n h = ap Some (sym (have_deltas t n).2)
encoding_is t p E.DeltaLengthByteArray n h = absurd (true≢false (sym h))
encoding_is t p name n h = absurd (true≢false (sym h))
