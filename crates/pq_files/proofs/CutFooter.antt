-- The first file without the last byte of its footer is out of the format.
use Rattle.std.proofs.Common.{◌≡◌, ℕ, [], ◌∷◌, drop, Some, None, Ok, refl, sym, subst, inl, inr, arith, ◌⊎◌, ◌<◌}
use Rattle.pq_thrift.specs.Grammar.{Spells}
use Rattle.pq_numbers.specs.Varint.{varint_up_to}
use Rattle.pq_thrift.specs.Numbers.{signed_at, binary_at}
use Rattle.pq_thrift.specs.Reading.{max_depth, thrift_at, list_head_at, field_head_at, values_at, fields_at, list_with, struct_with, value_at}
use Rattle.pq_thrift.specs.Value.{Value, Values, struct, no_fields, list}
use Rattle.pq_thrift.specs.declared.kind.Kind.TheVariants.{Struct}
use Rattle.pq_thrift.specs.Nesting.{NestsPast}
use Rattle.pq_thrift.proofs.Deep.{too_deep}
use Rattle.pq_thrift.proofs.OneReading.{same_reading}
use Rattle.pq_metadata.specs.Encrypted.{SaysEncrypted}
use Rattle.pq_metadata.specs.Footer.{Footer, SpellsFooter}
use Rattle.pq_metadata.specs.Frame.{HasFrame, footer_of}
use Rattle.pq_metadata.specs.Metadata.{IsFooterText, FooterIsDeep}
use Rattle.pq_files.specs.Reasons.{S1}
use Rattle.pq_tree.specs.Tree.{schema_nesting}
use Rattle.pq_files.specs.NearMiss.{cut_file}
use Rattle.pq_numbers.specs.Texts.{Begins}

framed : HasFrame cut_file
framed = record { long = omega arith; front = refl; back = refl; room = omega arith }

-- the footer's first byte ends the struct
empty : Spells (0 ∷ []) (struct no_fields)
empty = (refl, refl)

reads_empty : (v : Value) → Begins Spells (footer_of cut_file) v → v ≡ struct no_fields
reads_empty v b = (same_reading b.text (0 ∷ []) b.rest (drop 1 (footer_of cut_file)) v (struct no_fields) b.spells empty (sym b.parts)).1

read : thrift_at (footer_of cut_file) ≡ Ok (struct no_fields, drop 1 (footer_of cut_file))
unfolding varint_up_to signed_at binary_at list_head_at field_head_at values_at fields_at list_with struct_with value_at
read = refl

no_record : (f : Footer) → Begins IsFooterText (footer_of cut_file) f → ⊥
no_record f b =
    let x = b.spells in
    let v = reads_empty x.0 (record { text = b.text; rest = b.rest; parts = b.parts; spells = x.1 }) in
    let h : SpellsFooter (struct no_fields) f = subst (λ (w : Value). SpellsFooter w f) v x.3 in
    none h.kind h.elements h.has_elements
  where
    none : (k : ℕ) (vs : Values) → None ≡ Some (list k vs) → ⊥
    none k vs e = cc e

not_deep : ¬ FooterIsDeep (footer_of cut_file)
not_deep = either
  where
    either : (NestsPast max_depth Struct (footer_of cut_file) ⊎ ((f : Footer) × Begins IsFooterText (footer_of cut_file) f × (128 < schema_nesting f.schema))) → ⊥
    either (inl d) = cc (too_deep max_depth Struct (footer_of cut_file) d, read)
    either (inr f) = no_record f.0 f.1

says_none : (v : Value) → Begins Spells (footer_of cut_file) v → SaysEncrypted v → ⊥
says_none v b s = neither (subst SaysEncrypted (reads_empty v b) s)
  where
    neither : SaysEncrypted (struct no_fields) → ⊥
    neither (inl d) = d refl
    neither (inr h) = h

pub is_out_of_spec : S1 cut_file
is_out_of_spec = inr (framed, record { shallow = not_deep; plain = λ e. says_none e.0 e.1 e.2; none = no_record })
