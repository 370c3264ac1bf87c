-- What is written is read again, and what is read was written so: schemas.
use Rattle.std.proofs.Common.{◌≡◌, ℕ, ◌^◌, ◌<◌, ◌≤◌, List, [], ◌∷◌, ◌++◌, length, Option, Some, None, sym, ap, subst, ◌∙◌, arith}
use Rattle.std.proofs.lemmas.List.{append-nil}
use Rattle.columns_core.specs.Meta.{Meta}
use Rattle.columns_core.specs.Measures.{fields_nesting}
use Rattle.columns_core.specs.Tree.{FieldTrees}
use Rattle.columns_core.specs.View.{SchemaTree}
use Rattle.schema_codec.specs.Parse.{both}
use Rattle.schema_codec.specs.Ranges.{IsMetadata, IsSchema, max_nesting}
use Rattle.schema_codec.specs.Reading.{metadata_at, fields_at, made_schema, schema_at, whole, plain_reads}
use Rattle.schema_codec.specs.Spelling.{metadata_bytes, plain_bytes}
use Rattle.schema_codec.specs.Laws.{IsReadAgain, IsSpelledSo, IsShallow}
use Rattle.schema_codec.specs.Proved.Formats.{are_bytes, Again, Takes, under_again, under_takes, both_again, both_takes}
use Rattle.schema_codec.specs.Proved.Parts.{metadata_again, metadata_takes}
use Rattle.schema_codec.specs.Proved.Types.{FieldsFit, all_bytes, fields_again, fields_takes}
use Rattle.schema_codec.specs.Proved.Tagged.{type_again, type_takes}

abbrev whole_bytes : FieldTrees × Meta → List ℕ
whole_bytes p = all_bytes p.0 ++ metadata_bytes p.1

abbrev WholeFits : FieldTrees × Meta → Type 0
WholeFits p = FieldsFit max_nesting p.0 × IsMetadata p.1

whole_again : Again (both (fields_at max_nesting) metadata_at) whole_bytes WholeFits
whole_again = both_again (fields_at max_nesting) all_bytes (FieldsFit max_nesting) metadata_at metadata_bytes IsMetadata (fields_again max_nesting _ (type_again max_nesting)) metadata_again

whole_takes : Takes (both (fields_at max_nesting) metadata_at) whole_bytes WholeFits
whole_takes = both_takes (fields_at max_nesting) all_bytes (FieldsFit max_nesting) metadata_at metadata_bytes IsMetadata (fields_takes max_nesting _ (type_takes max_nesting)) metadata_takes

schema_again : (s : SchemaTree) (rest : List ℕ) → IsSchema s → fields_nesting s.fields ≤ max_nesting → length (plain_bytes s) < 2 ^ 32 → schema_at (plain_bytes s ++ rest) ≡ Some (s, rest)
unfolding schema_at
schema_again s rest is nests small = under_again (both (fields_at max_nesting) metadata_at) whole_bytes WholeFits whole_again made_schema (s.fields, s.metadata) rest ((is.fields, nests), is.metadata) small

pub plain_again : IsReadAgain
unfolding plain_reads
plain_again s is nests small =
    let read : schema_at (plain_bytes s ++ []) ≡ Some (s, []) = schema_again s [] is nests (omega arith) in
    ap (λ (t : List ℕ). whole (schema_at t)) (sym (append-nil (plain_bytes s))) ∙ ap whole read

whole_is : (o : Option (SchemaTree × List ℕ)) (s : SchemaTree) → whole o ≡ Some s → o ≡ Some (s, [])
whole_is None s e = absurd cc
whole_is (Some (x, [])) s e =
    let same : x ≡ s = cc in
    ap (λ (y : SchemaTree). Some (y, [])) same
whole_is (Some (x, b ∷ rest)) s e = absurd cc

pub plain_takes : IsSpelledSo
unfolding plain_reads schema_at
plain_takes bytes s are e =
    let read : schema_at bytes ≡ Some (s, []) = whole_is (schema_at bytes) s e in
    let p = under_takes (both (fields_at max_nesting) metadata_at) whole_bytes WholeFits whole_takes made_schema bytes s [] (are_bytes bytes are) read in
    let same : bytes ≡ plain_bytes (made_schema p.0) = p.2.parts ∙ append-nil (whole_bytes p.0) in
    let is : IsSchema (made_schema p.0) = record { fields = p.2.fits.0.0; metadata = p.2.fits.1 } in
    subst (λ (t : SchemaTree). (bytes ≡ plain_bytes t) × IsSchema t × (fields_nesting t.fields ≤ max_nesting)) p.1 (same, is, p.2.fits.0.1)

pub plain_nests : IsShallow
plain_nests bytes s are e = (plain_takes bytes s are e).2
