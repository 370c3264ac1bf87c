-- What is written is read again, and what is read was written so: types, fields and schemas.
use Rattle.std.proofs.Common.{◌≡◌, ℕ, suc, ◌^◌, ◌<◌, ◌≤◌, Bool, List, [], ◌∷◌, ◌++◌, length, flat_map, Some, IsUtf8, refl, sym, ap, subst, ◌∙◌, arith}
use Rattle.std.specs.List.{AllByRecursion}
use Rattle.std.proofs.lemmas.List.{length-append}
use Rattle.columns_core.specs.Meta.{Meta}
use Rattle.columns_core.specs.Measures.{nesting, field_nesting, fields_nesting}
use Rattle.columns_core.specs.Tree.{TypeTree, FieldTree, field, FieldTrees, no_fields, more_fields}
use Rattle.columns_core.specs.View.{fields_of}
use Rattle.schema_codec.specs.Parse.{Parse, both}
use Rattle.schema_codec.specs.Ranges.{IsMetadata, HasRanges, FieldHasRanges, FieldsHaveRanges}
use Rattle.schema_codec.specs.Reading.{truth_at, text_at, counted_at, metadata_at, made_field, field_with, fields_with}
use Rattle.schema_codec.specs.Spelling.{count_bytes, truth_bytes, text_bytes, counted_bytes, metadata_bytes, count, type_bytes, field_bytes, fields_bytes}
use Rattle.schema_codec.specs.Proved.Formats.{Again, Took, Takes, under_again, under_takes, both_again, both_takes, count_length, text_again, text_takes, Anything, truth_again, truth_takes}
use Rattle.schema_codec.specs.Proved.Parts.{counted_again, counted_takes, metadata_again, metadata_takes}

-- ---- fields, given types

-- a type that has its ranges and nests to at most the number
abbrev pub Fit : ℕ → TypeTree → Type 0
Fit d t = HasRanges t × (nesting t ≤ d)

abbrev pub FieldFit : ℕ → FieldTree → Type 0
FieldFit d f = FieldHasRanges f × (field_nesting f ≤ d)

abbrev pub FieldsFit : ℕ → FieldTrees → Type 0
FieldsFit d fs = FieldsHaveRanges fs × (fields_nesting fs ≤ d)

abbrev parts_of : FieldTree → List ℕ × (Bool × (TypeTree × Meta))
parts_of (field name type nullable metadata) = (name, (nullable, (type, metadata)))

abbrev PartsFit : ℕ → List ℕ × (Bool × (TypeTree × Meta)) → Type 0
PartsFit d p = IsUtf8 p.0 × (Anything p.1.0 × (Fit d p.1.1.0 × IsMetadata p.1.1.1))

abbrev parts_bytes : List ℕ × (Bool × (TypeTree × Meta)) → List ℕ
parts_bytes p = text_bytes p.0 ++ (truth_bytes p.1.0 ++ (type_bytes p.1.1.0 ++ metadata_bytes p.1.1.1))

parts_again : (d : ℕ) (one : Parse TypeTree) → Again one type_bytes (Fit d) → Again (both text_at (both truth_at (both one metadata_at))) parts_bytes (PartsFit d)
parts_again d one again =
    both_again text_at text_bytes IsUtf8 (both truth_at (both one metadata_at)) (λ p. truth_bytes p.0 ++ (type_bytes p.1.0 ++ metadata_bytes p.1.1)) (λ p. Anything p.0 × (Fit d p.1.0 × IsMetadata p.1.1)) text_again
    (both_again truth_at truth_bytes Anything (both one metadata_at) (λ p. type_bytes p.0 ++ metadata_bytes p.1) (λ p. Fit d p.0 × IsMetadata p.1) truth_again
    (both_again one type_bytes (Fit d) metadata_at metadata_bytes IsMetadata again metadata_again))

parts_takes : (d : ℕ) (one : Parse TypeTree) → Takes one type_bytes (Fit d) → Takes (both text_at (both truth_at (both one metadata_at))) parts_bytes (PartsFit d)
parts_takes d one takes =
    both_takes text_at text_bytes IsUtf8 (both truth_at (both one metadata_at)) (λ p. truth_bytes p.0 ++ (type_bytes p.1.0 ++ metadata_bytes p.1.1)) (λ p. Anything p.0 × (Fit d p.1.0 × IsMetadata p.1.1)) text_takes
    (both_takes truth_at truth_bytes Anything (both one metadata_at) (λ p. type_bytes p.0 ++ metadata_bytes p.1) (λ p. Fit d p.0 × IsMetadata p.1) truth_takes
    (both_takes one type_bytes (Fit d) metadata_at metadata_bytes IsMetadata takes metadata_takes))

pub field_again : (d : ℕ) (one : Parse TypeTree) → Again one type_bytes (Fit d) → Again (field_with one) field_bytes (FieldFit d)
unfolding field_with
field_again d one again (field name type nullable metadata) rest fits small =
    under_again (both text_at (both truth_at (both one metadata_at))) parts_bytes (PartsFit d) (parts_again d one again) made_field (name, (nullable, (type, metadata))) rest
    (fits.0.0, (tt, ((fits.0.1, fits.1), fits.0.2))) small

pub field_takes : (d : ℕ) (one : Parse TypeTree) → Takes one type_bytes (Fit d) → Takes (field_with one) field_bytes (FieldFit d)
unfolding field_with
field_takes d one takes bytes f rest are e =
    let p = under_takes (both text_at (both truth_at (both one metadata_at))) parts_bytes (PartsFit d) (parts_takes d one takes) made_field bytes f rest are e in
    let h = p.2.fits in
    let took : Took (field_bytes (made_field p.0)) (FieldFit d (made_field p.0)) bytes rest =
    record { parts = p.2.parts; fits = ((h.0, h.1.1.0.0, h.1.1.1), h.1.1.0.1); after = p.2.after } in
    subst (λ (g : FieldTree). Took (field_bytes g) (FieldFit d g) bytes rest) p.1 took

-- ---- lists of fields

abbrev list_of : FieldTrees → List FieldTree
list_of no_fields = []
list_of (more_fields f fs) = f ∷ list_of fs

fields_of-list_of : (fs : FieldTrees) → fields_of (list_of fs) ≡ fs
fields_of-list_of no_fields = refl
fields_of-list_of (more_fields f fs) = ap (more_fields f) (fields_of-list_of fs)

length-list_of : (fs : FieldTrees) → length (list_of fs) ≡ count fs
length-list_of no_fields = refl
length-list_of (more_fields f fs) = ap suc (length-list_of fs)

bytes_of_list : (fs : FieldTrees) → flat_map field_bytes (list_of fs) ≡ fields_bytes fs
bytes_of_list no_fields = refl
bytes_of_list (more_fields f fs) = ap (λ (t : List ℕ). field_bytes f ++ t) (bytes_of_list fs)

all_fit : (d : ℕ) (fs : FieldTrees) → FieldsFit d fs → AllByRecursion (FieldFit d) (list_of fs)
all_fit d no_fields fits = tt
all_fit d (more_fields f fs) fits = ((fits.0.0, omega arith), all_fit d fs (fits.0.1, omega arith))

count-fields_of : (fs : List FieldTree) → length fs ≡ count (fields_of fs)
count-fields_of [] = refl
count-fields_of (f ∷ fs) = ap suc (count-fields_of fs)

bytes_of_fields : (fs : List FieldTree) → flat_map field_bytes fs ≡ fields_bytes (fields_of fs)
bytes_of_fields [] = refl
bytes_of_fields (f ∷ fs) = ap (λ (t : List ℕ). field_bytes f ++ t) (bytes_of_fields fs)

they_fit : (d : ℕ) (fs : List FieldTree) → AllByRecursion (FieldFit d) fs → FieldsFit d (fields_of fs)
they_fit d [] fits = (tt, omega arith)
they_fit d (f ∷ fs) fits =
    let more = they_fit d fs fits.1 in
    ((fits.0.0, more.0), omega (arith, fits.0.1, more.1))

field_filled : (f : FieldTree) → 0 < length (field_bytes f)
field_filled (field name type nullable metadata) =
    omega (arith, length-append (text_bytes name) (truth_bytes nullable ++ (type_bytes type ++ metadata_bytes metadata)), length-append (count_bytes (length name)) name, count_length (length name))

abbrev pub all_bytes : FieldTrees → List ℕ
all_bytes fs = count_bytes (count fs) ++ fields_bytes fs

pub fields_again : (d : ℕ) (one : Parse TypeTree) → Again one type_bytes (Fit d) → Again (fields_with one) all_bytes (FieldsFit d)
unfolding fields_with
fields_again d one again fs rest fits small =
    let xs = list_of fs in
    let same : counted_bytes field_bytes xs ≡ all_bytes fs =
    ap (λ (n : ℕ). count_bytes n ++ flat_map field_bytes xs) (length-list_of fs) ∙ ap (λ (t : List ℕ). count_bytes (count fs) ++ t) (bytes_of_list fs) in
    let short : length (counted_bytes field_bytes xs) < 2 ^ 32 = omega (arith, ap length same) in
    let read = under_again (counted_at (field_with one)) (counted_bytes field_bytes) (AllByRecursion (FieldFit d)) (counted_again (field_with one) field_bytes (FieldFit d) field_filled (field_again d one again)) fields_of xs rest (all_fit d fs fits) short in
    ap (λ (t : List ℕ). fields_with one (t ++ rest)) (sym same) ∙ read ∙ ap (λ (gs : FieldTrees). Some (gs, rest)) (fields_of-list_of fs)

pub fields_takes : (d : ℕ) (one : Parse TypeTree) → Takes one type_bytes (Fit d) → Takes (fields_with one) all_bytes (FieldsFit d)
unfolding fields_with
fields_takes d one takes bytes fs rest are e =
    let x = under_takes (counted_at (field_with one)) (counted_bytes field_bytes) (AllByRecursion (FieldFit d)) (counted_takes (field_with one) field_bytes (FieldFit d) (field_takes d one takes)) fields_of bytes fs rest are e in
    let xs = x.0 in
    let same : counted_bytes field_bytes xs ≡ all_bytes (fields_of xs) =
    ap (λ (n : ℕ). count_bytes n ++ flat_map field_bytes xs) (count-fields_of xs) ∙ ap (λ (t : List ℕ). count_bytes (count (fields_of xs)) ++ t) (bytes_of_fields xs) in
    let took : Took (all_bytes (fields_of xs)) (FieldsFit d (fields_of xs)) bytes rest =
    record { parts = x.2.parts ∙ ap (λ (t : List ℕ). t ++ rest) same; fits = they_fit d xs x.2.fits; after = x.2.after } in
    subst (λ (gs : FieldTrees). Took (all_bytes gs) (FieldsFit d gs) bytes rest) x.1 took
