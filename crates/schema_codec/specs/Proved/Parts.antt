-- What is written is read again, and what is read was written so: options, lists, units and metadata.
use Rattle.std.proofs.Common.{◌≡◌, ℕ, zero, suc, ℤ, ◌^◌, ◌<◌, ◌≤◌, Bool, true, false, cond, List, [], ◌∷◌, ◌++◌, length, flat_map, slice_get, Option, Some, None, IfSome, IsUtf8, FitsSigned, refl, sym, ap, subst, ◌∙◌, append_assoc, arith, Fits, of_z}
use Rattle.std.specs.List.{AllByRecursion}
use Rattle.std.specs.Int.{w32, cast_signed, cast_unsigned}
use Rattle.std.proofs.lemmas.List.{length-append}
use Rattle.std.proofs.Math.Facts.{sfits_to_z, of_z-to_z, to_z-of_z, Fits-of_z}
use Rattle.columns_core.specs.Meta.{Meta}
use Rattle.columns_core.specs.declared.types.TimeUnit.TheVariants.{Second, Millisecond, Microsecond, Nanosecond}
use Rattle.columns_core.specs.declared.types.IntervalUnit.TheVariants.{YearMonth, DayTime, MonthDayNano}
use Rattle.columns_core.specs.declared.types.IntegerType.TheVariants as keys
use Rattle.schema_codec.specs.Parse.{◌>>=◌, Parse, under, items_at}
use Rattle.schema_codec.specs.Ascending.{is_ascending, ascending_is, is_ascending-from}
use Rattle.schema_codec.specs.Ranges.{IsMetadata, AreIds}
use Rattle.schema_codec.specs.Reading.{count_at, id_at, truth_at, unit_at, interval_unit_at, key_type_at, text_at, optional_at, counted_at, entry_at, metadata_at, ids_at, optional_text_at}
use Rattle.schema_codec.specs.Spelling.{count_bytes, id_bytes, truth_bytes, text_bytes, optional_bytes, counted_bytes, entry_bytes, metadata_bytes, ids_bytes, optional_text_bytes}
use Rattle.schema_codec.specs.Tags.{units, unit_number, interval_units, interval_number, key_types, key_number}
use Rattle.schema_codec.specs.Proved.Formats.{AreBytes, bind_some, some_parts, passed, Again, Took, Takes, under_takes, both_again, both_takes, count_again, count_takes, count_length, text_again, text_takes, Anything, known_again, known_takes, truth_takes}

-- ---- options

abbrev pub IfThere : {A : Type 0} → (A → Type 0) → Option A → Type 0
IfThere F o = IfSome o F

pub optional_again : {A : Type 0} (one : Parse A) (spell : A → List ℕ) (F : A → Type 0) → Again one spell F → Again (optional_at one) (optional_bytes spell) (IfThere F)
unfolding truth_at
optional_again one spell F again None rest fits small = refl
optional_again one spell F again (Some x) rest fits small = rw (again x rest fits (omega arith)) refl

pub optional_takes : {A : Type 0} (one : Parse A) (spell : A → List ℕ) (F : A → Type 0) → Takes one spell F → Takes (optional_at one) (optional_bytes spell) (IfThere F)
optional_takes {A = A} one spell F takes bytes x rest are e = at b.0.0 b.0.1 (truth_takes bytes b.0.0 b.0.1 are b.1) b.2
  where
    b : (b : Bool × List ℕ) × (truth_at bytes ≡ Some b) × (cond b.0 (under Some one b.1) (Some (None, b.1)) ≡ Some (x, rest))
    b = bind_some (truth_at bytes) (λ b. cond b.0 (under Some one b.1) (Some (None, b.1))) (x, rest) e

    at : (there : Bool) (after : List ℕ) → Took (truth_bytes there) (Unit {0}) bytes after → cond there (under Some one after) (Some (None, after)) ≡ Some (x, rest) → Took (optional_bytes spell x) (IfThere F x) bytes rest
    at false after took e =
        let same = some_parts (None, after) (x, rest) e in
        let none : Took (optional_bytes spell None) (IfThere F None) bytes after = record { parts = took.parts; fits = tt; after = took.after } in
        subst (λ (y : Option A). Took (optional_bytes spell y) (IfThere F y) bytes rest) same.0 (subst (λ (r : List ℕ). Took (optional_bytes spell None) (IfThere F None) bytes r) same.1 none)
    at true after took e =
        let y = under_takes one spell F takes Some after x rest took.after e in
        let there : Took (optional_bytes spell (Some y.0)) (IfThere F (Some y.0)) bytes rest = record { parts = took.parts ∙ ap (λ (t : List ℕ). 1 ∷ t) y.2.parts; fits = y.2.fits; after = y.2.after } in
        subst (λ (z : Option A). Took (optional_bytes spell z) (IfThere F z) bytes rest) y.1 there

-- ---- lists

items_again : {A : Type 0} (one : Parse A) (spell : A → List ℕ) (F : A → Type 0) → Again one spell F → (xs : List A) (rest : List ℕ) → AllByRecursion F xs → length (flat_map spell xs) < 2 ^ 32
    → items_at one (length xs) (flat_map spell xs ++ rest) ≡ Some (xs, rest)
unfolding items_at
items_again one spell F again [] rest fits small = refl
items_again one spell F again (x ∷ xs) rest fits small =
    let sum = length-append (spell x) (flat_map spell xs) in
    let here : one (spell x ++ (flat_map spell xs ++ rest)) ≡ Some (x, flat_map spell xs ++ rest) = again x (flat_map spell xs ++ rest) fits.0 (omega (arith, sum)) in
    let there = items_again one spell F again xs rest fits.1 (omega (arith, sum)) in
    ap (items_at one (suc (length xs))) (append_assoc (spell x) (flat_map spell xs) rest) ∙ rw (here, there) refl

-- the list is as long as it was to be, and stands in front
abbrev TookItems : {A : Type 0} → (A → List ℕ) → (A → Type 0) → ℕ → List A → List ℕ → List ℕ → Type 0
TookItems spell F n xs bytes rest = (length xs ≡ n) × Took (flat_map spell xs) (AllByRecursion F xs) bytes rest

items_takes : {A : Type 0} (one : Parse A) (spell : A → List ℕ) (F : A → Type 0) → Takes one spell F → (n : ℕ) (bytes : List ℕ) (xs : List A) (rest : List ℕ) → AreBytes bytes → items_at one n bytes ≡ Some (xs, rest)
    → TookItems spell F n xs bytes rest
unfolding items_at
items_takes {A = A} one spell F takes zero bytes xs rest are e =
    let same = some_parts ([], bytes) (xs, rest) e in
    subst (λ (ys : List A). TookItems spell F 0 ys bytes rest) same.0 (refl, record { parts = same.1; fits = tt; after = subst AreBytes same.1 are })
items_takes {A = A} one spell F takes (suc n) bytes xs rest are e =
    let x = bind_some (one bytes) (λ x. items_at one n x.1 >>= λ ys. Some (x.0 ∷ ys.0, ys.1)) (xs, rest) e in
    let ys = bind_some (items_at one n x.0.1) (λ ys. Some (x.0.0 ∷ ys.0, ys.1)) (xs, rest) x.2 in
    let same = some_parts (x.0.0 ∷ ys.0.0, ys.0.1) (xs, rest) ys.2 in
    let here = takes bytes x.0.0 x.0.1 are x.1 in
    let there = items_takes one spell F takes n x.0.1 ys.0.0 ys.0.1 here.after ys.1 in
    let parts : bytes ≡ (spell x.0.0 ++ flat_map spell ys.0.0) ++ ys.0.1 =
    here.parts ∙ ap (λ (t : List ℕ). spell x.0.0 ++ t) there.1.parts ∙ sym (append_assoc (spell x.0.0) (flat_map spell ys.0.0) ys.0.1) in
    let took : TookItems spell F (suc n) (x.0.0 ∷ ys.0.0) bytes ys.0.1 = (ap suc there.0, record { parts = parts; fits = (here.fits, there.1.fits); after = there.1.after }) in
    subst (λ (zs : List A). TookItems spell F (suc n) zs bytes rest) same.0 (subst (λ (r : List ℕ). TookItems spell F (suc n) (x.0.0 ∷ ys.0.0) bytes r) same.1 took)

-- no more parts than bytes
no_more : {A : Type 0} (spell : A → List ℕ) → ((x : A) → 0 < length (spell x)) → (xs : List A) → length xs ≤ length (flat_map spell xs)
no_more spell filled [] = omega arith
no_more spell filled (x ∷ xs) = omega (arith, length-append (spell x) (flat_map spell xs), filled x, no_more spell filled xs)

pub counted_again : {A : Type 0} (one : Parse A) (spell : A → List ℕ) (F : A → Type 0) → ((x : A) → 0 < length (spell x)) → Again one spell F → Again (counted_at one) (counted_bytes spell) (AllByRecursion F)
counted_again one spell F filled again xs rest fits small =
    let sum = length-append (count_bytes (length xs)) (flat_map spell xs) in
    let few : length xs < 2 ^ 32 = omega (arith, sum, no_more spell filled xs) in
    ap (counted_at one) (append_assoc (count_bytes (length xs)) (flat_map spell xs) rest)
    ∙ rw (count_again (length xs) (flat_map spell xs ++ rest) few) (items_again one spell F again xs rest fits (omega (arith, sum)))

pub counted_takes : {A : Type 0} (one : Parse A) (spell : A → List ℕ) (F : A → Type 0) → Takes one spell F → Takes (counted_at one) (counted_bytes spell) (AllByRecursion F)
counted_takes one spell F takes bytes xs rest are e =
    let n = bind_some (count_at bytes) (λ n. items_at one n.0 n.1) (xs, rest) e in
    let counted = count_takes bytes n.0.0 n.0.1 are n.1 in
    let took = items_takes one spell F takes n.0.0 n.0.1 xs rest counted.after n.2 in
    let parts : bytes ≡ (count_bytes (length xs) ++ flat_map spell xs) ++ rest =
    counted.parts ∙ ap (λ (t : List ℕ). count_bytes n.0.0 ++ t) took.1.parts ∙ ap (λ (m : ℕ). count_bytes m ++ (flat_map spell xs ++ rest)) (sym took.0)
    ∙ sym (append_assoc (count_bytes (length xs)) (flat_map spell xs) rest) in
    record { parts = parts; fits = took.1.fits; after = took.1.after }

-- ---- units and types of keys

pub unit_again : Again unit_at (λ u. unit_number u ∷ []) Anything
unfolding unit_at
unit_again = known_again units unit_number there
  where
    there : (u : _) → slice_get units (unit_number u) ≡ Some u
    there Second = refl
    there Millisecond = refl
    there Microsecond = refl
    there Nanosecond = refl

pub unit_takes : Takes unit_at (λ u. unit_number u ∷ []) Anything
unfolding unit_at
unit_takes = known_takes units unit_number (refl, (refl, (refl, (refl, tt))))

pub interval_again : Again interval_unit_at (λ u. interval_number u ∷ []) Anything
unfolding interval_unit_at
interval_again = known_again interval_units interval_number there
  where
    there : (u : _) → slice_get interval_units (interval_number u) ≡ Some u
    there YearMonth = refl
    there DayTime = refl
    there MonthDayNano = refl

pub interval_takes : Takes interval_unit_at (λ u. interval_number u ∷ []) Anything
unfolding interval_unit_at
interval_takes = known_takes interval_units interval_number (refl, (refl, (refl, tt)))

pub key_again : Again key_type_at (λ k. key_number k ∷ []) Anything
unfolding key_type_at
key_again = known_again key_types key_number there
  where
    there : (k : _) → slice_get key_types (key_number k) ≡ Some k
    there keys.Int8 = refl
    there keys.Int16 = refl
    there keys.Int32 = refl
    there keys.Int64 = refl
    there keys.UInt8 = refl
    there keys.UInt16 = refl
    there keys.UInt32 = refl
    there keys.UInt64 = refl

pub key_takes : Takes key_type_at (λ k. key_number k ∷ []) Anything
unfolding key_type_at
key_takes = known_takes key_types key_number (refl, (refl, (refl, (refl, (refl, (refl, (refl, (refl, tt))))))))

-- ---- ids

id_again : Again id_at id_bytes (FitsSigned w32)
id_again z rest fits small =
    let low : Fits w32 (of_z w32 z) = Fits-of_z fits in
    rw (count_again (cast_unsigned w32 z) rest low.fits) (ap (λ (y : ℤ). Some (y, rest)) (to_z-of_z fits))

id_takes : Takes id_at id_bytes (FitsSigned w32)
id_takes bytes z rest are e =
    let n = under_takes count_at count_bytes (λ n. n < 2 ^ 32) count_takes (cast_signed w32) bytes z rest are e in
    let low : Fits w32 n.0 = record { fits = n.2.fits } in
    let bits : cast_unsigned w32 (cast_signed w32 n.0) ≡ n.0 = of_z-to_z low in
    let took : Took (id_bytes (cast_signed w32 n.0)) (FitsSigned w32 (cast_signed w32 n.0)) bytes rest =
    record { parts = n.2.parts ∙ ap (λ (m : ℕ). count_bytes m ++ rest) (sym bits); fits = sfits_to_z low; after = n.2.after } in
    subst (λ (y : ℤ). Took (id_bytes y) (FitsSigned w32 y) bytes rest) n.1 took

pub ids_again : Again ids_at ids_bytes (λ o. IfSome o AreIds)
unfolding ids_at
ids_again = optional_again (counted_at id_at) (counted_bytes id_bytes) AreIds (counted_again id_at id_bytes (FitsSigned w32) (λ z. omega (arith, count_length (cast_unsigned w32 z))) id_again)

pub ids_takes : Takes ids_at ids_bytes (λ o. IfSome o AreIds)
unfolding ids_at
ids_takes = optional_takes (counted_at id_at) (counted_bytes id_bytes) AreIds (counted_takes id_at id_bytes (FitsSigned w32) id_takes)

pub optional_text_again : Again optional_text_at optional_text_bytes (λ o. IfSome o IsUtf8)
unfolding optional_text_at
optional_text_again = optional_again text_at text_bytes IsUtf8 text_again

pub optional_text_takes : Takes optional_text_at optional_text_bytes (λ o. IfSome o IsUtf8)
unfolding optional_text_at
optional_text_takes = optional_takes text_at text_bytes IsUtf8 text_takes

-- ---- metadata

abbrev AreTexts : List ℕ × List ℕ → Type 0
AreTexts e = IsUtf8 e.0 × IsUtf8 e.1

entry_filled : (e : List ℕ × List ℕ) → 0 < length (entry_bytes e)
entry_filled e = omega (arith, length-append (text_bytes e.0) (text_bytes e.1), length-append (count_bytes (length e.0)) e.0, count_length (length e.0))

pub metadata_again : Again metadata_at metadata_bytes IsMetadata
unfolding metadata_at
metadata_again m rest fits small =
    let all = counted_again entry_at entry_bytes AreTexts entry_filled (both_again text_at text_bytes IsUtf8 text_at text_bytes IsUtf8 text_again text_again) m rest fits.texts small in
    let test : is_ascending m ≡ true = is_ascending-from m fits.ascends in
    rw (all, test) refl

pub metadata_takes : Takes metadata_at metadata_bytes IsMetadata
unfolding metadata_at
metadata_takes bytes m rest are e =
    let x = bind_some (counted_at entry_at bytes) (λ m. cond (is_ascending m.0) (Some m) None) (m, rest) e in
    let g = passed (is_ascending x.0.0) x.0 (m, rest) x.2 in
    let same : x.0.0 ≡ m = ap (λ (q : Meta × List ℕ). q.0) g.1 in
    let behind : x.0.1 ≡ rest = ap (λ (q : Meta × List ℕ). q.1) g.1 in
    let took = counted_takes entry_at entry_bytes AreTexts (both_takes text_at text_bytes IsUtf8 text_at text_bytes IsUtf8 text_takes text_takes) bytes x.0.0 x.0.1 are x.1 in
    let whole : Took (metadata_bytes x.0.0) (IsMetadata x.0.0) bytes x.0.1 = record { parts = took.parts; fits = record { texts = took.fits; ascends = ascending_is x.0.0 g.0 }; after = took.after } in
    subst (λ (n : Meta). Took (metadata_bytes n) (IsMetadata n) bytes rest) same (subst (λ (r : List ℕ). Took (metadata_bytes x.0.0) (IsMetadata x.0.0) bytes r) behind whole)
