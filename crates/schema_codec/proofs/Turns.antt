-- Single turns of reading and writing.
use Rattle.std.proofs.Common.{◌≡◌, ℕ, zero, suc, ◌-◌, ◌<◌, Bool, true, false, List, [], ◌∷◌, length, drop, ◌++◌, ◌≤◌, String, Global, string_bytes, Option, IsUtf8, refl, sym, ap, subst, ◌∙◌, append_assoc, arith}
use Rattle.std.specs.Str.{is_utf8}
use Rattle.std.proofs.lemmas.Str.{is_utf8-from_IsUtf8, IsUtf8-from_is_utf8}
use Rattle.columns_core.specs.declared.types.Field.{Field}
use Rattle.std.proofs.lemmas.List.{length-drop}
use Rattle.columns_core.specs.Meta.{Meta, KeysAscend, with_text, texts}
use Rattle.schema_codec.specs.Ascending.{is_ascending, appended}
use Rattle.columns_core.specs.View.{fields_view}
use Rattle.schema_codec.specs.declared.fault.Refusal.{Refusal}
use Rattle.schema_codec.specs.declared.fault.Refusal.TheVariants as refusals
use Rattle.schema_codec.specs.Parse.{◌>>=◌, Fails}
use Rattle.schema_codec.specs.Reading.{type_at, tag_at, parts_with}
use Rattle.schema_codec.specs.Spelling.{count}

pub type_at-below : (d : ℕ) (bytes : List ℕ) → 0 < d → type_at d bytes ≡ (tag_at bytes >>= λ tag. parts_with (type_at (d - 1)) tag.0 tag.1)
unfolding type_at
type_at-below zero bytes h = absurd (omega arith)
type_at-below (suc d) bytes h =
    let same : suc d - 1 ≡ d = omega arith in
    rw same refl

pub bind_fails : {A B : Type 0} (e : Refusal) (r : Option A) (f : A → Option B) → Fails e r → Fails e (r >>= f)
bind_fails refusals.Memory r f h = tt
bind_fails refusals.Unreadable r f h = rw h refl

-- the test of UTF-8, either way
pub valid_text : (bytes : List ℕ) → IsUtf8 bytes → is_utf8 bytes ≡ true
valid_text = is_utf8-from_IsUtf8

pub invalid_text : (bytes : List ℕ) → (IsUtf8 bytes → ⊥) → is_utf8 bytes ≡ false
invalid_text bytes h = no (is_utf8 bytes) (λ e. h (IsUtf8-from_is_utf8 bytes e))
  where
    no : (b : Bool) → (b ≡ true → ⊥) → b ≡ false
    no true f = absurd (f refl)
    no false f = refl

pub count_is : (fs : List Field) → count (fields_view fs) ≡ length fs
count_is [] = refl
count_is (f ∷ fs) = ap suc (count_is fs)

abbrev pub Entry : Type 0
Entry = String Global × String Global

pub texts_more : (es : List Entry) (e : Entry) → texts (es ++ e ∷ []) ≡ texts es ++ (string_bytes e.0, string_bytes e.1) ∷ []
texts_more [] e = refl
texts_more (f ∷ es) e = ap (λ (m : List (List ℕ × List ℕ)). (string_bytes f.0, string_bytes f.1) ∷ m) (texts_more es e)

one_ascends : (es : List Entry) → length es ≤ 1 → is_ascending (texts es) ≡ true
one_ascends [] h = refl
one_ascends (e ∷ []) h = refl
one_ascends (e ∷ f ∷ es) h = absurd (omega arith)

-- at most the last one is left
pub last_ascends : (es : List Entry) (i : ℕ) → length es ≤ i → is_ascending (texts (drop (i - 1) es)) ≡ true
last_ascends es i h = one_ascends (drop (i - 1) es) (omega (arith, length-drop (i - 1) es))

-- the next of entries whose keys ascend goes behind those before it
pub put_last : (before after : Meta) (e : Entry) (done old new all : List Entry) → KeysAscend (texts all) → old ≡ e ∷ new → after ≡ with_text (string_bytes e.0) (string_bytes e.1) before → before ≡ texts done → before ++ texts old ≡ texts all
    → (after ≡ texts (done ++ e ∷ [])) × (after ++ texts new ≡ texts all)
put_last before after e done old new all ascend step put same so_far =
    let entry : List ℕ × List ℕ = (string_bytes e.0, string_bytes e.1) in
    let whole : before ++ entry ∷ texts new ≡ texts all = ap (λ (es : List Entry). before ++ texts es) (sym step) ∙ so_far in
    let last : after ≡ before ++ entry ∷ [] = put ∙ appended before entry.0 entry.1 (texts new) (subst KeysAscend (sym whole) ascend) in
    (last ∙ ap (λ (m : Meta). m ++ entry ∷ []) same ∙ sym (texts_more done e), ap (λ (m : Meta). m ++ texts new) last ∙ append_assoc before (entry ∷ []) (texts new) ∙ whole)
