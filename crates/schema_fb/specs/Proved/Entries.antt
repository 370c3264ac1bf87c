-- Metadata that was written is read again, and the two entries of an extension are found in it.
use Rattle.std.proofs.Common.{◌≡◌, ℕ, zero, suc, ◌+◌, ◌-◌, ◌≤◌, ◌<◌, Bool, true, false, ◌||◌, ◌&&◌, ltb, get_or, List, [], ◌∷◌, ◌++◌, length, Option, Some, None, is_some, IfSome, IsUtf8, refl, sym, ap, subst, ◌∙◌, append_assoc, append-nil, arith}
use Rattle.std.specs.List.{AllByRecursion}
use Rattle.std.specs.Ordering.{is_eq, nat_cmp}
use Rattle.std.specs.Cmp.Lexicographic.{slice_cmp, nat_list_cmp_total}
use Rattle.std.specs.declared.cmp.Ordering.{Ordering}
use Rattle.std.specs.declared.cmp.Ordering.TheVariants.{Less}
use Rattle.std.proofs.lemmas.Bool.{le-ltb, ltb-true}
use Rattle.std.proofs.lemmas.List.{length-append}
use Rattle.std.proofs.lemmas.Str.{IsUtf8-from_ascii}
use Rattle.columns_core.specs.Meta.{Meta, KeysAscend, text_at as text_under, with_text, without_key}
use Rattle.columns_core.specs.Tree.{TypeTree, t_extension}
use Rattle.schema_codec.specs.Ascending.{appended}
use Rattle.schema_codec.specs.Ranges.{IsMetadata, HasRanges, max_length}
use Rattle.schema_fb.specs.Extensions.{name_key, metadata_key, holds_key, with_optional, carried}
use Rattle.schema_fb.specs.Layout.{below, Cells, no_cells, more_cells, text, vector, table, count, object_bytes, objects_bytes, below_bytes, front, table_size}
use Rattle.schema_fb.specs.Places.{word_at, follow, Table, table_at, slot, spend, text_in, optional_text_in, items_at, items_in}
use Rattle.schema_fb.specs.Reading.{entry_at, put_all, metadata_in}
use Rattle.schema_fb.specs.Tables.{two, key_value, key_values, custom_metadata}
use Rattle.schema_fb.specs.Proved.Keyed.{found, passed_by, taken_out, taken_behind, not_there, comes_after, still_ascends, still_all}
use Rattle.schema_fb.specs.Proved.Standing.{At, Lead, InSlots, text_stands, vector_stands, table_stands, text_size, vector_size, table_length}

-- ---- texts in slots

pub follows : (b : List ℕ) (place start : ℕ) → follow b place ≡ Some (start + 0) → follow b place ≡ Some start
follows b place start e = e ∙ ap (λ (n : ℕ). Some n) (let none : start + 0 ≡ start = omega arith in none)

pub text_in_slot : (b : List ℕ) (t : Table) (i start left : ℕ) (s : List ℕ) (cs : Cells) → length b ≤ max_length → IsUtf8 s → length s ≤ left → InSlots b t i start (more_cells (below (text s)) cs)
    → text_in b t i left ≡ Some (s, left - length s)
text_in_slot b t i start left s cs bound valid enough stands =
    rw (stands.1, follows b stands.0 start stands.2) (text_stands b start left s bound valid enough stands.3)

pub optional_text_in_slot : (b : List ℕ) (t : Table) (i start left : ℕ) (s : List ℕ) (cs : Cells) → length b ≤ max_length → IsUtf8 s → length s ≤ left → InSlots b t i start (more_cells (below (text s)) cs)
    → optional_text_in b t i left ≡ Some (Some s, left - length s)
optional_text_in_slot b t i start left s cs bound valid enough stands =
    rw (stands.1, follows b stands.0 start stands.2, text_stands b start left s bound valid enough stands.3) refl

-- ---- entries

abbrev pub Entry : Type 0
Entry = List ℕ × List ℕ

pub spend_is : (n left : ℕ) → n ≤ left → spend n left ≡ Some (left - n)
spend_is n left enough =
    let room : ltb left n ≡ false = le-ltb _ _ enough in
    rw room refl

abbrev entry_cells : Entry → Cells
entry_cells e = two (below (text e.0)) (below (text e.1))

entry_size : (e : Entry) → length e.0 + length e.1 + 1 ≤ length (object_bytes (key_value e))
entry_size e =
    let first = object_bytes (text e.0) in
    let second = object_bytes (text e.1) in
    omega (arith, table_length (entry_cells e), length-append first (second ++ []), length-append second [], text_size e.0, text_size e.1)

entry_is : (b : List ℕ) (place left : ℕ) (t : Table) (key value : List ℕ) → length key + length value + 1 ≤ left → table_at b place ≡ Some t
    → text_in b t 0 (left - 1) ≡ Some (key, left - 1 - length key) → text_in b t 1 (left - 1 - length key) ≡ Some (value, left - 1 - length key - length value)
    → entry_at b place left ≡ Some ((key, value), left - 1 - length key - length value)
unfolding entry_at
entry_is b place left t key value enough is first second = rw (is, spend_is 1 left (omega arith), first, second) refl

entry_stands : (b : List ℕ) (p left : ℕ) (e : Entry) → length b ≤ max_length → IsUtf8 e.0 × IsUtf8 e.1 → At b p (key_value e) → length (object_bytes (key_value e)) ≤ left
    → entry_at b (p + front (key_value e)) left ≡ Some (e, left - 1 - length e.0 - length e.1)
entry_stands b p left e bound valid at enough =
    let cells = entry_cells e in
    let size = entry_size e in
    let t = table_stands b p cells bound (omega arith) at in
    let start = p + front (table cells) + table_size cells in
    let first = text_in_slot b t.0 0 start (left - 1) e.0 (more_cells (below (text e.1)) no_cells) bound valid.0 (omega arith) t.2 in
    let second = text_in_slot b t.0 1 (start + length (object_bytes (text e.0))) (left - 1 - length e.0) e.1 no_cells bound valid.1 (omega arith) t.2.4 in
    entry_is b (p + front (key_value e)) left t.0 e.0 e.1 (omega arith) t.1 first second

-- what is read, and how much of what may still be read is left: at most so much less
abbrev pub Reads : {A : Type 0} → Option (A × ℕ) → A → ℕ → ℕ → Type 0
Reads read x left cost = (rest : ℕ) × (read ≡ Some (x, rest)) × (left ≤ rest + cost)

pub items_none : {A : Type 0} (one : ℕ → ℕ → Option (A × ℕ)) (b : List ℕ) (place left : ℕ) → items_at one b 0 place left ≡ Some ([], left)
unfolding items_at
items_none one b place left = refl

pub items_more : {A : Type 0} (one : ℕ → ℕ → Option (A × ℕ)) (b : List ℕ) (n place left there : ℕ) (x : A) (xs : List A) (rest last : ℕ) → follow b place ≡ Some there → one there left ≡ Some (x, rest)
    → items_at one b n (place + 4) rest ≡ Some (xs, last) → items_at one b (suc n) place left ≡ Some (x ∷ xs, last)
unfolding items_at
items_more one b n place left there x xs rest last leads first others = rw (leads, first, others) refl

entries_read : (b : List ℕ) (place start left : ℕ) (m : Meta) → length b ≤ max_length → AllByRecursion (λ e. IsUtf8 e.0 × IsUtf8 e.1) m → Lead b place start (key_values m) → length (objects_bytes (key_values m)) ≤ left
    → Reads (items_at (entry_at b) b (count (key_values m)) place left) m left (length (objects_bytes (key_values m)))
entries_read b place start left [] bound valid lead enough = (left, items_none (entry_at b) b place left, omega arith)
entries_read b place start left (e ∷ es) bound valid lead enough =
    let size = length (object_bytes (key_value e)) in
    let sum = length-append (object_bytes (key_value e)) (objects_bytes (key_values es)) in
    let least = entry_size e in
    let rest = left - 1 - length e.0 - length e.1 in
    let first = entry_stands b start left e bound valid.0 lead.1 (omega arith) in
    let others = entries_read b (place + 4) (start + size) rest es bound valid.1 lead.2 (omega arith) in
    (others.0, items_more (entry_at b) b (count (key_values es)) place left (start + front (key_value e)) e es rest others.0 lead.0 first others.1, omega (arith, others.2))

-- entries whose keys ascend, put one after the other, are themselves
pub put_on : (front rest : Meta) → KeysAscend (front ++ rest) → put_all front rest ≡ front ++ rest
put_on front [] ascends = sym (append-nil front)
put_on front (e ∷ rest) ascends =
    let again : (front ++ e ∷ []) ++ rest ≡ front ++ e ∷ rest = append_assoc front (e ∷ []) rest in
    ap (λ (m : Meta). put_all m rest) (appended front e.0 e.1 rest ascends) ∙ put_on (front ++ e ∷ []) rest (subst KeysAscend (sym again) ascends) ∙ again

-- ---- metadata

metadata_none : (b : List ℕ) (t : Table) (i left : ℕ) → slot b t i ≡ None → metadata_in b t i left ≡ Some ([], left)
unfolding metadata_in items_in
metadata_none b t i left none = rw none refl

metadata_is : (b : List ℕ) (t : Table) (i place start n left rest : ℕ) (m : Meta) → slot b t i ≡ Some place → follow b place ≡ Some start → word_at b start ≡ Some n
    → items_at (entry_at b) b n (start + 4) left ≡ Some (m, rest) → put_all [] m ≡ m → metadata_in b t i left ≡ Some (m, rest)
unfolding metadata_in items_in
metadata_is b t i place start n left rest m there leads counted items whole = rw (there, leads, counted, items) (ap (λ (k : Meta). Some (k, rest)) whole)

filled_stands : (b : List ℕ) (t : Table) (i start left : ℕ) (m : Meta) (cs : Cells) → length b ≤ max_length → IsMetadata m → InSlots b t i start (more_cells (below (vector (key_values m))) cs)
    → length (object_bytes (vector (key_values m))) ≤ left → Reads (metadata_in b t i left) m left (length (object_bytes (vector (key_values m))))
filled_stands b t i start left m cs bound is stands enough =
    let os = key_values m in
    let size = vector_size os in
    let vec = vector_stands b start os bound stands.3 in
    let items = entries_read b (start + 4) _ left m bound is.texts vec.1 (omega arith) in
    (items.0, metadata_is b t i stands.0 start (count os) left items.0 m stands.1 (follows b stands.0 start stands.2) vec.0 items.1 (put_on [] m is.ascends), omega (arith, items.2))

pub metadata_stands : (b : List ℕ) (t : Table) (i start left : ℕ) (m : Meta) (cs : Cells) → length b ≤ max_length → IsMetadata m → InSlots b t i start (more_cells (custom_metadata m) cs)
    → length (below_bytes (more_cells (custom_metadata m) no_cells)) ≤ left
    → (rest : ℕ) × (metadata_in b t i left ≡ Some (m, rest)) × (left ≤ rest + length (below_bytes (more_cells (custom_metadata m) no_cells)))
metadata_stands b t i start left [] cs bound is stands enough = (left, metadata_none b t i left stands.0, omega arith)
metadata_stands b t i start left (e ∷ es) cs bound is stands enough =
    let o = vector (key_values (e ∷ es)) in
    let same = length-append (object_bytes o) [] in
    let filled = filled_stands b t i start left (e ∷ es) cs bound is stands (omega arith) in
    (filled.0, filled.1, omega (arith, filled.2))

-- ---- the entries of an extension

neither : {A : Type 0} (x y : Option A) → (is_some x || is_some y) ≡ false → (x ≡ None) × (y ≡ None)
neither None None e = (refl, refl)
neither None (Some y) e = absurd cc
neither (Some x) y e = absurd cc

pub no_name : (m : Meta) → holds_key m ≡ false → text_under name_key m ≡ None
no_name m e = (neither (text_under name_key m) (text_under metadata_key m) e).0

no_text : (m : Meta) → holds_key m ≡ false → text_under metadata_key m ≡ None
no_text m e = (neither (text_under name_key m) (text_under metadata_key m) e).1

-- what is put into metadata under two keys is found there, and taken out it leaves what was there
abbrev PutTwo : List ℕ → List ℕ → List ℕ → Option (List ℕ) → Meta → Meta → Type 0
PutTwo j k name content put m = (text_under j put ≡ Some name) × (text_under k put ≡ content) × (without_key k (without_key j put) ≡ m)

abbrev order : List ℕ → List ℕ → Ordering
order = slice_cmp nat_cmp

put_one : (j k name : List ℕ) (m : Meta) → order k j ≡ Less → text_under j m ≡ None → text_under k m ≡ None → PutTwo j k name None (with_text j name m) m
put_one j k name m first no_j no_k = (
  found order nat_list_cmp_total j name m,
  passed_by order nat_list_cmp_total k j name m (ap is_eq first) ∙ no_k,
  ap (without_key k) (taken_out order nat_list_cmp_total j name m no_j) ∙ not_there order k m no_k,
)

put_both : (j k name content : List ℕ) (m : Meta) → order k j ≡ Less → text_under j m ≡ None → text_under k m ≡ None → PutTwo j k name (Some content) (with_text k content (with_text j name m)) m
put_both j k name content m first no_j no_k = (
  passed_by order nat_list_cmp_total j k content (with_text j name m) (ap is_eq (comes_after order nat_list_cmp_total k j first)) ∙ found order nat_list_cmp_total j name m,
  found order nat_list_cmp_total k content (with_text j name m),
  ap (without_key k) (taken_behind order nat_list_cmp_total j k name content m first no_j) ∙ taken_out order nat_list_cmp_total k content m no_k,
)

metadata_first : order metadata_key name_key ≡ Less
metadata_first = refl

pub carried_is : (name : List ℕ) (inner : TypeTree) (content : Option (List ℕ)) (m : Meta) → KeysAscend m → holds_key m ≡ false
    → (text_under name_key (carried (t_extension name inner content) m) ≡ Some name) × (text_under metadata_key (carried (t_extension name inner content) m) ≡ content)
    × (without_key metadata_key (without_key name_key (carried (t_extension name inner content) m)) ≡ m)
carried_is name inner None m ascends free = put_one name_key metadata_key name m metadata_first (no_name m free) (no_text m free)
carried_is name inner (Some content) m ascends free = put_both name_key metadata_key name content m metadata_first (no_name m free) (no_text m free)

put_is : (key content : List ℕ) (m : Meta) → IsUtf8 key → IsUtf8 content → IsMetadata m → IsMetadata (with_text key content m)
put_is key content m k t is = record {
  texts = still_all order IsUtf8 IsUtf8 key content m k t is.texts;
  ascends = still_ascends order nat_list_cmp_total key content m is.ascends;
}

abbrev are_low : List ℕ → Bool
are_low [] = true
are_low (x ∷ xs) = ltb x 128 && are_low xs

both_true : (x y : Bool) → (x && y) ≡ true → (x ≡ true) × (y ≡ true)
both_true true y e = (refl, e)
both_true false y e = absurd cc

ascii : (xs : List ℕ) → are_low xs ≡ true → (i : ℕ) → get_or xs i 0 < 128
ascii [] e i = omega arith
ascii (x ∷ xs) e zero = ltb-true x 128 (both_true (ltb x 128) (are_low xs) e).0
ascii (x ∷ xs) e (suc i) = ascii xs (both_true (ltb x 128) (are_low xs) e).1 i

name_is_text : IsUtf8 name_key
name_is_text = IsUtf8-from_ascii name_key (ascii name_key refl)

metadata_is_text : IsUtf8 metadata_key
metadata_is_text = IsUtf8-from_ascii metadata_key (ascii metadata_key refl)

extension_is : (name : List ℕ) (content : Option (List ℕ)) (m : Meta) → IsUtf8 name → IfSome content IsUtf8 → IsMetadata m → IsMetadata (with_optional content (with_text name_key name m))
extension_is name None m valid none is = put_is name_key name m name_is_text valid is
extension_is name (Some content) m valid also is = put_is metadata_key content (with_text name_key name m) metadata_is_text also (put_is name_key name m name_is_text valid is)

pub carried_is_metadata : (t : TypeTree) (m : Meta) → HasRanges t → IsMetadata m → IsMetadata (carried t m)
carried_is_metadata (t_extension name inner content) m fits is = extension_is name content m fits.0 fits.2 is
carried_is_metadata _ m fits is = is
