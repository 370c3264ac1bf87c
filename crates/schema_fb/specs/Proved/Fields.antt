-- A field's object is read as the field.
use Rattle.std.proofs.Common.{◌≡◌, ℕ, zero, suc, ◌+◌, ◌-◌, ◌<◌, ◌≤◌, Bool, true, false, cond, not, ltb, List, length, Option, Some, None, IsUtf8, refl, sym, ap, subst, ◌∙◌, arith}
use Rattle.std.proofs.lemmas.Bool.{le-ltb}
use Rattle.std.proofs.lemmas.List.{length-append}
use Rattle.columns_core.specs.declared.types.IntegerType.{IntegerType}
use Rattle.columns_core.specs.Measures.{field_nesting}
use Rattle.columns_core.specs.Meta.{Meta, KeysAscend, text_at as text_under, without_key}
use Rattle.columns_core.specs.Tree.{TypeTree, t_dictionary, t_extension, FieldTree, field}
use Rattle.schema_codec.specs.Parse.{◌>>=◌}
use Rattle.schema_codec.specs.Ranges.{HasRanges, IsMetadata}
use Rattle.schema_fb.specs.Extensions.{name_key, metadata_key, holds_key, carried, extended, stripped}
use Rattle.schema_fb.specs.Layout.{Cell, number, below, Cells, no_cells, more_cells, Object, text, Objects, vector, table, slots, front, table_size, object_bytes, objects_bytes, below_bytes}
use Rattle.schema_fb.specs.Places.{byte_at, Table, table_at, slot, number_in, table_in, text_in}
use Rattle.schema_fb.specs.Reading.{Reads, truth_in, tagged_in, type_in, key_in, keyed_in, metadata_in, made_field, field_at}
use Rattle.schema_fb.specs.Tables.{truth, one, two, three, integer, custom_metadata, type_cells, encoding, next_id, children, is_type}
use Rattle.schema_fb.specs.Tags.{tag_of, tag_number}
use Rattle.schema_fb.specs.Proved.Standing.{table_stands}
use Rattle.schema_fb.specs.Proved.Entries.{metadata_stands, carried_is, carried_is_metadata, no_name}
use Rattle.schema_fb.specs.Proved.Bases.{base, within, base_tag, base_cells, base_children, base_ranges, base_nesting, base_is, both_hold, nesting_filled}
use Rattle.schema_fb.specs.Proved.Slots.{Small, Costs, Slotted, Holds, Points, more_slots, number_slot, below_slot, absent_slot, byte_in, truth_again, points_table, text_again, below_cost, table_cost, text_cost, vector_cost}
use Rattle.schema_fb.specs.Proved.Leaves.{integer_again}
use Rattle.schema_fb.specs.Proved.Children.{Again}
use Rattle.schema_fb.specs.Proved.Types.{TypeFits, numbered_in, typed}

-- ---- dictionaries

abbrev dictionary_cells : ℕ → IntegerType → Bool → Cells
dictionary_cells id key sorted = three (number id) (below (table (integer key))) (truth sorted)

key_again : (b : List ℕ) (v : Table) (id : ℕ) (key : IntegerType) (sorted : Bool) → Small b → Slotted b v 1 (two (below (table (integer key))) (truth sorted)) → key_in b v ≡ Some key
unfolding key_in
key_again b v id key sorted long s =
    let p = below_slot b v 1 (table (integer key)) (one (truth sorted)) s in
    let u = table_stands b p.0 (integer key) long (omega arith) p.4 in
    rw (p.2, p.3, u.1) (integer_again b u.0 key (p.0 + front (table (integer key)) + table_size (integer key), u.2))

dictionary_again : (b : List ℕ) (parent : Table) (id : ℕ) (key : IntegerType) (value : TypeTree) (sorted : Bool) → Small b → Points b parent 4 (table (dictionary_cells id key sorted)) → keyed_in b parent value ≡ Some (t_dictionary key value sorted)
unfolding keyed_in
dictionary_again b parent id key value sorted long p =
    let cells = dictionary_cells id key sorted in
    let v = table_stands b p.0 cells long (omega arith) p.4 in
    let after = more_slots b v.0 0 (number id) (two (below (table (integer key))) (truth sorted)) (p.0 + front (table cells) + table_size cells, v.2) in
    let key_read = key_again b v.0 id key sorted long after in
    let truth_read = truth_again b v.0 2 sorted (number_slot b v.0 2 _ no_cells (more_slots b v.0 1 (below (table (integer key))) (one (truth sorted)) after)) in
    rw (p.2, p.3, v.1, key_read, truth_read) refl

plain_again : (b : List ℕ) (parent : Table) (value : TypeTree) → slot b parent 4 ≡ None → keyed_in b parent value ≡ Some value
unfolding keyed_in
plain_again b parent value none = rw none refl

-- the type of a field without its extension
keyed_again : (b : List ℕ) (parent : Table) (id : ℕ) (cs : Cells) (t : TypeTree) → Small b → is_type t false true ≡ true → Slotted b parent 4 (more_cells (encoding id t) cs) → keyed_in b parent (base t) ≡ Some t
keyed_again b parent id cs (t_dictionary key value sorted) long is s = dictionary_again b parent id key value sorted long (below_slot b parent 4 (table (dictionary_cells id key sorted)) cs s)
keyed_again b parent id cs (t_extension name inner metadata) long is s = absurd (grind (arith, is))
keyed_again b parent id cs t long is s = plain_again b parent t (absent_slot b parent 4 cs s)

within_again : (b : List ℕ) (parent : Table) (id : ℕ) (cs : Cells) (t : TypeTree) → Small b → is_type t true true ≡ true → Slotted b parent 4 (more_cells (encoding id t) cs) → keyed_in b parent (base t) ≡ Some (within t)
within_again b parent id cs (t_extension name inner metadata) long is s = keyed_again b parent id cs inner long is s
within_again b parent id cs (t_dictionary key value sorted) long is s = keyed_again b parent id cs (t_dictionary key value sorted) long is s
within_again b parent id cs t long is s = keyed_again b parent id cs t long is s

-- ---- extensions

extension_made : (name : List ℕ) (nullable : Bool) (inner : TypeTree) (m left : Meta) (known : List ℕ) (told : Option (List ℕ)) → text_under name_key m ≡ Some known → text_under metadata_key m ≡ told → without_key metadata_key (without_key name_key m) ≡ left
    → made_field name nullable inner m ≡ field name (t_extension known inner told) nullable left
extension_made name nullable inner m left known told has holds without =
    ap (λ (o : Option (List ℕ)). field name (extended o inner m) nullable (stripped o m)) has
    ∙ ap (λ (o : Option (List ℕ)). field name (t_extension known inner o) nullable (without_key metadata_key (without_key name_key m))) holds
    ∙ ap (λ (n : Meta). field name (t_extension known inner told) nullable n) without

none_made : (name : List ℕ) (nullable : Bool) (t : TypeTree) (m : Meta) → holds_key m ≡ false → made_field name nullable t m ≡ field name t nullable m
none_made name nullable t m none = ap (λ (o : Option (List ℕ)). field name (extended o t m) nullable (stripped o m)) (no_name m none)

made_again : (name : List ℕ) (nullable : Bool) (t : TypeTree) (m : Meta) → KeysAscend m → holds_key m ≡ false → made_field name nullable (within t) (carried t m) ≡ field name t nullable m
made_again name nullable (t_extension known inner told) m ascend none =
    let is = carried_is known inner told m ascend none in
    extension_made name nullable inner (carried (t_extension known inner told) m) m known told is.0 is.1 is.2
made_again name nullable t m ascend none = none_made name nullable t m none

-- ---- the type in its field

tag_small : (t : TypeTree) → tag_number t < 256
tag_small (t_dictionary key value sorted) = tag_small value
tag_small (t_extension name inner metadata) = tag_small inner
tag_small _ = omega arith

few_slots : (t : TypeTree) → slots (type_cells t) ≤ 100
few_slots (t_dictionary key value sorted) = few_slots value
few_slots (t_extension name inner metadata) = few_slots inner
few_slots _ = omega arith

-- a value is read from tables with these cells and these children
abbrev IsRead : Reads FieldTree → List ℕ → Table → Table → ℕ → TypeTree → ℕ → Cells → Objects → Type 0
IsRead read b parent u left value n cells kids =
    Slotted b u 0 cells → Points b parent 5 (vector kids) → length (below_bytes cells) + length (objects_bytes kids) ≤ left
    → Costs (numbered_in n read b parent u left) value left (length (below_bytes cells) + length (objects_bytes kids))

base_again : (read : Reads FieldTree) (b : List ℕ) (d : ℕ) → Small b → Again read b d → (parent u : Table) (id left : ℕ) (t : TypeTree) → TypeFits d (base t)
    → IsRead read b parent u left (base t) (tag_number t) (type_cells t) (children (next_id id t) t)
base_again read b d long again parent u id left t fits =
    let value = base t in
    let own : IsRead read b parent u left value (tag_number value) (type_cells value) (children (next_id id t) value) = typed read b d long again parent u (next_id id t) left value fits in
    let first = subst (λ (n : ℕ). IsRead read b parent u left value n (type_cells value) (children (next_id id t) value)) (base_tag t) own in
    let second = subst (λ (c : Cells). IsRead read b parent u left value (tag_number t) c (children (next_id id t) value)) (base_cells t) first in
    subst (λ (k : Objects). IsRead read b parent u left value (tag_number t) (type_cells t) k) (base_children id t) second

type_steps : (read : Reads FieldTree) (b : List ℕ) (parent u : Table) (left n rest : ℕ) (t : TypeTree) → number_in byte_at 0 b parent 2 ≡ Some n → table_in b parent 3 ≡ Some u → numbered_in n read b parent u left ≡ Some (t, rest)
    → type_in read b parent left ≡ Some (t, rest)
unfolding type_in
type_steps read b parent u left n rest t number_read table_read numbered =
    ap (λ (o : Option ℕ). o >>= λ m. tag_of m >>= λ tag. table_in b parent 3 >>= λ v. tagged_in tag read b parent v left) number_read
    ∙ ap (λ (o : Option Table). tag_of n >>= λ tag. o >>= λ v. tagged_in tag read b parent v left) table_read
    ∙ numbered

-- ---- a field

-- the cells of a field: name, nullable, type tag, type, dictionary, children, custom_metadata
abbrev field_cells : List ℕ → Bool → ℕ → Object → Cell → Object → Cell → Cells
field_cells name nullable n type dictionary kids metadata =
    more_cells (below (text name)) (more_cells (truth nullable) (more_cells (number n) (more_cells (below type) (more_cells dictionary (two (below kids) metadata)))))

record FieldSlots (b : List ℕ) (t : Table) (name : List ℕ) (nullable : Bool) (n : ℕ) (type : Object) (dictionary : Cell) (kids : Object) (metadata : Cell) : Type 0 where
  pub name_slot : Points b t 0 (text name)
  pub nullable_slot : Holds b t 1 (cond nullable 1 0)
  pub tag_slot : Holds b t 2 n
  pub type_slot : Points b t 3 type
  pub dictionary_slot : Slotted b t 4 (more_cells dictionary (two (below kids) metadata))
  pub kids_slot : Points b t 5 kids
  pub metadata_slot : Slotted b t 6 (one metadata)

field_slots : (b : List ℕ) (t : Table) (name : List ℕ) (nullable : Bool) (n : ℕ) (type : Object) (dictionary : Cell) (kids : Object) (metadata : Cell) → Slotted b t 0 (field_cells name nullable n type dictionary kids metadata)
    → FieldSlots b t name nullable n type dictionary kids metadata
field_slots b t name nullable n type dictionary kids metadata s0 =
    let c6 = one metadata in
    let c5 = more_cells (below kids) c6 in
    let c4 = more_cells dictionary c5 in
    let c3 = more_cells (below type) c4 in
    let c2 = more_cells (number n) c3 in
    let c1 = more_cells (truth nullable) c2 in
    let s1 = more_slots b t 0 (below (text name)) c1 s0 in
    let s2 = more_slots b t 1 (truth nullable) c2 s1 in
    let s3 = more_slots b t 2 (number n) c3 s2 in
    let s4 = more_slots b t 3 (below type) c4 s3 in
    let s5 = more_slots b t 4 dictionary c5 s4 in
    let s6 = more_slots b t 5 (below kids) c6 s5 in
    record {
      name_slot = below_slot b t 0 (text name) c1 s0;
      nullable_slot = number_slot b t 1 (cond nullable 1 0) c2 s1;
      tag_slot = number_slot b t 2 n c3 s2;
      type_slot = below_slot b t 3 type c4 s3;
      dictionary_slot = s4;
      kids_slot = below_slot b t 5 kids c6 s5;
      metadata_slot = s6;
    }

field_cost : (name : List ℕ) (nullable : Bool) (n : ℕ) (type : Object) (dictionary : Cell) (kids : Object) (metadata : Cell)
    → 8 + length name + length (object_bytes type) + length (object_bytes kids) + length (below_bytes (one metadata)) ≤ length (object_bytes (table (field_cells name nullable n type dictionary kids metadata)))
field_cost name nullable n type dictionary kids metadata =
    let c6 = one metadata in
    let c5 = more_cells (below kids) c6 in
    let c4 = more_cells dictionary c5 in
    let c3 = more_cells (below type) c4 in
    omega (arith, table_cost (field_cells name nullable n type dictionary kids metadata), text_cost name, length-append (object_bytes (text name)) (below_bytes c3), length-append (object_bytes type) (below_bytes c4), below_cost dictionary c5, length-append (object_bytes kids) (below_bytes c6))

field_steps : (b : List ℕ) (d place left l1 l2 l3 : ℕ) (t : Table) (name : List ℕ) (nullable : Bool) (value type : TypeTree) (m : Meta)
    → 1 ≤ left → table_at b place ≡ Some t → text_in b t 0 (left - 1) ≡ Some (name, l1) → truth_in b t 1 ≡ Some nullable → type_in (field_at b d) b t l1 ≡ Some (value, l2) → keyed_in b t value ≡ Some type → metadata_in b t 6 l2 ≡ Some (m, l3)
    → field_at b (suc d) place left ≡ Some (made_field name nullable type m, l3)
unfolding field_at
field_steps b d place left l1 l2 l3 t name nullable value type m some at name_read nullable_read value_read type_read metadata_read =
    let enough : ltb left 1 ≡ false = le-ltb left 1 some in
    rw (at, enough, name_read, nullable_read, value_read, type_read, metadata_read) refl

not_true : (c : Bool) → not c ≡ true → c ≡ false
not_true true e = sym e
not_true false e = refl

remade : {read : Option (FieldTree × ℕ)} {f g : FieldTree} {rest : ℕ} → read ≡ Some (f, rest) → f ≡ g → read ≡ Some (g, rest)
remade {rest = rest} e same = e ∙ ap (λ (h : FieldTree). Some (h, rest)) same

field_step : (b : List ℕ) (d : ℕ) → Small b → Again (field_at b d) b d → Again (field_at b (suc d)) b (suc d)
field_step b d long again id (field name type nullable m) p left fit at enough =
    let shape = both_hold (not (holds_key m)) (is_type type true true) fit.0 in
    let none : holds_key m ≡ false = not_true (holds_key m) shape.0 in
    let utf8 : IsUtf8 name = fit.1.0 in
    let ranges : HasRanges type = fit.1.1 in
    let is : IsMetadata m = fit.1.2 in
    let cells = type_cells type in
    let kids = children (next_id id type) type in
    let meta = custom_metadata (carried type m) in
    let all = field_cells name nullable (tag_number type) (table cells) (encoding id type) (vector kids) meta in
    let cost = field_cost name nullable (tag_number type) (table cells) (encoding id type) (vector kids) meta in
    let inner_cost = table_cost cells in
    let kids_cost = vector_cost kids in
    let t = table_stands b p all long (omega arith) at in
    let slots = field_slots b t.0 name nullable (tag_number type) (table cells) (encoding id type) (vector kids) meta (p + front (table all) + table_size all, t.2) in
    let name_read = text_again b t.0 0 (left - 1) name long utf8 (omega (arith, cost)) slots.name_slot in
    let nullable_read = truth_again b t.0 1 nullable slots.nullable_slot in
    let tag_read = byte_in b t.0 2 (tag_number type) 0 (tag_small type) slots.tag_slot in
    let u = points_table b t.0 3 cells long (few_slots type) slots.type_slot in
    let fits : TypeFits d (base type) = (base_is type true true shape.1, base_ranges type ranges, omega (arith, base_nesting type, fit.2)) in
    let value_read = base_again (field_at b d) b d long again t.0 u.0 id name_read.0 type fits u.2 slots.kids_slot (omega (arith, cost, inner_cost, kids_cost, name_read.2)) in
    let value_is = type_steps (field_at b d) b t.0 u.0 name_read.0 (tag_number type) value_read.0 (base type) tag_read u.1 value_read.1 in
    let type_read = within_again b t.0 id (two (below (vector kids)) meta) type long shape.1 slots.dictionary_slot in
    let metadata_read = metadata_stands b t.0 6 slots.metadata_slot.0 value_read.0 (carried type m) no_cells long (carried_is_metadata type m ranges is) slots.metadata_slot.1 (omega (arith, cost, inner_cost, kids_cost, name_read.2, value_read.2)) in
    let read = field_steps b d (p + front (table all)) left name_read.0 value_read.0 metadata_read.0 t.0 name nullable (base type) (within type) (carried type m) (omega (arith, cost)) t.1 name_read.1 nullable_read value_is type_read metadata_read.1 in
    let made = made_again name nullable type m is.ascends none in
    (metadata_read.0, remade {rest = metadata_read.0} read made, omega (arith, cost, inner_cost, kids_cost, name_read.2, value_read.2, metadata_read.2))

nests : (f : FieldTree) → 1 ≤ field_nesting f
nests (field name type nullable m) = nesting_filled type

pub field_again : (b : List ℕ) → Small b → (d : ℕ) → Again (field_at b d) b d
field_again b long zero id f p left fit at enough = absurd (omega (arith, nests f, fit.2))
field_again b long (suc d) id f p left fit at enough = field_step b d long (field_again b long d) id f p left fit at enough
