-- What the first fault of a type says of the conditions.
use Rattle.std.proofs.Common.{◌≡◌, Bool, true, false, ◌||◌, cond, nat_eq, leb, ◌^◌, Option, Some, None, ◌≤◌, ◌⊎◌, inl, inr, Result, Ok, Err, IfOk, IfErr, refl, subst, sym}
use Rattle.std.proofs.lemmas.Bool.{or_left, or_right, or_from}
use Rattle.columns_core.specs.Tree.{TypeTree, t_float16, t_time32, t_time64, t_fixed_size_binary, t_list, t_fixed_size_list, t_large_list, t_struct, t_union, t_map, t_dictionary, t_decimal, t_decimal256, t_extension, FieldTree, field, FieldTrees, no_fields, more_fields}
use Rattle.columns_core.specs.declared.types.TimeUnit.TheVariants.{Second, Millisecond, Microsecond, Nanosecond}
use Rattle.columns_base.specs.declared.error.Error.{Error}
use Rattle.columns_base.specs.declared.error.Error.TheVariants.{NotYetImplemented, InvalidArgumentError}
use Rattle.columns_base.specs.declared.error.N.TheVariants.{N5}
use Rattle.columns_base.specs.declared.error.A.TheVariants.{A4, A5, A6}
use Rattle.schema_to_tree.specs.Conditions.{is_empty_struct, is_decimal, is_bad_decimal, is_bad_time64, is_unwritten, some_type, some_field, some_fields, most, IsWritten, AreWritten, RefusesField, RefusesSchema}
use Rattle.schema_to_tree.specs.Faults.{leaf_fault, fault, field_fault, fields_fault, first_of_two, unwritten, Gives}
use Rattle.columns_core.specs.Measures.{field_nesting, fields_nesting}
use Rattle.pq_tree.specs.Tree.{nesting, schema_nesting}
use Rattle.schema_to_tree.specs.Table.{tree_of, schema_of}

-- which types are looked through
abbrev pub Looks : Type 0
Looks = (TypeTree → Bool) → Bool

-- an error, and that its condition holds where one looks
pub data Blames (F : Looks) : Error → Type 0 where
  a4 : F is_empty_struct ≡ true → Blames F (InvalidArgumentError A4)
  a5 : F is_bad_decimal ≡ true → Blames F (InvalidArgumentError A5)
  a6 : F is_bad_time64 ≡ true → Blames F (InvalidArgumentError A6)
  n5 : F is_unwritten ≡ true → Blames F (NotYetImplemented N5)

-- no condition holds there
pub record IsClean (F : Looks) : Type 0 where
  pub structs : F is_empty_struct ≡ false
  pub decimals : F is_bad_decimal ≡ false
  pub times : F is_bad_time64 ≡ false
  pub types : F is_unwritten ≡ false

wider : (F G : Looks) (e : Error) → ((p : TypeTree → Bool) → F p ≡ true → G p ≡ true) → Blames F e → Blames G e
wider F G e h (a4 x) = a4 (h _ x)
wider F G e h (a5 x) = a5 (h _ x)
wider F G e h (a6 x) = a6 (h _ x)
wider F G e h (n5 x) = n5 (h _ x)

neither : (F G : Looks) → IsClean F → IsClean G → IsClean (λ p. F p || G p)
neither F G f g =
    record { structs = or_from _ _ f.structs g.structs; decimals = or_from _ _ f.decimals g.decimals; times = or_from _ _ f.times g.times; types = or_from _ _ f.types g.types }

-- ---- one type

fixed-blames : (n : _) (b : Bool) (e : Error) → (nat_eq n 0 || leb (2 ^ 31) n) ≡ b → cond b unwritten None ≡ Some e → Blames (λ p. p (t_fixed_size_binary n)) e
fixed-blames n true e is k = let q : NotYetImplemented N5 ≡ e = cc in subst (λ (x : Error). Blames (λ p. p (t_fixed_size_binary n)) x) q (n5 is)
fixed-blames n false e is k = absurd (cc)

decimal-blames : (m s : _) (b : Bool) (e : Error) → is_decimal m s ≡ b → cond b None (Some (InvalidArgumentError A5)) ≡ Some e → Blames (λ p. p (t_decimal m s)) e
decimal-blames m s false e is k = let q : InvalidArgumentError A5 ≡ e = cc in subst (λ (x : Error). Blames (λ p. p (t_decimal m s)) x) q (a5 (rw is refl))
decimal-blames m s true e is k = absurd (cc)

given : (F : Looks) (d e : Error) → Blames F d → Some d ≡ Some e → Blames F e
given F d e b k = let q : d ≡ e = cc in subst (λ (x : Error). Blames F x) q b

leaf-blames : (t : TypeTree) (e : Error) → leaf_fault t ≡ Some e → Blames (λ p. p t) e
leaf-blames t_float16 e k = given _ _ e (n5 refl) k
leaf-blames (t_time32 Second) e k = absurd (cc)
leaf-blames (t_time32 Millisecond) e k = absurd (cc)
leaf-blames (t_time32 Microsecond) e k = given _ _ e (n5 refl) k
leaf-blames (t_time32 Nanosecond) e k = given _ _ e (n5 refl) k
leaf-blames (t_time64 Second) e k = given _ _ e (a6 refl) k
leaf-blames (t_time64 Millisecond) e k = given _ _ e (a6 refl) k
leaf-blames (t_time64 Microsecond) e k = absurd (cc)
leaf-blames (t_time64 Nanosecond) e k = absurd (cc)
leaf-blames (t_fixed_size_binary n) e k = fixed-blames n _ e refl k
leaf-blames (t_decimal m s) e k = decimal-blames m s _ e refl k
leaf-blames (t_decimal256 m s) e k = given _ _ e (n5 refl) k
leaf-blames (t_union fs ids sparse) e k = given _ _ e (n5 refl) k
leaf-blames t e k = absurd (cc)

fixed-clean : (b : Bool) → cond b unwritten None ≡ None → b ≡ false
fixed-clean true k = absurd (cc)
fixed-clean false k = refl

decimal-clean : (b : Bool) → cond b None (Some (InvalidArgumentError A5)) ≡ None → b ≡ true
decimal-clean true k = refl
decimal-clean false k = absurd (cc)

fine : (F : Looks) → F is_empty_struct ≡ false → F is_bad_decimal ≡ false → F is_bad_time64 ≡ false → F is_unwritten ≡ false → IsClean F
fine F a b c d = record { structs = a; decimals = b; times = c; types = d }

leaf-clean : (t : TypeTree) → leaf_fault t ≡ None → is_empty_struct t ≡ false → IsClean (λ p. p t)
leaf-clean t_float16 k s = absurd (cc)
leaf-clean (t_time32 Second) k s = fine _ refl refl refl refl
leaf-clean (t_time32 Millisecond) k s = fine _ refl refl refl refl
leaf-clean (t_time32 Microsecond) k s = absurd (cc)
leaf-clean (t_time32 Nanosecond) k s = absurd (cc)
leaf-clean (t_time64 Second) k s = absurd (cc)
leaf-clean (t_time64 Millisecond) k s = absurd (cc)
leaf-clean (t_time64 Microsecond) k s = fine _ refl refl refl refl
leaf-clean (t_time64 Nanosecond) k s = fine _ refl refl refl refl
leaf-clean (t_fixed_size_binary n) k s = fine _ refl refl refl (fixed-clean _ k)
leaf-clean (t_decimal m n) k s = fine _ refl (rw (decimal-clean _ k) refl) refl refl
leaf-clean (t_decimal256 m n) k s = absurd (cc)
leaf-clean (t_union fs ids sparse) k s = absurd (cc)
leaf-clean t k s = fine _ s refl refl refl

-- ---- with its parts

first-some : (a b : Option Error) (e : Error) → first_of_two a b ≡ Some e → (a ≡ Some e) ⊎ (b ≡ Some e)
first-some (Some d) b e k = inl k
first-some None b e k = inr k

first-none_left : (a b : Option Error) → first_of_two a b ≡ None → a ≡ None
first-none_left (Some d) b k = absurd (cc)
first-none_left None b k = refl

first-none_right : (a b : Option Error) → first_of_two a b ≡ None → b ≡ None
first-none_right (Some d) b k = absurd (cc)
first-none_right None b k = k

under : (t : TypeTree) (F : Looks) (e : Error) → Blames F e → Blames (λ p. p t || F p) e
under t F e b = wider F _ e (λ p h. or_right _ _ h) b

either : (F G : Looks) (a b : Option Error) (e : Error) → (a ≡ Some e → Blames F e) → (b ≡ Some e → Blames G e) → first_of_two a b ≡ Some e → Blames (λ p. F p || G p) e
either F G (Some d) b e f g k = wider F _ e (λ p h. or_left _ _ h) (f k)
either F G None b e f g k = wider G _ e (λ p h. or_right _ _ h) (g k)

mutual
  pub blames-type : (t : TypeTree) (e : Error) → fault t ≡ Some e → Blames (λ p. some_type p t) e
  blames-type (t_list f) e k = under _ _ e (blames-field f e k)
  blames-type (t_large_list f) e k = under _ _ e (blames-field f e k)
  blames-type (t_fixed_size_list f n) e k = under _ _ e (blames-field f e k)
  blames-type (t_map f sorted) e k = under _ _ e (blames-field f e k)
  blames-type (t_struct no_fields) e k = given _ _ e (a4 refl) k
  blames-type (t_struct (more_fields f fs)) e k = under _ _ e (either _ _ _ _ e (blames-field f e) (blames-fields fs e) k)
  blames-type (t_dictionary key t sorted) e k = under _ _ e (blames-type t e k)
  blames-type (t_extension name t m) e k = under _ _ e (blames-type t e k)
  blames-type (t_union fs ids sparse) e k = given _ _ e (n5 refl) k
  blames-type t e k = leaf-blames t e k

  pub blames-field : (f : FieldTree) (e : Error) → field_fault f ≡ Some e → Blames (λ p. some_field p f) e
  blames-field (field name t nullable m) e k = blames-type t e k

  pub blames-fields : (fs : FieldTrees) (e : Error) → fields_fault fs ≡ Some e → Blames (λ p. some_fields p fs) e
  blames-fields no_fields e k = absurd (cc)
  blames-fields (more_fields f fs) e k = either _ _ _ _ e (blames-field f e) (blames-fields fs e) k

mutual
  pub clean-type : (t : TypeTree) → fault t ≡ None → IsClean (λ p. some_type p t)
  clean-type (t_list f) k = neither _ _ (fine _ refl refl refl refl) (clean-field f k)
  clean-type (t_large_list f) k = neither _ _ (fine _ refl refl refl refl) (clean-field f k)
  clean-type (t_fixed_size_list f n) k = neither _ _ (fine _ refl refl refl refl) (clean-field f k)
  clean-type (t_map f sorted) k = neither _ _ (fine _ refl refl refl refl) (clean-field f k)
  clean-type (t_struct no_fields) k = absurd (cc)
  clean-type (t_struct (more_fields f fs)) k =
      neither _ _ (fine _ refl refl refl refl) (neither _ _ (clean-field f (first-none_left _ _ k)) (clean-fields fs (first-none_right _ _ k)))
  clean-type (t_dictionary key t sorted) k = neither _ _ (fine _ refl refl refl refl) (clean-type t k)
  clean-type (t_extension name t m) k = neither _ _ (fine _ refl refl refl refl) (clean-type t k)
  clean-type (t_union fs ids sparse) k = absurd (cc)
  clean-type t k = leaf-clean t k refl

  pub clean-field : (f : FieldTree) → field_fault f ≡ None → IsClean (λ p. some_field p f)
  clean-field (field name t nullable m) k = clean-type t k

  pub clean-fields : (fs : FieldTrees) → fields_fault fs ≡ None → IsClean (λ p. some_fields p fs)
  clean-fields no_fields k = fine _ refl refl refl refl
  clean-fields (more_fields f fs) k = neither _ _ (clean-field f (first-none_left _ _ k)) (clean-fields fs (first-none_right _ _ k))

-- ---- a field

refused : (f : FieldTree) (e : Error) → some_field is_bad_time64 f ≡ false → Blames (λ p. some_field p f) e → RefusesField f e
refused f e t (a4 x) = x
refused f e t (a5 x) = x
refused f e t (a6 x) = x
refused f e t (n5 x) = (x, t)

pub field-refused : (f : FieldTree) (e : Error) → field_fault f ≡ Some e → some_field is_bad_time64 f ≡ false → RefusesField f e
field-refused f e k t = refused f e t (blames-field f e k)

refused_schema : (fs : FieldTrees) (e : Error) → some_fields is_bad_time64 fs ≡ false → Blames (λ p. some_fields p fs) e → RefusesSchema fs e
refused_schema fs e t (a4 x) = x
refused_schema fs e t (a5 x) = x
refused_schema fs e t (a6 x) = x
refused_schema fs e t (n5 x) = (x, t)

pub schema-refused : (fs : FieldTrees) (e : Error) → fields_fault fs ≡ Some e → some_fields is_bad_time64 fs ≡ false → RefusesSchema fs e
schema-refused fs e k t = refused_schema fs e t (blames-fields fs e k)

pub field-written : (f : FieldTree) → field_fault f ≡ None → field_nesting f ≤ most → nesting (tree_of f) ≤ most → IsWritten f
field-written f k n m =
    let c : IsClean (λ p. some_field p f) = clean-field f k in record { structs = c.structs; decimals = c.decimals; times = c.times; types = c.types; type_nesting = n; tree_nesting = m }

pub schema-written : (fs : FieldTrees) → fields_fault fs ≡ None → fields_nesting fs ≤ most → schema_nesting (schema_of fs) ≤ most → AreWritten fs
schema-written fs k n m =
    let c : IsClean (λ p. some_fields p fs) = clean-fields fs k in record { structs = c.structs; decimals = c.decimals; times = c.times; types = c.types; type_nesting = n; tree_nesting = m }

-- ---- answers

pub answered : {A B : Type 0} (g : A → B) (b : B) (f : FieldTree) (r : Result A Error) → Gives g b (field_fault f) r → field_nesting f ≤ most → nesting (tree_of f) ≤ most
    → IfOk r (λ a. (g a ≡ b) × IsWritten f)
answered g b f (Ok a) h n m = (h.0, field-written f h.1 n m)
answered g b f (Err e) h n m = tt

pub refused_or_short : {A B : Type 0} (g : A → B) (b : B) (f : FieldTree) (r : Result A Error) → Gives g b (field_fault f) r → some_field is_bad_time64 f ≡ false → IfErr r (RefusesField f)
refused_or_short g b f (Ok a) h t = tt
refused_or_short g b f (Err e) (inl is) t = subst (λ (x : Error). RefusesField f x) (sym is) tt
refused_or_short g b f (Err e) (inr is) t = field-refused f e is t
