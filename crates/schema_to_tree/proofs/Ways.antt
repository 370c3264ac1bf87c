-- What the first fault on the way to a leaf says of the conditions.
use Rattle.std.proofs.Common.{◌≡◌, List, Bool, true, false, not, ◌||◌, cond, Option, Some, None, inl, inr, Ok, Err, refl, subst, sym}
use Rattle.std.proofs.lemmas.Bool.{or_left, or_right, or_from}
use Rattle.columns_core.specs.Tree.{TypeTree, t_list, t_fixed_size_list, t_large_list, t_struct, t_union, t_map, t_extension, FieldTree, field, FieldTrees, no_fields, more_fields}
use Rattle.columns_base.specs.declared.error.Error.{Error}
use Rattle.columns_base.specs.declared.error.Error.TheVariants.{NotYetImplemented, InvalidArgumentError}
use Rattle.columns_base.specs.declared.error.N.TheVariants.{N5}
use Rattle.columns_base.specs.declared.error.A.TheVariants.{A8}
use Rattle.schema_to_tree.specs.Leaves.{is_union, is_struct, is_odd_map, field_base, meets, field_meets, fields_meet, way_fault, field_way_fault, fields_way_fault, HasLeaves, RefusesLeaves, Pushes}
use Rattle.schema_to_tree.specs.Faults.{first_of_two}

abbrev Looks : Type 0
Looks = (TypeTree → Bool) → Bool

-- an error, and that its condition holds where one looks
pub data Blames (F : Looks) : Error → Type 0 where
  n5 : F is_union ≡ true → Blames F (NotYetImplemented N5)
  a8 : F is_odd_map ≡ true → Blames F (InvalidArgumentError A8)

-- no condition holds there
pub record IsClean (F : Looks) : Type 0 where
  pub unions : F is_union ≡ false
  pub maps : F is_odd_map ≡ false

wider : (F G : Looks) (e : Error) → ((p : TypeTree → Bool) → F p ≡ true → G p ≡ true) → Blames F e → Blames G e
wider F G e h (n5 x) = n5 (h _ x)
wider F G e h (a8 x) = a8 (h _ x)

neither : (F G : Looks) → IsClean F → IsClean G → IsClean (λ p. F p || G p)
neither F G f g = record { unions = or_from _ _ f.unions g.unions; maps = or_from _ _ f.maps g.maps }

given : (F : Looks) (d e : Error) → Blames F d → Some d ≡ Some e → Blames F e
given F d e b k = let q : d ≡ e = cc in subst (λ (x : Error). Blames F x) q b

under : (t : TypeTree) (F : Looks) (e : Error) → Blames F e → Blames (λ p. p t || F p) e
under t F e b = wider F _ e (λ p h. or_right _ _ h) b

either : (F G : Looks) (a b : Option Error) (e : Error) → (a ≡ Some e → Blames F e) → (b ≡ Some e → Blames G e) → first_of_two a b ≡ Some e → Blames (λ p. F p || G p) e
either F G (Some d) b e f g k = wider F _ e (λ p h. or_left _ _ h) (f k)
either F G None b e f g k = wider G _ e (λ p h. or_right _ _ h) (g k)

none_left : (a b : Option Error) → first_of_two a b ≡ None → a ≡ None
none_left (Some d) b k = absurd (cc)
none_left None b k = refl

none_right : (a b : Option Error) → first_of_two a b ≡ None → b ≡ None
none_right (Some d) b k = absurd (cc)
none_right None b k = k

-- ---- a map

odd : (f : FieldTree) (s : Bool) → is_struct (field_base f) ≡ false → meets is_odd_map (t_map f s) ≡ true
odd f s is = or_left (not (is_struct (field_base f))) (field_meets is_odd_map f) (rw is refl)

map-blames : (f : FieldTree) (s b : Bool) (e : Error) → is_struct (field_base f) ≡ b → cond b (field_way_fault f) (Some (InvalidArgumentError A8)) ≡ Some e
    → (field_way_fault f ≡ Some e → Blames (λ p. field_meets p f) e) → Blames (λ p. meets p (t_map f s)) e
map-blames f s true e is k next = under _ _ e (next k)
map-blames f s false e is k next = given _ _ e (a8 (odd f s is)) k

map-clean : (f : FieldTree) (s b : Bool) → is_struct (field_base f) ≡ b → cond b (field_way_fault f) (Some (InvalidArgumentError A8)) ≡ None
    → (field_way_fault f ≡ None → IsClean (λ p. field_meets p f)) → IsClean (λ p. meets p (t_map f s))
map-clean f s true is k next = neither _ _ (record { unions = refl; maps = rw is refl }) (next k)
map-clean f s false is k next = absurd (cc)

fine : (F : Looks) → F is_union ≡ false → F is_odd_map ≡ false → IsClean F
fine F a b = record { unions = a; maps = b }

-- ---- a type

mutual
  pub blames-type : (t : TypeTree) (e : Error) → way_fault t ≡ Some e → Blames (λ p. meets p t) e
  blames-type (t_list f) e k = under _ _ e (blames-field f e k)
  blames-type (t_large_list f) e k = under _ _ e (blames-field f e k)
  blames-type (t_fixed_size_list f n) e k = under _ _ e (blames-field f e k)
  blames-type (t_map f sorted) e k = map-blames f sorted _ e refl k (blames-field f e)
  blames-type (t_struct fs) e k = under _ _ e (blames-fields fs e k)
  blames-type (t_extension name t m) e k = under _ _ e (blames-type t e k)
  blames-type (t_union fs ids sparse) e k = given _ _ e (n5 refl) k
  blames-type t e k = absurd (cc)

  pub blames-field : (f : FieldTree) (e : Error) → field_way_fault f ≡ Some e → Blames (λ p. field_meets p f) e
  blames-field (field name t nullable m) e k = blames-type t e k

  pub blames-fields : (fs : FieldTrees) (e : Error) → fields_way_fault fs ≡ Some e → Blames (λ p. fields_meet p fs) e
  blames-fields no_fields e k = absurd (cc)
  blames-fields (more_fields f fs) e k = either _ _ _ _ e (blames-field f e) (blames-fields fs e) k

mutual
  pub clean-type : (t : TypeTree) → way_fault t ≡ None → IsClean (λ p. meets p t)
  clean-type (t_list f) k = neither _ _ (fine _ refl refl) (clean-field f k)
  clean-type (t_large_list f) k = neither _ _ (fine _ refl refl) (clean-field f k)
  clean-type (t_fixed_size_list f n) k = neither _ _ (fine _ refl refl) (clean-field f k)
  clean-type (t_map f sorted) k = map-clean f sorted _ refl k (clean-field f)
  clean-type (t_struct fs) k = neither _ _ (fine _ refl refl) (clean-fields fs k)
  clean-type (t_extension name t m) k = neither _ _ (fine _ refl refl) (clean-type t k)
  clean-type (t_union fs ids sparse) k = absurd (cc)
  clean-type t k = fine _ refl refl

  pub clean-field : (f : FieldTree) → field_way_fault f ≡ None → IsClean (λ p. field_meets p f)
  clean-field (field name t nullable m) k = clean-type t k

  pub clean-fields : (fs : FieldTrees) → fields_way_fault fs ≡ None → IsClean (λ p. fields_meet p fs)
  clean-fields no_fields k = fine _ refl refl
  clean-fields (more_fields f fs) k = neither _ _ (clean-field f (none_left _ _ k)) (clean-fields fs (none_right _ _ k))

-- ---- answers

pub has_leaves : (t : TypeTree) → way_fault t ≡ None → HasLeaves t
has_leaves t k = let c : IsClean (λ p. meets p t) = clean-type t k in record { unions = c.unions; maps = c.maps }

refused : (t : TypeTree) (e : Error) → Blames (λ p. meets p t) e → RefusesLeaves t e
refused t e (n5 x) = x
refused t e (a8 x) = x

pub collected : (old new ts : List TypeTree) (t : TypeTree) → Pushes old new ts (way_fault t) (Ok tt) → HasLeaves t
collected old new ts t h = has_leaves t h.1

pub refuses : (old new ts : List TypeTree) (t : TypeTree) (e : Error) → Pushes old new ts (way_fault t) (Err e) → RefusesLeaves t e
refuses old new ts t e (inl is) = subst (λ (x : Error). RefusesLeaves t x) (sym is) tt
refuses old new ts t e (inr is) = refused t e (blames-type t e is)
